use Rattle.std.proofs.Common.{◌∙◌, ap, refl, sym}
use Rattle.std.proofs.lemmas.Result.{IfOk-weaker}
use Rattle.deal.specs.Tallies.{added_in}
use Rattle.campaign.specs.Made.{IsWhole}
use Rattle.campaign.specs.Setup.{work_of}
use Rattle.campaign.proofs.all_rows.make_rows.Goals as goal

pub returns : goal.returns
returns g c =
    let setup = c.args.setup.now in
    let work = work_of setup c.args.division in
    let whole : IsWhole work work.base c.in_ok-brought.field-0.deal =
    record {
      same_base = refl;
      same_lengths = sym c.in_ok-brought.ensures.deal;
      whole = c.requires.division;
      few = c.requires.few;
    } in
    IfOk-weaker c.gather_rows.result _ _
    (λ made is. is work work.base setup.tally.now c.args.seats.items whole refl
    (λ kind l. c.of-before.ensures kind l ∙ ap (added_in kind) c.deref.ensures.value) c.in_ok-brought.ensures.brought)
    c.gather_rows.ensures
