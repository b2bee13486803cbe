use Rattle.std.specs.Prelude.{vec_len}
use Rattle.std.proofs.Common.{◌≡◌, ◌∙◌, ap, rules, subst, sum, List, ℕ}
use Rattle.campaign.specs.Made.{IsBrought}
use Rattle.campaign.specs.Setup.{work_of}
use Rattle.campaign.proofs.all_rows.bring_all.Goals as goal

pub work_off-requires-clause-lanes : goal.work_off-requires-clause-lanes
work_off-requires-clause-lanes g c κs within =
    (c.in-Ok.deal, c.in-Ok.ensures.lanes, ap sum c.in-Ok.ensures.deal.1 ∙ c.requires.division)

pub returns-clause-brought : goal.returns-clause-brought
returns-clause-brought g c =
    let deal = c.in-Ok.deal in
    let setup = c.args.setup.now in
    let many : c.len.result ≡ vec_len c.args.seats = search rules in
    subst (λ (lens : List ℕ).
    IsBrought (work_of setup lens) deal setup.tally.now c.args.seats.items
    c.in_ok-apart.apart.lanes.items c.in_ok-apart.apart.seats.items c.in_ok-apart.apart.parts.items)
    c.in-Ok.ensures.deal.1 (c.in_ok-apart.ensures deal c.in-Ok.ensures.lanes (c.in-Ok.ensures.deal.0 ∙ many))
