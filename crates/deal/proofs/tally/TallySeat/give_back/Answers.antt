use Rattle.std.proofs.Common.{◌≡◌, ◌∙◌, ap, arith, slice_index}
use Rattle.deal.specs.declared.part.Part.{Part}
use Rattle.deal.specs.Tallies.{Sheet, Tallied}
use Rattle.deal.proofs.Places.{sums_at, greater_at}
use Rattle.deal.proofs.tally.TallySeat.give_back.Goals as goal

pub returns-clause-taken : goal.returns-clause-taken
returns-clause-taken c =
    let v = c.args.rest.now.me.0 in
    let w = c.self.inside.seat.me.0 in
    let is = c.merge.ensures.1 in
    let view = c.self.view_is in
    let same : w.seats ≡ v.seats = ap (λ (t : Tallied). t.sheet.seats) view ∙ ap (λ (s : Sheet). s.seats) c.requires.0 in (
      omega (arith, ap (λ (p : Part). p.seats) is, same),
      omega (arith, ap (λ (p : Part). p.parts) is, c.self.invariant.1),
      (λ k.
          omega (
            arith,
            ap (λ (p : Part). slice_index p.added k) is,
            sums_at v.added w.added k,
            ap (λ (t : Tallied). slice_index t.added k) view,
          )),
      λ k. (
        omega (arith, ap (λ (p : Part). slice_index p.seen k) is, greater_at v.seen w.seen k),
        omega (
          arith,
          ap (λ (p : Part). slice_index p.seen k) is,
          greater_at v.seen w.seen k,
          ap (λ (t : Tallied). slice_index t.seen k) view,
        ),
      ),
    )
