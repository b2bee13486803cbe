use Rattle.std.proofs.Common.{◌≡◌, sym, ap, ◌∙◌, subst}
use Rattle.deal.specs.Tallies.{Sheet, Tallied, AreEachOf, sheet}
use Rattle.deal.proofs.Members.{each_of_all}
use Rattle.deal.proofs.tally.Tally.close.Goals as goal

pub take_seats-requires-clause-seats : goal.take_seats-requires-clause-seats
take_seats-requires-clause-seats c =
    let z = c.self.inside.words.shared.table_id in
    let is : c.args.self ≡ sheet z c.self.inside.rest.me.0.seats = sym c.self.view_is ∙ ap (sheet z) (sym c.self.invariant.2.0) in
    subst (λ (t : Sheet). AreEachOf t c.args.seats.items) is
    (each_of_all (λ (s : Tallied). s.sheet ≡ c.args.self) c.args.seats.items c.requires)
