use Rattle.std.proofs.Common.{List, sym, subst}
use Rattle.deal.specs.Tallies.{Sheet, Tallied, AreSeatsOf, sheet}
use Rattle.deal.proofs.TallyMoves.{fresh_seats_are}
use Rattle.deal.proofs.tally.Tally.make.Goals as goal

pub returns-clause-of : goal.returns-clause-of
returns-clause-of c =
    let s : Sheet = sheet c.in_ok-words.words.shared.table_id c.args.seats in
    subst (λ (l : List Tallied). AreSeatsOf s l) (sym c.in_ok-list.ensures.seats) (fresh_seats_are s c.args.seats)
