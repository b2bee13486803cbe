use Rattle.std.proofs.Common.{◌≡◌, ◌-◌, replicate}
use Rattle.deal.specs.Parts.{IsSeatOf, part, zeros}
use Rattle.deal.specs.Tallies.{fresh_seat, sheet}
use Rattle.deal.proofs.tally.make_seats.Given as goal

abbrev pub invariant-loop : goal.invariant-loop
invariant-loop l =
    IsSeatOf l.words.shared.table_id l.rest × (l.rest.me.0 ≡ part l.seats (l.seats - l.counter) zeros zeros)
    × (l.list.items ≡ replicate l.counter (fresh_seat (sheet l.words.shared.table_id l.seats)))
