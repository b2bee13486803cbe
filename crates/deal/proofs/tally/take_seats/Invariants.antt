use Rattle.std.proofs.Common.{◌≡◌, ◌+◌, ℕ, List, length, slice_index, vec_len}
use Rattle.deal.specs.Parts.{IsSeatOf}
use Rattle.deal.specs.Tallies.{AreEachOf, AtMost, NoneSawMore, added_in, sheet}
use Rattle.deal.proofs.tally.take_seats.Given as goal

abbrev pub invariant-loop-seat : goal.invariant-loop-seat
invariant-loop-seat l =
    IsSeatOf l.words.shared.table_id l.rest × (l.rest.me.0.seats ≡ l.fn.rest.me.0.seats)
    × AreEachOf (sheet l.words.shared.table_id l.fn.rest.me.0.seats) l.seats.items
    × (l.rest.me.0.parts + length l.seats.items ≡ length l.fn.seats.items)
    × ((k : ℕ) → slice_index l.rest.me.0.added k + added_in k l.seats.items ≡ added_in k l.fn.seats.items)
    × ((counts : List ℕ) → AtMost l.rest.me.0.seen counts → NoneSawMore counts l.seats.items → NoneSawMore counts l.fn.seats.items)

abbrev pub decreases-loop-seat : goal.decreases-loop-seat
decreases-loop-seat l = vec_len l.seats
