use Rattle.std.proofs.Common.{◌≡◌, ◌<◌, ◌≤◌, ℕ, length, slice_index}
use Rattle.deal.specs.Parts.{IsSeatOf}
use Rattle.deal.proofs.tally.see_all.Given as goal

abbrev pub invariant-loop-kind : goal.invariant-loop-kind
invariant-loop-kind l =
    let now = l.seat.me.0 in
    let was = l.fn.seat.me.0 in
    IsSeatOf l.words.shared.table_id l.seat × (length l.kinds ≡ 7)
    × (now.added ≡ was.added) × (now.parts ≡ was.parts) × (now.seats ≡ was.seats)
    × ((k : ℕ) → k < l.kind → (slice_index was.seen k ≤ slice_index l.kinds k) × (slice_index now.seen k ≡ slice_index l.kinds k))
    × ((k : ℕ) → l.kind ≤ k → slice_index now.seen k ≡ slice_index was.seen k)
    × (0 < was.parts → was.seats ≤ was.parts → (k : ℕ) → k < l.kind → slice_index l.kinds k ≡ slice_index was.added k)
