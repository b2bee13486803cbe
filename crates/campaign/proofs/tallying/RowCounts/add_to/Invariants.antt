use Rattle.std.proofs.Common.{◌≡◌, ◌<◌, ◌+◌, ℕ, slice_index}
use Rattle.std.specs.Prelude.{nat_lt, if◌then◌else◌}
use Rattle.campaign.proofs.tallying.RowCounts.add_to.Given as goal

abbrev pub invariant-loop-kind : goal.invariant-loop-kind
invariant-loop-kind l = record {
  same : l.seat.sheet ≡ l.fn.seat.sheet;
  rises : (k : ℕ) → k < 7 → slice_index l.seat.added k
      ≡ slice_index l.fn.seat.added k + (if nat_lt k l.kind then slice_index l.self.kinds k else 0);
}
