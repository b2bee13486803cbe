use Rattle.std.proofs.Common.{◌≡◌, ◌<◌, ℕ, length, slice_index}
use Rattle.deal.specs.Tallies.{added_in}
use Rattle.campaign.proofs.tallying.AddedBefore.of.Given as goal

abbrev pub invariant-loop-kind : goal.invariant-loop-kind
invariant-loop-kind l = record {
  done : (k : ℕ) → k < l.kind → slice_index l.kinds k ≡ added_in k l.seats;
  all : length l.kinds ≡ 7;
}
