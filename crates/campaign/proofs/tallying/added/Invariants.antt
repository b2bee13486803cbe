use Rattle.std.proofs.Common.{◌≡◌, ◌≤◌, ◌*◌, ◌^◌, take}
use Rattle.deal.specs.Tallies.{added_in}
use Rattle.campaign.proofs.tallying.added.Given as goal

abbrev pub invariant-loop-seat : goal.invariant-loop-seat
invariant-loop-seat l = record {
  sum : l.sum ≡ added_in l.kind (take l.seat-index l.seats);
  small : l.sum ≤ l.seat-index * 2 ^ 40;
}
