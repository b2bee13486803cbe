use Rattle.std.proofs.Common.{◌≡◌, ◌++◌}
use Rattle.campaign.specs.Working.{lanes_in, parts_in, seats_in}
use Rattle.campaign.proofs.worker_results.take_apart.Given as goal

abbrev pub invariant-loop-done : goal.invariant-loop-done
invariant-loop-done l = record {
  whole : l.yielded ++ l.done-iterator.rest.items ≡ l.fn.dones.items;
  lanes : l.apart.lanes.items ≡ lanes_in l.yielded;
  seats : l.apart.seats.items ≡ seats_in l.yielded;
  parts : l.apart.parts.items ≡ parts_in l.yielded;
}
