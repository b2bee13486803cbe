use Rattle.std.proofs.Common.{◌≡◌, ◌≤◌, ◌+◌, ◌*◌, ◌++◌, length, take}
use Rattle.std.specs.List.{flat_map}
use Rattle.report.specs.Text.{event_text}
use Rattle.report.proofs.lines.Lines.put_all.Given as goal

abbrev pub invariant-loop-rest : goal.invariant-loop-rest
invariant-loop-rest l = record {
  app : l.self ≡ l.fn.self;
  text : take l.end l.bytes ++ flat_map (event_text l.fn.self) l.rest
      ≡ take l.fn.at l.fn.bytes ++ flat_map (event_text l.fn.self) l.events;
  within : l.end + length l.rest * 128 ≤ l.fn.at + length l.events * 128;
}

abbrev pub decreases-loop-rest : goal.decreases-loop-rest
decreases-loop-rest l = length l.rest
