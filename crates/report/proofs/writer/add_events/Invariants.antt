use Rattle.std.proofs.Common.{◌≡◌, false, ◌++◌, length}
use Rattle.std.specs.List.{flat_map}
use Rattle.byte_io.specs.Bytes.{Sent}
use Rattle.report.specs.Text.{event_text}
use Rattle.report.proofs.writer.add_events.Given as goal

abbrev pub invariant-loop-rest : goal.invariant-loop-rest
invariant-loop-rest g l = record {
  app : l.lines ≡ l.fn.lines;
  sent : Sent (g.W.Sink.held l.fn.writer) (g.W.Sink.held l.writer)
      (l.fn.page ++ flat_map (event_text l.fn.lines) l.events) (l.page ++ flat_map (event_text l.fn.lines) l.rest);
  working : g.W.Sink.has_failed l.writer ≡ false;
}

abbrev pub decreases-loop-rest : goal.decreases-loop-rest
decreases-loop-rest g l = length l.rest
