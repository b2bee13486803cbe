use Rattle.std.proofs.Common.{◌≡◌, ◌++◌, drop, false}
use Rattle.std.specs.List.{flat_map}
use Rattle.byte_io.specs.Bytes.{Sent}
use Rattle.report.specs.Found.{found_text}
use Rattle.jobs.proofs.exploring.add_all.Given as goal

abbrev pub invariant-loop-one : goal.invariant-loop-one
invariant-loop-one g l = record {
  sent : Sent (g.W.Sink.held l.fn.writer) (g.W.Sink.held l.writer)
      (l.fn.page ++ flat_map (found_text l.app) l.found) (l.page ++ flat_map (found_text l.app) (drop l.one-index l.found));
  working : g.W.Sink.has_failed l.writer ≡ false;
}
