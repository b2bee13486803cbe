use Rattle.std.proofs.Common.{◌≡◌, ◌++◌, take, drop, false}
use Rattle.byte_io.specs.Bytes.{Sent}
use Rattle.report.specs.Views.{shown_rows}
use Rattle.rows.specs.Report.{rows_of, store_of}
use Rattle.rows.proofs.rendering.writing.add_place.Given as goal

abbrev pub invariant-loop-index : goal.invariant-loop-index
invariant-loop-index g l = record {
  app : l.text.app ≡ l.fn.text.app;
  sent : Sent (g.W.Sink.held l.fn.writer) (g.W.Sink.held l.writer)
      (l.fn.text.page
      ++ shown_rows l.fn.text.app l.rows.view l.number
      (rows_of l.rows.base (store_of l.part) (take l.index (take l.place.count (drop l.place.first l.part.kept)))))
      l.text.page;
  working : g.W.Sink.has_failed l.writer ≡ false;
}
