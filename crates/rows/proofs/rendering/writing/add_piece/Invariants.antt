use Rattle.std.proofs.Common.{◌≡◌, ◌≤◌, ◌+◌, ◌-◌, ◌++◌, false}
use Rattle.byte_io.specs.Bytes.{Sent}
use Rattle.report.specs.Views.{shown_rows}
use Rattle.rows.specs.Report.{whole}
use Rattle.rows.specs.Pieces.{some_of, IsAt}
use Rattle.rows.proofs.rendering.writing.add_piece.Given as goal

abbrev pub invariant-loop-cursor : goal.invariant-loop-cursor
invariant-loop-cursor g l = record {
  app : l.text.app ≡ l.fn.text.app;
  at : IsAt l.rows l.cursor;
  low : l.fn.piece.from.number ≤ l.cursor.number;
  high : l.cursor.number ≤ l.fn.piece.from.number + l.fn.piece.count;
  sent : Sent (g.W.Sink.held l.fn.writer) (g.W.Sink.held l.writer)
      (l.fn.text.page
      ++ shown_rows l.fn.text.app l.rows.view (l.rows.first + l.fn.piece.from.number)
      (some_of (whole l.rows) l.fn.piece.from.number (l.cursor.number - l.fn.piece.from.number)))
      l.text.page;
  working : g.W.Sink.has_failed l.writer ≡ false;
}

abbrev pub decreases-loop-cursor : goal.decreases-loop-cursor
decreases-loop-cursor g l = l.fn.piece.from.number + l.fn.piece.count - l.cursor.number
