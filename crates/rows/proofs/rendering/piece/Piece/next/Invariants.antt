use Rattle.std.proofs.Common.{◌≡◌, ◌<◌, ◌≤◌, ◌-◌, length}
use Rattle.rows.specs.Report.{whole}
use Rattle.rows.specs.Pieces.{IsAt}
use Rattle.rows.proofs.rendering.piece.Piece.next.Given as goal

abbrev pub invariant-loop-left : goal.invariant-loop-left
invariant-loop-left l = record {
  at : IsAt l.rows l.cursor;
  low : l.from.number ≤ l.cursor.number;
  some : 0 < l.most;
  more : l.cursor.number ≡ l.from.number → l.left ≡ l.bytes;
}

abbrev pub decreases-loop-left : goal.decreases-loop-left
decreases-loop-left l = length (whole l.rows) - l.cursor.number
