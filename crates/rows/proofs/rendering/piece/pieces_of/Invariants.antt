use Rattle.std.proofs.Common.{◌-◌, length}
use Rattle.rows.specs.Report.{whole}
use Rattle.rows.specs.Pieces.{ArePieces, IsAt}
use Rattle.rows.proofs.rendering.piece.pieces_of.Given as goal

abbrev pub invariant-loop-cursor : goal.invariant-loop-cursor
invariant-loop-cursor l = record {
  at : IsAt l.rows l.cursor;
  pieces : ArePieces l.rows 0 l.cursor.number l.pieces.items;
}

abbrev pub decreases-loop-cursor : goal.decreases-loop-cursor
decreases-loop-cursor l = length (whole l.rows) - l.cursor.number
