use Rattle.std.proofs.Common.{List, ap, sym, subst}
use Rattle.rows.specs.declared.cursor.Cursor.{Cursor}
use Rattle.rows.specs.declared.rendering.piece.Piece.{Piece}
use Rattle.rows.specs.Pieces.{ArePieces}
use Rattle.rows.proofs.Pieces.{piece_more}
use Rattle.rows.proofs.rendering.piece.pieces_of.Goals as goal

pub loop-cursor-preserved : goal.loop-cursor-preserved
loop-cursor-preserved c =
    let rows = c.args.rows.now in
    let e = c.next.ensures in
    let old = c.loop-cursor in
    record {
      at = e.at;
      pieces = subst (λ (ps : List Piece). ArePieces rows 0 c.next.new.cursor.number ps) (sym c.in_ok-push.ensures.items)
          (piece_more rows 0 old.cursor.number c.next.new.cursor.number old.pieces.items c.next.result
          old.invariant.pieces e.piece (ap (λ (cursor : Cursor). cursor.number) e.from) (sym e.number));
    }
