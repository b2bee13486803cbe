use Rattle.std.proofs.Common.{◌≡◌, false, ◌++◌, drop}
use Rattle.std.specs.List.{flat_map}
use Rattle.byte_io.specs.Bytes.{Sent}
use Rattle.byte_io.specs.Line.{piece_text, spaced_text}
use Rattle.byte_io.proofs.line.add_others.Given as goal

abbrev pub invariant-loop-piece : goal.invariant-loop-piece
invariant-loop-piece g l = record {
  sent : Sent (g.W.Sink.held l.fn.writer) (g.W.Sink.held l.writer)
      (l.fn.page ++ flat_map (λ p. spaced_text (piece_text p)) l.others)
      (l.page ++ flat_map (λ p. spaced_text (piece_text p)) (drop l.piece-index l.others));
  working : g.W.Sink.has_failed l.writer ≡ false;
}
