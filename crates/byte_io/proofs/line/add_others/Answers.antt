use Rattle.std.proofs.Common.{refl, ℕ, List}
use Rattle.std.specs.List.{flat_map}
use Rattle.byte_io.specs.declared.line.Piece.{Piece}
use Rattle.byte_io.specs.Line.{piece_text, spaced_text}
use Rattle.byte_io.proofs.Sending.{Sent_item, SentFront_item, Adds_failed}
use Rattle.byte_io.proofs.line.add_others.Goals as goal

pub returns-in_err-add_spaced-clause-text : goal.returns-in_err-add_spaced-clause-text
returns-in_err-add_spaced-clause-text g c =
    let spaced : Piece → List ℕ = λ p. spaced_text (piece_text p) in
    Adds_failed _ _ c.args.page.now _ (flat_map spaced c.args.others.now) _ c.from_residual.ensures.0
    (SentFront_item spaced c.args.others.now c.loop-piece.piece-index _ _ _ _ _ _ c.loop-piece.page
    c.loop-piece-test.true refl c.loop-piece.invariant.sent c.in_err-add_spaced.ensures.text)

pub loop-piece-preserved : goal.loop-piece-preserved
loop-piece-preserved g c =
    let spaced : Piece → List ℕ = λ p. spaced_text (piece_text p) in
    record {
      sent = Sent_item spaced c.args.others.now c.loop-piece.piece-index _ _ _ _ _ _ c.loop-piece.page _
          c.loop-piece-test.true refl c.loop-piece.invariant.sent c.in_ok-add_spaced.ensures.text;
      working = c.in_ok-add_spaced.ensures.failed;
    }
