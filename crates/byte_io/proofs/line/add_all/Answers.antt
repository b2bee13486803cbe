use Rattle.std.proofs.Common.{◌++◌}
use Rattle.std.proofs.lemmas.List.Folds.{flat_map-map}
use Rattle.std.specs.List.{flat_map}
use Rattle.byte_io.specs.Line.{piece_text, spaced_text}
use Rattle.byte_io.proofs.Sending.{SentFront_one, SentFront_two, Sent_two, Adds_stopped, Adds_two}
use Rattle.byte_io.proofs.line.add_all.Goals as goal

pub returns-in_err-add_piece-clause-text : goal.returns-in_err-add_piece-clause-text
returns-in_err-add_piece-clause-text g c =
    let others = flat_map (λ p. spaced_text (piece_text p)) c.args.others.now in
    rw (flat_map-map spaced_text piece_text c.args.others.now)
    (Adds_stopped _ _ c.args.page.now (piece_text c.args.first ++ others) _ _ _ c.from_residual.ensures.0
    (SentFront_one _ _ c.args.page.now (piece_text c.args.first) others c.in_err-add_piece.ensures.text))

pub returns-in_err-add_others-clause-text : goal.returns-in_err-add_others-clause-text
returns-in_err-add_others-clause-text g c =
    let others = flat_map (λ p. spaced_text (piece_text p)) c.args.others.now in
    rw (flat_map-map spaced_text piece_text c.args.others.now)
    (Adds_stopped _ _ c.args.page.now (piece_text c.args.first ++ others) _ _ _ c.from_residual-in_err-add_others.ensures.0
    (SentFront_two _ _ _ c.args.page.now (piece_text c.args.first) _ others
    c.in_ok-add_piece.ensures.text c.in_err-add_others.ensures.text))

pub returns-clause-text : goal.returns-clause-text
returns-clause-text g c =
    let others = flat_map (λ p. spaced_text (piece_text p)) c.args.others.now in
    rw (flat_map-map spaced_text piece_text c.args.others.now)
    (Adds_two _ _ _ c.args.page.now (piece_text c.args.first ++ others) _ _ _ _
    (Sent_two _ _ _ c.args.page.now (piece_text c.args.first) _ others _
    c.in_ok-add_piece.ensures.text c.in_ok-add_others.ensures.text)
    c.add_text.ensures.text)
