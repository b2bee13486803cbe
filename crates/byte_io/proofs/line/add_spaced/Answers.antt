use Rattle.std.proofs.Common.{[], ◌∷◌}
use Rattle.byte_io.proofs.Sending.{Adds_stopped, Adds_two}
use Rattle.byte_io.proofs.line.add_spaced.Goals as goal

pub returns-in_err-add_text-clause-text : goal.returns-in_err-add_text-clause-text
returns-in_err-add_text-clause-text g c =
    Adds_stopped _ _ _ (32 ∷ []) _ _ _ c.from_residual.ensures.0 c.in_err-add_text.ensures.text

pub returns-clause-text : goal.returns-clause-text
returns-clause-text g c = Adds_two _ _ _ _ (32 ∷ []) _ _ _ _ c.in_ok-add_text.ensures.text c.add_piece.ensures.text
