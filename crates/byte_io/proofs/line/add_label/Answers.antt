use Rattle.std.proofs.Common.{[], ◌∷◌}
use Rattle.byte_io.specs.Shown.{shown_name}
use Rattle.byte_io.proofs.Sending.{Adds_stopped, Adds_two}
use Rattle.byte_io.proofs.line.add_label.Goals as goal

pub returns-in_err-add_shown-clause-text : goal.returns-in_err-add_shown-clause-text
returns-in_err-add_shown-clause-text g c =
    Adds_stopped _ _ _ (shown_name c.args.name.now) (58 ∷ []) _ _ c.from_residual.ensures.0 c.in_err-add_shown.ensures.text

pub returns-clause-text : goal.returns-clause-text
returns-clause-text g c =
    Adds_two _ _ _ _ (shown_name c.args.name.now) _ (58 ∷ []) _ _ c.in_ok-add_shown.ensures.text c.add_text.ensures.text
