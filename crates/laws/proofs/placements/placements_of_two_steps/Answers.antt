use Rattle.std.proofs.Common.{◌≡◌, ℕ, [], ◌∷◌, length, refl}
use Rattle.model.specs.Switching.{choose, dispatch, preempt, settle}
use Rattle.model.specs.Handlers.{come, handle, inject, serve, serve_pending}
use Rattle.model.specs.Ops.{go_to}
use Rattle.model.specs.Step.{before_step, judge, nobody_ready, ready_at_reset, reset, step}
use Rattle.model.specs.Placements.{begun, ended}
use Rattle.model.proofs.Placements.{all_ended}
use Rattle.laws.specs.Examples.{wide}
use Rattle.laws.specs.PlacementExamples.{HasPlacements, two_steps}
use Rattle.laws.proofs.placements.placements_of_two_steps.Goals as goal

had : (most number : ℕ) → begun two_steps wide (0 ∷ []) most 3 ≡ []
    → length (ended two_steps wide (0 ∷ []) most 3) ≡ number → HasPlacements two_steps (0 ∷ []) most number
had most number none long = record {
  all = ended two_steps wide (0 ∷ []) most 3;
  are_all = all_ended two_steps wide (0 ∷ []) most (tt, tt) 3 none;
  number_is = long;
}

pub returns : goal.returns
unfolding choose dispatch preempt settle come handle inject serve serve_pending go_to before_step judge nobody_ready ready_at_reset
    reset step
returns c = record { none = had 0 1 refl refl; one = had 1 3 refl refl; two = had 2 6 refl refl; three = had 3 10 refl refl }
