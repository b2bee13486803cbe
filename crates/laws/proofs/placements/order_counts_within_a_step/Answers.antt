use Rattle.std.proofs.Common.{[], ◌∷◌, refl}
use Rattle.model.specs.Switching.{choose, dispatch, preempt, settle}
use Rattle.model.specs.Handlers.{come, handle, inject, serve, serve_pending}
use Rattle.model.specs.Ops.{go_to}
use Rattle.model.specs.Step.{before_step, judge, nobody_ready, ready_at_reset, reset, step}
use Rattle.model.specs.Placements.{ended}
use Rattle.model.proofs.Placements.{all_ended}
use Rattle.laws.specs.Examples.{wide}
use Rattle.laws.specs.PlacementExamples.{one_step}
use Rattle.laws.proofs.placements.order_counts_within_a_step.Goals as goal

pub returns : goal.returns
unfolding choose dispatch preempt settle come handle inject serve serve_pending go_to before_step judge nobody_ready ready_at_reset
    reset step
returns c = record {
  all = ended one_step wide (0 ∷ 1 ∷ []) 2 2;
  are_all = all_ended one_step wide (0 ∷ 1 ∷ []) 2 (((λ e. cc), tt), (tt, tt)) 2 refl;
  handlers_are = refl;
}
