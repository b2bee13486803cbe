use Rattle.std.proofs.Common.{◌≡◌, ℕ, zero, suc, List, [], ◌∷◌, map, get_or, refl, ap, ◌∙◌}
use Rattle.model.specs.Application.{Application, Definition}
use Rattle.model.specs.State.{Progress, no_task, progress_at}
use Rattle.model.specs.Step.{nobody_ready, ready_at_reset, reset, task_at_reset, with_ops}
use Rattle.machine.proofs.Waking.{progress-all_ready}
use Rattle.unit_tests.proofs.of_machine.at_reset.Goals as goal

none_open : (start i : ℕ) (ds : List Definition) → (get_or (map (task_at_reset start) ds) i no_task).progress.loops ≡ []
none_open start i [] = refl
none_open start zero (d ∷ ds) = refl
none_open start (suc i) (d ∷ ds) = none_open start i ds

-- no loop is open at reset
none_at_reset : (app : Application) (task : ℕ) → (progress_at (reset app) task).loops ≡ []
unfolding reset ready_at_reset nobody_ready
none_at_reset app task =
    ap (λ (p : Progress). p.loops) (progress-all_ready (with_ops 0 app.tasks) (nobody_ready app) task)
    ∙ none_open app.start task app.tasks

pub returns : goal.returns
returns c = λ task. ap (λ (p : Progress). p.loops) (c.boot.ensures.stands.rest.progress task) ∙ none_at_reset c.args.app.now task
