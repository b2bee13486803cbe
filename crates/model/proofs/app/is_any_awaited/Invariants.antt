use Rattle.std.proofs.Common.{◌≡◌, drop}
use Rattle.std.specs.Prelude.{not}
use Rattle.std.specs.List.{list_any}
use Rattle.model.specs.Application.{Definition}
use Rattle.model.proofs.app.is_any_awaited.Given as goal

abbrev pub invariant-loop-task : goal.invariant-loop-task
invariant-loop-task l =
    list_any (λ (d : Definition). not d.endless) l.fn.tasks
    ≡ list_any (λ (d : Definition). not d.endless) (drop l.task-index l.fn.tasks)
