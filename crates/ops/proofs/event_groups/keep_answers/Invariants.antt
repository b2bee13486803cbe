use Rattle.std.proofs.Common.{◌≡◌, take}
use Rattle.machine.specs.Keeping.{kept_by}
use Rattle.ops.proofs.event_groups.keep_answers.Given as goal

abbrev pub invariant-loop-task : goal.invariant-loop-task
invariant-loop-task l =
    l.machine ≡ record l.fn.machine { progress = kept_by l.bits (take l.task-index l.tasks) l.fn.machine.progress }
