use Rattle.std.proofs.Common.{ℕ, List, ◌∙◌, ap}
use Rattle.lists.specs.Lists.{entries_of}
use Rattle.task_lists.specs.Tasks.{without_task, tasks_in}
use Rattle.sched.proofs.OneList.{tasks_without}
use Rattle.sched.proofs.pending.PendingReadyList.remove.Goals as goal

pub returns : goal.returns
returns c =
    let i = c.args.task in
    record {
      removed =
          ap (λ (ls : List (List (ℕ × ℕ))). tasks_in (entries_of ls 0)) c.remove.ensures.removed
          ∙ tasks_without c.self.invariant i ∙ ap (without_task i) c.self.view_is;
    }
