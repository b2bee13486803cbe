use Rattle.std.proofs.Common.{◌∙◌, ap}
use Rattle.task_lists.specs.Tasks.{is_among}
use Rattle.sched.proofs.OneList.{placed}
use Rattle.sched.proofs.pending.PendingReadyList.contains.Goals as goal

pub returns : goal.returns
returns c =
    let i = c.args.task in
    record { contains = c.contains.ensures.contains ∙ placed c.self.invariant i ∙ ap (is_among i) c.self.view_is }
