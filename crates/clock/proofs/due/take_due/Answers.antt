use Rattle.clock.proofs.Taking.{head_of, takes_one, shorter}
use Rattle.clock.proofs.due.take_due.Goals as goal

pub loop-task-smaller : goal.loop-task-smaller
loop-task-smaller c =
    let f = head_of c.args.list.number c.args.tick c.in-Some.task c.loop-task.lists c.in-Some.ensures.due in
    rw c.remove.ensures.removed
    (shorter c.args.list.number c.args.tick c.in-Some.task c.loop-task.lists c.first_due.ensures.sound f)

pub loop-task-preserved : goal.loop-task-preserved
loop-task-preserved c =
    let f = head_of c.args.list.number c.args.tick c.in-Some.task c.loop-task.lists c.in-Some.ensures.due in
    rw (c.remove.ensures.removed, c.push.ensures.items)
    (takes_one c.args.lists.now c.loop-task.lists c.args.list.number c.args.tick
    c.in-Some.task _ c.first_due.ensures.sound c.loop-task.invariant f)
