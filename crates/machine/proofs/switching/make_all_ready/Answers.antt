use Rattle.std.proofs.Common.{take_all, ◌∙◌, ap, None}
use Rattle.sched.specs.StandsFor.{StandsFor}
use Rattle.objects.specs.Objects as objects
use Rattle.groups.specs.StandsFor as groups
use Rattle.objects.specs.Objects.{Objects}
use Rattle.machine.proofs.Waking.{depth_woken, next_free, more_free, ready_more}
use Rattle.machine.proofs.switching.make_all_ready.Goals as goal

pub wake-requires : goal.wake-requires
wake-requires c =
    record {
      free =
          next_free c.loop-task.sched c.args.tasks.now c.loop-task.task-index c.task-item.result
          c.loop-task-test.true c.task-item.is c.loop-task.invariant.free;
    }

pub loop-task-preserved : goal.loop-task-preserved
loop-task-preserved c = record {
  ready = λ s h a.
      ready_more (StandsFor c.wake.new.self) s c.args.tasks.now c.loop-task.task-index c.task-item.result
      c.loop-task-test.true c.task-item.is a (λ l u. c.wake.ensures.stands _ (c.loop-task.invariant.ready s h a) l u);
  left = λ s h a.
      ready_more (objects.StandsFor c.drop_waiter.new.self None) s c.args.tasks.now c.loop-task.task-index
      c.task-item.result c.loop-task-test.true c.task-item.is a
      (λ l u. c.drop_waiter.ensures.stands _ (c.loop-task.invariant.left s h a) c.loop-task.invariant.unlocked l);
  gone = λ s h a.
      ready_more (groups.StandsFor c.drop_waiter-in-loop-task.new.self) s c.args.tasks.now
      c.loop-task.task-index c.task-item.result c.loop-task-test.true c.task-item.is a
      (λ l u. c.drop_waiter-in-loop-task.ensures.readied _ (c.loop-task.invariant.gone s h a) l);
  free =
      more_free c.loop-task.sched c.args.tasks.now c.loop-task.task-index c.task-item.result c.loop-task-test.true
      c.task-item.is c.loop-task.invariant.free c.wake.new.self c.wake.ensures.schedule;
  unlocked = ap (λ (q : Objects). q.lock) c.drop_waiter.ensures.gone ∙ c.loop-task.invariant.unlocked;
  depth = depth_woken c.loop-task.sched c.wake.new.self c.task-item.result c.wake.ensures.schedule ∙ c.loop-task.invariant.depth;
  number = ap (λ (q : Objects). q.number) c.drop_waiter.ensures.gone ∙ c.loop-task.invariant.number;
  objects = ap (λ (q : Objects). q.objects) c.drop_waiter.ensures.gone ∙ c.loop-task.invariant.objects;
}

pub returns-clause-ready : goal.returns-clause-ready
returns-clause-ready c = λ s h a. rw (take_all _ _ c.loop-task-test.false) at (c.loop-task.invariant.ready s h a)

pub returns-clause-left : goal.returns-clause-left
returns-clause-left c = λ s h a. rw (take_all _ _ c.loop-task-test.false) at (c.loop-task.invariant.left s h a)

pub returns-clause-gone : goal.returns-clause-gone
returns-clause-gone c = λ s h a. rw (take_all _ _ c.loop-task-test.false) at (c.loop-task.invariant.gone s h a)

pub returns-clause-depth : goal.returns-clause-depth
returns-clause-depth c = c.loop-task.invariant.depth

pub returns-clause-number : goal.returns-clause-number
returns-clause-number c = c.loop-task.invariant.number

pub returns-clause-objects : goal.returns-clause-objects
returns-clause-objects c = c.loop-task.invariant.objects
