use Rattle.std.proofs.Common.{take_all, ◌∙◌}
use Rattle.std.proofs.lemmas.List.{drop_all}
use Rattle.sched.specs.StandsFor.{StandsFor}
use Rattle.clock.specs.StandsFor as clock
use Rattle.machine.proofs.Waking.{depth_woken, suspensions_woken, next_free, more_free, more_left, ready_more}
use Rattle.machine.proofs.switching.wake_all.Goals as goal

pub wake-requires-in-loop-task : goal.wake-requires-in-loop-task
wake-requires-in-loop-task c =
    record {
      free =
          next_free c.loop-task.sched c.args.tasks.now c.loop-task.task-index c.task-item.result
          c.loop-task-test.true c.task-item.is c.loop-task.invariant.free;
    }

pub loop-task-preserved : goal.loop-task-preserved
loop-task-preserved c = record {
  ready = λ s h a.
      ready_more (StandsFor c.wake-in-loop-task.new.self) s c.args.tasks.now
      c.loop-task.task-index c.task-item.result c.loop-task-test.true c.task-item.is a
      (λ l u. c.wake-in-loop-task.ensures.stands _ (c.loop-task.invariant.ready s h a) l u);
  woken = λ s h a.
      ready_more (clock.StandsFor c.wake.new.self) s c.args.tasks.now c.loop-task.task-index c.task-item.result
      c.loop-task-test.true c.task-item.is a (λ l u. c.wake.ensures.stands _ (c.loop-task.invariant.woken s h a) l);
  free =
      more_free c.loop-task.sched c.args.tasks.now c.loop-task.task-index c.task-item.result c.loop-task-test.true
      c.task-item.is c.loop-task.invariant.free c.wake-in-loop-task.new.self c.wake-in-loop-task.ensures.schedule;
  rest = λ more a.
      more_left c.loop-task.sched c.args.tasks.now c.loop-task.task-index c.task-item.result c.loop-task-test.true c.task-item.is
      more (c.loop-task.invariant.rest more a) c.wake-in-loop-task.new.self c.wake-in-loop-task.ensures.schedule;
  depth =
      depth_woken c.loop-task.sched c.wake-in-loop-task.new.self c.task-item.result c.wake-in-loop-task.ensures.schedule
      ∙ c.loop-task.invariant.depth;
  suspensions =
      suspensions_woken c.loop-task.sched c.wake-in-loop-task.new.self c.task-item.result c.wake-in-loop-task.ensures.schedule
      ∙ c.loop-task.invariant.suspensions;
  current = c.wake-in-loop-task.ensures.current ∙ c.loop-task.invariant.current;
}

pub returns-clause-ready : goal.returns-clause-ready
returns-clause-ready c = λ s h a. rw (take_all _ _ c.loop-task-test.false) at (c.loop-task.invariant.ready s h a)

pub returns-clause-woken : goal.returns-clause-woken
returns-clause-woken c = λ s h a. rw (take_all _ _ c.loop-task-test.false) at (c.loop-task.invariant.woken s h a)

pub returns-clause-rest : goal.returns-clause-rest
returns-clause-rest c = λ more a. rw (drop_all _ _ c.loop-task-test.false) at (c.loop-task.invariant.rest more a)

pub returns-clause-depth : goal.returns-clause-depth
returns-clause-depth c = c.loop-task.invariant.depth

pub returns-clause-suspensions : goal.returns-clause-suspensions
returns-clause-suspensions c = c.loop-task.invariant.suspensions

pub returns-clause-current : goal.returns-clause-current
returns-clause-current c = c.loop-task.invariant.current
