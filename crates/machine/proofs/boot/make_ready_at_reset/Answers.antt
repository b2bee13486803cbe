use Rattle.std.proofs.Common.{ap, sym, ◌∙◌}
use Rattle.sched.specs.Schedule.{Schedule}
use Rattle.machine.proofs.Booting.{ready_skipped, empty_of, ready_one_more, none_more, none_less}
use Rattle.machine.proofs.boot.make_ready_at_reset.Goals.{then-not-is_empty, else-not-is_empty}
use Rattle.machine.proofs.boot.make_ready_at_reset.Goals as goal

pub loop-index-preserved : goal.loop-index-preserved
loop-index-preserved c = elim c.if-not-is_empty.branch [
  | then-not-is_empty w ↦ rw w.sched-is (record {
    calm = ap (λ (v : Schedule). v.depth) w.make_ready.ensures.schedule ∙ c.loop-index.invariant.calm;
    none =
        none_more c.loop-index.sched w.make_ready.new.self c.loop-index.index
        w.make_ready.ensures.schedule c.loop-index.invariant.none;
    ready = λ s h n a.
        ready_one_more s c.args.tasks.now c.loop-index.index c.index-tasks-index.result c.loop-index-test.true
        c.index-tasks-index.is w.make_ready.new.self (empty_of c.ops.ensures (sym w.if-not-is_empty.ensures))
        n a (λ l u. w.make_ready.ensures.stands _ (c.loop-index.invariant.ready s h n a) l u);
  })
  | else-not-is_empty w ↦ rw w.sched-is (record {
    calm = c.loop-index.invariant.calm;
    none = none_less c.loop-index.sched c.loop-index.index c.loop-index.invariant.none;
    ready = λ s h n a.
        ready_skipped s c.args.tasks.now c.loop-index.index c.index-tasks-index.result c.loop-index-test.true c.index-tasks-index.is
        c.loop-index.sched (empty_of c.ops.ensures (sym w.if-not-is_empty.ensures)) (c.loop-index.invariant.ready s h n a);
  })
]
