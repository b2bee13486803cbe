use Rattle.std.proofs.Common.{◌+◌, ap, ◌∙◌}
use Rattle.model.specs.Ops.{with_sections}
use Rattle.sched.specs.Schedule.{Schedule, is_ready}
use Rattle.ops.proofs.Held.{with_open}
use Rattle.ops.proofs.critical.enter_critical.Goals as goal

pub complete-requires : goal.complete-requires
complete-requires c =
    let is = c.suspend_all.ensures.schedule in
    let runs = c.requires.runs in
    record {
      current = ap (λ (v : Schedule). v.current) is ∙ runs.current;
      ready = ap (λ (v : Schedule). is_ready v c.args.task) is ∙ runs.ready;
      op_index = runs.op_index;
    }

pub returns : goal.returns
unfolding with_sections
returns c = λ log s h.
    c.complete.ensures.does log _ (with_open c.args.machine.now log s h c.suspend_all.new.self _ _
    (c.suspend_all.ensures.section s h.stands.sched) (ap (λ n. n + 1) h.stands.rest.sections))
