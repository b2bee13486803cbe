use Rattle.std.proofs.Common.{◌≡◌, true, false, sym, ◌∙◌}
use Rattle.model.specs.State.{status_at}
use Rattle.sched.proofs.Standing.{ready_same}
use Rattle.machine.proofs.Parts.{asleep_is}
use Rattle.ops.proofs.Suspending.{ready_can, asleep_can, waiting_can, rest_can}
use Rattle.ops.proofs.suspension.can_suspend.Goals.{then-is_ready, else-is_ready, then-is_asleep, else-is_asleep}
use Rattle.ops.proofs.suspension.can_suspend.Goals as goal

pub returns-then-is_waiting : goal.returns-then-is_waiting
returns-then-is_waiting c = λ s h. c.if-is_waiting.true ∙ sym (elim c.if-is_asleep.branch [
  | then-is_asleep w ↦ elim c.if-is_ready.branch [
    | then-is_ready v ↦
        ready_can (status_at s c.args.task)
        (sym (c.is_ready.ensures.ready ∙ ready_same c.args.machine.now.sched s c.args.task h.sched) ∙ v.if-is_ready.true)
    | else-is_ready v ↦
        asleep_can (status_at s c.args.task) (sym (asleep_is c.args.machine.now.clock s h.rest.clock c.args.task)
        ∙ sym v.is_asleep.ensures.asleep ∙ sym v.value-is ∙ w.if-is_asleep.true)
  ]
  | else-is_asleep w ↦
      waiting_can (status_at s c.args.task)
      (sym (w.is_waiting.ensures.stands s h.rest.objects) ∙ sym w.value-is ∙ c.if-is_waiting.true)
])

pub returns-else-is_waiting : goal.returns-else-is_waiting
returns-else-is_waiting c = λ s h. c.is_waiting-else-is_waiting.ensures.stands s h.rest.groups ∙ elim c.if-is_asleep.branch [
  | then-is_asleep w ↦ absurd (let e : true ≡ false = sym w.if-is_asleep.true ∙ sym w.value-is ∙ c.if-is_waiting.false in cc)
  | else-is_asleep w ↦ elim c.if-is_ready.branch [
    | then-is_ready v ↦ absurd (let e : true ≡ false = sym v.if-is_ready.true ∙ sym v.value-is ∙ w.if-is_asleep.false in cc)
    | else-is_ready v ↦
        rest_can (status_at s c.args.task)
        (sym (c.is_ready.ensures.ready ∙ ready_same c.args.machine.now.sched s c.args.task h.sched) ∙ v.if-is_ready.false)
        (sym (asleep_is c.args.machine.now.clock s h.rest.clock c.args.task)
        ∙ sym v.is_asleep.ensures.asleep ∙ sym v.value-is ∙ w.if-is_asleep.false)
        (sym (w.is_waiting.ensures.stands s h.rest.objects) ∙ sym w.value-is ∙ c.if-is_waiting.false)
  ]
]
