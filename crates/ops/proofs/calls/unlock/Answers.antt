use Rattle.std.proofs.Common.{[], sym, ◌∙◌}
use Rattle.model.specs.declared.call.Phase.TheVariants.{Leave}
use Rattle.model.specs.Waiting.{unlock}
use Rattle.machine.specs.StandsFor.{At}
use Rattle.machine.proofs.Continuing.{gone_on}
use Rattle.ops.proofs.Unlocking.{sched_opened, clock_opened, unlocked_at, current-unlock}
use Rattle.ops.proofs.calls.unlock.Goals.{then-not-unlock_if_none_woken, else-not-unlock_if_none_woken}
use Rattle.ops.proofs.calls.unlock.Goals as goal

pub returns-clause-does : goal.returns-clause-does
returns-clause-does c = λ log s h.
    let k = c.args.machine.now in
    let there : At c.if-not-unlock_if_none_woken.machine log (unlock s) = elim c.if-not-unlock_if_none_woken.branch [
      | then-not-unlock_if_none_woken w ↦
          let kept = c.unlock_if_none_woken.ensures.kept w.if-not-unlock_if_none_woken.true in
          rw w.machine-is (w.unlock_and_wake.ensures.does log s (rw kept h))
      | else-not-unlock_if_none_woken w ↦
          let none = w.if-not-unlock_if_none_woken.false in
          rw w.machine-is (unlocked_at k log s h [] k.sched k.clock c.unlock_if_none_woken.new.self
          (c.unlock_if_none_woken.ensures.woken s none h.stands.rest.objects) (sched_opened k log s h)
          (clock_opened k log s h) (c.unlock_if_none_woken.ensures.stands s none h.stands.rest.objects))
    ] in
    gone_on c.if-not-unlock_if_none_woken.machine c.set_phase.new.self log (unlock s) there c.args.task
    (there.stands.sched.current ∙ current-unlock s ∙ sym h.stands.sched.current ∙ c.requires.current)
    Leave c.set_phase.ensures (λ e. absurd (cc))
