use Rattle.std.proofs.Common.{◌≡◌, false, sym, ◌∙◌}
use Rattle.kernel.proofs.Handling.{groups_stand}
use Rattle.kernel.proofs.Left.{bits_on, ended_if_in_none, on_if_asleep, on_if_ready, on_if_waiting}
use Rattle.kernel.proofs.suspended.is_ended.Goals as goal

pub returns-then-is_ready : goal.returns-then-is_ready
returns-then-is_ready c = λ s h.
    sym (on_if_ready c.args.machine.now s c.args.task h (sym c.is_ready.ensures.ready ∙ c.if-is_ready.true))

pub returns-then-is_asleep : goal.returns-then-is_asleep
returns-then-is_asleep c = λ s h.
    sym (on_if_asleep c.args.machine.now s c.args.task h (sym c.is_asleep.ensures.asleep ∙ c.if-is_asleep.true))

pub returns-then-is_waiting : goal.returns-then-is_waiting
returns-then-is_waiting c = λ s h.
    sym (on_if_waiting c.args.machine.now s c.args.task c.is_waiting.result h
    c.is_waiting.ensures.stands c.is_waiting.ensures.placing c.if-is_waiting.true)

pub returns-then-is_waiting-2 : goal.returns-then-is_waiting-2
returns-then-is_waiting-2 c = λ s h.
    sym (bits_on _ (sym (c.is_waiting-2.ensures.stands s (groups_stand c.args.machine.now s h)) ∙ c.if-is_waiting-2.true))

pub returns : goal.returns
returns c = λ s h.
    let none : c.is_waiting-2.result ≡ false = c.if-is_waiting-2.false in
    let seen =
    ended_if_in_none c.args.machine.now s c.args.task c.is_waiting.result h c.is_waiting.ensures.stands c.is_waiting.ensures.placing
    (sym c.is_ready.ensures.ready ∙ c.if-is_ready.false) (sym c.is_asleep.ensures.asleep ∙ c.if-is_asleep.false)
    c.if-is_waiting.false (sym (c.is_waiting-2.ensures.stands s (groups_stand c.args.machine.now s h)) ∙ none) in
    rw c.is_suspended.ensures.suspended seen
