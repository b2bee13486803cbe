use Rattle.std.proofs.Common.{◌≡◌, true, false, sym, ◌∙◌}
use Rattle.kernel.proofs.Ending.{any_blocked, any_first, any_second, any_third}
use Rattle.kernel.proofs.over.has_waiter.Goals.{then-has_waiter, else-has_waiter}
use Rattle.kernel.proofs.over.has_waiter.Goals as goal

pub returns-then-has_waiter-2 : goal.returns-then-has_waiter-2
returns-then-has_waiter-2 c = λ s waits bits on. c.if-has_waiter-2.true ∙ elim c.if-has_waiter.branch [
  | then-has_waiter w ↦
      any_first _ _ _ _ (any_blocked s.tasks) (sym (c.has_waiter.ensures.stands s waits) ∙ w.if-has_waiter.true)
  | else-has_waiter w ↦
      any_second _ _ _ _ (any_blocked s.tasks) (sym (c.has_waiter.ensures.stands s waits) ∙ w.if-has_waiter.false)
      (sym (w.has_waiter-else-has_waiter.ensures.stands s bits) ∙ sym w.value-is ∙ c.if-has_waiter-2.true)
]

pub returns-else-has_waiter-2 : goal.returns-else-has_waiter-2
returns-else-has_waiter-2 c = λ s waits bits on. elim c.if-has_waiter.branch [
  | then-has_waiter w ↦ absurd (let e : true ≡ false = sym w.if-has_waiter.true ∙ sym w.value-is ∙ c.if-has_waiter-2.false in cc)
  | else-has_waiter w ↦
      c.has_suspended.ensures.stands s on
      ∙ any_third _ _ _ _ (any_blocked s.tasks) (sym (c.has_waiter.ensures.stands s waits) ∙ w.if-has_waiter.false)
      (sym (w.has_waiter-else-has_waiter.ensures.stands s bits) ∙ sym w.value-is ∙ c.if-has_waiter-2.false)
]
