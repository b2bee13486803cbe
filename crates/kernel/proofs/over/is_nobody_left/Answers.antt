use Rattle.std.proofs.Common.{◌≡◌, true, false, sym, ap, ◌∙◌, not}
use Rattle.kernel.proofs.Ended.{over_by, on_by, not_over_by}
use Rattle.kernel.proofs.over.is_nobody_left.Goals.{then-not-has_ready, else-not-has_ready}
use Rattle.kernel.proofs.over.is_nobody_left.Goals as goal

pub returns-then-is_quiet : goal.returns-then-is_quiet
returns-then-is_quiet c = λ s h. elim c.if-not-has_ready.branch [
  | then-not-has_ready w ↦
      over_by c.args.machine.now s c.has_ready.result w.is_quiet.result c.has_ready.ensures.ready w.is_quiet.ensures.quiet
      h w.if-not-has_ready.true (sym w.value-is ∙ c.if-is_quiet.true) c.has_waiter.result
      (λ k. c.has_waiter.ensures s k.rest.objects k.rest.groups k.sched)
  | else-not-has_ready w ↦
      absurd (let e : true ≡ false = sym c.if-is_quiet.true ∙ w.value-is ∙ ap not w.if-not-has_ready.false in cc)
]

pub returns-else-is_quiet : goal.returns-else-is_quiet
returns-else-is_quiet c = λ s h. c.if-is_quiet.false ∙ sym (elim c.if-not-has_ready.branch [
  | then-not-has_ready w ↦
      on_by c.args.machine.now s c.has_ready.result w.is_quiet.result c.has_ready.ensures.ready
      w.is_quiet.ensures.quiet h (rw w.if-not-has_ready.true (sym w.value-is ∙ c.if-is_quiet.false))
  | else-not-has_ready w ↦ not_over_by c.args.machine.now s c.has_ready.result c.has_ready.ensures.ready h w.if-not-has_ready.false
])
