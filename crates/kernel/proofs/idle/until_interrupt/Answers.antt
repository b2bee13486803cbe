use Rattle.std.proofs.Common.{◌≡◌, ◌≢◌, ◌+◌, ℕ, List, [], fold, min, ap, sym, subst, ◌∙◌, arith}
use Rattle.model.specs.Application.{interrupts_at}
use Rattle.kernel.proofs.Ahead.{least_to_interrupt, none_comes_ever}
use Rattle.kernel.proofs.idle.until_interrupt.Goals as goal

pub returns-then-before-clause-least : goal.returns-then-before-clause-least
returns-then-before-clause-least c = λ s h.
    let e = h.rest.clock.age in
    let full = c.if-before.true in
    let none = none_comes_ever c.args.app.now c.well_formed-2.ensures s c.ticks_to_interrupt-before.result
    (λ tick more less. c.ticks_to_interrupt-before.ensures.none tick (omega arith) (omega arith)) (omega arith) in
    ap (λ (xs : List ℕ). fold min c.args.most xs) (sym none)

pub returns-clause-least : goal.returns-clause-least
returns-clause-least c = λ s h.
    let k = c.args.machine.now in
    let before = c.ticks_to_interrupt-before.result in
    let e = h.rest.clock.age in
    let fits = c.if-before.false in
    let next : interrupts_at c.args.app.now (s.elapsed + (before + 1)) ≢ [] = λ none.
    c.ticks_to_interrupt-before.ensures.next (omega arith)
    (let same : s.elapsed + (before + 1) ≡ k.clock.age + k.clock.held + before + 1 = omega arith in
    subst (λ (n : ℕ). interrupts_at c.args.app.now n ≡ []) same none) in
    c.min.ensures ∙ sym (least_to_interrupt c.args.app.now c.well_formed-2.ensures s before
    (λ tick more less. c.ticks_to_interrupt-before.ensures.none tick (omega arith) (omega arith)) next c.args.most)
