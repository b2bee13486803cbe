use Rattle.std.proofs.Common.{◌≡◌, ◌↔◌, ◌<◌, ◌+◌, ℕ, ap, arith, length, subst, sym}
use Rattle.std.specs.Prelude.{Contains, List}
use Rattle.jobs.proofs.Explorations.{below_more}
use Rattle.jobs.proofs.exploring.all_handlers.Goals as goal

pub loop-number-preserved : goal.loop-number-preserved
loop-number-preserved c =
    subst (λ (handlers : List ℕ). (handler : ℕ) → Contains handlers handler ↔ (handler < c.loop-number.number + 1))
    (sym c.in_ok-push.ensures.items)
    (below_more c.loop-number.handlers.items c.loop-number.number c.loop-number.invariant)

pub returns : goal.returns
returns c =
    let over = c.loop-number-test.false in
    let end = c.loop-number.auto.number-end in
    let long = ap length c.handlers-number-end.ensures in
    let same : c.loop-number.number ≡ length c.args.app.now.handlers = omega (arith, over, end, long) in
    subst (λ (n : ℕ). (handler : ℕ) → Contains c.loop-number.handlers.items handler ↔ (handler < n)) same c.loop-number.invariant
