use Rattle.std.proofs.Common.{◌≡◌, ◌+◌, ℕ, [], subst, sym, arith}
use Rattle.model.specs.Application.{interrupts_at}
use Rattle.kernel.proofs.Ticking.{none_comes, none_of_these}
use Rattle.kernel.proofs.quiet.ticks_to_interrupt.Goals as goal

pub returns-clause-none : goal.returns-clause-none
returns-clause-none c = λ tick more less.
    let elapsed = c.elapsed.ensures.elapsed in
    none_comes c.args.app.now c.coming.result.now c.coming.ensures tick
    (c.ticks_before_next.ensures.none tick (omega arith) (omega arith))

pub returns-clause-next : goal.returns-clause-next
returns-clause-next c = λ less none.
    let app = c.args.app.now in
    let count = c.ticks_before_next.result in
    let here : interrupts_at app (c.elapsed.result + count + 1) ≡ [] =
    subst (λ (n : ℕ). interrupts_at app (n + count + 1) ≡ []) (sym c.elapsed.ensures.elapsed) none in
    c.ticks_before_next.ensures.next less
    (none_of_these app c.coming.result.now c.coming.ensures (c.elapsed.result + count + 1) here)
