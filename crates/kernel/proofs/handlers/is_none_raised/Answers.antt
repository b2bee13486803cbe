use Rattle.std.proofs.Common.{◌≡◌, ◌∙◌, ◌<◌, Some, None, ap, arith}
use Rattle.std.proofs.lemmas.Bool.{ltb-true}
use Rattle.std.proofs.lemmas.Option.{same_Some}
use Rattle.machine.proofs.Either.{elapsed_is}
use Rattle.kernel.proofs.Raised.{nobody_now, none_at, none_before}
use Rattle.kernel.proofs.handlers.is_none_raised.Goals as goal

pub returns-in-Some : goal.returns-in-Some
returns-in-Some c = λ s h t.
    let now : c.elapsed.result ≡ s.elapsed = c.elapsed.ensures.elapsed ∙ elapsed_is c.args.machine.now s h in
    let l : c.elapsed.result < c.in-Some.tick = ltb-true c.elapsed.result c.in-Some.tick t in
    nobody_now s
    (none_at c.args.machine.now s h s.elapsed
    (none_before c.args.machine.now.sources.arrivals (Some c.in-Some.tick) s.elapsed c.in-Some.ensures
    (λ first e. omega (arith, now, l, same_Some c.in-Some.tick first e))))

pub returns-in-None : goal.returns-in-None
returns-in-None c = λ s h t.
    nobody_now s
    (none_at c.args.machine.now s h s.elapsed
    (none_before c.args.machine.now.sources.arrivals None s.elapsed c.in-None.ensures (λ first e. absurd (cc))))
