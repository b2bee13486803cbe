use Rattle.std.proofs.Common.{Some, None, arith}
use Rattle.std.proofs.lemmas.Option.{same_Some}
use Rattle.kernel.proofs.Raised.{none_before}
use Rattle.kernel.proofs.quiet.ticks_to_raised.Goals as goal

pub returns-in-None : goal.returns-in-None
returns-in-None c = λ source tick more upto.
    none_before c.args.machine.now.sources.arrivals None tick c.in-None.ensures (λ first e. absurd (cc)) source

pub returns-in-Some : goal.returns-in-Some
returns-in-Some c = λ source tick more upto.
    let now = c.elapsed.ensures.elapsed in
    let left = c.saturating_sub-left.ensures in
    let before = c.saturating_sub.ensures in
    let few = c.min.ensures in
    none_before c.args.machine.now.sources.arrivals (Some c.in-Some.tick) tick c.in-Some.ensures
    (λ first e. let same = same_Some c.in-Some.tick first e in omega arith) source
