use Rattle.std.proofs.Common.{sym}
use Rattle.kernel.proofs.Planned.{all_ahead, least_is, none_before}
use Rattle.kernel.proofs.quiet.next_injection.Goals as goal

pub returns-in-Some-clause-alone : goal.returns-in-Some-clause-alone
returns-in-Some-clause-alone c =
    none_before c.args.injections.now c.in-Some.injection.now (sym c.in-Some.ensures.value) c.requires.order

pub returns-in-Some-clause-ahead : goal.returns-in-Some-clause-ahead
returns-in-Some-clause-ahead c =
    all_ahead c.args.injections.now c.in-Some.injection.now (sym c.in-Some.ensures.value) c.requires.order

pub returns-in-Some-clause-least : goal.returns-in-Some-clause-least
returns-in-Some-clause-least c = λ n small h.
    least_is c.args.injections.now c.in-Some.injection.now (sym c.in-Some.ensures.value) c.requires.order n h
