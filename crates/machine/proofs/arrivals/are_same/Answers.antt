use Rattle.std.proofs.Common.{ap, ltb, ltb-true, ltb-false, arith}
use Rattle.model.proofs.Sorting.{by_test}
use Rattle.machine.specs.Arrivals.{arrival_from}
use Rattle.machine.proofs.arrivals.are_same.Goals as goal

pub returns-clause-same : goal.returns-clause-same
returns-clause-same c = λ e source. by_test (ltb source c.args.used)
    (λ t. let k = ltb-true source c.args.used t in
    c.loop-source.invariant source (let m = c.loop-source-test.false in omega arith))
    (λ t. ap (arrival_from c.args.elapsed) (c.requires.past source (ltb-false source c.args.used t)))
