use Rattle.std.proofs.Common.{◌++◌, ◌+◌, ℕ, List, ap, arith, sym, subst}
use Rattle.model.specs.Run.{injected}
use Rattle.kernel.proofs.Planned.{AreFrom, from_next, from_few, from_done, from_end}
use Rattle.kernel.proofs.steps.handlers_at.Goals as goal

pub loop-injection-init : goal.loop-injection-init
loop-injection-init c =
    record {
      all = ap (λ (hs : List ℕ). hs ++ injected c.args.injections.now c.args.step) c.new-handlers.ensures;
      order = c.requires.order;
      ahead = c.requires.left;
    }

pub push-requires : goal.push-requires
push-requires c = (
  omega arith,
  from_few c.args.injections.now c.args.step c.loop-injection.injection-index
      c.loop-injection.handlers.items c.injection-item.result c.loop-injection-test.true
      c.injection-item.is c.loop-injection.invariant c.if-injection-step.false c.requires.few,
)

pub loop-injection-preserved : goal.loop-injection-preserved
loop-injection-preserved c =
    subst (AreFrom c.args.injections.now c.args.step (c.loop-injection.injection-index + 1)) (sym c.push.ensures.items)
    (from_next c.args.injections.now c.args.step c.loop-injection.injection-index c.loop-injection.handlers.items
    c.injection-item.result c.loop-injection-test.true c.injection-item.is c.loop-injection.invariant c.if-injection-step.false)

pub returns-after-loop-injection : goal.returns-after-loop-injection
returns-after-loop-injection c =
    from_end c.args.injections.now c.args.step c.loop-injection.injection-index
    c.loop-injection.handlers.items c.loop-injection-test.false c.loop-injection.invariant

pub returns-then-injection-step : goal.returns-then-injection-step
returns-then-injection-step c =
    from_done c.args.injections.now c.args.step c.loop-injection.injection-index c.loop-injection.handlers.items
    c.injection-item.result c.loop-injection-test.true c.injection-item.is c.loop-injection.invariant c.if-injection-step.true
