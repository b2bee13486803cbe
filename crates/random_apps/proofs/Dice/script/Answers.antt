use Rattle.std.proofs.Common.{arith, subst, sym}
use Rattle.random_apps.specs.Known.{AreKnown}
use Rattle.random_apps.proofs.Known.{few-pushed, known-pushed}
use Rattle.random_apps.proofs.Dice.script.Goals as goal

pub loop-index-preserved : goal.loop-index-preserved
loop-index-preserved c = (
  (let few = c.loop-index.invariant.0 in
      let more = few-pushed c.loop-index.script c.push.new.self c.op_at.result c.push.result c.push.ensures.ok c.push.ensures.err in
      omega (arith, few, more)),
  known-pushed _ c.loop-index.script c.push.new.self c.op_at.result c.push.result
      c.push.ensures.ok c.push.ensures.err c.loop-index.invariant.1 c.op_at.ensures.known,
)

pub returns-in-Ok-clause-known : goal.returns-in-Ok-clause-known
returns-in-Ok-clause-known c = subst (AreKnown c.args.objects.now) (sym c.in-Ok.ensures.script.0) c.close.ensures
