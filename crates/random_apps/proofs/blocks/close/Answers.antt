use Rattle.std.proofs.Common.{refl, arith}
use Rattle.model.specs.declared.op.Op.TheVariants.{End}
use Rattle.random_apps.proofs.Known.{few-pushed, known-pushed}
use Rattle.random_apps.proofs.blocks.close.Goals as goal

pub loop-preserved : goal.loop-preserved
loop-preserved c = (
  (let few = c.loop.invariant.0 in
      let more = few-pushed c.loop.script c.push.new.self End c.push.result c.push.ensures.ok c.push.ensures.err in
      omega (arith, few, more)),
  known-pushed _ c.loop.script c.push.new.self End c.push.result c.push.ensures.ok
      c.push.ensures.err c.loop.invariant.1 (λ app same two four more three. refl),
)
