use Rattle.std.proofs.Common.{◌<◌, length, None, arith}
use Rattle.kernel.proofs.EndStates.{held_next}
use Rattle.kernel.proofs.end_state.held_mutexes.Goals as goal

pub loop-number-preserved : goal.loop-number-preserved
loop-number-preserved c = record {
  told = λ s h long.
      let below = c.loop-number-test.true in
      let within : c.loop-number.number < length s.objects = omega (arith, below, long) in
      held_next c.loop-number.number s.objects c.holder.result _ _ within (c.holder.ensures.stands s None h)
      (c.loop-number.invariant.told s h long) c.push_held.ensures.items;
  count = let more = c.push_held.ensures.count in let before = c.loop-number.invariant.count in omega arith;
}
