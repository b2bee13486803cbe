use Rattle.std.proofs.Common.{sym, arith}
use Rattle.objects.proofs.Anyone.{none_waits}
use Rattle.objects.proofs.objects.Objects.has_waiter.Goals as goal

pub returns : goal.returns
returns c = record {
  stands = λ s h.
      let end = c.loop-number.auto.number-end in
      let past = c.loop-number-test.false in
      sym (none_waits s.tasks 32 h.waiters.table.few (λ i m. c.loop-number.invariant.none s h i (omega (arith, end, past, m))));
}
