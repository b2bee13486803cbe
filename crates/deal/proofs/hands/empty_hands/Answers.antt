use Rattle.std.proofs.Common.{sym, subst, arith}
use Rattle.deal.specs.Dealing.{AreDealt}
use Rattle.deal.specs.declared.hand.Hand.{Hand}
use Rattle.deal.proofs.LogMoves.{begins}
use Rattle.deal.proofs.HandMoves.{empty_more}
use Rattle.deal.proofs.hands.empty_hands.Goals as goal

pub fifo_as-requires : goal.fifo_as-requires
fifo_as-requires c = begins

pub loop-preserved : goal.loop-preserved
loop-preserved c =
    let own = c.in_ok-fifo_as.ensures in
    let hand : Hand = record { own = c.in_ok-fifo_as.field-0; others = c.in_ok-with_capacity.field-0 } in (
      omega (arith, c.loop.invariant.0, c.in_ok-push.ensures.len),
      λ z n.
          subst (AreDealt z c.args.workers n n) (sym c.in_ok-push.ensures.items)
          (empty_more z c.args.workers n c.loop.hands.items hand own.1 own.4
          c.in_ok-with_capacity.ensures.items (c.loop.invariant.1 z n)),
    )

pub returns : goal.returns
returns c = (omega (arith, c.loop.invariant.0, c.loop-test.false, c.loop.auto.counter-end), c.loop.invariant.1)
