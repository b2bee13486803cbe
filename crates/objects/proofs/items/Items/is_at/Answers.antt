use Rattle.std.proofs.Common.{◌∙◌, ◌+◌, List, ap, sym, arith, below_more}
use Rattle.model.specs.State.{Object}
use Rattle.objects.specs.Items.{object_in}
use Rattle.objects.proofs.Alike.{few_items, same_past, same_queues}
use Rattle.objects.proofs.items.Items.is_at.Goals as goal

pub first_nonzero-queue-requires-clause-small : goal.first_nonzero-queue-requires-clause-small
first_nonzero-queue-requires-clause-small c = few_items c.self.invariant

pub first_nonzero-queue-requires-in-loop-queue-clause-small : goal.first_nonzero-queue-requires-in-loop-queue-clause-small
first_nonzero-queue-requires-in-loop-queue-clause-small c = few_items c.self.invariant

pub loop-queue-init : goal.loop-queue-init
loop-queue-init c = record {
  within = omega arith;
  same = same_past _ _ c.self.view_is c.snapshot.view_is (c.are_same-else-not-are_same.ensures c.if-not-are_same-2.false)
      (c.are_same.ensures c.if-not-are_same.false) 0 c.first_nonzero-queue.result (omega arith) c.first_nonzero-queue.ensures.zeros
      (λ queue none. absurd (omega (arith, none)));
}

pub loop-queue-preserved : goal.loop-queue-preserved
loop-queue-preserved c = record {
  within = omega arith;
  same = same_past _ _ c.self.view_is c.snapshot.view_is (c.are_same-else-not-are_same.ensures c.if-not-are_same-2.false)
      (c.are_same.ensures c.if-not-are_same.false) (c.loop-queue.queue + 1) c.first_nonzero-queue-in-loop-queue.result (omega arith)
      c.first_nonzero-queue-in-loop-queue.ensures.zeros
      (below_more _ _ c.loop-queue.invariant.same (c.is_queue_at.ensures c.if-not-is_queue_at.false));
}

pub returns : goal.returns
returns c = λ told.
    sym c.self.view_is
    ∙ same_queues _ _ (λ queue known.
    ap (λ (objects : List Object). object_in objects queue) c.self.view_is
    ∙ c.loop-queue.invariant.same queue (omega arith)
    ∙ ap (λ (objects : List Object). object_in objects queue) (sym c.snapshot.view_is))
    ∙ c.snapshot.view_is
