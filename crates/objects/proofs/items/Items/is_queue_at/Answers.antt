use Rattle.std.proofs.Common.{ℕ, ◌+◌, List, get_or, ◌∙◌, sym, ap, arith, below_more}
use Rattle.model.specs.State.{Object}
use Rattle.objects.specs.Items.{object_in}
use Rattle.objects.proofs.Alike.{item_is, same_queue, within_front}
use Rattle.objects.proofs.items.Items.is_queue_at.Goals as goal

pub overflow_add-self-inside : goal.overflow_add-self-inside
overflow_add-self-inside c =
    omega (
      arith,
      c.self.invariant.started c.args.queue c.requires,
      c.self.invariant.few c.args.queue c.requires,
      c.self.invariant.small c.args.queue c.requires,
    )

pub wrapped-at-requires : goal.wrapped-at-requires
wrapped-at-requires c =
    omega (arith, c.self.invariant.started c.args.queue c.requires, c.self.invariant.few c.args.queue c.requires)

pub overflow_add-snapshot-inside : goal.overflow_add-snapshot-inside
overflow_add-snapshot-inside c =
    omega (
      arith,
      c.snapshot.invariant.storage.started c.args.queue c.requires,
      c.snapshot.invariant.storage.few c.args.queue c.requires,
      c.snapshot.invariant.storage.small c.args.queue c.requires,
    )

pub wrapped-snapshot_at-requires : goal.wrapped-snapshot_at-requires
wrapped-snapshot_at-requires c =
    omega (
      arith,
      c.snapshot.invariant.storage.started c.args.queue c.requires,
      c.snapshot.invariant.storage.few c.args.queue c.requires,
    )

pub index-requires : goal.index-requires
index-requires c =
    let within =
    within_front c.snapshot.invariant c.args.queue c.loop-index.index (get_or c.self.inside.regions.lengths c.args.queue 0)
    c.wrapped-snapshot_at.result c.requires (omega arith) (omega arith) c.wrapped-snapshot_at.ensures.wrapped in
    omega (arith, within)

pub loop-index-preserved : goal.loop-index-preserved
loop-index-preserved c = below_more _ _ c.loop-index.invariant
    (ap (λ (place : ℕ). get_or c.self.inside.pool (get_or c.self.inside.regions.bases c.args.queue 0 + place) 0)
    (sym c.wrapped-at.ensures.wrapped)
    ∙ c.if-self-base.false
    ∙ item_is c.snapshot.invariant c.args.queue c.loop-index.index
    (get_or c.self.inside.regions.lengths c.args.queue 0) c.wrapped-snapshot_at.result c.requires (omega arith)
    (omega arith) c.wrapped-snapshot_at.ensures.wrapped c.index.result.now c.index.ensures)

pub returns : goal.returns
returns c = λ told.
    ap (λ (objects : List Object). object_in objects c.args.queue) (sym c.self.view_is)
    ∙ same_queue _ _ c.args.queue c.requires (omega arith) (omega arith) (λ k below. c.loop-index.invariant k (omega arith))
    ∙ ap (λ (objects : List Object). object_in objects c.args.queue) c.snapshot.view_is
