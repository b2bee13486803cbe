use Rattle.objects.proofs.Alike.{AreAlike}
use Rattle.objects.proofs.items.Items.is_queue_at.Given as goal

abbrev pub invariant-loop-index : goal.invariant-loop-index
invariant-loop-index l =
    AreAlike (record {
      pool = l.self-inside.pool;
      bases = l.self-inside.regions.bases;
      lengths = l.self-inside.regions.lengths;
      heads = l.self-inside.regions.heads;
      counts = l.self-inside.regions.counts;
    })
    (record {
      pool = l.snapshot-inside.pool.items;
      bases = l.snapshot-inside.regions.bases;
      lengths = l.snapshot-inside.regions.lengths;
      heads = l.snapshot-inside.regions.heads;
      counts = l.snapshot-inside.regions.counts;
    })
    l.queue l.index
