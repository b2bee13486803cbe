use Rattle.std.proofs.Common.{◌++◌, ◌∙◌, ℕ, List, ap, sym, subst, drop}
use Rattle.objects.specs.Items.{IsSound}
use Rattle.objects.specs.Rings.{Fields, objects_of, with_pool}
use Rattle.objects.proofs.Rings.{refilled, sound_is}
use Rattle.objects.proofs.items.Items.restore.Goals as goal

pub returns-clause-same : goal.returns-clause-same
returns-clause-same c =
    let arrays : Fields =
    record {
      pool = c.snapshot.inside.pool.items;
      bases = c.snapshot.inside.regions.bases;
      lengths = c.snapshot.inside.regions.lengths;
      heads = c.snapshot.inside.regions.heads;
      counts = c.snapshot.inside.regions.counts;
    } in
    ap (λ (front : List ℕ). objects_of (with_pool (front ++ drop c.len-used.result c.self.inside.pool) arrays))
    (c.copy_from_slice.ensures.after ∙ c.as_slice.ensures.value)
    ∙ refilled c.snapshot.invariant _ ∙ c.snapshot.view_is

pub returns-clause-sound : goal.returns-clause-sound
returns-clause-sound c =
    subst IsSound (sym (returns-clause-same c))
    (sound_is c.snapshot.invariant.storage (refilled c.snapshot.invariant c.snapshot.invariant.back ∙ c.snapshot.view_is))
