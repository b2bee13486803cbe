use Rattle.std.proofs.Common.{◌<◌, ℕ, refl, arith}
use Rattle.model.specs.State.{Object}
use Rattle.model.proofs.Tables.{each-set}
use Rattle.objects.proofs.Filling.{filled_all, filled_none, filled_one_more, nothing_small}
use Rattle.objects.proofs.semaphores.Semaphores.new.Goals as goal

pub loop-index-init : goal.loop-index-init
loop-index-init c = record {
  max_counts = filled_none (λ (o : Object). o.max_count) c.args.objects.now;
  counts = filled_none (λ (o : Object). o.count) c.args.objects.now;
  small = nothing_small;
}

pub loop-index-preserved : goal.loop-index-preserved
loop-index-preserved c =
    let so = c.loop-index.invariant in
    let of = c.counts_of-max_count in
    record {
      max_counts =
          filled_one_more (λ (o : Object). o.max_count) c.args.objects.now c.loop-index.max_counts
          c.loop-index.index of.result.0 _ c.requires c.loop-index-test.true of.ensures.greatest so.max_counts;
      counts =
          filled_one_more (λ (o : Object). o.count) c.args.objects.now c.loop-index.counts c.loop-index.index
          of.result.1 _ c.requires c.loop-index-test.true of.ensures.initial so.counts;
      small = each-set 0 (λ (j n : ℕ). n < 65536) c.loop-index.max_counts c.loop-index.index of.result.0 (omega arith) so.small;
    }

pub invariant_of-result : goal.invariant_of-result
invariant_of-result c =
    record {
      as_many_most = c.loop-index.invariant.max_counts.full;
      as_many = c.loop-index.invariant.counts.full;
      small = c.loop-index.invariant.small;
    }

pub returns-clause-max_counts : goal.returns-clause-max_counts
returns-clause-max_counts c =
    filled_all (λ (o : Object). o.max_count) c.args.objects.now c.loop-index.max_counts
    c.loop-index.index c.loop-index-test.false refl c.loop-index.invariant.max_counts

pub returns-clause-counts : goal.returns-clause-counts
returns-clause-counts c =
    filled_all (λ (o : Object). o.count) c.args.objects.now c.loop-index.counts
    c.loop-index.index c.loop-index-test.false refl c.loop-index.invariant.counts

pub returns-clause-sound : goal.returns-clause-sound
returns-clause-sound c =
    record {
      as_many_most = c.loop-index.invariant.max_counts.full;
      as_many = c.loop-index.invariant.counts.full;
      small = c.loop-index.invariant.small;
    }
