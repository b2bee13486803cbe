use Rattle.std.proofs.Common.{refl}
use Rattle.model.specs.State.{Object}
use Rattle.objects.proofs.Filling.{all_small, filled_all, filled_none, filled_one_more}
use Rattle.objects.proofs.items.lengths_of.Goals as goal

pub loop-index-init : goal.loop-index-init
loop-index-init c = filled_none (λ (o : Object). o.size) c.args.objects.now

pub loop-index-preserved : goal.loop-index-preserved
loop-index-preserved c =
    filled_one_more (λ (o : Object). o.size) c.args.objects.now c.loop-index.lengths c.loop-index.index
    c.length_of.result _ c.requires.few c.loop-index-test.true c.length_of.ensures c.loop-index.invariant

pub returns-clause-lengths : goal.returns-clause-lengths
returns-clause-lengths c =
    filled_all (λ (o : Object). o.size) c.args.objects.now c.loop-index.lengths
    c.loop-index.index c.loop-index-test.false refl c.loop-index.invariant

pub returns-clause-small : goal.returns-clause-small
returns-clause-small c =
    all_small c.args.objects.now c.loop-index.lengths c.requires.kinds
    (filled_all (λ (o : Object). o.size) c.args.objects.now c.loop-index.lengths
    c.loop-index.index c.loop-index-test.false refl c.loop-index.invariant)

pub returns-clause-full : goal.returns-clause-full
returns-clause-full c = c.loop-index.invariant.full
