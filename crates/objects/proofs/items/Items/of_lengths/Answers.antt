use Rattle.std.proofs.Common.{ap, get_or, List, [], ℕ, arith, refl, ◌∙◌}
use Rattle.model.specs.State.{no_object}
use Rattle.objects.specs.Places.{item_places}
use Rattle.objects.proofs.Rings.{sound}
use Rattle.objects.proofs.Laying.{laid_start, laid_more, padded, fresh_is, fresh_object, padded_at}
use Rattle.objects.proofs.items.Items.of_lengths.Goals as goal

pub loop-queue-init : goal.loop-queue-init
loop-queue-init c =
    laid_start c.args.lengths.now c.copy_from_slice.new.self c.copy_from_slice.ensures.after c.requires.few c.requires.small

pub loop-queue-preserved : goal.loop-queue-preserved
loop-queue-preserved c = laid_more c.loop-queue-test.true c.loop-queue.invariant

pub invariant_of-result : goal.invariant_of-result
invariant_of-result c =
    let end = c.loop-queue.auto.queue-end in
    let past = c.loop-queue-test.false in
    fresh_is item_places refl (omega (arith, end, past)) c.loop-queue.invariant

pub returns-clause-empty : goal.returns-clause-empty
returns-clause-empty c = λ q hq. fresh_object _ _ item_places q hq
    ∙ ap (λ (sizes : List ℕ). record no_object { size = get_or sizes q 0; items = [] })
    (padded c.args.lengths.now c.copy_from_slice.new.self c.copy_from_slice.ensures.after)
    ∙ ap (λ (n : ℕ). record no_object { size = n; items = [] }) (padded_at c.args.lengths.now q)

pub returns-clause-sound : goal.returns-clause-sound
returns-clause-sound c =
    let end = c.loop-queue.auto.queue-end in
    let past = c.loop-queue-test.false in
    sound (fresh_is item_places refl (omega (arith, end, past)) c.loop-queue.invariant)
