use Rattle.std.proofs.Common.{slice_index_or, subst, sym}
use Rattle.rtrb.specs.Ring.{SameProducer}
use Rattle.rows.specs.declared.rendering.renderer.Renderer.{Renderer}
use Rattle.rows.specs.Pieces.{HasSent}
use Rattle.rows.proofs.Inboxes.{pairs_each, sent_each}
use Rattle.rows.proofs.rendering.side_by_side.render_all.Goals as goal

pub returns-clause-pairs : goal.returns-clause-pairs
returns-clause-pairs g c =
    pairs_each c.args.renderers.now c.for_each_mut.new.s c.for_each_mut.auto.s
    (λ i d l.
    let k = (c.for_each_mut.ensures i d l).1 in
    subst (λ (s : Renderer). SameProducer s.rendered (slice_index_or c.for_each_mut.new.s i d).rendered) k.argument_is
    (subst (λ (s : Renderer). SameProducer k.argument.now.rendered s.rendered) k.left k.call.0))

pub returns-clause-sent : goal.returns-clause-sent
returns-clause-sent g c =
    let rendering = c.args.rendering.now in
    sent_each rendering c.args.renderers.now c.for_each_mut.new.s c.for_each_mut.auto.s
    (λ i d l h.
    let k = (c.for_each_mut.ensures i d l).1 in
    subst (HasSent rendering) k.left (k.call.1 (subst (HasSent rendering) (sym k.argument_is) h)))
