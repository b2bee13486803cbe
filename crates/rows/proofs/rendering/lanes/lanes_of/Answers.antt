use Rattle.std.proofs.Common.{List, [], ◌∷◌, ◌++◌, sym, subst, arith}
use Rattle.model.proofs.Nesting.{all-append}
use Rattle.rows.specs.declared.rendering.inbox.Inbox.{Inbox}
use Rattle.rows.specs.declared.rendering.renderer.Renderer.{Renderer}
use Rattle.rows.specs.Pieces.{AreFresh, ArePairs}
use Rattle.rows.proofs.Inboxes.{pairs_more}
use Rattle.rows.proofs.rendering.lanes.lanes_of.Goals as goal

pub loop-alloc-preserved : goal.loop-alloc-preserved
loop-alloc-preserved c =
    let i = c.loop-alloc.invariant in
    let own = c.in_ok-own.own in
    let others = c.loop-alloc.others.items in
    let renderer = c.in_ok-renderer.renderer in
    let lane = c.in_ok-renderer.ensures in
    let more = c.in_ok-push.ensures.items in
    let inboxes = c.in_ok-push-2.ensures.items in
    record {
      few = omega (arith, c.in_ok-push-2.ensures.len, c.len.ensures, c.loop-alloc-test.true);
      pairs = subst (λ (ss : List Renderer). ArePairs (own ∷ ss) c.push-in-loop-alloc.new.self.items) (sym more)
          (subst (λ (ds : List Inbox). ArePairs (own ∷ (others ++ renderer ∷ [])) ds) (sym inboxes)
          (pairs_more (own ∷ others) c.loop-alloc.inboxes.items renderer c.in_ok-renderer.inbox i.pairs lane.pair));
      fresh = (i.fresh.0, subst AreFresh (sym more) (all-append _ others renderer i.fresh.1 lane.fresh));
    }
