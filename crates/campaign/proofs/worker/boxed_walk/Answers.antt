use Rattle.std.proofs.Common.{subst, sym}
use Rattle.shelf.specs.Walks.{IsWalk}
use Rattle.shelf.specs.declared.walk.Walk.{Walk}
use Rattle.campaign.proofs.worker.boxed_walk.Goals as goal

pub returns : goal.returns
returns c = λ limits.
    subst (λ (w : Walk). IsWalk c.args.app.now limits w) (sym c.in_ok-walk.ensures.ok) (c.new.ensures.walk limits)
