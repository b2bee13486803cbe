use Rattle.std.proofs.Common.{◌≡◌, [], sym, subst}
use Rattle.sched.specs.Schedule.{Schedule}
use Rattle.sched.specs.StandsFor.{StandsBefore}
use Rattle.model.specs.Switching as switching
use Rattle.sched.proofs.LinedUp.{IsFalling, falling_at_home}
use Rattle.sched.proofs.Standing.{placing_made_ready}
use Rattle.sched.proofs.sched.Sched.wake.Goals as goal

pub returns-then-self-eq0-clause-placing : goal.returns-then-self-eq0-clause-placing
returns-then-self-eq0-clause-placing c = λ s decider h ne l awake.
    let falling : IsFalling c.args.self.now.ready =
    subst (λ (v : Schedule). IsFalling v.ready) c.self.view_is
    (falling_at_home 0 c.self.inside.ready c.self.invariant.lists_are.at_home) in
    let none : c.args.self.now.pending ≡ [] =
    subst (λ (v : Schedule). v.pending ≡ []) c.self.view_is (c.self.invariant.calm c.if-self-eq0.true) in
    subst (λ (v : Schedule). StandsBefore decider v (switching.make_ready c.args.task s)) (sym c.make_ready.ensures.schedule)
    (placing_made_ready c.args.self.now s decider c.args.task none falling h ne l awake c.requires.free)
