use Rattle.std.proofs.Common.{ℕ, ◌<◌, List, sym, ◌∙◌, ap, subst}
use Rattle.sched.specs.Schedule as mine
use Rattle.sched.specs.Schedule.{Schedule, is_ready}
use Rattle.sched.specs.ReadyLists.{IsSched, schedule_of}
use Rattle.sched.specs.StandsFor.{StandsFor, StandsBefore}
use Rattle.model.specs.Switching as switching
use Rattle.sched.proofs.Deeds.{sched_pend}
use Rattle.sched.proofs.LinedUp.{IsFalling, falling_at_home, unready}
use Rattle.sched.proofs.Standing.{placing_pended, stands_pended}
use Rattle.sched.proofs.sched.Sched.pend_ready.Goals as goal

pub push_back-requires : goal.push_back-requires
push_back-requires c =
    let q = c.self.inside in
    let free =
    unready c.args.task (schedule_of q.ready q.pending q.current q.priorities q.base_priorities q.depth q.suspensions q.suspended)
    (ap (λ (s : Schedule). is_ready s c.args.task) c.self.view_is ∙ c.requires.free) in
    record { free = free.1 }

pub invariant_of-self : goal.invariant_of-self
invariant_of-self c =
    let q = c.self.inside in
    let task = c.args.task in
    let free =
    unready task (schedule_of q.ready q.pending q.current q.priorities q.base_priorities q.depth q.suspensions q.suspended)
    (ap (λ (s : Schedule). is_ready s task) c.self.view_is ∙ c.requires.free) in
    let held : 0 < q.depth = subst (λ (s : Schedule). 0 < s.depth) (sym c.self.view_is) c.requires.held in
    subst (λ (ts : List ℕ). IsSched q.ready ts q.priorities q.base_priorities q.depth)
    (sym c.push_back.ensures.put) (sched_pend c.self.invariant task free.0 held)

pub returns-clause-schedule : goal.returns-clause-schedule
returns-clause-schedule c =
    let q = c.self.inside in
    ap (λ (ts : List ℕ). schedule_of q.ready ts q.current q.priorities q.base_priorities q.depth q.suspensions q.suspended)
    c.push_back.ensures.put
    ∙ ap (mine.pend_ready c.args.task) c.self.view_is

pub returns-clause-stands : goal.returns-clause-stands
returns-clause-stands c = λ s h l awake.
    subst (λ (v : Schedule). StandsFor v (switching.make_ready c.args.task s)) (sym (returns-clause-schedule c))
    (stands_pended c.args.self.now s c.args.task h l awake c.requires.free)

pub returns-clause-placing : goal.returns-clause-placing
returns-clause-placing c = λ s decider h ne l awake.
    let falling : IsFalling c.args.self.now.ready =
    subst (λ (v : Schedule). IsFalling v.ready) c.self.view_is
    (falling_at_home 0 c.self.inside.ready c.self.invariant.lists_are.at_home) in
    subst (λ (v : Schedule). StandsBefore decider v (switching.make_ready c.args.task s)) (sym (returns-clause-schedule c))
    (placing_pended c.args.self.now s decider c.args.task falling h ne l awake c.requires.free)
