use Rattle.std.proofs.Common.{ℕ, List, sym, ◌∙◌, ap, ap₂, subst}
use Rattle.lists.specs.Lists.{IsSound}
use Rattle.sched.specs.Schedule as mine
use Rattle.sched.specs.Schedule.{Schedule}
use Rattle.sched.specs.ReadyLists.{IsSched, schedule_of}
use Rattle.sched.specs.StandsFor.{StandsFor}
use Rattle.sched.proofs.Deeds.{sched_block, schedule_block}
use Rattle.sched.proofs.LinedUp.{IsFalling, falling_at_home}
use Rattle.sched.proofs.Standing.{stands_placed}
use Rattle.task_lists.specs.Tasks.{without_task}
use Rattle.sched.proofs.sched.Sched.block.Goals as goal

pub invariant_of-self : goal.invariant_of-self
invariant_of-self c =
    let q = c.self.inside in
    let removed = c.remove.ensures.removed in
    let left : IsSched c.remove.new.self (without_task c.args.task q.pending) q.priorities q.base_priorities q.depth =
    subst (λ (ls : List (List (ℕ × ℕ))). IsSched ls (without_task c.args.task q.pending) q.priorities q.base_priorities q.depth)
    (sym removed)
    (sched_block c.self.invariant c.args.task (subst (IsSound 32 32) removed c.remove.ensures.sound)) in
    subst (λ (ts : List ℕ). IsSched c.remove.new.self ts q.priorities q.base_priorities q.depth)
    (sym c.remove-2.ensures.removed) left

pub returns-clause-schedule : goal.returns-clause-schedule
returns-clause-schedule c =
    let q = c.self.inside in
    ap₂ (λ (ls : List (List (ℕ × ℕ))) (ts : List ℕ).
    schedule_of ls ts q.current q.priorities q.base_priorities q.depth q.suspensions q.suspended)
    c.remove.ensures.removed c.remove-2.ensures.removed
    ∙ schedule_block q.ready q.pending q.current q.priorities q.base_priorities q.depth q.suspensions q.suspended c.args.task
    ∙ ap (mine.block c.args.task) c.self.view_is

pub returns-clause-placed : goal.returns-clause-placed
returns-clause-placed c = λ s h.
    let falling : IsFalling c.args.self.now.ready =
    subst (λ (v : Schedule). IsFalling v.ready) c.self.view_is
    (falling_at_home 0 c.self.inside.ready c.self.invariant.lists_are.at_home) in
    subst (λ (v : Schedule). StandsFor v s) (sym (returns-clause-schedule c))
    (stands_placed c.args.self.now s c.args.task falling h)
