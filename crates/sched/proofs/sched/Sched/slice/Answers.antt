use Rattle.std.proofs.Common.{rules, ℕ, List, Option, Some, sym, ◌∙◌, ap, subst}
use Rattle.std.specs.Prelude.{◌||◌}
use Rattle.std.specs.Option.{is_some}
use Rattle.lists.specs.Lists.{IsSound}
use Rattle.sched.specs.Schedule.{IsCalm, Schedule, is_outranked, is_sharing, priority_in, slice}
use Rattle.sched.specs.ReadyLists.{IsSched, schedule_of}
use Rattle.sched.proofs.Standing.{does_slice}
use Rattle.sched.proofs.Turning.{first_by, ended_if, sched_turned, schedule_kept, schedule_sliced, turn}
use Rattle.sched.proofs.sched.Sched.slice.Goals as goal

pub invariant_of-self : goal.invariant_of-self
invariant_of-self c =
    let q = c.self.inside in
    let task = c.in-Some.task in
    let p = c.list_of-list.result.number in
    let home = c.list_of-list.ensures.list ∙ ap (λ (s : Schedule). priority_in s.priorities task) (sym c.self.view_is) in
    let highest = c.is_highest.ensures.highest.0 c.if-is_highest.true in
    let is = first_by (c.is_first.ensures.first.0 c.if-is_first.true) home c.list_of-list.ensures.known in
    let rotated = c.rotate.ensures.rotated in
    subst (λ (ls : List (List (ℕ × ℕ))). IsSched ls q.pending q.priorities q.base_priorities q.depth) (sym rotated)
    (sched_turned c.self.invariant.lists_are task p is c.self.invariant (subst (IsSound 32 32) rotated c.rotate.ensures.sound))

pub returns-in-Some-rotate-clause-ended : goal.returns-in-Some-rotate-clause-ended
returns-in-Some-rotate-clause-ended c =
    let q = c.self.inside in
    let task = c.in-Some.task in
    let p = c.list_of-list.result.number in
    let home = c.list_of-list.ensures.list ∙ ap (λ (s : Schedule). priority_in s.priorities task) (sym c.self.view_is) in
    let highest = c.is_highest.ensures.highest.0 c.if-is_highest.true in
    let is = first_by (c.is_first.ensures.first.0 c.if-is_first.true) home c.list_of-list.ensures.known in
    sym (ended_if c.self.invariant.lists_are task p is q.pending q.base_priorities q.depth q.suspensions q.suspended highest
    ∙ ap is_some (sym c.in-Some-rotate.ensures.second))
    ∙ ap (λ (o : Option ℕ).
    let s = schedule_of q.ready q.pending o q.priorities q.base_priorities q.depth q.suspensions q.suspended in
    is_outranked s || is_sharing s)
    (sym c.in-Some.is)
    ∙ ap (λ (s : Schedule). is_outranked s || is_sharing s) c.self.view_is

pub returns-in-Some-rotate-clause-schedule : goal.returns-in-Some-rotate-clause-schedule
returns-in-Some-rotate-clause-schedule c =
    let q = c.self.inside in
    let task = c.in-Some.task in
    let p = c.list_of-list.result.number in
    let home = c.list_of-list.ensures.list ∙ ap (λ (s : Schedule). priority_in s.priorities task) (sym c.self.view_is) in
    let highest = c.is_highest.ensures.highest.0 c.if-is_highest.true in
    let is = first_by (c.is_first.ensures.first.0 c.if-is_first.true) home c.list_of-list.ensures.known in
    ap (λ (ls : List (List (ℕ × ℕ))).
    schedule_of ls q.pending (Some c.in-Some-rotate.next) q.priorities q.base_priorities q.depth q.suspensions q.suspended)
    c.rotate.ensures.rotated
    ∙ schedule_sliced c.self.invariant.lists_are task p is q.pending q.base_priorities
    q.depth q.suspensions q.suspended highest c.in-Some-rotate.next c.in-Some-rotate.ensures.second
    ∙ ap (λ (o : Option ℕ).
    slice (schedule_of q.ready q.pending o q.priorities q.base_priorities q.depth q.suspensions q.suspended))
    (sym c.in-Some.is)
    ∙ ap slice c.self.view_is

pub returns-in-Some-rotate-clause-stands : goal.returns-in-Some-rotate-clause-stands
returns-in-Some-rotate-clause-stands c =
    does_slice (subst IsCalm c.self.view_is c.self.invariant.calm) (returns-in-Some-rotate-clause-schedule c)

pub returns-then-is_first-clause-ended : goal.returns-then-is_first-clause-ended
returns-then-is_first-clause-ended c =
    let q = c.self.inside in
    let task = c.in-Some.task in
    let p = c.list_of-list.result.number in
    let home = c.list_of-list.ensures.list ∙ ap (λ (s : Schedule). priority_in s.priorities task) (sym c.self.view_is) in
    let highest = c.is_highest.ensures.highest.0 c.if-is_highest.true in
    let is = first_by (c.is_first.ensures.first.0 c.if-is_first.true) home c.list_of-list.ensures.known in
    sym (ended_if c.self.invariant.lists_are task p is q.pending q.base_priorities q.depth q.suspensions q.suspended highest
    ∙ ap is_some (sym c.in_default-rotate.ensures.second))
    ∙ ap (λ (o : Option ℕ).
    let s = schedule_of q.ready q.pending o q.priorities q.base_priorities q.depth q.suspensions q.suspended in
    is_outranked s || is_sharing s)
    (sym c.in-Some.is)
    ∙ ap (λ (s : Schedule). is_outranked s || is_sharing s) c.self.view_is

pub returns-then-is_first-clause-schedule : goal.returns-then-is_first-clause-schedule
returns-then-is_first-clause-schedule c =
    let q = c.self.inside in
    let task = c.in-Some.task in
    let p = c.list_of-list.result.number in
    let home = c.list_of-list.ensures.list ∙ ap (λ (s : Schedule). priority_in s.priorities task) (sym c.self.view_is) in
    let highest = c.is_highest.ensures.highest.0 c.if-is_highest.true in
    let is = first_by (c.is_first.ensures.first.0 c.if-is_first.true) home c.list_of-list.ensures.known in
    ap (λ (ls : List (List (ℕ × ℕ))).
    schedule_of ls q.pending q.current q.priorities q.base_priorities q.depth q.suspensions q.suspended)
    c.rotate.ensures.rotated
    ∙ ap (λ (o : Option ℕ).
    schedule_of (turn p q.ready) q.pending o q.priorities q.base_priorities q.depth q.suspensions q.suspended)
    c.in-Some.is
    ∙ schedule_kept c.self.invariant.lists_are task p is q.pending q.base_priorities
    q.depth q.suspensions q.suspended highest c.in_default-rotate.ensures.second
    ∙ ap (λ (o : Option ℕ).
    slice (schedule_of q.ready q.pending o q.priorities q.base_priorities q.depth q.suspensions q.suspended))
    (sym c.in-Some.is)
    ∙ ap slice c.self.view_is

pub returns-then-is_first-clause-stands : goal.returns-then-is_first-clause-stands
returns-then-is_first-clause-stands c =
    does_slice (subst IsCalm c.self.view_is c.self.invariant.calm) (returns-then-is_first-clause-schedule c)

pub returns-then-ended-clause-stands : goal.returns-then-ended-clause-stands
returns-then-ended-clause-stands c = does_slice (subst IsCalm c.self.view_is c.self.invariant.calm) (search rules)

pub returns-else-ended-clause-stands : goal.returns-else-ended-clause-stands
returns-else-ended-clause-stands c = does_slice (subst IsCalm c.self.view_is c.self.invariant.calm) (search rules)
