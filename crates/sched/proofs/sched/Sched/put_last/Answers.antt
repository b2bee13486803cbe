use Rattle.std.proofs.Common.{◌≡◌, ℕ, ◌<◌, List, length, sym, ◌∙◌, ap, subst, arith}
use Rattle.lists.specs.Lists.{IsSound}
use Rattle.sched.specs.Schedule as mine
use Rattle.sched.specs.Schedule.{Schedule, is_ready, priority_in}
use Rattle.sched.specs.ReadyLists.{IsSched, schedule_of}
use Rattle.sched.proofs.ReadyList.{in_no_place}
use Rattle.sched.proofs.Deeds.{sched_push, schedule_push}
use Rattle.sched.proofs.LinedUp.{unready}
use Rattle.sched.proofs.sched.Sched.put_last.Goals as goal

pub push_back-requires-clause-free : goal.push_back-requires-clause-free
push_back-requires-clause-free c =
    let q = c.self.inside in
    let free =
    unready c.args.task (schedule_of q.ready q.pending q.current q.priorities q.base_priorities q.depth q.suspensions q.suspended)
    (ap (λ (s : Schedule). is_ready s c.args.task) c.self.view_is ∙ c.requires.free) in
    in_no_place c.self.invariant.lists_are.sound c.args.task free.0

pub invariant_of-self : goal.invariant_of-self
invariant_of-self c =
    let q = c.self.inside in
    let task = c.args.task in
    let p = c.list_of-list.result.number in
    let put = c.push_back.ensures.put in
    let free =
    unready task (schedule_of q.ready q.pending q.current q.priorities q.base_priorities q.depth q.suspensions q.suspended)
    (ap (λ (s : Schedule). is_ready s task) c.self.view_is ∙ c.requires.free) in
    let home : p ≡ priority_in q.priorities task =
    c.list_of-list.ensures.list ∙ ap (λ (s : Schedule). priority_in s.priorities task) (sym c.self.view_is) in
    let below : p < length q.ready =
    let many = c.self.invariant.lists_are.sound.as_many in
    let known = c.list_of-list.ensures.known in
    omega (arith, many, known) in
    subst (λ (ls : List (List (ℕ × ℕ))). IsSched ls q.pending q.priorities q.base_priorities q.depth) (sym put)
    (sched_push c.self.invariant task p home below free.1 (subst (IsSound 32 32) put c.push_back.ensures.sound))

pub returns-clause-schedule : goal.returns-clause-schedule
returns-clause-schedule c =
    let q = c.self.inside in
    let task = c.args.task in
    let p = c.list_of-list.result.number in
    let home : p ≡ priority_in q.priorities task =
    c.list_of-list.ensures.list ∙ ap (λ (s : Schedule). priority_in s.priorities task) (sym c.self.view_is) in
    let below : p < length q.ready =
    let many = c.self.invariant.lists_are.sound.as_many in
    let known = c.list_of-list.ensures.known in
    omega (arith, many, known) in
    ap (λ (ls : List (List (ℕ × ℕ))).
    schedule_of ls q.pending q.current q.priorities q.base_priorities q.depth q.suspensions q.suspended)
    c.push_back.ensures.put
    ∙ schedule_push c.self.invariant.lists_are q.pending q.current q.base_priorities q.depth
    q.suspensions q.suspended task p home below
    ∙ ap (mine.make_ready task) c.self.view_is
