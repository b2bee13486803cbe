use Rattle.std.proofs.Common.{◌≡◌, ℕ, List, Option, drop, set, false, ◌∙◌, ap, subst, sym}
use Rattle.std.specs.Prelude.{slice_get}
use Rattle.std.specs.Option.{IfSome}
use Rattle.lists.specs.Lists.{entries_of}
use Rattle.task_lists.specs.Tasks.{is_among, tasks_in}
use Rattle.sched.proofs.OneList.{first-tasks_in, once, rest}
use Rattle.sched.proofs.pending.PendingReadyList.pop_front.Goals as goal

pub returns-clause-first : goal.returns-clause-first
returns-clause-first c =
    c.pop_front.ensures.first ∙ first-tasks_in (entries_of c.self.inside.lists 0)
    ∙ ap (λ (ts : List ℕ). slice_get ts 0) c.self.view_is

pub returns-clause-rest : goal.returns-clause-rest
returns-clause-rest c =
    ap (λ (ls : List (List (ℕ × ℕ))). tasks_in (entries_of ls 0)) c.pop_front.ensures.rest
    ∙ rest c.self.invariant ∙ ap (drop 1) c.self.view_is

pub returns-clause-once : goal.returns-clause-once
returns-clause-once c =
    let ls = c.self.inside.lists in
    let others : List ℕ = tasks_in (entries_of (set ls 0 (drop 1 (entries_of ls 0))) 0) in
    rw c.pop_front.ensures.rest
    (subst (λ (o : Option ℕ). IfSome o (λ i. is_among i others ≡ false)) (sym c.pop_front.ensures.first) (once c.self.invariant))
