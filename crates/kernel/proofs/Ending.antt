-- When a run ends.
use Rattle.std.proofs.Common.{◌≡◌, ◌≢◌, ◌+◌, ◌<◌, ◌≤◌, ℕ, Bool, true, false, not, ◌&&◌, ◌||◌, eqb, leb, List, []}
use Rattle.std.proofs.Common.{◌∷◌, length, Option, Some, None, inl, inr, refl, ap, sym, subst, ◌∙◌, arith}
use Rattle.std.specs.List.{list_all, list_any}
use Rattle.std.specs.Prelude.{IsTrue, ◌↔◌, if◌then◌else◌, nat_lt, not}
use Rattle.std.specs.Option.{option_or, is_none, is_some}
use Rattle.model.specs.declared.event.Event.{Event}
use Rattle.model.specs.declared.event.End.{End}
use Rattle.model.specs.declared.event.End.TheVariants.{Pass, Ticks, Steps, Stuck}
use Rattle.model.specs.Application.{Application, Limits, is_any_awaited, is_endless, without_endless}
use Rattle.model.specs.State.{State, Task, Progress, Status, Ready, Awake, Waiting, Asleep, WaitingForBits, WaitingForNotification}
use Rattle.model.specs.State.{Suspended, Ended}
use Rattle.model.specs.State.{ticket_if_ready, status_at}
use Rattle.model.specs.Switching.{is_held, is_ready, settle, unless_held}
use Rattle.model.specs.declared.call.Phase.TheVariants.{Decide}
use Rattle.model.specs.declared.call.WaitList.{WaitList}
use Rattle.model.specs.Step.{is_ended, act_current, before_step, come_before, step}
use Rattle.model.specs.Run.{are_all_ended, is_interrupt_to_come, is_stuck, end_of}
use Rattle.model.specs.Invariant.{IsNonePending, IsRunning, IsState, RunsIn, holds, wait_of}
use Rattle.model.proofs.Sorting.{by_test}
use Rattle.model.proofs.Lists.{eqb-refl, eqb-same}
use Rattle.sched.proofs.Standing.{held_by_depth}
use Rattle.clock.specs.StandsFor as clock
use Rattle.groups.specs.StandsFor.{event_wait}
use Rattle.kernel.specs.Blocked.{is_blocked}
use Rattle.kernel.specs.Over.{is_at_tick_limit, is_over}
use Rattle.model.specs.Suspension.{can_resume}
use Rattle.machine.specs.declared.machine.Machine.{Machine}
use Rattle.machine.specs.StandsFor.{StandsBefore, Stands, AtAny, progress_in}
use Rattle.machine.specs.StandsFor.Stands.{Placed, Placing}
use Rattle.machine.proofs.Either.{current_is, progress_is, steps_are, stopped_is, not_by_task}
use Rattle.machine.proofs.Renewed.{renewed}
use Rattle.soundness.proofs.Settled.{nothing_holds, no_task_holds, held_by_neither, unlike}
use Rattle.sched.specs.StandsFor.{task_holds_of}
use Rattle.soundness.proofs.Pending.{begun_alone}
use Rattle.kernel.proofs.Ended.{leb-yes, leb-no, leb-less, some, over, is_stuck_by, runs_before, and_right_false}
use Rattle.kernel.proofs.Ended.{not_all_but}

-- No run has passed while one of them is left.
pub not_passed : (app : Application) (s : State)
    → list_all (λ (t : Task). is_ended t.status) (without_endless app.tasks s.tasks) ≡ false → are_all_ended app s ≡ false
not_passed app s e =
    and_right_false (is_any_awaited app) (list_all (λ (t : Task). is_ended t.status) (without_endless app.tasks s.tasks)) e

-- what is true below a number, and of it
pub each_below : (p : ℕ → Bool) (n : ℕ) → ((i : ℕ) → i < n → p i ≡ true) → p n ≡ true → (i : ℕ) → i < n + 1 → p i ≡ true
each_below p n below at i l = by_test (eqb i n)
    (λ t. subst (λ j. p j ≡ true) (sym (eqb-same i n t)) at)
    (λ t. let apart : i ≢ n = (λ e. let u : eqb i n ≡ true = rw e (eqb-refl n) in absurd (cc)) in below i (omega arith))

-- there are few tasks
pub few_tasks : (k : Machine) (s : State) → Stands k s → length s.tasks ≤ 32
few_tasks k s (Placed h) = h.sched.table.few
few_tasks k s (Placing task list b) = b.sched.table.few

-- So it is in a state that a run comes to, where a task that isn't endless runs and nothing holds the scheduler, since that task is
-- Ready.
pub on_unheld : (app : Application) (s : State) (task : ℕ) → is_endless app task ≡ false
    → IsState app s → s.current ≡ Some task → is_held s ≡ false → are_all_ended app s ≡ false
on_unheld app s task awaited is runs free =
    let running : IsRunning app s task = subst (RunsIn app s) runs is.runs in
    let none = nothing_holds s free in
    let ready : is_ready s task ≡ true =
    elim (running.ready none.0) [
      | inl r ↦ r
      | inr x ↦ unlike (sym x.0 ∙ no_task_holds s free)
    ] in
    not_passed app s (not_all_but app.tasks s.tasks task awaited (ready_on (status_at s task) ready)) where
      neither : (a b : Bool) → a || b ≡ false → (a ≡ false) × (b ≡ false)
      neither true b e = absurd (cc)
      neither false b e = (refl, e)

      ready_on : (u : Status) → is_some (ticket_if_ready u) ≡ true → is_ended u ≡ false
      ready_on (Ready n) t = refl
      ready_on (Awake w) t = absurd (cc)
      ready_on (Waiting w) t = absurd (cc)
      ready_on (Asleep w n) t = absurd (cc)
      ready_on (WaitingForBits g n d) t = absurd (cc)
      ready_on (WaitingForNotification n d) t = absurd (cc)
      ready_on Suspended t = absurd (cc)
      ready_on Ended t = absurd (cc)

placed_free : (k : Machine) (s : State) (other : ℕ) (list : WaitList) → StandsBefore other list k s → k.sched.depth ≡ 0 → ⊥
placed_free k s other list b free =
    let depth : k.sched.depth ≡ task_holds_of s + (if s.call_hold then 1 else 0) = b.sched.depth in
    let one : task_holds_of s + 1 ≡ 0 = sym (ap (λ (h : Bool). task_holds_of s + (if h then 1 else 0)) b.held) ∙ sym depth ∙ free in
    absurd (omega arith)

and_true_not : (a b : Bool) → (a ≡ false → b ≡ false) → a && b ≡ b
and_true_not true b f = refl
and_true_not false b f = sym (f refl)

-- Where a task runs and nothing holds the scheduler, all but the endless ones are Ended only if it is endless.
pub alone_unheld : (app : Application) (k : Machine) (s : State) (task : ℕ) → Stands k s → IsState app s
    → k.sched.current ≡ Some task → k.sched.depth ≡ 0 → is_endless app task && are_all_ended app s ≡ are_all_ended app s
alone_unheld app k s task (Placing other list b) is runs free = absurd (placed_free k s other list b free)
alone_unheld app k s task (Placed h) is runs free =
    let held : is_held s ≡ false = held_by_depth s ∙ ap (λ (n : ℕ). nat_lt 0 n) (sym h.sched.depth ∙ free) in
    and_true_not (is_endless app task) (are_all_ended app s) (λ e. on_unheld app s task e is (sym h.sched.current ∙ runs) held)

pub stuck_by : (app : Application) (k : Machine) (s : State) (idle q later : Bool) → Stands k s → idle ≡ is_none k.sched.current
    → (IsTrue q ↔ (k.clock.delayed_list ≡ [])) → later ≡ is_interrupt_to_come app s → idle && q && not later ≡ is_stuck app s
stuck_by app k s idle q later (Placed h) n is come = is_stuck_by k s h idle q later app n is come
stuck_by app k s idle q later (Placing task list b) n is come =
    let e : idle ≡ false = n ∙ ap is_none (b.sched.current ∙ b.current) in
    rw e (runs_before app k s task list b)

-- Where a task runs, the run isn't stuck.
pub runs_on : (app : Application) (s : State) (task : ℕ) → s.current ≡ Some task → is_stuck app s ≡ false
runs_on app s task e = rw e refl

-- none of four
pub none_of : (a b c d : Bool) → a ≡ false → b ≡ false → c ≡ false → d ≡ false → a || b || c || d ≡ false
none_of a b c d t u v w = rw (t, u, v, w) refl

-- nor any of them
pub each_of : (a b c d : Bool) → a || b || c || d ≡ false → (a ≡ false) × (b ≡ false) × (c ≡ false) × (d ≡ false)
each_of true b c d e = absurd (cc)
each_of false true c d e = absurd (cc)
each_of false false true d e = absurd (cc)
each_of false false false true e = absurd (cc)
each_of false false false false e = (refl, refl, refl, refl)

-- Nor is it over before the task's call decides, unless it has been stopped,
-- or an endless task is left alone: a call holds nothing then.
pub not_over_undecided : (app : Application) (limits : Limits) (k : Machine) (s : State) (task : ℕ) → Stands k s
    → IsState app s → k.sched.current ≡ Some task → (progress_in k.progress task).call.phase ≡ Decide
    → k.sched.suspensions ≡ 0 → is_some k.stopped ≡ false → is_endless app task && are_all_ended app s ≡ false
    → is_at_tick_limit app limits s ≡ false → is_over app limits s ≡ false
not_over_undecided app limits k s task h is runs decides none on more early =
    let current : s.current ≡ Some task = sym (current_is k s h) ∙ runs in
    let running : IsRunning app s task = subst (RunsIn app s) current is.runs in
    let no_call : s.call_hold ≡ false =
    sym running.holding ∙ ap (λ (p : Progress). holds p.call.phase) (sym (progress_is k s h task)) ∙ ap holds decides in
    let free : is_held s ≡ false = held_by_neither s no_call (not_by_task k s h none) in
    none_of (is_some s.stopped) (are_all_ended app s) (is_at_tick_limit app limits s) (is_stuck app s)
    (ap (λ (o : Option End). is_some o) (sym (stopped_is k s h)) ∙ on)
    (sym (and_true_not (is_endless app task) (are_all_ended app s) (λ e. on_unheld app s task e is current free)) ∙ more)
    early (runs_on app s task current)

pub idle_by : (o : Option ℕ) → is_some o ≡ false → true ≡ is_none o
idle_by None e = refl
idle_by (Some i) e = absurd (cc)

pub not_stopped : (o : Option End) → is_some o ≡ false → o ≡ None
not_stopped None t = refl
not_stopped (Some end) t = absurd (cc)

-- Which end it is.
module _ (app : Application) (limits : Limits) (s : State) (none : s.stopped ≡ None) where
  pub ends_pass : are_all_ended app s ≡ true → Some Pass ≡ end_of app limits s
  ends_pass over = rw (none, over) refl

  module _ (on : are_all_ended app s ≡ false) where
    pub ends_ticks : limits.ticks ≤ s.elapsed → Some Ticks ≡ end_of app limits s
    ends_ticks le = rw (none, on, leb-yes limits.ticks s.elapsed le) refl

    module _ (early : s.elapsed < limits.ticks) where
      pub ends_steps : limits.steps ≤ s.steps → Some Steps ≡ end_of app limits s
      ends_steps le = rw (none, on, leb-no limits.ticks s.elapsed early, leb-yes limits.steps s.steps le) refl

      module _ (few : s.steps < limits.steps) where
        pub ends_stuck : is_stuck app s ≡ true → Some Stuck ≡ end_of app limits s
        ends_stuck stuck = rw (none, on, leb-no limits.ticks s.elapsed early, leb-no limits.steps s.steps few, stuck) refl

        pub ends_not : is_stuck app s ≡ false → None ≡ end_of app limits s
        ends_not moves = rw (none, on, leb-no limits.ticks s.elapsed early, leb-no limits.steps s.steps few, moves) refl

-- Whether it is over whatever its limits.

over_not : (stopped : Option End) (may all ticks steps stuck : Bool)
    → option_or stopped
    (if all then Some Pass else if ticks then Some Ticks else if steps then Some Steps else if stuck then Some Stuck else None)
    ≡ None
    → is_some stopped || all || (may && ticks) || stuck ≡ false
over_not (Some end) may all ticks steps stuck e = absurd (cc)
over_not None may true ticks steps stuck e = absurd (cc)
over_not None may false true steps stuck e = absurd (cc)
over_not None may false false true stuck e = absurd (cc)
over_not None may false false false true e = absurd (cc)
over_not None true false false false false e = refl
over_not None false false false false false e = refl

module _ (app : Application) (limits : Limits) (s : State) where
  -- where neither limit is reached, the run goes on if it isn't over
  pub goes_if_not_over : is_over app limits s ≡ false → s.elapsed < limits.ticks
      → s.steps < limits.steps → end_of app limits s ≡ None
  goes_if_not_over on early few =
      let each = each_of (is_some s.stopped) (are_all_ended app s) (is_at_tick_limit app limits s) (is_stuck app s) on in
      sym (ends_not app limits s (not_stopped s.stopped each.0) each.1 early few each.3)

  -- where idle may jump, that it isn't over says that it is before the limit of ticks
  pub before_tick_limit : app.tickless ≡ true → is_over app limits s ≡ false → s.elapsed < limits.ticks
  before_tick_limit may on =
      let each = each_of (is_some s.stopped) (are_all_ended app s) (is_at_tick_limit app limits s) (is_stuck app s) on in
      leb-less limits.ticks s.elapsed (rest_of app.tickless (leb limits.ticks s.elapsed) may each.2) where
        rest_of : (a b : Bool) → a ≡ true → a && b ≡ false → b ≡ false
        rest_of true b t e = e
        rest_of false b t e = absurd (cc)

  -- and it doesn't go on if it is
  pub not_over_if_going : end_of app limits s ≡ None → is_over app limits s ≡ false
  not_over_if_going on =
      over_not s.stopped app.tickless (are_all_ended app s)
      (leb limits.ticks s.elapsed) (leb limits.steps s.steps) (is_stuck app s) on

-- A step begins with no event reported, and ends with one step more.

pub begun : (k : Machine) (log : List Event) (s : State) → Stands k s → log ≡ [] → AtAny k log (record s { log = [] })
begun k log s h e = record { stands = renewed k s h [] s.steps k.steps (steps_are k s h); log = e }

-- Before it comes what comes before a step.
pub begun_with : (app : Application) (handlers : List ℕ) (s : State) (k : Machine) (log : List Event)
    → AtAny k log (come_before app handlers (record s { log = [] })) → AtAny k log (before_step app handlers s)
unfolding before_step
begun_with app handlers s k log h = h

-- Where nothing is pending, and no handler is injected, that is nothing.
pub begun_with_none : (app : Application) (s : State) → IsNonePending s → (k : Machine) (log : List Event)
    → AtAny k log (record s { log = [] }) → AtAny k log (before_step app [] s)
begun_with_none app s none k log h = subst (AtAny k log) (sym (begun_alone app s none)) h

pub stepped : (app : Application) (limits : Limits) (handlers : List ℕ) (s : State) (k : Machine) (log : List Event) (n : ℕ)
    → n ≡ s.steps
    → AtAny k log (unless_held settle (act_current app limits (before_step app handlers s).current (before_step app handlers s)))
    → Stands (record k { steps = n + 1 }) (step app limits handlers s)
unfolding step
stepped app limits handlers s k log n e a =
    let new : State =
    unless_held settle (act_current app limits (before_step app handlers s).current (before_step app handlers s)) in
    renewed k new a.stands new.log (s.steps + 1) (n + 1) (ap (λ m. m + 1) e)

-- ---- who is blocked

or_both : (a b x y : Bool) → (a || b) || (x || y) ≡ (a || x) || (b || y)
or_both true b x y = refl
or_both false true true y = refl
or_both false true false y = refl
or_both false false x y = refl

-- Some task passes one of two tests where some passes the first, or some the second.
any_either : (p q : Task → Bool) (ts : List Task) → list_any (λ t. p t || q t) ts ≡ (list_any p ts || list_any q ts)
any_either p q [] = refl
any_either p q (t ∷ ts) =
    ap (λ (b : Bool). (p t || q t) || b) (any_either p q ts) ∙ or_both (p t) (q t) (list_any p ts) (list_any q ts)

pub any_blocked : (ts : List Task)
    → list_any (λ (t : Task). is_some (wait_of t.status)) ts
    || list_any (λ (t : Task). is_some (event_wait t.status)) ts || list_any (λ (t : Task). can_resume t.status) ts
    ≡ list_any is_blocked ts
any_blocked ts =
    ap (λ (b : Bool). b || list_any (λ (t : Task). can_resume t.status) ts)
    (sym (any_either (λ (t : Task). is_some (wait_of t.status)) (λ (t : Task). is_some (event_wait t.status)) ts))
    ∙ sym (any_either (λ (t : Task). is_some (wait_of t.status) || is_some (event_wait t.status))
    (λ (t : Task). can_resume t.status) ts)

-- there is one
pub some_of : (o : Option ℕ) → is_some o ≡ true → (task : ℕ) × (o ≡ Some task)
some_of None e = absurd (cc)
some_of (Some task) e = (task, refl)

-- one of three answers
pub any_first : (a b c x : Bool) → (a || b || c) ≡ x → a ≡ true → true ≡ x
any_first true b c x e t = e
any_first false b c x e t = absurd (cc)

pub any_second : (a b c x : Bool) → (a || b || c) ≡ x → a ≡ false → b ≡ true → true ≡ x
any_second true b c x e t u = absurd (cc)
any_second false true c x e t u = e
any_second false false c x e t u = absurd (cc)

-- .. of four
pub over_first : (a b c d : Bool) → a ≡ true → true ≡ a || b || c || d
over_first true b c d t = refl
over_first false b c d t = absurd (cc)

pub over_second : (a b c d : Bool) → a ≡ false → b ≡ true → true ≡ a || b || c || d
over_second true b c d t u = absurd (cc)
over_second false true c d t u = refl
over_second false false c d t u = absurd (cc)

pub over_third : (a b c d : Bool) → a ≡ false → b ≡ false → c ≡ true → true ≡ a || b || c || d
over_third true b c d t u v = absurd (cc)
over_third false true c d t u v = absurd (cc)
over_third false false true d t u v = refl
over_third false false false d t u v = absurd (cc)

pub over_fourth : (a b c d : Bool) → a ≡ false → b ≡ false → c ≡ false → d ≡ a || b || c || d
over_fourth a b c d t u v = rw (t, u, v) refl

-- the third, where the last isn't
pub third_only : (a b c d : Bool) → a ≡ false → b ≡ false → d ≡ false → c ≡ a || b || c || d
third_only a b true d t u v = rw (t, u) refl
third_only a b false d t u v = rw (t, u, v) refl

pub any_third : (a b c x : Bool) → (a || b || c) ≡ x → a ≡ false → b ≡ false → c ≡ x
any_third true b c x e t u = absurd (cc)
any_third false true c x e t u = absurd (cc)
any_third false false c x e t u = e
