-- Between two steps the running task is Ready, and idle runs only where no task is.
use Rattle.std.proofs.Common.{◌≡◌, ℕ, zero, suc, true, false, not, ltb, ◌||◌, List, [], ◌∷◌, Option, Some, None, refl, ap, ap₂, sym}
use Rattle.std.proofs.Common.{subst, ◌∙◌}
use Rattle.std.specs.List.{AllByRecursion}
use Rattle.std.specs.Prelude.{Bool, if◌then◌else◌}
use Rattle.std.specs.Option.{IfSome, is_some, option_map}
use Rattle.model.specs.Application.{Application, Limits}
use Rattle.model.specs.State.{State, Status, Ready, Awake, Waiting, Asleep, WaitingForBits, WaitingForNotification, Suspended}
use Rattle.model.specs.State.{Ended, ticket_if_ready, task_at, for_one}
use Rattle.model.specs.Order.{Key, Entry, key, first, task_of}
use Rattle.model.specs.Switching.{ready_key, ready_list, is_ready, to_back, choice, is_same, choose, dispatch, yield_now}
use Rattle.model.specs.Switching.{is_outranked, is_sharing, preempt, slice, is_off, settle, is_held, is_held_by_task, unless_held}
use Rattle.model.specs.Switching.{is_scheduler_suspended, is_critical, holds_ticks}
use Rattle.model.specs.Invariant.{Hold, hold_of, Suspension, suspension_of}
use Rattle.model.specs.declared.plan.Injection.{Injection}
use Rattle.model.specs.Step.{act_current, before_step, step, ready_at_reset, reset}
use Rattle.model.specs.Run.{injected, state_after}
use Rattle.model.proofs.Sorting.{by_test}
use Rattle.model.proofs.Lists.{HasKey, list_has}
use Rattle.model.proofs.Chosen.{same_eq}

abbrev pub IsSettled : State → Type 0
IsSettled s = IfSome s.current (λ task. is_ready s task ≡ true)

pub keyed_ready : (priority : ℕ) (u : Status) (k : Key)
    → option_map (key priority) (ticket_if_ready u) ≡ Some k → is_some (ticket_if_ready u) ≡ true
keyed_ready priority (Ready n) k e = refl
keyed_ready priority (Awake w) k e = absurd (cc)
keyed_ready priority (Waiting w) k e = absurd (cc)
keyed_ready priority (Asleep w n) k e = absurd (cc)
keyed_ready priority (WaitingForBits g m d) k e = absurd (cc)
keyed_ready priority (WaitingForNotification m d) k e = absurd (cc)
keyed_ready priority Suspended k e = absurd (cc)
keyed_ready priority Ended k e = absurd (cc)

first_ready : (s : State) (es : List Entry) → AllByRecursion (HasKey ready_key s.tasks) es
    → IfSome (task_of (first es)) (λ task. is_ready s task ≡ true)
first_ready s [] h = tt
first_ready s (e ∷ es) h = keyed_ready (task_at s e.task).priority (task_at s e.task).status e.key h.0.key

choice_ready : (s : State) → IfSome (choice s) (λ task. is_ready s task ≡ true)
choice_ready s = first_ready s (ready_list s) (list_has ready_key s.tasks)

settled-choose : (s : State) → IsSettled (choose s)
unfolding choose dispatch
settled-choose s = by_test (is_same (choice s) s.current)
    (λ t. let L : Option ℕ → Type 0 = λ o. IfSome o (λ task. is_ready s task ≡ true) in
    rw t (subst L (same_eq (choice s) s.current t) (choice_ready s)))
    (λ t. rw t (choice_ready s))

still_on : (s : State) (r : Option ℕ) → is_off s r ≡ false → IfSome r (λ task. is_ready s task ≡ true)
still_on s None t = tt
still_on s (Some i) t = by_test (is_ready s i) (λ u. u) (λ u. let w : not false ≡ false = rw u at t in absurd (cc))

pub settled-settle : (s : State) → IsSettled (settle s)
unfolding settle
settled-settle s = by_test (is_off s s.current)
    (λ t. rw t (settled-choose s))
    (λ t. rw t (still_on s s.current t))

pub settled-preempt : (s : State) → IsSettled s → IsSettled (preempt s)
unfolding preempt yield_now
settled-preempt s h = by_test (is_outranked s)
    (λ t. rw t (settled-choose (for_one to_back s.current s)))
    (λ t. rw t h)

pub settled-slice : (s : State) → IsSettled s → IsSettled (slice s)
unfolding slice yield_now
settled-slice s h = by_test (is_outranked s || is_sharing s)
    (λ t. rw t (settled-choose (for_one to_back s.current s)))
    (λ t. rw t h)

-- ---- whether the scheduler is held

if_true : {A : Type 0} (b : Bool) (x y : A) → b ≡ true → (if b then x else y) ≡ x
if_true b x y e = rw e refl

if_false : {A : Type 0} (b : Bool) (x y : A) → b ≡ false → (if b then x else y) ≡ y
if_false b x y e = rw e refl

pub when_held : (deed : State → State) (s : State) → is_held s ≡ true → unless_held deed s ≡ s
when_held deed s held = if_true (is_held s) s (deed s) held

pub when_free : (deed : State → State) (s : State) → is_held s ≡ false → unless_held deed s ≡ deed s
when_free deed s free = if_false (is_held s) s (deed s) free

-- A call that holds the scheduler holds it.
pub held_by_call : (s : State) → s.call_hold ≡ true → is_held s ≡ true
held_by_call s held = rw held refl

-- Where no call does, no `suspend_all` is in force, and no critical section is open, nothing holds it.
pub held_by_none : (s : State) → s.call_hold ≡ false → s.suspensions ≡ 0 → s.sections ≡ 0 → is_held s ≡ false
held_by_none s free none closed = rw (free, none, closed) refl

pub unlike : {A : Type 0} → true ≡ false → A
unlike e = absurd (cc)

-- whether it is held, by what holds it
abbrev held_by : Hold → Suspension → Bool
held_by hold x = (hold.held || ltb 0 x.suspensions) || ltb 0 x.sections

-- Where the same holds it, it is held as it was.
pub held_as_it_was : (s t : State) → hold_of t ≡ hold_of s → suspension_of t ≡ suspension_of s → is_held t ≡ is_held s
held_as_it_was s t hold suspension = ap₂ held_by hold suspension

-- Where it isn't held, no call holds it, no `suspend_all` is in force, and no section is open.
pub nothing_holds : (s : State) → is_held s ≡ false
    → (s.call_hold ≡ false) × (is_scheduler_suspended s ≡ false) × (is_critical s ≡ false)
nothing_holds s = by_three s.call_hold (is_scheduler_suspended s) (is_critical s) where
  by_three : (a b c : Bool) → ((a || b) || c) ≡ false → (a ≡ false) × (b ≡ false) × (c ≡ false)
  by_three false false false e = (refl, refl, refl)
  by_three false false true e = absurd (cc)
  by_three false true c e = absurd (cc)
  by_three true b c e = absurd (cc)

-- whether ticks are held, by what holds the scheduler
abbrev ticks_held_by : Hold → Suspension → Bool
ticks_held_by hold x = hold.held || ltb 0 x.suspensions

-- Where the same holds it, they are held as they were.
pub ticks_as_they_were : (s t : State) → hold_of t ≡ hold_of s → suspension_of t ≡ suspension_of s → holds_ticks t ≡ holds_ticks s
ticks_as_they_were s t hold suspension = ap₂ ticks_held_by hold suspension

-- A call that holds the scheduler holds ticks, and so does a `suspend_all`.
pub ticks_held_by_call : (s : State) → s.call_hold ≡ true → holds_ticks s ≡ true
ticks_held_by_call s held = rw held refl

pub ticks_held_by_task : (s : State) → is_scheduler_suspended s ≡ true → holds_ticks s ≡ true
ticks_held_by_task s = by_two s.call_hold (is_scheduler_suspended s) where
  by_two : (a b : Bool) → b ≡ true → (a || b) ≡ true
  by_two true b e = refl
  by_two false b e = e

-- Where neither does, none are held, and where none are, neither does.
pub ticks_free : (s : State) → s.call_hold ≡ false → is_scheduler_suspended s ≡ false → holds_ticks s ≡ false
ticks_free s none off = rw none off

pub nothing_holds_ticks : (s : State) → holds_ticks s ≡ false → (s.call_hold ≡ false) × (is_scheduler_suspended s ≡ false)
nothing_holds_ticks s = by_two s.call_hold (is_scheduler_suspended s) where
  by_two : (a b : Bool) → (a || b) ≡ false → (a ≡ false) × (b ≡ false)
  by_two true b e = absurd (cc)
  by_two false b e = (refl, e)

-- A task that holds the scheduler holds it, and where none does, and no call, nothing holds it.
pub held_by_task : (s : State) → is_held_by_task s ≡ true → is_held s ≡ true
held_by_task s = by_three s.call_hold (is_scheduler_suspended s) (is_critical s) where
  by_three : (a b c : Bool) → (b || c) ≡ true → ((a || b) || c) ≡ true
  by_three true b c e = refl
  by_three false true c e = refl
  by_three false false c e = e

pub held_by_neither : (s : State) → s.call_hold ≡ false → is_held_by_task s ≡ false → is_held s ≡ false
held_by_neither s = by_three s.call_hold (is_scheduler_suspended s) (is_critical s) where
  by_three : (a b c : Bool) → a ≡ false → (b || c) ≡ false → ((a || b) || c) ≡ false
  by_three true b c e f = absurd (cc)
  by_three false true c e f = absurd (cc)
  by_three false false c e f = f

pub no_task_holds : (s : State) → is_held s ≡ false → is_held_by_task s ≡ false
no_task_holds s free = let none = nothing_holds s free in ap₂ (λ a b. a || b) none.1 none.2

-- A task that doesn't hold the scheduler holds it by neither.
pub neither : (s : State) → is_held_by_task s ≡ false → (is_scheduler_suspended s ≡ false) × (is_critical s ≡ false)
neither s = by_two (is_scheduler_suspended s) (is_critical s) where
  by_two : (a b : Bool) → (a || b) ≡ false → (a ≡ false) × (b ≡ false)
  by_two true b e = absurd (cc)
  by_two false b e = (refl, e)

-- and one that does holds it by a `suspend_all`, where no critical section is open
pub by_suspending : (s : State) → is_held_by_task s ≡ true → is_critical s ≡ false → is_scheduler_suspended s ≡ true
by_suspending s = by_two (is_scheduler_suspended s) (is_critical s) where
  by_two : (a b : Bool) → (a || b) ≡ true → b ≡ false → a ≡ true
  by_two true b e f = refl
  by_two false true e f = absurd (cc)
  by_two false false e f = absurd (cc)

pub section_holds : (s : State) → is_critical s ≡ true → is_held_by_task s ≡ true
section_holds s = by_two (is_scheduler_suspended s) (is_critical s) where
  by_two : (a b : Bool) → b ≡ true → (a || b) ≡ true
  by_two true b e = refl
  by_two false b e = e

pub by_section : (s : State) → is_held_by_task s ≡ true → is_scheduler_suspended s ≡ false → is_critical s ≡ true
by_section s = by_two (is_scheduler_suspended s) (is_critical s) where
  by_two : (a b : Bool) → (a || b) ≡ true → a ≡ false → b ≡ true
  by_two true b e f = absurd (cc)
  by_two false b e f = e

-- where it isn't held
pub settled-step : (app : Application) (limits : Limits) (handlers : List ℕ) (s : State)
    → is_held (step app limits handlers s) ≡ false → IsSettled (step app limits handlers s)
unfolding step
settled-step app limits handlers s free = by_test (is_held t)
    (λ held.
    let same : is_held (unless_held settle t) ≡ is_held t = ap is_held (when_held settle t held) in
    unlike (sym held ∙ sym same ∙ free))
    (λ none. subst IsSettled (sym (when_free settle t none)) (settled-settle t)) where
      t : State
      t = let r : State = before_step app handlers s in act_current app limits r.current r

pub settled-reset : (app : Application) → IsSettled (reset app)
unfolding reset
settled-reset app = choice_ready (ready_at_reset app)

pub settled_after : (app : Application) (limits : Limits) (plan : List Injection) (n : ℕ)
    → is_held (state_after app limits plan n) ≡ false → IsSettled (state_after app limits plan n)
settled_after app limits plan zero free = settled-reset app
settled_after app limits plan (suc n) free = settled-step app limits (injected plan n) (state_after app limits plan n) free
