-- Who runs: what changes of the processor make of the states that the kernel represents.
use Rattle.std.proofs.Common.{◌≡◌, ◌<◌, ℕ, Bool, true, false, not, cond, ◌||◌, List, [], ◌∷◌, ◌++◌, length, Option, Some, None}
use Rattle.std.proofs.Common.{refl, ap, sym, subst, ◌∙◌, append-nil}
use Rattle.std.specs.Prelude.{nat_lt}
use Rattle.std.specs.Option.{IfSome}
use Rattle.std.proofs.lemmas.Option.{same_Some}
use Rattle.model.specs.declared.call.WaitList.{WaitList}
use Rattle.model.specs.declared.event.Event.{Event}
use Rattle.model.specs.declared.event.What.TheVariants as what
use Rattle.model.specs.State.{State, printed, for_one}
use Rattle.model.specs.Switching.{choice, dispatch, choose, yield_now, to_back, make_ready, is_ready, is_outranked, is_sharing}
use Rattle.model.specs.Switching.{is_same, preempt, slice, settle, is_off, is_held, unless_held, write}
use Rattle.model.specs.Invariant.{IsTable}
use Rattle.model.proofs.Sorting.{by_test}
use Rattle.model.proofs.Lists.{eqb-refl}
use Rattle.soundness.proofs.Settled.{when_held, when_free, held_by_call}
use Rattle.sched.specs.StandsFor as sched
use Rattle.sched.specs.Schedule as schedule
use Rattle.sched.specs.Schedule.{Schedule}
use Rattle.sched.proofs.LinedUp.{ready_if_listed}
use Rattle.sched.proofs.Standing.{held_by_depth}
use Rattle.machine.specs.declared.machine.Machine.{Machine}
use Rattle.machine.specs.StandsFor.{RestStandsFor, StandsFor, StandsBefore, At, AtAny, change}
use Rattle.machine.proofs.Parts.{rest_again, rest_unseen, rest-made_ready}

-- The scheduler isn't held if its depth is 0.
pub unheld_by : (v : Schedule) (s : State) → sched.StandsFor v s → v.depth ≡ 0 → is_held s ≡ false
unheld_by v s h z = held_by_depth s ∙ ap (λ (n : ℕ). nat_lt 0 n) (sym h.depth ∙ z)

same_self : (r : Option ℕ) → is_same r r ≡ true
same_self None = refl
same_self (Some i) = eqb-refl i

same_runs : (s : State) → change s.steps s.time s.current s.current ≡ []
same_runs s = rw same_self refl

-- What a switch reports: which task runs, if that is a change.
abbrev Tells : State → State → Type 0
Tells s new = new.log ≡ s.log ++ change s.steps s.time s.current new.current

log-choose : (s : State) → Tells s (choose s)
unfolding choose dispatch
log-choose s = by_test (is_same (choice s) s.current)
    (λ t. rw t (sym (append-nil s.log) ∙ ap (λ l. s.log ++ l) (sym (same_runs s))))
    (λ t. rw (t, t) refl)

log-yield_now : (s : State) → Tells s (yield_now s)
unfolding yield_now to_back
log-yield_now s = by_current s.current refl where
  by_back : (b : State) → b.log ≡ s.log → b.steps ≡ s.steps → b.time ≡ s.time → b.current ≡ s.current → Tells s (choose b)
  by_back b l n t c =
      let T : List Event → ℕ → ℕ → Option ℕ → Type 0 = λ l n t c. (choose b).log ≡ l ++ change n t c (choose b).current in
      subst (λ c. T s.log s.steps s.time c) c
      (subst (λ t. T s.log s.steps t b.current) t
      (subst (λ n. T s.log n b.time b.current) n
      (subst (λ l. T l b.steps b.time b.current) l (log-choose b))))

  by_current : (o : Option ℕ) → s.current ≡ o → Tells s (choose (for_one to_back o s))
  by_current None e = log-choose s
  by_current (Some i) e = by_test (is_ready s i)
      (λ t. rw t (by_back (make_ready i s) refl refl refl refl))
      (λ t. rw t (log-choose s))

log-slice : (s : State) → Tells s (slice s)
unfolding slice
log-slice s = by_test (is_outranked s || is_sharing s)
    (λ t. rw t (log-yield_now s))
    (λ t. rw t (sym (append-nil s.log) ∙ ap (λ l. s.log ++ l) (sym (same_runs s))))

log-preempt : (s : State) → Tells s (preempt s)
unfolding preempt
log-preempt s = by_test (is_outranked s)
    (λ t. rw t (log-yield_now s))
    (λ t. rw t (sym (append-nil s.log) ∙ ap (λ l. s.log ++ l) (sym (same_runs s))))

-- If no task is above the running one, nothing is reported.
pub none_above : (v new : Schedule) → new ≡ schedule.preempt v → schedule.is_outranked v ≡ false → new.current ≡ v.current
none_above v new is none = ap (λ (w : Schedule). w.current) is ∙ rw none refl

-- Likewise at the end of a tick, if no other of its priority is Ready either.
pub none_in_turn : (v new : Schedule) → new ≡ schedule.slice v
    → schedule.is_outranked v || schedule.is_sharing v ≡ false → new.current ≡ v.current
none_in_turn v new is none = ap (λ (w : Schedule). w.current) is ∙ rw none refl

pub nothing_told : (log : List Event) (step time : ℕ) (before now : Option ℕ)
    → now ≡ before → log ≡ log ++ change step time before now
nothing_told log step time before now e = rw (e, same_self before) (sym (append-nil log))

-- all but the scheduler is as it was

rest-choose : (k : Machine) (s : State) → RestStandsFor k s → IsTable (choose s) → RestStandsFor k (choose s)
unfolding choose dispatch
rest-choose k s h table = by_test (is_same (choice s) s.current)
    (λ t. rw t h)
    (λ t. let ordered : IsTable (write (what.Run (choice s)) (record s { current = choice s })) = rw t at table in
    rw t (rest_unseen h ordered refl h.sections h.steps h.stopped))

rest-back : (k : Machine) (s : State) (r : Option ℕ) → StandsFor k s
    → IfSome r (λ i. i < length s.tasks) → RestStandsFor k (for_one to_back r s)
unfolding to_back
rest-back k s None h l = h.rest
rest-back k s (Some i) h l = by_test (is_ready s i) (λ t. rw t (rest-made_ready k s h i l t)) (λ t. rw t h.rest)

rest-yield_now : (k : Machine) (s : State) → StandsFor k s → IsTable (yield_now s) → RestStandsFor k (yield_now s)
unfolding yield_now
rest-yield_now k s h table = rest-choose k (for_one to_back s.current s) (rest-back k s s.current h h.sched.table.current) table

rest-slice : (k : Machine) (s : State) → StandsFor k s → IsTable (slice s) → RestStandsFor k (slice s)
unfolding slice
rest-slice k s h table = by_test (is_outranked s || is_sharing s)
    (λ t. rw t (rest-yield_now k s h (rw t at table)))
    (λ t. rw t h.rest)

rest-preempt : (k : Machine) (s : State) → StandsFor k s → IsTable (preempt s) → RestStandsFor k (preempt s)
unfolding preempt
rest-preempt k s h table = by_test (is_outranked s)
    (λ t. rw t (rest-yield_now k s h (rw t at table)))
    (λ t. rw t h.rest)

-- The scheduler has changed, and the event that reports it is written.
module _ (k : Machine) (log new_log : List Event) (s : State) (v : Schedule) (before : Option ℕ) (h : At k log s)
    (b : before ≡ k.sched.current) (told : new_log ≡ log ++ change k.steps k.clock.now before v.current) where
  changed : (new : State) → sched.StandsFor v new → RestStandsFor k new → Tells s new → At (record k { sched = v }) new_log new
  changed new on rest tells = record {
    stands = record { sched = on; rest = rest_again rest rest.clock rest.objects rest.groups };
    log = told ∙ rw (h.log, b, h.stands.sched.current, h.stands.rest.steps, h.stands.rest.clock.now, on.current) (sym tells);
  }

  pub chose : sched.StandsFor v (choose s) → At (record k { sched = v }) new_log (choose s)
  chose on = changed (choose s) on (rest-choose k s h.stands.rest on.table) (log-choose s)

  pub yielded : sched.StandsFor v (yield_now s) → At (record k { sched = v }) new_log (yield_now s)
  yielded on = changed (yield_now s) on (rest-yield_now k s h.stands on.table) (log-yield_now s)

  pub preempted : sched.StandsFor v (preempt s) → At (record k { sched = v }) new_log (preempt s)
  preempted on = changed (preempt s) on (rest-preempt k s h.stands on.table) (log-preempt s)

  pub sliced : sched.StandsFor v (slice s) → At (record k { sched = v }) new_log (slice s)
  sliced on = changed (slice s) on (rest-slice k s h.stands on.table) (log-slice s)

-- The step ends.
module _ (k : Machine) (log : List Event) (s : State) (h : At k log s) where
  pub settled_off : (i : ℕ) (new : Machine) (new_log : List Event) → s.current ≡ Some i
      → is_ready s i ≡ false → At new new_log (choose s) → At new new_log (settle s)
  unfolding settle
  settled_off i new new_log r t a =
      let Q : Option ℕ → Type 0 = λ o. At new new_log (cond (is_off s o) (choose s) s) in
      subst Q (sym r) (rw t a)

  pub settled_on : (i : ℕ) → s.current ≡ Some i → is_ready s i ≡ true → At k log (settle s)
  unfolding settle
  settled_on i r t = let Q : Option ℕ → Type 0 = λ o. At k log (cond (is_off s o) (choose s) s) in subst Q (sym r) (rw t h)

  pub settled_idle : s.current ≡ None → At k log (settle s)
  unfolding settle
  settled_idle r = let Q : Option ℕ → Type 0 = λ o. At k log (cond (is_off s o) (choose s) s) in subst Q (sym r) h

-- The event that reports who runs is written, or there is no change to report.
pub change_told : (n t : ℕ) (before now current : Option ℕ) → now ≡ current → is_same now before ≡ false
    → record { step = n; tick = printed t; what = what.Run now } ∷ [] ≡ change n t before current
change_told n t before now current e q = rw (← e, q) refl

pub change_none : (n t : ℕ) (before now current : Option ℕ) → now ≡ current
    → is_same now before ≡ true → change n t before current ≡ []
change_none n t before now current e q = rw (← e, q) refl

pub not_true : (b : Bool) → not b ≡ true → b ≡ false
not_true true t = absurd (cc)
not_true false t = refl

pub not_false : (b : Bool) → not b ≡ false → b ≡ true
not_false true t = refl
not_false false t = absurd (cc)

-- ---- whether the scheduler is held

pub settled_free : (k : Machine) (log : List Event) (s : State)
    → is_held s ≡ false → At k log (settle s) → At k log (unless_held settle s)
settled_free k log s none a = subst (At k log) (sym (when_free settle s none)) a

pub settled_held : (k : Machine) (log : List Event) (s : State) → is_held s ≡ true → At k log s → At k log (unless_held settle s)
settled_held k log s held a = subst (At k log) (sym (when_held settle s held)) a

pub sliced_free : (k : Machine) (log : List Event) (s : State)
    → is_held s ≡ false → At k log (slice s) → At k log (unless_held slice s)
sliced_free k log s none a = subst (At k log) (sym (when_free slice s none)) a

-- If it represents both the state and the settled one, it doesn't matter whether the scheduler is held.
pub settled_either : (k : Machine) (log : List Event) (s : State)
    → At k log s → At k log (settle s) → At k log (unless_held settle s)
settled_either k log s held free = by_test (is_held s) (λ t. settled_held k log s t held) (λ t. settled_free k log s t free)

-- While a task is still to be placed the scheduler is held, and nothing switches.
pub settled_before : (k : Machine) (log : List Event) (s : State) → AtAny k log s
    → (task : ℕ) (list : WaitList) → StandsBefore task list k s → AtAny k log (unless_held settle s)
settled_before k log s h task list b = subst (AtAny k log) (sym (when_held settle s (held_by_call s b.held))) h

runs_before : (k : Machine) (s : State) (task i : ℕ) (list : WaitList)
    → StandsBefore task list k s → k.sched.current ≡ Some i → task ≡ i
runs_before k s task i list b r = same_Some task i (sym b.current ∙ sym b.sched.current ∙ r)

-- It is Ready in the scheduler, and it runs.
pub ready_before : (k : Machine) (s : State) (task i : ℕ) (list : WaitList)
    → StandsBefore task list k s → k.sched.current ≡ Some i → schedule.is_ready k.sched i ≡ true
ready_before k s task i list b r =
    subst (λ (j : ℕ). schedule.is_ready k.sched j ≡ true)
    (runs_before k s task i list b r) (ready_if_listed task k.sched b.sched.still)
