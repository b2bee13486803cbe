-- A run, step by step.
use Rattle.std.proofs.Common.{◌+◌, ◌≡◌, ◌≢◌, ◌<◌, ◌≤◌, ℕ, zero, suc, true, false, eqb, leb, List, [], ◌++◌, Option, Some, None}
use Rattle.std.proofs.Common.{refl, ap, sym, subst, ◌∙◌, arith, drop, length, length-append, append-nil}
use Rattle.std.proofs.lemmas.List.{append_assoc, drop-append-le}
use Rattle.std.proofs.lemmas.Bool.Decides.{nat_tests}
use Rattle.model.proofs.Sorting.{by_test}
use Rattle.model.proofs.Lists.{eqb-refl, eqb-same}
use Rattle.model.specs.declared.event.Event.{Event}
use Rattle.model.specs.declared.op.Op.{Op}
use Rattle.model.specs.Application.{Application, Limits, op_at}
use Rattle.model.specs.Scripts.{AreLimits, IsWellFormed}
use Rattle.model.specs.State.{State, Progress, progress_at}
use Rattle.model.specs.Step.{act_unless, misuse, act_if, act_current, step}
use Rattle.model.specs.declared.plan.Injection.{Injection}
use Rattle.model.specs.Run.{Run, IsRun, end_of, injected, state_after, events_after}
use Rattle.model.proofs.Injected.{from_one_more, goes_on_with, no_fewer}
use Rattle.soundness.proofs.Coming.{ticks_before}
use Rattle.soundness.proofs.Moving.{moves-step}
use Rattle.soundness.proofs.Pending.{no_ticks_before, none_between}
use Rattle.model.specs.Invariant.{IsNonePending}
use Rattle.machine.proofs.Pending.{none_by}
use Rattle.machine.specs.declared.machine.Machine.{Machine}
use Rattle.machine.specs.Logged.{Logged, all_of}
use Rattle.machine.specs.StandsFor.{Stands, AtAny, DoesAny, progress_in}
use Rattle.kernel.specs.Can.{CanStep}
use Rattle.machine.specs.Can.{IsUnderWay, NonePends}
use Rattle.kernel.specs.Rows.{Extends, events_from}
use Rattle.kernel.specs.Over.{is_over}
use Rattle.machine.proofs.Either.{steps_are, elapsed_is, current_is, progress_is}
use Rattle.soundness.proofs.Reached.{reached_after, task_holds_after}
use Rattle.kernel.proofs.Holds.{below_limits}
use Rattle.machine.proofs.Booting.{steps-reset}
use Rattle.kernel.proofs.Ending.{before_tick_limit, goes_if_not_over, not_over_if_going}
use Rattle.kernel.proofs.Ended.{leb-less}

leb-le : (a b : ℕ) → leb a b ≡ true → a ≤ b
leb-le a b e = grind (arith, nat_tests)

-- ---- the running task does its op

module _ (app : Application) (limits : Limits) (k : Machine) (task : ℕ) (runs : k.sched.current ≡ Some task) where
  its_op : (s : State) → Stands k s → (o : Option Op) → op_at app task (progress_in k.progress task).op_index ≡ o
      → act_current app limits s.current s ≡ act_if app task o s
  its_op s h o at =
      let current : s.current ≡ Some task = sym (current_is k s h) ∙ runs in
      let op : op_at app task (progress_at s task).op_index ≡ o =
      ap (λ (p : Progress). op_at app task p.op_index) (sym (progress_is k s h task)) ∙ at in
      ap (λ c. act_current app limits c s) current ∙ ap (λ o. act_if app task o s) op

  pub acts : (op : Op) → op_at app task (progress_in k.progress task).op_index ≡ Some op
      → (new : Machine) (old_log new_log : Logged)
      → DoesAny 337 k old_log new new_log (λ s. act_unless app task (misuse s task op) op s)
      → DoesAny 337 k old_log new new_log (λ s. act_current app limits s.current s)
  acts op at new old_log new_log does = record {
    at = λ s h. subst (AtAny new new_log.told) (sym (its_op s h.stands (Some op) at)) (does.at s h);
    few = does.few;
    before = does.before;
  }

  -- it has none
  pub rests : op_at app task (progress_in k.progress task).op_index ≡ None
      → (log : Logged) → DoesAny 337 k log k log (λ s. act_current app limits s.current s)
  rests at log = record {
    at = λ s h. subst (AtAny k log.told) (sym (its_op s h.stands None at)) h;
    few = omega arith;
    before = refl;
  }

-- a log after a step: what it had before, and what the step reports
pub told_after : (log : Logged) (before told : List Event) → log.before ≡ before → log.told ≡ told → all_of log ≡ before ++ told
told_after log before told e f = rw (e, f) refl

-- ---- from step to step

-- the steps that are done
steps_after : (app : Application) (limits : Limits) (plan : List Injection) (n : ℕ) → (state_after app limits plan n).steps ≡ n
unfolding step
steps_after app limits plan zero = steps-reset app
steps_after app limits plan (suc n) = let e = steps_after app limits plan n in omega arith

-- the events from reset on, in a trail that had none
pub events_from_reset : (app : Application) (limits : Limits) (plan : List Injection) (first next : ℕ) → first ≡ 0 → (log : Logged)
    → log.before ≡ [] → log.told ≡ [] → all_of log ++ events_from app limits plan first next ≡ events_after app limits plan next
events_from_reset app limits plan first next z log before told = rw (before, told, z) refl

module _ (app : Application) (formed : IsWellFormed app) (plan : List Injection) (limits : Limits)
    (are : AreLimits limits.ticks limits.steps) (k : Machine) (h : IsUnderWay app plan limits k)
    (on : end_of app limits (state_after app limits plan k.steps) ≡ None) where
  pub can_step : CanStep app limits k
  can_step = record {
    state = state_after app limits plan k.steps;
    stands = h.stands;
    sound = reached_after app formed limits plan k.steps;
    suspended =
        (let few = task_holds_after app formed limits plan k.steps in let e = steps_after app limits plan k.steps in omega arith);
    are = are;
    goes_on = on;
  }

  pub steps_below : k.steps < limits.steps
  steps_below =
      let e = steps_are k (state_after app limits plan k.steps) h.stands in
      let l = (below_limits app limits (state_after app limits plan k.steps) on).1 in
      omega arith

  -- one step more
  module _ (next : Machine) (stands : (s : State) → Stands k s → Stands next (step app limits (injected plan k.steps) s)) where
    pub steps_more : next.steps ≡ suc k.steps
    unfolding step
    steps_more =
        let e =
        steps_are next (step app limits (injected plan k.steps) (state_after app limits plan k.steps))
        (stands (state_after app limits plan k.steps) h.stands) in
        let f = steps_are k (state_after app limits plan k.steps) h.stands in
        omega arith

    by_last : (n : ℕ) → n < suc k.steps → end_of app limits (state_after app limits plan n) ≡ None
    by_last n l = by_test (eqb n k.steps)
        (λ t. let same : n ≡ k.steps = eqb-same n k.steps t in rw same on)
        (λ t.
        h.goes_on n
        (let apart : n ≢ k.steps = (λ q. let w : eqb n k.steps ≡ true = rw q (eqb-refl k.steps) in absurd (cc)) in omega arith))

    pub goes_on : IsUnderWay app plan limits next
    goes_on = record {
      stands =
          let Q : ℕ → Type 0 = λ n. Stands next (state_after app limits plan n) in
          subst Q (sym steps_more) (stands (state_after app limits plan k.steps) h.stands);
      goes_on = λ n l. let m : n < suc k.steps = rw steps_more at l in by_last n m;
    }

    -- and its events, from any step before
    pub more_events : (from : ℕ) → from ≤ k.steps → (first events all : List Event)
        → events ≡ first ++ events_from app limits plan from k.steps
        → all ≡ events ++ (step app limits (injected plan k.steps) (state_after app limits plan k.steps)).log
        → all ≡ first ++ events_from app limits plan from next.steps
    more_events from l first events all e g =
        let log : List Event = (state_after app limits plan (suc k.steps)).log in
        g
        ∙ ap (λ (es : List Event). es ++ log) e
        ∙ append_assoc first (events_from app limits plan from k.steps) log
        ∙ ap (λ (es : List Event). first ++ es) (sym (from_one_more app limits plan from k.steps l))
        ∙ ap (λ (n : ℕ). first ++ events_from app limits plan from n) (sym steps_more)

    -- and how many they are
    pub more_counted : (told : List Event)
        → told ≡ (step app limits (injected plan k.steps) (state_after app limits plan k.steps)).log
        → length (events_after app limits plan next.steps) ≡ length (events_after app limits plan k.steps) + length told
    more_counted told e =
        rw (steps_more, e) (length-append (events_after app limits plan k.steps)
        (step app limits (injected plan k.steps) (state_after app limits plan k.steps)).log)

    -- where the step reports something, so has the run
    pub told_more : 0 < length (step app limits (injected plan k.steps) (state_after app limits plan k.steps)).log
        → 0 < length (events_after app limits plan next.steps)
    told_more one =
        rw steps_more (omega (
          arith,
          length-append (events_after app limits plan k.steps)
              (step app limits (injected plan k.steps) (state_after app limits plan k.steps)).log,
        ))

-- ---- steps that reported nothing

module _ (app : Application) (limits : Limits) (plan : List Injection)
    (n m : ℕ) (l : n ≤ m) (silent : events_from app limits plan n m ≡ []) where
  pub same_events : events_after app limits plan m ≡ events_after app limits plan n
  same_events =
      sym (goes_on_with app limits plan n m l) ∙ ap (λ (es : List Event). events_after app limits plan n ++ es) silent
      ∙ append-nil (events_after app limits plan n)

-- Where a run goes on, it has come less far than the limit of steps.
pub steps_under : (app : Application) (plan : List Injection) (limits : Limits) (n : ℕ)
    → end_of app limits (state_after app limits plan n) ≡ None → n < limits.steps
steps_under app plan limits n on =
    let low = (below_limits app limits (state_after app limits plan n) on).1 in
    let done = steps_after app limits plan n in
    omega arith

-- and its steps
steps_by : (app : Application) (plan : List Injection) (limits : Limits) → AreLimits limits.ticks limits.steps
    → (n : ℕ) → ((m : ℕ) → m < n → end_of app limits (state_after app limits plan m) ≡ None) → n ≤ 1000000
steps_by app plan limits are zero g = omega arith
steps_by app plan limits are (suc n) g =
    let low = steps_under app plan limits n (g n (omega arith)) in
    let most = are.3 in
    omega arith

pub steps_low : (app : Application) (plan : List Injection) (limits : Limits)
    → AreLimits limits.ticks limits.steps → (k : Machine) → IsUnderWay app plan limits k → k.steps ≤ 1000000
steps_low app plan limits are k h = steps_by app plan limits are k.steps h.goes_on

-- ---- some steps, and then others

more_from_first : (app : Application) (limits : Limits) (plan : List Injection) (first n m : ℕ) → first ≤ n → n ≤ m
    → events_from app limits plan first m ≡ events_from app limits plan first n ++ events_from app limits plan n m
more_from_first app limits plan first n m l le =
    ap (λ (es : List Event). drop (length (events_after app limits plan first)) es) (sym (goes_on_with app limits plan n m le))
    ∙ drop-append-le (length (events_after app limits plan first)) (events_after app limits plan n)
    (events_from app limits plan n m) (no_fewer app limits plan first n l)

pub more_from : (app : Application) (limits : Limits) (plan : List Injection) (first n m : ℕ) → first ≤ n
    → n ≤ m → (begin events all : List Event) → events ≡ begin ++ events_from app limits plan first n
    → all ≡ events ++ events_from app limits plan n m → all ≡ begin ++ events_from app limits plan first m
more_from app limits plan first n m l le begin events all e g =
    g
    ∙ ap (λ (es : List Event). es ++ events_from app limits plan n m) e
    ∙ append_assoc begin (events_from app limits plan first n) (events_from app limits plan n m)
    ∙ ap (λ (es : List Event). begin ++ es) (sym (more_from_first app limits plan first n m l le))

pub extends_on : (begin events all more : List Event) → events ≡ begin ++ more → Extends events all → Extends begin all
extends_on begin events all more e x = (more ++ x.0, x.1 ∙ ap (λ (es : List Event). es ++ x.0) e ∙ append_assoc begin more x.0)

-- Between steps in which nothing comes no more ticks pass than there are steps.
pub ticks_between : (app : Application) (limits : Limits) (plan : List Injection) → app.tickless ≡ false → (n m : ℕ) → n ≤ m
    → ((k : ℕ) → n ≤ k → k < m → injected plan k ≡ []) → IsNonePending (state_after app limits plan n)
    → (state_after app limits plan m).elapsed + n ≤ (state_after app limits plan n).elapsed + m
ticks_between app limits plan off n zero le alone none = let z : n ≡ 0 = omega arith in rw z (omega arith)
ticks_between app limits plan off n (suc m) le alone none = by_test (eqb n (suc m))
    (λ t. let same : n ≡ suc m = eqb-same n (suc m) t in rw same (omega arith))
    (λ t.
    let apart : n ≢ suc m = (λ q. let w : eqb n (suc m) ≡ true = rw q (eqb-refl (suc m)) in absurd (cc)) in
    let s : State = state_after app limits plan m in
    let before = ticks_between app limits plan off n m (omega arith) (λ k from l. alone k from (omega arith)) none in
    let at : IsNonePending s = none_between app limits plan n m (omega arith) (λ k from l. alone k from (omega arith)) none in
    let nothing : ticks_before app (injected plan m) s ≡ 0 =
    ap (λ (sources : List ℕ). ticks_before app sources s) (alone m (omega arith) (omega arith)) ∙ no_ticks_before app s at in
    let one = (moves-step app limits (injected plan m) s).elapsed off in
    omega arith)

-- Before a step up to which nothing comes and no limit is reached, the run goes on where it isn't over.
pub free_before : (app : Application) (plan : List Injection) (limits : Limits) (first : Machine) (until : ℕ)
    → IsUnderWay app plan limits first
    → ((n : ℕ) → first.steps ≤ n → n < until → injected plan n ≡ []) → NonePends first
    → (app.tickless ≡ false → first.steps < until → first.clock.age + first.clock.held + until ≤ limits.ticks + first.steps)
    → (first.steps < until → until ≤ limits.steps)
    → (n : ℕ) → first.steps ≤ n → n < until → is_over app limits (state_after app limits plan n) ≡ false
    → end_of app limits (state_after app limits plan n) ≡ None
free_before app plan limits first until begin alone none ticks steps n on short going =
    let done = steps_after app limits plan n in
    let few = steps (omega arith) in
    let early : (state_after app limits plan n).elapsed < limits.ticks = by_test app.tickless
    (λ may. before_tick_limit app limits (state_after app limits plan n) may going)
    (λ off.
    let before = elapsed_is first (state_after app limits plan first.steps) begin.stands in
    let between =
    ticks_between app limits plan off first.steps n on (λ k from below. alone k from (omega arith))
    (none_by first (state_after app limits plan first.steps) none begin.stands) in
    let soon = ticks off (omega arith) in
    omega arith) in
    goes_if_not_over app limits (state_after app limits plan n) going early (omega arith)

-- It comes a step further where it went on.
pub moves_on : (app : Application) (plan : List Injection) (limits : Limits) (k new : Machine) (until : ℕ)
    → k.steps ≤ new.steps → k.steps < until → end_of app limits (state_after app limits plan k.steps) ≡ None
    → (new.steps < until → is_over app limits (state_after app limits plan new.steps) ≡ true) → k.steps < new.steps
moves_on app plan limits k new until on short going there = by_test (eqb new.steps k.steps)
    (λ t.
    let same : new.steps ≡ k.steps = eqb-same new.steps k.steps t in
    let over : is_over app limits (state_after app limits plan k.steps) ≡ true =
    subst (λ (n : ℕ). is_over app limits (state_after app limits plan n) ≡ true) same (there (omega arith)) in
    let none : is_over app limits (state_after app limits plan k.steps) ≡ false =
    not_over_if_going app limits (state_after app limits plan k.steps) going in
    absurd (cc))
    (λ t. let apart : new.steps ≢ k.steps = (λ e. let u : eqb new.steps k.steps ≡ true = rw e (eqb-refl k.steps) in absurd (cc)) in
    omega arith)

-- ---- a run that is broken off has come no further than the run

module _ (app : Application) (plan : List Injection) (limits : Limits) (k : Machine)
    (way : IsUnderWay app plan limits k) (run : Run) (is : IsRun app plan limits run) where
  pub no_further : k.steps ≤ run.steps
  no_further = by_test (leb k.steps run.steps)
      (λ t. leb-le k.steps run.steps t)
      (λ t. let none = way.goes_on run.steps (leb-less k.steps run.steps t) in let end = is.ends in absurd (cc))

  pub told_some : 0 < length (events_after app limits plan k.steps) → 0 < length run.events
  told_some l = rw is.trace (grows k.steps run.steps no_further l) where
    grows : (n m : ℕ) → n ≤ m → 0 < length (events_after app limits plan n) → 0 < length (events_after app limits plan m)
    grows n zero le l = let z : n ≡ 0 = omega arith in rw z at l
    grows n (suc m) le l = by_test (eqb n (suc m))
        (λ t. let same : n ≡ suc m = eqb-same n (suc m) t in rw same at l)
        (λ t.
        let apart : n ≢ suc m = (λ q. let w : eqb n (suc m) ≡ true = rw q (eqb-refl (suc m)) in absurd (cc)) in
        let less = grows n m (omega arith) l in
        omega (arith, length-append (events_after app limits plan m) (state_after app limits plan (suc m)).log))
