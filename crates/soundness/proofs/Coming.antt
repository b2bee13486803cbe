-- What interrupts make of the ticks, and of what holds the scheduler, when they come before a step: no more ticks pass than
-- there are
-- ticks among them.
use Rattle.std.proofs.Common.{subst, ap}
use Rattle.std.proofs.Common.{ap, ◌≡◌, ◌≤◌, ◌+◌, ◌∙◌, ℕ, List, [], ◌∷◌, length, refl, arith}
use Rattle.std.specs.Prelude.{if◌then◌else◌}
use Rattle.model.specs.Application.{Application}
use Rattle.model.specs.State.{State, for_each}
use Rattle.model.specs.Switching.{preempt, holds_ticks, is_critical, unless_held}
use Rattle.model.specs.Handlers.{can_come, come, is_tick, serve, inject, pend, pending_of, none_pending, serve_pending}
use Rattle.model.specs.Handlers.{tick_interrupt}
use Rattle.model.specs.Step.{before_step}
use Rattle.model.specs.Invariant.{hold_of, Suspension}
use Rattle.model.proofs.Sorting.{by_test}
use Rattle.soundness.proofs.Keeping.{pending_in}
use Rattle.soundness.proofs.Frames.{keeps-come}
use Rattle.soundness.proofs.Keeping.{Keeps, keeps_both, keeps-preempt, keeps-unless_held}
use Rattle.soundness.proofs.Ticking.{keeps-tick, elapsed-tick, hold-tick, suspensions-tick, sections-tick, pending-tick}

-- how many of these interrupts are the tick
abbrev pub ticks_in : Application → List ℕ → ℕ
ticks_in app [] = 0
ticks_in app (source ∷ sources) = (if is_tick app source then 1 else 0) + ticks_in app sources

-- There are no more of them than interrupts.
pub few_ticks : (app : Application) (sources : List ℕ) → ticks_in app sources ≤ length sources
few_ticks app [] = omega arith
few_ticks app (source ∷ sources) =
    let few = few_ticks app sources in by_test (is_tick app source) (λ t. rw t (omega arith)) (λ t. rw t (omega arith))

-- No more than this many ticks pass. The step isn't done, there are as many tasks, and all that
-- may hold the scheduler stays; so does what is kept of the interrupt sources.
pub record Comes (n : ℕ) (old new : State) : Type 0 where
  pub elapsed : new.elapsed ≤ old.elapsed + n
  pub on : old.elapsed ≤ new.elapsed
  pub steps : new.steps ≡ old.steps
  pub tasks : length new.tasks ≡ length old.tasks
  pub hold : hold_of new ≡ hold_of old
  pub suspensions : new.suspensions ≡ old.suspensions
  pub sections : new.sections ≡ old.sections
  pub pending : pending_in new ≡ pending_in old

come_by : (old new : State) → Keeps old new → Comes 0 old new
come_by old new k =
    let elapsed = k.elapsed in
    record {
      elapsed = omega arith;
      on = omega arith;
      steps = k.steps;
      tasks = k.tasks;
      hold = k.hold;
      suspensions = ap (λ (x : Suspension). x.suspensions) k.suspension;
      sections = ap (λ (x : Suspension). x.sections) k.suspension;
      pending = k.pending;
    }

-- some come, and then others
pub come_both : (n m : ℕ) (a b c : State) → Comes n a b → Comes m b c → Comes (n + m) a c
come_both n m a b c h k =
    let e1 = h.elapsed in
    let e2 = k.elapsed in
    let o1 = h.on in
    let o2 = k.on in
    record {
      elapsed = omega arith;
      on = omega arith;
      steps = k.steps ∙ h.steps;
      tasks = k.tasks ∙ h.tasks;
      hold = k.hold ∙ h.hold;
      suspensions = k.suspensions ∙ h.suspensions;
      sections = k.sections ∙ h.sections;
      pending = k.pending ∙ h.pending;
    }

comes-tick : (app : Application) (s : State) → Comes 1 s (tick_interrupt app s)
comes-tick app s =
    let k = keeps-tick app s in
    let one = elapsed-tick app s in
    record {
      elapsed = omega arith;
      on = omega arith;
      steps = k.steps ∙ by_test (holds_ticks s) (λ t. rw t refl) (λ t. rw t refl);
      tasks = k.tasks ∙ by_test (holds_ticks s) (λ t. rw t refl) (λ t. rw t refl);
      hold = hold-tick app s;
      suspensions = suspensions-tick app s;
      sections = sections-tick app s;
      pending = pending-tick app s;
    }

comes-handler : (app : Application) (handler : ℕ) (s : State) → Comes 0 s (unless_held preempt (come app handler s))
comes-handler app handler s =
    let t : State = come app handler s in
    come_by s (unless_held preempt t)
    (keeps_both s t (unless_held preempt t) (keeps-come app handler s) (keeps-unless_held preempt t keeps-preempt))

-- where nothing comes
nothing_comes : (ticks : ℕ) (s : State) → Comes ticks s s
nothing_comes ticks s = record {
  elapsed = omega arith;
  on = omega arith;
  steps = refl;
  tasks = refl;
  hold = refl;
  suspensions = refl;
  sections = refl;
  pending = refl;
}

-- one that comes
pub comes-serve : (app : Application) (source : ℕ) (s : State)
    → Comes (if is_tick app source then 1 else 0) s (serve app source s)
unfolding serve
comes-serve app source s =
    by_test (is_tick app source) (λ t. rw t (comes-tick app s)) (λ t. rw t (comes-handler app source s))

-- and one that is injected
pub comes-inject : (app : Application) (source : ℕ) (s : State)
    → Comes (if is_tick app source then 1 else 0) s (inject app source s)
unfolding inject
comes-inject app source s = by_test (can_come s source)
    (λ t. rw t (comes-serve app source s))
    (λ t. rw t (nothing_comes (if is_tick app source then 1 else 0) s))

-- one after another
module _ (app : Application) (deed : ℕ → State → State)
    (one : (source : ℕ) (s : State) → Comes (if is_tick app source then 1 else 0) s (deed source s)) where
  pub comes-each : (sources : List ℕ) (s : State) → Comes (ticks_in app sources) s (for_each deed sources s)
  comes-each [] s = nothing_comes 0 s
  comes-each (source ∷ sources) s =
      let t : State = deed source s in
      come_both (if is_tick app source then 1 else 0) (ticks_in app sources) s t (for_each deed sources t) (one source s)
      (comes-each sources t)

-- ---- what a step begins with

only_sources : (app : Application) (source : ℕ) (s : State) → pend app source s ≡ record s { sources = (pend app source s).sources }
only_sources app source s = by_test (can_come s source) (λ t. rw t refl) (λ t. rw t refl)

comes-pend : (app : Application) (sources : List ℕ) (s : State)
    → Comes 0 (record s { sources = (for_each (pend app) sources s).sources }) (for_each (pend app) sources s)
comes-pend app [] s = nothing_comes 0 s
comes-pend app (source ∷ sources) s =
    let last : State = for_each (pend app) sources (pend app source s) in
    subst (λ (t : State). Comes 0 t last) (ap (λ (t : State). record t { sources = last.sources }) (only_sources app source s))
    (comes-pend app sources (pend app source s))

-- how many ticks may come before a step: those that are pending, and those that are injected
abbrev pub ticks_before : Application → List ℕ → State → ℕ
ticks_before app sources s = ticks_in app (pending_of s) + ticks_in app sources

-- Of what is kept of the sources those that are pending may come, or more may become so.
pub comes-before_step : (app : Application) (sources : List ℕ) (s : State)
    → Comes (ticks_before app sources s) (record s { sources = (before_step app sources s).sources }) (before_step app sources s)
unfolding before_step serve_pending
comes-before_step app sources s =
    let r : State = record s { log = [] } in
    let none : State = none_pending r in
    let served : State = for_each (serve app) (pending_of r) none in
    let t : State = for_each (inject app) sources served in
    by_test (is_critical r)
    (λ q. rw q (let k = comes-pend app sources r in
    let elapsed = k.elapsed in
    record {
      elapsed = omega arith;
      on = k.on;
      steps = k.steps;
      tasks = k.tasks;
      hold = k.hold;
      suspensions = k.suspensions;
      sections = k.sections;
      pending = refl;
    }))
    (λ q. rw q (let k : Comes (ticks_before app sources s) none t =
    come_both (ticks_in app (pending_of s)) (ticks_in app sources) none served t
    (comes-each app (serve app) (comes-serve app) (pending_of r) none)
    (comes-each app (inject app) (comes-inject app) sources served) in
    record {
      elapsed = k.elapsed;
      on = k.on;
      steps = k.steps;
      tasks = k.tasks;
      hold = k.hold;
      suspensions = k.suspensions;
      sections = k.sections;
      pending = refl;
    }))
