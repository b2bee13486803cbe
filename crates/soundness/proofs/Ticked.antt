-- A tick between two steps keeps what is true of every state that a run comes to: it is held, or time goes on.
use Rattle.std.proofs.Common.{◌≡◌, ◌+◌, ℕ, true, false, List, [], ◌∷◌, ◌++◌, Option, Some, None, refl, ap, sym, subst, ◌∙◌}
use Rattle.std.proofs.Common.{inl, inr}
use Rattle.std.specs.Option.{IfSome, is_some}
use Rattle.model.specs.Application.{Application, interrupts_at}
use Rattle.model.specs.Scripts.{IsWellFormed}
use Rattle.model.specs.State.{State, Task, ticket_if_ready, task_at, for_each}
use Rattle.model.specs.Order.{tasks_of}
use Rattle.model.specs.Switching.{is_ready, slice, is_held, holds_ticks, is_critical}
use Rattle.model.specs.Time.{wake_due, due, delayed_list, advance, increment_tick}
use Rattle.model.specs.Handlers.{come as comes, interrupt, raised_now, none_raised_now, tick_interrupt}
use Rattle.model.specs.Invariant.{hold_of, RunsIn, IsState}
use Rattle.model.proofs.Sorting.{by_test}
use Rattle.model.proofs.Unlocking.{current-all_ready}
use Rattle.soundness.proofs.Settled.{IsSettled, settled-slice, when_held, when_free, nothing_holds, no_task_holds, ticks_free}
use Rattle.soundness.proofs.Settled.{unlike}
use Rattle.soundness.proofs.Ticking.{held-told, hold-tick, suspension-tick}
use Rattle.soundness.proofs.Released.{all_but, due_apart}
use Rattle.soundness.proofs.Sound.{held_up}
use Rattle.soundness.proofs.Handled.{come_between, lowered_between}
use Rattle.soundness.proofs.Sparing.{ticked}
use Rattle.soundness.proofs.Going.{spares-interrupt}
use Rattle.soundness.proofs.Phases.{free}
use Rattle.soundness.proofs.Stepped.{at_rest, calm_now, hold_none, sound_free}

-- ---- who runs

-- who is due leaves a Ready task as it is
wake_apart : (s : State) (i : ℕ) → is_ready s i ≡ true → task_at (wake_due s) i ≡ task_at s i
unfolding wake_due
wake_apart s i r = all_but (tasks_of (due s)) i s (due_apart s i r (delayed_list s))

pub current-wake_due : (s : State) → (wake_due s).current ≡ s.current
unfolding wake_due
current-wake_due s = current-all_ready s (tasks_of (due s))

-- Where the running task is Ready, it is so when a tick has come that isn't held, with its base interrupts.
module _ (app : Application) (s : State) (none : holds_ticks s ≡ false) where
  later : State
  later = record s { time = s.time + 1; elapsed = s.elapsed + 1 }

  come : State
  come = increment_tick s

  come_is : come ≡ wake_due later
  unfolding come later increment_tick advance
  come_is = rw none refl

  told : State
  told = interrupt app come

  told_runs : told.current ≡ s.current
  unfolding told later
  told_runs = (spares-interrupt app 0 come).current ∙ ap (λ (t : State). t.current) come_is ∙ current-wake_due later

  told_ready : (i : ℕ) → is_ready s i ≡ true → is_ready told i ≡ true
  unfolding told later
  told_ready i r =
      let at : task_at come i ≡ task_at s i = ap (λ (t : State). task_at t i) come_is ∙ wake_apart later i r in
      let still : is_ready come i ≡ true = ap (λ (u : Task). is_some (ticket_if_ready u.status)) at ∙ r in
      ap (λ (u : Task). is_some (ticket_if_ready u.status)) ((spares-interrupt app 0 come).ready i still) ∙ still

  told_settled : IsSettled s → IsSettled told
  told_settled h =
      subst (λ (r : Option ℕ). IfSome r (λ task. is_ready told task ≡ true)) (sym told_runs) (by_current s.current h) where
        by_current : (r : Option ℕ) → IfSome r (λ task. is_ready s task ≡ true) → IfSome r (λ task. is_ready told task ≡ true)
        by_current None h = tt
        by_current (Some i) h = told_ready i h

-- ---- the tick

pub settled_tick : (app : Application) (s : State) → is_held s ≡ false → holds_ticks s ≡ false
    → IsSettled s → IsSettled (tick_interrupt app s)
unfolding tick_interrupt told come
settled_tick app s none off h =
    subst IsSettled (sym (when_free slice (told app s off) (held-told app s ∙ none)))
    (settled-slice (told app s off) (told_settled app s off h))

module _ (app : Application) (formed : IsWellFormed app) where
  all_between : (handlers : List ℕ) (s : State) → IsState app s → IsState app (for_each (comes app) handlers s)
  all_between [] s h = h
  all_between (handler ∷ handlers) s h =
      all_between handlers (comes app handler s) (come_between app formed handler s h)

  interrupted_between : (s : State) → IsState app s → IsState app (interrupt app s)
  unfolding interrupt
  interrupted_between s h =
      all_between (interrupts_at app s.elapsed ++ raised_now s) (none_raised_now s) (lowered_between app formed s h)

  -- it is held
  pub held_between : (s : State) → holds_ticks s ≡ true → IsState app s → IsState app (increment_tick s)
  unfolding increment_tick
  held_between s on h = rw on (record {
    sound = held_up app formed (hold_of s) s h.sound;
    runs = by_current s.current h.runs;
    alone = h.alone;
    locked = h.locked;
    apart = h.apart;
    held = λ off. unlike (sym on ∙ off);
  }) where
    by_current : (r : Option ℕ) → RunsIn app s r
        → RunsIn app (record s { elapsed = s.elapsed + 1; held_ticks = s.held_ticks + 1 }) r
    by_current None r = r
    by_current (Some i) r = record { holding = r.holding; ready = r.ready; setting = r.setting; placing = r.placing }

  ticked_while_held : (s : State) → holds_ticks s ≡ true → is_held s ≡ true → IsState app s → IsState app (tick_interrupt app s)
  unfolding tick_interrupt
  ticked_while_held s on held h =
      let told : State = interrupt app (increment_tick s) in
      subst (IsState app) (sym (when_held slice told (held-told app s ∙ held)))
      (interrupted_between (increment_tick s) (held_between s on h))

  -- or it isn't
  running_ready : (s : State) → IsState app s → is_held s ≡ false → IsSettled s
  running_ready s h none = by_current s.current h.runs where
    by_current : (r : Option ℕ) → RunsIn app s r → IfSome r (λ task. is_ready s task ≡ true)
    by_current None r = tt
    by_current (Some i) r =
        elim (r.ready (nothing_holds s none).0) [ inl on ↦ on | inr x ↦ unlike (sym x.0 ∙ no_task_holds s none) ]

  ticked_free : (s : State) → is_held s ≡ false → IsState app s → IsState app (tick_interrupt app s)
  ticked_free s none h =
      let off = nothing_holds s none in
      let ticks : holds_ticks s ≡ false = ticks_free s off.0 off.1 in
      let same = hold_none app formed s h off.0 in
      at_rest app formed (tick_interrupt app s)
      (ticked app formed free s (sound_free app formed s h off.0) (h.locked off.0))
      (hold-tick app s ∙ same)
      (suspension-tick app s ticks ∙ calm_now app formed s h none)
      (settled_tick app s none ticks (running_ready s h none))

  -- A tick that comes before a step before which no critical section is open.
  pub ticked_between : (s : State) → is_critical s ≡ false → IsState app s → IsState app (tick_interrupt app s)
  ticked_between s shut h = by_test (holds_ticks s)
      (λ on. ticked_while_held s on (rw on refl) h)
      (λ off. ticked_free s (rw (off, shut) refl) h)
