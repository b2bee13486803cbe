-- Interrupts that come before a step keep what is true of every state that a run comes to, and so does the step.
use Rattle.std.proofs.Common.{◌≡◌, ◌∙◌, ℕ, true, false, List, [], ◌∷◌, length, map, Option, Some, None, ap}
use Rattle.std.proofs.Common.{sym, subst}
use Rattle.std.proofs.Common.{◌+◌, inl, inr, ltb, refl}
use Rattle.std.proofs.Math.ListN.{length-set}
use Rattle.std.proofs.lemmas.List.{length-map}
use Rattle.std.specs.Option.{IfSome}
use Rattle.model.specs.Application.{Application, Limits}
use Rattle.model.specs.Scripts.{IsWellFormed}
use Rattle.model.specs.State.{with_source}
use Rattle.model.specs.State.{State, Source, source_at, for_each}
use Rattle.model.specs.Switching.{preempt, settle, is_ready, is_held, is_critical, unless_held}
use Rattle.model.specs.Handlers.{can_come, come, note_coming, is_tick, serve, inject, pend, pending_of, none_pending, serve_pending}
use Rattle.model.specs.Step.{act_current, before_step, step}
use Rattle.model.specs.Invariant.{hold_of, RunsIn, IsState}
use Rattle.model.proofs.Sorting.{by_test}
use Rattle.soundness.proofs.Settled.{settled-preempt, when_held, when_free, no_task_holds, unlike}
use Rattle.soundness.proofs.Keeping.{keeps-preempt}
use Rattle.soundness.proofs.Coming.{comes-serve, comes-inject, comes-each}
use Rattle.soundness.proofs.Sound.{preempted, resourced}
use Rattle.soundness.proofs.Handled.{come_between}
use Rattle.soundness.proofs.Phases.{free}
use Rattle.soundness.proofs.Stepped.{at_rest, calm_now, current_done, hold_none, no_call_holds, sound_free, told}
use Rattle.soundness.proofs.Ticked.{ticked_between}

module _ (app : Application) (formed : IsWellFormed app) where
  -- a handler that comes
  come_then : (handler : ℕ) (s : State) → IsState app s → IsState app (unless_held preempt (come app handler s))
  come_then handler s h = by_test (is_held t)
      (λ held. subst (IsState app) (sym (when_held preempt t held)) k)
      (λ none. subst (IsState app) (sym (when_free preempt t none)) (preempted_at_rest none)) where
        t : State
        t = come app handler s

        k : IsState app t
        k = come_between app formed handler s h

        preempted_at_rest : is_held t ≡ false → IsState app (preempt t)
        preempted_at_rest none =
            let off : t.call_hold ≡ false = no_call_holds app formed t k none in
            let same : hold_of t ≡ free = hold_none app formed t k off in
            at_rest app formed (preempt t) (preempted app formed free t (sound_free app formed t k off))
            ((keeps-preempt t).hold ∙ same)
            ((keeps-preempt t).suspension
            ∙ calm_now app formed t k none) (settled-preempt t (by_current t.current k.runs off)) where
              by_current : (r : Option ℕ) → RunsIn app t r → t.call_hold ≡ false → IfSome r (λ task. is_ready t task ≡ true)
              by_current None r off = tt
              by_current (Some i) r off =
                  elim (r.ready off) [ inl on ↦ on | inr x ↦ unlike (sym x.0 ∙ no_task_holds t none) ]

  -- an interrupt that comes, where no critical section is open
  pub served_between : (source : ℕ) (s : State) → is_critical s ≡ false → IsState app s → IsState app (serve app source s)
  unfolding serve
  served_between source s shut h = by_test (is_tick app source)
      (λ t. rw t (ticked_between app formed s shut h))
      (λ t. rw t (come_then source s h))

  -- None is open after it either.
  pub still_shut : (source : ℕ) (s : State) → is_critical s ≡ false → is_critical (serve app source s) ≡ false
  still_shut source s shut = ap (λ (n : ℕ). ltb 0 n) (comes-serve app source s).sections ∙ shut

  all_served : (sources : List ℕ) (s : State) → is_critical s ≡ false → IsState app s → IsState app (for_each (serve app) sources s)
  all_served [] s shut h = h
  all_served (source ∷ sources) s shut h =
      all_served sources (serve app source s) (still_shut source s shut) (served_between source s shut h)

  -- one that is injected
  pub injected_between : (source : ℕ) (s : State) → is_critical s ≡ false → IsState app s → IsState app (inject app source s)
  unfolding inject
  injected_between source s shut h = by_test (can_come s source)
      (λ t. rw t (served_between source s shut h))
      (λ t. rw t h)

  all_injected : (sources : List ℕ) (s : State) → is_critical s ≡ false → IsState app s
      → IsState app (for_each (inject app) sources s)
  all_injected [] s shut h = h
  all_injected (source ∷ sources) s shut h =
      all_injected sources (inject app source s)
      (ap (λ (n : ℕ). ltb 0 n) (comes-inject app source s).sections ∙ shut) (injected_between source s shut h)

  -- ---- what is pending

  -- What is pending doesn't matter, while there are as many sources.
  raised : (s : State) (sources : List Source) → length sources ≡ length s.sources
      → IsState app s → IsState app (record s { sources = sources })
  raised s sources many h =
      record {
        sound = resourced app formed (hold_of s) s sources (many ∙ h.sound.sources) h.sound;
        runs = by_current s.current h.runs;
        alone = h.alone;
        locked = h.locked;
        apart = h.apart;
        held = h.held;
      } where
        by_current : (r : Option ℕ) → RunsIn app s r → RunsIn app (record s { sources = sources }) r
        by_current None r = r
        by_current (Some i) r = record { holding = r.holding; ready = r.ready; setting = r.setting; placing = r.placing }

  -- an interrupt that becomes pending
  pub pended_between : (handler : ℕ) (s : State) → IsState app s → IsState app (pend app handler s)
  pended_between handler s h = by_test (can_come s handler)
      (λ t. rw t (raised now (note_coming app handler now).sources (length-set now.sources handler _)
      (raised s now.sources (length-set s.sources handler (record (source_at s handler) { pending = true })) h)))
      (λ t. rw t h) where
        now : State
        now = with_source handler (record (source_at s handler) { pending = true }) s

  all_pended : (handlers : List ℕ) (s : State) → IsState app s → IsState app (for_each (pend app) handlers s)
  all_pended [] s h = h
  all_pended (handler ∷ handlers) s h = all_pended handlers (pend app handler s) (pended_between handler s h)

  pub none_pending_between : (s : State) → IsState app s → IsState app (none_pending s)
  none_pending_between s h =
      raised s (map (λ (x : Source). record x { pending = false }) s.sources)
      (length-map s.sources (λ (x : Source). record x { pending = false })) h

  pub served_pending : (s : State) → is_critical s ≡ false → IsState app s → IsState app (serve_pending app s)
  unfolding serve_pending
  served_pending s shut h = all_served (pending_of s) (none_pending s) shut (none_pending_between s h)

  -- No section is open after them.
  pub shut_pending : (s : State) → is_critical s ≡ false → is_critical (serve_pending app s) ≡ false
  unfolding serve_pending
  shut_pending s shut =
      ap (λ (n : ℕ). ltb 0 n) (comes-each app (serve app) (comes-serve app) (pending_of s) (none_pending s)).sections ∙ shut

  pub reached_before_step : (handlers : List ℕ) (s : State) → IsState app s → IsState app (before_step app handlers s)
  unfolding before_step
  reached_before_step handlers s h =
      let r : State = record s { log = [] } in
      let k : IsState app r = told app formed s [] s.steps s.stopped h in
      by_test (is_critical r)
      (λ q. rw q (all_pended handlers r k))
      (λ q.
      rw q (all_injected handlers (serve_pending app r) (shut_pending r q) (served_pending r q k)))

  pub reached_step : (limits : Limits) (handlers : List ℕ) (s : State) → IsState app s → IsState app (step app limits handlers s)
  unfolding step
  reached_step limits handlers s h =
      let r : State = before_step app handlers s in
      let t : State = unless_held settle (act_current app limits r.current r) in
      told app formed t t.log (s.steps + 1) t.stopped
      (current_done app formed limits r r.current (reached_before_step handlers s h) refl)
