-- A task's call goes on: what that makes of the states that the kernel represents.
use Rattle.std.proofs.Common.{◌≡◌, ◌≢◌, ◌+◌, ℕ, true, List, Option, Some, refl, ap, sym, subst, ◌∙◌}
use Rattle.std.specs.Option.{is_some, option_map}
use Rattle.model.specs.declared.call.CallProgress.{CallProgress}
use Rattle.model.specs.declared.call.Phase.{Phase}
use Rattle.model.specs.declared.call.Phase.TheVariants.{Place}
use Rattle.model.specs.declared.event.Event.{Event}
use Rattle.model.specs.State.{State, Progress, status_at, progress_at, call_at, with_call, go_on}
use Rattle.model.specs.State as state
use Rattle.model.specs.Waiting.{set_deadline}
use Rattle.groups.specs.StandsFor.{event_wait}
use Rattle.machine.specs.declared.machine.Machine.{Machine}
use Rattle.machine.specs.StandsFor.{At, progress_in, with_progress}
use Rattle.machine.proofs.Acting.{within, changed}

module _ (k new : Machine) (log : List Event) (s : State) (h : At k log s) (i : ℕ) (r : k.sched.current ≡ Some i) where
  pub not_placing : (call_at s i).phase ≢ Place
  not_placing e = h.stands.rest.placed i (ap (λ (p : Progress). p.call.phase) (h.stands.rest.progress i) ∙ e)

  pub recalled : (c d : CallProgress) → new ≡ with_progress i (record (progress_in k.progress i) { call = c }) k
      → c ≡ d → d.phase ≢ Place → (is_some (event_wait (status_at s i)) ≡ true → d.wants ≡ (call_at s i).wants)
      → At new log (with_call i d s)
  recalled c d is e off wants =
      let P : Progress → Type 0 = λ p.
      At (with_progress i (record p { call = d }) k) log (state.with_progress i (record (progress_at s i) { call = d }) s) in
      rw (is, e) (subst P (sym (h.stands.rest.progress i))
      (changed k log s h i (within k log s h i r) (record (progress_at s i) { call = d }) off wants))

  pub gone_on : (phase : Phase)
      → new
      ≡ with_progress i (record (progress_in k.progress i) { call = record (progress_in k.progress i).call { phase = phase } }) k
      → phase ≢ Place → At new log (go_on i phase s)
  gone_on phase is off =
      recalled (record (progress_in k.progress i).call { phase = phase }) (record (call_at s i) { phase = phase })
      is (ap (λ (p : Progress). record p.call { phase = phase }) (h.stands.rest.progress i)) off (λ _. refl)

  pub dated : (v : Progress) → v ≡ progress_in k.progress i → (deadline ticks : Option ℕ)
      → deadline ≡ option_map (λ n. k.clock.now + n) ticks
      → new ≡ with_progress i (record (progress_in k.progress i) { call = record v.call { deadline = deadline } }) k
      → At new log (set_deadline i ticks s)
  unfolding set_deadline
  dated v e deadline ticks d is =
      let now : deadline ≡ option_map (λ n. s.time + n) ticks =
      d ∙ ap (λ (m : ℕ). option_map (λ n. m + n) ticks) h.stands.rest.clock.now in
      recalled (record v.call { deadline = deadline }) (record (call_at s i) { deadline = option_map (λ n. s.time + n) ticks }) is
      (ap (λ (p : Progress). record p.call { deadline = deadline }) (e ∙ h.stands.rest.progress i)
      ∙ ap (λ (o : Option ℕ). record (call_at s i) { deadline = o }) now)
      not_placing (λ _. refl)
