-- Steps of a call that waits, from where it decides to where it lets go of the scheduler.
use Rattle.kernel.proofs.Valued.{acts_past}
use Rattle.model.specs.Step.{act_by_value}
use Rattle.model.specs.declared.value.Value as value
use Rattle.model.specs.Values.{with_number}
use denote.Enum.Bare.{sameb, same_true}
use Rattle.std.proofs.Common.{◌≡◌, ◌≢◌, ◌<◌, ◌+◌, ℕ, Bool, true, false, not, rules, List, [], Option, None, refl, ap, sym, subst}
use Rattle.std.proofs.Common.{◌∙◌, arith}
use Rattle.model.specs.declared.op.Access.{Access}
use Rattle.model.specs.declared.op.Access.TheVariants.{Receive}
use Rattle.model.specs.declared.op.Op.TheVariants.{Await, NextCommand}
use Rattle.model.specs.declared.call.Phase.{Phase}
use Rattle.model.specs.declared.call.Phase.TheVariants.{Start, Try, Decide, Place, Unlock, Leave}
use Rattle.model.specs.Invariant.{holds}
use Rattle.model.specs.contracts.call.Phase.{the_type}
use Rattle.model.specs.declared.event.Event.{Event}
use Rattle.model.specs.Application.{Application, Limits, op_at}
use Rattle.model.specs.State.{State, Progress, progress_at, call_at}
use Rattle.model.specs.Calls.{await, leave_call}
use Rattle.model.specs.Step.{act_current, act_unless, misuse, step}
use Rattle.machine.specs.declared.machine.Machine.{Machine}
use Rattle.machine.specs.Logged.{Logged}
use Rattle.machine.specs.StandsFor.{Stands, AtAny, Does, DoesAny, progress_in}
use Rattle.ops.specs.Can.{CanGoOn, CanLeave}
use Rattle.kernel.specs.Can.{CanOp}
use Rattle.ops.specs.InCall.{IsSilent, Remains}
use Rattle.kernel.specs.InCall.{IsCallOn, IsInPhase, IsLeaving}
use Rattle.kernel.specs.InCall.IsCallOn.{Awaits, Receives}
use Rattle.kernel.specs.Over.{is_over}
use Rattle.machine.proofs.Either.{current_is, does_any, does_more, progress_is, not_by_task}
use Rattle.kernel.proofs.Acted.{any_by_form, two_within}
use Rattle.ops.proofs.Commanding.{receive_in_phase}
use Rattle.ops.proofs.Calling.{in_phase}
use Rattle.kernel.proofs.Running.{acts}
use Rattle.kernel.proofs.Holding as holding
use Rattle.kernel.proofs.Silent.{not_over_silently}
use Rattle.machine.specs.Can.{NonePends}
use Rattle.machine.proofs.Pending.{none_by}

-- A call reports nothing in three phases: in all but the first the scheduler is held before it too.
pub holds_silently : (phase : Phase) → IsSilent phase → phase ≢ Decide → holds phase ≡ true
holds_silently Start s a = absurd s
holds_silently Try s a = absurd s
holds_silently Decide s a = absurd (a refl)
holds_silently Place s a = refl
holds_silently Unlock s a = refl
holds_silently Leave s a = absurd s

-- A phase past its tries.
abbrev pub IsPast : Phase → Type 0
IsPast Start = ⊥
IsPast Try = ⊥
IsPast _ = Unit {0}

pub past_silent : (phase : Phase) → IsSilent phase → IsPast phase
past_silent Start s = s
past_silent Try s = s
past_silent Decide s = tt
past_silent Place s = tt
past_silent Unlock s = tt
past_silent Leave s = tt

-- A phase that isn't another than this one.
pub same_phase : (a b : Phase) → false ≡ not (sameb the_type a b) → a ≡ b
same_phase a b e = same_true the_type (search rules) a b (unequal (sameb the_type a b) e) where
  unequal : (x : Bool) → false ≡ not x → x ≡ true
  unequal true e = refl
  unequal false e = absurd (cc)

module _ (app : Application) (limits : Limits) (k : Machine) (task object : ℕ)
    (access : Access ℕ) (phase : Phase) (c : IsInPhase app k task object access phase) where
  -- it is in its next phase then
  pub still_in_call : (new : Machine) → Remains k new task → (next : Phase)
      → (progress_in new.progress task).call.phase ≡ next → IsInPhase app new task object access next
  still_in_call new r next e = record {
    current = r.current ∙ c.current;
    ticks = c.ticks;
    op = c.op;
    at = ap (λ (n : ℕ). op_at app task n) r.op_index ∙ c.at;
    on = c.on;
    reached = e;
    awake = r.suspensions ∙ c.awake;
  }

  -- The call can do what is next,
  pub can_in_phase : CanOp app k task c.op → CanGoOn k task object access c.ticks phase
  can_in_phase can = by_form c.on where
    by_form : IsCallOn c.op object access c.ticks → CanGoOn k task object access c.ticks phase
    by_form (Awaits call variables answer e number) =
        subst (λ (a : Access ℕ). CanGoOn k task object a c.ticks phase) (sym number)
        (subst (CanGoOn k task object (with_number variables answer call) c.ticks) c.reached
        (subst (CanOp app k task) e can variables answer))
    by_form (Receives e a t) =
        subst (CanGoOn k task object access c.ticks) c.reached
        (subst (λ (n : Option ℕ). CanGoOn k task object access n (progress_in k.progress task).call.phase) (sym t)
        (subst (λ (x : Access ℕ). CanGoOn k task object x None (progress_in k.progress task).call.phase)
        (sym a) (subst (CanOp app k task) e can)))

  -- and what it does in its phase is what the step does,
  pub acts_in_phase : IsPast phase → (new : Machine) (old_log new_log : Logged)
      → DoesAny 2 k old_log new new_log (await app task object access c.ticks phase)
      → DoesAny 337 k old_log new new_log (λ s. act_current app limits s.current s)
  acts_in_phase past new old_log new_log does = acts app limits k task c.current c.op c.at new old_log new_log (by_form c.on) where
    not_before : (other : Phase) → (IsPast other → ⊥) → (progress_in k.progress task).call.phase ≡ other → ⊥
    not_before other off e = off (subst IsPast (sym c.reached ∙ e) past)

    by_number : (call : Access value.Value) (variables : List ℕ) (answer : Option ℕ) → access ≡ with_number variables answer call
        → DoesAny 2 k old_log new new_log (act_by_value app task (Await object call c.ticks))
    by_number call variables answer number = record {
      at = λ s h.
          let reached : (call_at s task).phase ≡ phase =
          ap (λ (p : Progress). p.call.phase) (sym (progress_is k s h.stands task)) ∙ c.reached in
          subst (AtAny new new_log.told)
          (ap (λ (a : Access ℕ). await app task object a c.ticks phase s) number
          ∙ sym (acts_past app task object call c.ticks s phase (λ e. subst IsPast e past) (λ e. subst IsPast e past) reached
          variables answer))
          (does.at s h);
      few = does.few;
      before = does.before;
    }

    by_form : IsCallOn c.op object access c.ticks
        → DoesAny 337 k old_log new new_log (λ s. act_unless app task (misuse s task c.op) c.op s)
    by_form (Awaits call variables answer e number) =
        any_by_form app k new old_log new_log task c.op (Await object call c.ticks) e c.awake (λ s. refl) refl 2 two_within
        (by_number call variables answer number)
    by_form (Receives e a t) =
        any_by_form app k new old_log new_log task c.op (NextCommand object) e c.awake (λ s. refl) refl 2 two_within
        (receive_in_phase app k new old_log new_log task object (not_before Start (λ x. x)) (not_before Try (λ x. x))
        (in_phase app k new old_log new_log task object Receive None phase c.reached
        (subst (λ (n : Option ℕ). DoesAny 2 k old_log new new_log (await app task object Receive n phase)) t
        (subst (λ (x : Access ℕ). DoesAny 2 k old_log new new_log (await app task object x c.ticks phase)) a does))))

  module _ (past : IsPast phase) (new : Machine)
      (does : (log : List Event) (s : State) → AtAny k log s → AtAny new log (await app task object access c.ticks phase s)) where
    acts_there : (log : List Event) (s : State) → AtAny k log s → AtAny new log (act_current app limits s.current s)
    acts_there log s h =
        let told : Logged = record { before = []; told = log; room = 337 } in
        let one : DoesAny 2 k told new told (await app task object access c.ticks phase) =
        record { at = does log; few = omega arith; before = refl } in
        (acts_in_phase past new told told one).at s h

    -- as it reports nothing, and switches nothing.
    module _ (calm : NonePends k) (held : 0 < new.sched.depth) (s : State) (h : Stands k s) where
      pub steps_held : new.steps ≡ k.steps
      steps_held = holding.steps_held app limits k new calm [] (acts_there []) held s h

      pub stepped_held : Stands (record new { steps = new.steps + 1 }) (step app limits [] s)
      stepped_held = holding.stands_held app limits k new calm [] (acts_there []) held s h

      pub told_nothing : (step app limits [] s).log ≡ []
      told_nothing = sym (holding.told_held app limits k new calm [] (acts_there []) held s h)

      -- Nor does it end the run.
      pub not_over_after : IsSilent phase → new.sched.current ≡ k.sched.current
          → is_over app limits s ≡ false → is_over app limits (step app limits [] s) ≡ false
      not_over_after silent same =
          let now : Progress = progress_at s task in
          let is : progress_in k.progress task ≡ now = progress_is k s h task in
          not_over_silently app limits task object access c.ticks phase silent c.op c.on s (none_by k s calm h)
          (sym (current_is k s h) ∙ c.current)
          (ap (λ (p : Progress). op_at app task p.op_index) (sym is) ∙ c.at)
          (ap (λ (p : Progress). p.call.phase) (sym is) ∙ c.reached)
          (not_by_task k s h c.awake)
          (sym (current_is (record new { steps = new.steps + 1 }) (step app limits [] s) stepped_held) ∙ same ∙ c.current)

-- So it is where the call lets go of the scheduler.
pub leaves : (app : Application) (limits : Limits) (k new : Machine) (task : ℕ) → IsLeaving app k task
    → CanLeave k task → (old_log new_log : Logged) → Does 1 k old_log new new_log (leave_call task)
    → DoesAny 337 k old_log new new_log (λ s. act_current app limits s.current s)
leaves app limits k new task l can old_log new_log does =
    acts_in_phase app limits k task l.0 l.1 Leave l.2 tt new old_log new_log
    (does_more 1 2 k new old_log new_log (leave_call task) (omega arith)
    (does_any 1 k new old_log new_log (leave_call task) can.call.agrees does))
