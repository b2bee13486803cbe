-- The daemon's ops: what they make of the states that the kernel represents.
use Rattle.std.proofs.Common.{◌≡◌, ℕ, true, false, List, Some, None, refl, ap, sym, subst, ◌∙◌}
use Rattle.std.specs.Prelude.{Bool, if◌then◌else◌}
use Rattle.std.specs.Option.{unwrap_or}
use Rattle.model.specs.declared.call.Phase.{Phase}
use Rattle.model.specs.declared.call.Phase.TheVariants.{Start, Try, Decide, Place, Unlock, Leave}
use Rattle.model.specs.declared.event.Event.{Event}
use Rattle.model.specs.declared.op.Access.TheVariants.{Receive}
use Rattle.model.specs.declared.op.Command.{Command}
use Rattle.model.specs.declared.op.Op.TheVariants.{Await, NextCommand, Obey}
use Rattle.model.specs.Application.{Application}
use Rattle.model.specs.State.{State, Progress, call_at, go_on}
use Rattle.model.specs.Switching.{preempt}
use Rattle.model.specs.Objects.{possible, answer_to, fulfil}
use Rattle.model.specs.Calls.{await}
use Rattle.model.specs.Groups.{begin_set}
use Rattle.model.specs.Daemon.{command_of, command_at, received, take_command, next_command, clear_by_daemon, obey}
use Rattle.model.specs.Step.{act}
use Rattle.machine.specs.declared.machine.Machine.{Machine}
use Rattle.machine.specs.StandsFor.{At, AtAny, DoesAny, progress_in}
use Rattle.machine.specs.Logged.{Logged}
use Rattle.machine.proofs.Either.{progress_is}

-- a command is there, or not
module _ (app : Application) (new : Machine) (log : List Event) (s : State) (i o : ℕ) where
  pub took : possible s o Receive ≡ true
      → At new log (preempt (received app i (answer_to s o Receive) (fulfil (Some i) o Receive s)))
      → At new log (take_command app i o s)
  unfolding take_command
  took t h = rw t h

  pub took_none : possible s o Receive ≡ false → At new log (go_on i Decide s) → At new log (take_command app i o s)
  unfolding take_command
  took_none t h = rw t h

-- After its tries the daemon's receive goes as any that waits forever.
pub same_after : (app : Application) (task object : ℕ) (phase : Phase) (s : State) → (phase ≡ Start → ⊥)
    → (phase ≡ Try → ⊥) → await app task object Receive None phase s ≡ next_command app task object phase s
same_after app task object Start s a b = absurd (a refl)
same_after app task object Decide s a b = refl
same_after app task object Place s a b = refl
same_after app task object Unlock s a b = refl
same_after app task object Leave s a b = refl
same_after app task object Try s a b = absurd (b refl)

module _ (app : Application) (old new : Machine) (old_log new_log : Logged) (task : ℕ) where
  phase_is : (s : State) → AtAny old old_log.told s → (progress_in old.progress task).call.phase ≡ (call_at s task).phase
  phase_is s h = ap (λ (p : Progress). p.call.phase) (progress_is old s h.stands task)

  pub command_in_phase : (object : ℕ) (phase : Phase) → (progress_in old.progress task).call.phase ≡ phase
      → DoesAny 2 old old_log new new_log (next_command app task object phase)
      → DoesAny 2 old old_log new new_log (act app task (NextCommand object))
  command_in_phase object phase e d = record {
    at = λ s h. subst (λ (p : Phase). AtAny new new_log.told (next_command app task object p s)) (sym e ∙ phase_is s h) (d.at s h);
    few = d.few;
    before = d.before;
  }

  pub receive_in_phase : (object : ℕ) → ((progress_in old.progress task).call.phase ≡ Start → ⊥)
      → ((progress_in old.progress task).call.phase ≡ Try → ⊥)
      → DoesAny 2 old old_log new new_log (act app task (Await object Receive None))
      → DoesAny 2 old old_log new new_log (act app task (NextCommand object))
  receive_in_phase object a b d = record {
    at = λ s h.
        subst (λ (x : State). AtAny new new_log.told x)
        (same_after app task object (call_at s task).phase s (λ q. a (phase_is s h ∙ q)) (λ q. b (phase_is s h ∙ q)))
        (d.at s h);
    few = d.few;
    before = d.before;
  }

  pub obey_in_phase : (c : Command) (phase : Phase) → (progress_in old.progress task).call.phase ≡ phase
      → c ≡ command_of (unwrap_or (progress_in old.progress task).answer 0)
      → DoesAny 2 old old_log new new_log (obey app task c phase) → DoesAny 2 old old_log new new_log (act app task Obey)
  obey_in_phase c phase e same d = record {
    at = λ s h.
        let command : c ≡ command_at s task =
        same ∙ ap (λ (p : Progress). command_of (unwrap_or p.answer 0)) (progress_is old s h.stands task) in
        subst (λ (x : Command). AtAny new new_log.told (obey app task x (call_at s task).phase s)) command
        (subst (λ (p : Phase). AtAny new new_log.told (obey app task c p s)) (sym e ∙ phase_is s h) (d.at s h));
    few = d.few;
    before = d.before;
  }

  -- Bits are cleared, or set.
  pub obey_clear : (c : Command) → c.clear ≡ true → DoesAny 2 old old_log new new_log (clear_by_daemon app task c.group c.mask)
      → DoesAny 2 old old_log new new_log (obey app task c Start)
  obey_clear c t d = record {
    at = λ s h.
        subst (λ (b : Bool).
        AtAny new new_log.told (if b then clear_by_daemon app task c.group c.mask s else begin_set task c.group c.mask s))
        (sym t) (d.at s h);
    few = d.few;
    before = d.before;
  }

  pub obey_set : (c : Command) → c.clear ≡ false → DoesAny 2 old old_log new new_log (begin_set task c.group c.mask)
      → DoesAny 2 old old_log new new_log (obey app task c Start)
  obey_set c t d = record {
    at = λ s h.
        subst (λ (b : Bool).
        AtAny new new_log.told (if b then clear_by_daemon app task c.group c.mask s else begin_set task c.group c.mask s))
        (sym t) (d.at s h);
    few = d.few;
    before = d.before;
  }
