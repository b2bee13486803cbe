-- What the daemon's ops keep.
use Rattle.std.proofs.Common.{◌≡◌, ◌<◌, ℕ, Bool, true, false, List, [], ◌∷◌, length, Option, Some, None, refl, ap, sym, subst, ◌∙◌}
use Rattle.std.proofs.Common.{arith}
use Rattle.std.specs.Option.{IfSome}
use Rattle.model.specs.declared.op.Op.{Op}
use Rattle.model.specs.declared.op.Op.TheVariants.{NextCommand, Obey}
use Rattle.model.specs.declared.op.Access.TheVariants.{Receive}
use Rattle.model.specs.declared.loops.Loop.{Loop}
use Rattle.model.specs.declared.call.Phase.TheVariants.{Start, Decide}
use Rattle.model.specs.declared.event.What.TheVariants as what
use Rattle.model.specs.Application.{Application, commands_of, op_at}
use Rattle.model.specs.Blocks.{loops_in}
use Rattle.model.specs.Scripts.{IsDaemon, IsWellFormed, fits_object}
use Rattle.model.specs.State.{State, Task, task_at, status_at, progress_at, call_at, bits_at}
use Rattle.model.specs.Switching.{is_ready, write}
use Rattle.model.specs.Waiting.{end_hold}
use Rattle.model.specs.Objects.{possible, answer_to, fulfil}
use Rattle.model.specs.Groups.{bits_without}
use Rattle.model.specs.Daemon.{received, take_command, obeyed, clear_by_daemon}
use Rattle.model.specs.Invariant.{AreOpenAt, Hold, course, list_of_op, IsPhaseOf, IsSound, IsState, wait_of}
use Rattle.model.proofs.Sorting.{by_test}
use Rattle.model.proofs.Statuses.{ready_free}
use Rattle.soundness.proofs.InScripts.{known_at}
use Rattle.soundness.proofs.Sound.{logged, preempted, plain, restarted}
use Rattle.soundness.proofs.Called.{spared_fulfil, fulfilled, went_on}
use Rattle.soundness.proofs.Phases.{free, hold_ended}
use Rattle.soundness.proofs.Bits.{bits_put, ended_at, ended_task, listless}

none_open : (loops : List Loop) → length loops ≡ 0 → loops ≡ []
none_open [] e = refl
none_open (l ∷ ls) e = absurd (omega arith)

module _ (app : Application) (formed : IsWellFormed app) (hold : Hold) where
  -- a command is received, or the daemon decides to wait for one
  pub command_taken : (s : State) (i o : ℕ) → IsSound app hold s → s.locked ≡ hold.locked → i < length s.tasks
      → is_ready s i ≡ true → op_at app i (progress_at s i).op_index ≡ Some (NextCommand o)
      → fits_object {Item = ℕ} app o Receive ≡ true → IsSound app hold (take_command app i o s)
  unfolding take_command received
  command_taken s i o h same l r is fit =
      let P : Option Op → Type 0 = λ op. IsPhaseOf hold (course op) Decide in
      let t : State = fulfil (Some i) o Receive s in
      let at : task_at t i ≡ task_at s i = spared_fulfil s i (Some i) o Receive r in
      let free : wait_of (status_at t i) ≡ None = ap (λ (u : Task). wait_of u.status) at ∙ ready_free (status_at s i) r in
      let there : op_at app i (progress_at t i).op_index ≡ Some (NextCommand o) =
      ap (λ (u : Task). op_at app i u.progress.op_index) at ∙ is in
      by_test (possible s o Receive)
      (λ q.
      rw q (preempted app formed hold _ (plain app formed hold t i (fulfilled app formed hold s (Some i) o Receive h same q fit l)
      free (NextCommand o) there (answer_to s o Receive) refl)))
      (λ q. rw q (went_on app formed hold s i Decide h (subst P (sym is) tt)))

  -- where the daemon does a command, no loop is open
  pub no_loops : (s : State) (i : ℕ) → IsSound app hold s
      → op_at app i (progress_at s i).op_index ≡ Some Obey → (progress_at s i).loops ≡ []
  no_loops s i h is =
      let own = known_at app formed i (progress_at s i).op_index Obey is in
      let d : IsDaemon app i = subst (λ o. IfSome o (IsDaemon app)) own.0 formed.daemon in
      let at : AreOpenAt (NextCommand (commands_of app) ∷ Obey ∷ []) 1 (length (progress_at s i).loops) =
      rw (own.1, d.script) at (h.progress i).nests in
      none_open (progress_at s i).loops (sym at.count ∙ ap loops_in at.nests.1)

  -- it is done
  pub obeyed_done : (s : State) (i : ℕ) (clear : Bool) (bits : ℕ) → IsSound app hold s
      → wait_of (status_at s i) ≡ None → (progress_at s i).loops ≡ [] → IsSound app hold (obeyed app i clear bits s)
  unfolding obeyed
  obeyed_done s i clear bits h free none =
      restarted app formed hold (write (what.Obeyed i clear bits) s) i
      (logged app formed hold s _ s.steps s.stopped h) free (Some bits) none

  pub cleared_by_daemon : (s : State) (i : ℕ) (group mask : ℕ) → IsSound app hold s → wait_of (status_at s i) ≡ None
      → op_at app i (progress_at s i).op_index ≡ Some Obey → IsSound app hold (clear_by_daemon app i group mask s)
  unfolding clear_by_daemon
  cleared_by_daemon s i group mask h free is =
      obeyed_done _ i true (bits_at s group)
      (bits_put app formed hold s group (bits_without (bits_at s group) mask) h) free (no_loops s i h is)

module _ (app : Application) (formed : IsWellFormed app) (s : State) (i : ℕ) (h : IsState app s)
    (runs : s.current ≡ Some i) (l : i < length s.tasks) (unlocked : s.locked ≡ None) where
  pub set_ended_by_daemon : (bits : ℕ) → op_at app i (progress_at s i).op_index ≡ Some Obey
      → is_ready s i ≡ true → IsSound app free (obeyed app i false bits (end_hold i Start s))
  set_ended_by_daemon bits is r =
      let ended : State = end_hold i Start s in
      let at : task_at ended i ≡ ended_task app formed s i h runs l unlocked =
      ended_at app formed s i h runs l unlocked r in
      let none : wait_of (status_at s i) ≡ None =
      listless (op_at app i (progress_at s i).op_index) (call_at s i).deadline
      (wait_of (status_at s i)) (ap list_of_op is) (h.sound.calls i).wait in
      obeyed_done app formed free ended i false bits (hold_ended app formed s i h runs l unlocked Start tt)
      (ap (λ (u : Task). wait_of u.status) at ∙ none)
      (ap (λ (u : Task). u.progress.loops) at ∙ no_loops app formed _ s i h.sound is)
