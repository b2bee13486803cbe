-- The daemon begins to set the bits of a command that it has received.
use Rattle.std.proofs.Common.{◌≡◌, ◌∙◌, ◌<◌, ◌+◌, ℕ, false, Some, [], refl, ap, sym, subst, arith}
use Rattle.std.specs.Option.{unwrap_or}
use Rattle.model.specs.declared.op.Command.{Command}
use Rattle.model.specs.declared.op.Op.TheVariants.{Obey}
use Rattle.model.specs.declared.call.Phase.TheVariants.{Start, Leave}
use Rattle.model.specs.Application.{Application, Limits, op_at}
use Rattle.model.specs.State.{State, Progress, progress_at}
use Rattle.model.specs.Groups.{begin_set}
use Rattle.model.specs.Daemon.{command_of, command_at}
use Rattle.model.specs.Step.{act_current, step}
use Rattle.machine.specs.declared.machine.Machine.{Machine}
use Rattle.machine.specs.Logged.{Logged}
use Rattle.machine.specs.StandsFor.{AtAny, DoesAny, Moves, Stands, progress_in}
use Rattle.machine.proofs.Either.{current_is, moves_any, progress_is, not_by_task}
use Rattle.ops.specs.Can.{CanDecide, CanSetBits}
use Rattle.ops.proofs.Commanding.{obey_in_phase, obey_set}
use Rattle.ops.specs.InCall.{Remains}
use Rattle.kernel.specs.Bits.{IsLettingGo}
use Rattle.kernel.specs.Commands.{IsToSet}
use Rattle.kernel.specs.Can.{CanOp}
use Rattle.kernel.specs.Over.{is_over}
use Rattle.kernel.proofs.Acted.{any_by_form, two_within}
use Rattle.kernel.proofs.Holding.{letting, stands_held, steps_held, told_held}
use Rattle.kernel.proofs.Running.{acts}
use Rattle.kernel.proofs.Silent.{not_over_setting}
use Rattle.machine.specs.Can.{NonePends}
use Rattle.machine.proofs.Pending.{none_by}

module _ (app : Application) (k : Machine) (task : ℕ) (command : Command) (t : IsToSet app k task command) where
  pub can_begin : CanOp app k task Obey → CanDecide k task
  can_begin can = subst (CanSetBits k task) t.reached can

  pub begins : (limits : Limits) (new : Machine) (log : Logged) → CanDecide k task
      → Moves k new (begin_set task command.group command.mask)
      → DoesAny 337 k log new log (λ s. act_current app limits s.current s)
  begins limits new log can moves =
      acts app limits k task t.current Obey t.at new log log
      (any_by_form app k new log log task Obey Obey refl t.awake (λ s. refl) refl 2 two_within
      (obey_in_phase app k new log log task command Start t.reached t.received
      (obey_set app k new log log task command t.sets (moves_any 2 k new log _ can.agrees moves))))

  -- Nor does it end the run, if a task runs then.
  pub not_over_begun : NonePends k → (limits : Limits) (new : Machine) (s : State) → Stands k s
      → Stands new (step app limits [] s) → is_over app limits s ≡ false → (running : ℕ)
      → new.sched.current ≡ Some running → is_over app limits (step app limits [] s) ≡ false
  not_over_begun calm limits new s h after going running still =
      let is : progress_in k.progress task ≡ progress_at s task = progress_is k s h task in
      let same : command ≡ command_at s task = t.received ∙ ap (λ (p : Progress). command_of (unwrap_or p.answer 0)) is in
      not_over_setting app limits task s (none_by k s calm h)
      (sym (current_is k s h) ∙ t.current)
      (ap (λ (p : Progress). op_at app task p.op_index) (sym is) ∙ t.at)
      (ap (λ (p : Progress). p.call.phase) (sym is) ∙ t.reached)
      (not_by_task k s h t.awake)
      (ap (λ (c : Command). c.clear) (sym same) ∙ t.sets)
      running (sym (current_is new (step app limits [] s) after) ∙ still) going

  -- Its call holds the scheduler then.
  module _ (limits : Limits) (new : Machine) (can : CanDecide k task)
      (moves : Moves k new (begin_set task command.group command.mask)) (held : new.sched.depth ≡ 1)
      (calm : NonePends k) (s : State) (h : Stands k s) where
    does : (s : State) → AtAny k [] s → AtAny new [] (act_current app limits s.current s)
    does = (begins limits new (record { before = []; told = []; room = 337 }) can moves).at

    some_hold : 0 < new.sched.depth
    some_hold = omega (arith, held)

    pub steps_set : new.steps ≡ k.steps
    steps_set = steps_held app limits k new calm [] does some_hold s h

    pub stands_set : Stands (record new { steps = new.steps + 1 }) (step app limits [] s)
    stands_set = stands_held app limits k new calm [] does some_hold s h

    pub told_set : (step app limits [] s).log ≡ []
    told_set = sym (told_held app limits k new calm [] does some_hold s h)

    pub not_over_set : Remains k new task → is_over app limits s ≡ false → is_over app limits (step app limits [] s) ≡ false
    not_over_set r going =
        not_over_begun calm limits (record new { steps = new.steps + 1 }) s h stands_set going task (r.current ∙ t.current)

  pub letting_set : (new : Machine) → Remains k new task → (progress_in new.progress task).call.phase ≡ Leave → (n : ℕ)
      → IsLettingGo app (record new { steps = n }) task Obey
  letting_set new = letting app k new task Obey t.current t.at t.awake refl
