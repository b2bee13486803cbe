-- A command that sets bits, which the daemon has received and is to begin.
use Rattle.std.specs.Prelude.{◌≡◌, ℕ, false, Some}
use Rattle.std.specs.Option.{unwrap_or}
use Rattle.model.specs.declared.op.Command.{Command}
use Rattle.model.specs.declared.op.Op.TheVariants.{Obey}
use Rattle.model.specs.declared.call.Phase.TheVariants.{Start}
use Rattle.model.specs.Application.{Application, op_at}
use Rattle.model.specs.Daemon.{command_of}
use Rattle.machine.specs.declared.machine.Machine.{Machine}
use Rattle.machine.specs.StandsFor.{progress_in}

-- The running task is to do such a command, its last answer; no `suspend_all` is in force.
pub record IsToSet (app : Application) (k : Machine) (task : ℕ) (command : Command) : Type 0 where
  pub current : k.sched.current ≡ Some task
  pub at : op_at app task (progress_in k.progress task).op_index ≡ Some Obey
  pub reached : (progress_in k.progress task).call.phase ≡ Start
  pub awake : k.sched.suspensions ≡ 0
  pub received : command ≡ command_of (unwrap_or (progress_in k.progress task).answer 0)
  pub sets : command.clear ≡ false
