-- For whose end a run may still wait, as the lists of the kernel have it.
use Rattle.std.specs.Prelude.{◌≡◌, ◌||◌, ℕ, true, false}
use Rattle.sched.specs.Schedule.{is_ready}
use Rattle.clock.specs.Timeline.{is_asleep}
use Rattle.model.specs.Application.{Application, is_endless}
use Rattle.machine.specs.declared.machine.Machine.{Machine}

-- Some task that isn't endless is Ready, or will wake by itself.
abbrev pub IsAnyLeft : Application → Machine → Type 0
IsAnyLeft app k = (task : ℕ) × (is_endless app task ≡ false) × ((is_ready k.sched task || is_asleep k.clock task) ≡ true)
