-- A base run with the kernel as it was along it, and what rows cost from there.
use Rattle.std.specs.Prelude.{◌≡◌, ℕ, ◌+◌, ◌-◌, ◌*◌, ◌%◌, ◌<◌, ◌≤◌, Bool, List, [], IfSome, length, min, nat_le, nat_lt, slice_get}
use Rattle.std.specs.Prelude.{if◌then◌else◌}
use Rattle.model.specs.declared.plan.Injection.{Injection}
use Rattle.model.specs.Points.{first_step}
use Rattle.model.specs.Application.{Application, Limits}
use Rattle.model.specs.Run.{Run, IsRun, events_after}
use Rattle.machine.specs.Can.{IsUnderWay}
use Rattle.shelf.specs.declared.checkpoints.Checkpoint.{Checkpoint}
use Rattle.shelf.specs.Rests.{AreRests}

-- The kernel was so before this step of the base run, which had reported this many events by then.
pub record IsCheckpoint (app : Application) (limits : Limits) (step : ℕ) (checkpoint : Checkpoint) : Type 0 where
  pub way : IsUnderWay app [] limits checkpoint.kernel
  pub there : checkpoint.kernel.steps ≡ step
  pub before : checkpoint.before ≡ length (events_after app limits [] step)

-- These are the checkpoints before steps 0, stride, 2 stride and so on.
abbrev pub AreCheckpoints : Application → Limits → (stride : ℕ) → List Checkpoint → Type 0
AreCheckpoints app limits stride checkpoints =
    (number : ℕ) → IfSome (slice_get checkpoints number) (IsCheckpoint app limits (number * stride))

-- a base run, its limits, and the checkpoints along it
pub record Shelved : Type 0 where
  pub base : Run
  pub limits : Limits
  pub stride : ℕ
  pub checkpoints : List Checkpoint

-- It is the application's base run, with checkpoints as far as it goes, at which other runs join it.
pub record IsShelf (app : Application) (shelf : Shelved) : Type 0 where
  pub is_base : IsRun app [] shelf.limits shelf.base
  pub apart : 0 < shelf.stride
  pub are_checkpoints : AreCheckpoints app shelf.limits shelf.stride shelf.checkpoints
  pub rests : AreRests app shelf.limits shelf.base shelf.checkpoints
  pub enough : shelf.base.steps ≤ length shelf.checkpoints * shelf.stride

-- How many steps of the base run lead to this one: from where a walk is, or from the checkpoint before, whichever is nearer; from
-- the checkpoint if the walk is past it.
abbrev pub way_to : (stride walked step : ℕ) → ℕ
way_to stride walked step = if nat_le walked step then min (step - walked) (step % stride) else step % stride

-- How many steps are done for the row of a point by itself, which ends after this many: those from the checkpoint before its first
-- injection on; if that can't come there, those up to it; none if the base run doesn't get there.
abbrev pub cost_of : Shelved → List Injection → (reached : Bool) → ℕ → ℕ
cost_of shelf point reached steps =
    if nat_lt (first_step point) shelf.base.steps
    then first_step point % shelf.stride + (if reached then steps - first_step point else 0)
    else 0
