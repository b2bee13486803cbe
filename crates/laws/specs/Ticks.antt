-- Ticks among interrupts, and ticks of a `work`.
use Rattle.std.specs.Prelude.{ℕ, ◌≡◌, ◌+◌, ◌<◌, true, List, filter, length, Some}
use Rattle.model.specs.declared.op.Op.TheVariants.{Work}
use Rattle.model.specs.Application.{Application, op_at}
use Rattle.model.specs.State.{State, progress_at}
use Rattle.model.specs.Switching.{is_ready}
use Rattle.model.specs.Handlers.{is_tick}

-- how many of these interrupts are ticks
abbrev pub ticks_among : Application → List ℕ → ℕ
ticks_among app sources = length (filter (is_tick app) sources)

-- The task runs a `work` of this many ticks, and more than one tick of it is left.
pub record WorksOn (app : Application) (s : State) (task ticks : ℕ) : Type 0 where
  pub runs : s.current ≡ Some task
  pub ready : is_ready s task ≡ true
  pub op : op_at app task (progress_at s task).op_index ≡ Some (Work ticks)
  pub left : (progress_at s task).used + 1 < ticks

-- the same state, but with this number of steps
abbrev pub with_steps : ℕ → State → State
with_steps steps s = record s { steps = steps }
