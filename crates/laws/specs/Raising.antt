-- Handlers that are raised, and handlers that raise themselves again, in plain terms.
use Rattle.std.specs.Option.{IfSome}
use Rattle.model.specs.declared.op.Op.{Op}
use Rattle.model.specs.declared.op.Op.TheVariants as op
use Rattle.model.specs.Step.{before_step}
use Rattle.std.specs.Prelude.{◌+◌, ◌*◌, ◌<◌, ◌≤◌, ◌≡◌, ◌≢◌, ◌==◌, ℕ, zero, suc, Bool, false, List, ◌∷◌, Some}
use Rattle.std.specs.List.{AllByRecursion}
use Rattle.model.specs.declared.op.IsrOp.{IsrOp}
use Rattle.model.specs.declared.op.IsrOp.TheVariants as isr_op
use Rattle.model.specs.declared.source.SourceOp.TheVariants.{Raise, Cancel}
use Rattle.model.specs.Application.{Application, interrupts_at, op_at, ops_of}
use Rattle.model.specs.Handlers.{tick_interrupt}
use Rattle.model.specs.State.{State, progress_at, source_at}

-- The handler is raised for this elapsed tick.
abbrev pub IsRaisedFor : State → (handler tick : ℕ) → Type 0
IsRaisedFor s handler tick = (source_at s handler).raised ≡ Some tick

-- The op of a handler raises or cancels this handler.
abbrev pub is_raising : ℕ → IsrOp → Bool
is_raising handler (isr_op.Source other (Raise ticks)) = other == handler
is_raising handler (isr_op.Source other Cancel) = other == handler
is_raising handler _ = false

-- None of these ops raises or cancels this handler.
abbrev pub LeaveRaised : ℕ → List IsrOp → Type 0
LeaveRaised handler ops = AllByRecursion (λ op. is_raising handler op ≡ false) ops

-- The handler's first op raises it again, after this many ticks. No other op of its own, and no op of another handler, raises or
-- cancels it.
pub record IsPeriodic (app : Application) (handler period : ℕ) : Type 0 where
  pub ops : List IsrOp
  pub again : ops_of app handler ≡ isr_op.Source handler (Raise period) ∷ ops
  pub once : LeaveRaised handler ops
  pub others : (other : ℕ) → other ≢ handler → LeaveRaised handler (ops_of app other)

-- The handler has no base interrupt at this elapsed tick.
abbrev pub HasNoBase : Application → (handler tick : ℕ) → Type 0
HasNoBase app handler tick = AllByRecursion (λ other. other ≢ handler) (interrupts_at app tick)

-- the state after this many tick interrupts
abbrev pub after_ticks : Application → ℕ → State → State
after_ticks app zero s = s
after_ticks app (suc n) s = tick_interrupt app (after_ticks app n s)

-- The op of a task raises or cancels this handler.
abbrev pub raises : ℕ → Op → Bool
raises handler (op.Source other (Raise ticks)) = other == handler
raises handler (op.Source other Cancel) = other == handler
raises handler _ = false

-- The handler isn't among the injections of the step from this state, and the running task's op doesn't raise or cancel it.
pub record IsLeftAlone (app : Application) (handler : ℕ) (sources : List ℕ) (s : State) : Type 0 where
  pub plan : AllByRecursion (λ source. source ≢ handler) sources
  pub tasks : (task : ℕ) → (before_step app sources s).current ≡ Some task
      → IfSome (op_at app task (progress_at (before_step app sources s) task).op_index) (λ op. raises handler op ≡ false)

-- The handler is raised for the next of these ticks: the first one, and those that are a multiple of the period later.
pub record IsDueNext (s : State) (handler first period : ℕ) : Type 0 where
  pub turns : ℕ
  pub raised : IsRaisedFor s handler (first + turns * period)
  pub later : s.elapsed < first + turns * period
  pub soonest : (earlier : ℕ) → s.elapsed < first + earlier * period → turns ≤ earlier
