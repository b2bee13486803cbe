-- Handlers that are never armed, and handlers that can always come.
use Rattle.std.specs.Prelude.{◌≡◌, ◌==◌, ℕ, Bool, true, false, not, filter, List, Some, option_map, slice_get}
use Rattle.std.specs.List.{AllByRecursion}
use Rattle.std.specs.Option.{IfSome}
use Rattle.model.specs.declared.op.IsrOp.{IsrOp}
use Rattle.model.specs.declared.op.IsrOp.TheVariants as isr_op
use Rattle.model.specs.declared.op.Op.{Op}
use Rattle.model.specs.declared.op.Op.TheVariants as op
use Rattle.model.specs.declared.plan.Injection.{Injection}
use Rattle.model.specs.declared.source.SourceOp.TheVariants.{Arm, Disarm}
use Rattle.model.specs.Application.{Application, Handler, op_at, ops_of}

-- The op of a task, or of a handler, arms this handler.
abbrev pub arms : ℕ → Op → Bool
arms handler (op.Source other Arm) = other == handler
arms handler _ = false

abbrev pub isr_arms : ℕ → IsrOp → Bool
isr_arms handler (isr_op.Source other Arm) = other == handler
isr_arms handler _ = false

-- The op disarms it.
abbrev pub disarms : ℕ → Op → Bool
disarms handler (op.Source other Disarm) = other == handler
disarms handler _ = false

abbrev pub isr_disarms : ℕ → IsrOp → Bool
isr_disarms handler (isr_op.Source other Disarm) = other == handler
isr_disarms handler _ = false

-- a plan without the injections of this handler
abbrev pub without : ℕ → List Injection → List Injection
without handler plan = filter (λ (i : Injection). not (i.handler == handler)) plan

-- The handler is disarmed at reset, and no op of the file arms it.
pub record IsNeverArmed (app : Application) (handler : ℕ) : Type 0 where
  pub at_reset : option_map (λ (h : Handler). h.armed) (slice_get app.handlers handler) ≡ Some false
  pub tasks : (task op_index : ℕ) → IfSome (op_at app task op_index) (λ op. arms handler op ≡ false)
  pub handlers : (other : ℕ) → AllByRecursion (λ op. isr_arms handler op ≡ false) (ops_of app other)

-- The handler is armed at reset, its comings needn't be apart, and no op of the file disarms it.
pub record IsAlwaysArmed (app : Application) (handler : ℕ) : Type 0 where
  pub at_reset : IfSome (slice_get app.handlers handler) (λ h. (h.armed ≡ true) × (h.apart ≡ 0))
  pub tasks : (task op_index : ℕ) → IfSome (op_at app task op_index) (λ op. disarms handler op ≡ false)
  pub handlers : (other : ℕ) → AllByRecursion (λ op. isr_disarms handler op ≡ false) (ops_of app other)
