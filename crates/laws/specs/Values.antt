-- Which ops store to a variable, in plain terms.
use Rattle.std.specs.Prelude.{◌≡◌, ◌==◌, ℕ, Bool, false, Some}
use Rattle.std.specs.List.{AllByRecursion}
use Rattle.std.specs.Option.{IfSome}
use Rattle.model.specs.declared.op.IsrOp.{IsrOp}
use Rattle.model.specs.declared.op.IsrOp.TheVariants as isr_op
use Rattle.model.specs.declared.op.Op.{Op}
use Rattle.model.specs.declared.op.Op.TheVariants.{Value}
use Rattle.model.specs.declared.value.ValueOp.{ValueOp}
use Rattle.model.specs.declared.value.ValueOp.TheVariants.{Store}
use Rattle.model.specs.Application.{Application, op_at, ops_of}
use Rattle.model.specs.State.{State, progress_at}

-- The op stores to this variable: an op on values, an op of a task, and an op of a handler.
abbrev pub is_store_to : ℕ → ValueOp → Bool
is_store_to x (Store variable value) = variable.number == x
is_store_to x _ = false

abbrev pub stores_to : ℕ → Op → Bool
stores_to x (Value op) = is_store_to x op
stores_to x _ = false

abbrev pub isr_stores_to : ℕ → IsrOp → Bool
isr_stores_to x (isr_op.Value op) = is_store_to x op
isr_stores_to x _ = false

-- No handler of the application has an op that stores to this variable.
abbrev pub NoHandlerStores : Application → ℕ → Type 0
NoHandlerStores app x = (handler : ℕ) → AllByRecursion (λ op. isr_stores_to x op ≡ false) (ops_of app handler)

-- In this state, if a task runs, its op doesn't store to this variable.
abbrev pub NoTaskStores : Application → ℕ → State → Type 0
NoTaskStores app x s =
    (task : ℕ) → s.current ≡ Some task → IfSome (op_at app task (progress_at s task).op_index) (λ op. stores_to x op ≡ false)
