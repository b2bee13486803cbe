-- Ops that take a value: what they do to the states that the kernel represents.
use Rattle.std.proofs.Common.{◌≡◌, ℕ, List, Option, Some, refl, subst, sym}
use Rattle.model.specs.declared.event.End.TheVariants.{Check}
use Rattle.model.specs.declared.ids.VariableId.{VariableId}
use Rattle.model.specs.declared.op.Op.TheVariants.{Value}
use Rattle.model.specs.declared.value.Value as value
use Rattle.model.specs.declared.value.ValueOp.{ValueOp}
use Rattle.model.specs.declared.value.ValueOp.TheVariants.{Load, Store, Compute}
use Rattle.model.specs.Application.{Application}
use Rattle.model.specs.Step.{act_by_value}
use Rattle.model.specs.Values.{answer_of, stored}
use Rattle.model.specs.declared.event.Event.{Event}
use Rattle.model.specs.Ops.{answer, calculate, fail, store}
use Rattle.model.specs.State.{State, Progress, progress_at}
use Rattle.machine.specs.declared.machine.Machine.{Machine}
use Rattle.machine.specs.StandsFor.{At, AtAny, Stands, progress_in}
use Rattle.machine.proofs.Either.{progress_is}

-- the check that fails is the task's op
pub failed_at : (k new : Machine) (log : List Event) (s : State) → Stands k s → (task : ℕ)
    → At new log (fail (Check task (progress_in k.progress task).op_index) s)
    → At new log (fail (Check task (progress_at s task).op_index) s)
failed_at k new log s h task failed =
    subst (λ (p : Progress). At new log (fail (Check task p.op_index) s)) (progress_is k s h task) failed

pub failed_any : (k new : Machine) (log : List Event) (s : State) → Stands k s → (task : ℕ)
    → AtAny new log (fail (Check task (progress_in k.progress task).op_index) s)
    → AtAny new log (fail (Check task (progress_at s task).op_index) s)
failed_any k new log s h task failed =
    subst (λ (p : Progress). AtAny new log (fail (Check task p.op_index) s)) (progress_is k s h task) failed

-- ---- an op on values

calculated : (app : Application) (new : Machine) (log : List Event) (s : State) (task n : ℕ) (op : ValueOp)
    → answer_of s.variables (progress_at s task).answer op ≡ Some n
    → At new log (answer app task (Some n) (store op (Some n) s)) → At new log (act_by_value app task (Value op) s)
unfolding calculate
calculated app new log s task n op e h = rw e h

-- one that stores its answer
pub stores_at : (app : Application) (new : Machine) (log : List Event) (s : State) (task n : ℕ) (op : ValueOp)
    → Some n ≡ answer_of s.variables (progress_at s task).answer op
    → At new log (answer app task (Some n) (store op (Some n) s)) → At new log (act_by_value app task (Value op) s)
stores_at app new log s task n op e h = calculated app new log s task n op (sym e) h

stores_nothing : (op : ValueOp) → ((x : VariableId) (v : value.Value) → op ≡ Store x v → ⊥) → (a : Option ℕ) (xs : List ℕ)
    → stored op a xs ≡ xs
stores_nothing (Load x) none a xs = refl
stores_nothing (Compute kind v) none a xs = refl
stores_nothing (Store x v) none a xs = absurd (none x v refl)

-- any other
pub answers_at : (app : Application) (new : Machine) (log : List Event) (s : State) (task n : ℕ) (op : ValueOp)
    → ((x : VariableId) (v : value.Value) → op ≡ Store x v → ⊥)
    → Some n ≡ answer_of s.variables (progress_at s task).answer op
    → At new log (answer app task (Some n) s) → At new log (act_by_value app task (Value op) s)
answers_at app new log s task n op none e h =
    calculated app new log s task n op (sym e)
    (subst (λ (xs : List ℕ). At new log (answer app task (Some n) (record s { variables = xs })))
    (sym (stores_nothing op none (Some n) s.variables)) h)
