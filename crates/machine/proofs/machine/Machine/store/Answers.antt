use Rattle.std.proofs.Common.{refl}
use Rattle.model.specs.declared.value.ValueOp.TheVariants.{Store}
use Rattle.std.proofs.Common.{Some}
use Rattle.machine.proofs.Beside.{stored_any}
use Rattle.machine.proofs.machine.Machine.store.Goals as goal

pub returns-in-Load : goal.returns-in-Load
returns-in-Load c = rw c.in-Load.is (record { does = λ log s h. h; any = λ log s h. h; rest = refl })

pub returns-in-Compute : goal.returns-in-Compute
returns-in-Compute c = rw c.in-Compute.is (record { does = λ log s h. h; any = λ log s h. h; rest = refl })

pub returns-in-Some-clause-any : goal.returns-in-Some-clause-any
returns-in-Some-clause-any c = λ log s h.
    rw (c.in-Store.is, c.in-Some.is, c.store.ensures)
    (stored_any c.args.self.now log s (Store c.in-Store.variable c.in-Store.field-1) (Some c.in-Some.value) h)

pub returns-in_default-clause-any : goal.returns-in_default-clause-any
returns-in_default-clause-any c = λ log s h. rw (c.in-Store.is, c.in_default.is) h
