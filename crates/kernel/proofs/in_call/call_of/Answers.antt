use Rattle.std.proofs.Common.{[], None, refl}
use Rattle.kernel.specs.InCall.IsCallOn.{Awaits, Receives}
use Rattle.kernel.proofs.in_call.call_of.Goals as goal

pub returns-in-Await : goal.returns-in-Await
returns-in-Await c = (c.in-Await.field-2, Awaits c.in-Await.access [] None c.in-Await.is c.with_any_number.ensures)

pub returns-in-NextCommand : goal.returns-in-NextCommand
returns-in-NextCommand c = (None, Receives c.in-NextCommand.is refl refl)
