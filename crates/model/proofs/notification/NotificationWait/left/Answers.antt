use Rattle.std.proofs.Common.{◌≡◌, ◌-◌, bit_and, refl, arith}
use Rattle.model.specs.Groups.{bits_without}
use Rattle.model.proofs.Masks.{and_without}
use Rattle.model.proofs.notification.NotificationWait.left.Goals as goal

pub returns-in-Wait : goal.returns-in-Wait
returns-in-Wait c =
    let n = c.args.notification.value in
    let m = c.in-Wait.masks.exit in
    let e : bit_and n (4294967295 - m) ≡ bits_without n m = and_without n m (omega arith) (omega arith) in
    rw e (rw c.in-Wait.is (rw c.if-notification.true refl))
