use Rattle.std.proofs.Common.{◌≡◌, ◌-◌, bit_and, refl, arith}
use Rattle.model.specs.Groups.{bits_without}
use Rattle.model.proofs.Masks.{and_without}
use Rattle.model.proofs.notification.NotificationClear.cleared.Goals as goal

pub returns-in-Bits : goal.returns-in-Bits
returns-in-Bits c =
    let n = c.args.notification.value in
    let e : bit_and n (4294967295 - c.in-Bits.bits) ≡ bits_without n c.in-Bits.bits =
    and_without n c.in-Bits.bits (omega arith) (omega arith) in
    rw e (rw c.in-Bits.is refl)
