use Rattle.std.proofs.Common.{◌≡◌, ◌+◌, ◌-◌, ◌^◌, bit_and, arith}
use Rattle.std.proofs.lemmas.Nat.{and-not, and_comm}
use Rattle.groups.proofs.bits.bits_without.Goals as goal

pub returns : goal.returns
returns c =
    let b = c.args.bits in
    let m = c.args.mask in
    let split : bit_and (2 ^ 32 - 1 - m) b + bit_and m b ≡ b = and-not 32 m b (omega arith) (omega arith) in
    let turned : bit_and b (4294967295 - m) ≡ bit_and (2 ^ 32 - 1 - m) b = and_comm b (4294967295 - m) in
    let common : bit_and b m ≡ bit_and m b = and_comm b m in
    record { left = omega (arith, split, turned, common) }
