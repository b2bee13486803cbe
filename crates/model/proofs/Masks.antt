-- The bits without those of a mask, as code has them.
use Rattle.std.proofs.Common.{◌≡◌, ◌<◌, ◌+◌, ◌-◌, ◌^◌, ℕ, bit_and, arith}
use Rattle.std.proofs.lemmas.Nat.{and-not, and_comm}
use Rattle.model.specs.Groups.{bits_without}

pub and_without : (b m : ℕ) → b < 2 ^ 32 → m < 2 ^ 32 → bit_and b (4294967295 - m) ≡ bits_without b m
and_without b m p q =
    let split : bit_and (2 ^ 32 - 1 - m) b + bit_and m b ≡ b = and-not 32 m b q p in
    let turned : bit_and b (4294967295 - m) ≡ bit_and (2 ^ 32 - 1 - m) b = and_comm b (4294967295 - m) in
    let common : bit_and b m ≡ bit_and m b = and_comm b m in
    omega (arith, split, turned, common)
