use Rattle.std.proofs.Common.{◌+◌, ◌*◌, ◌≤◌, length}
use Rattle.random_apps.specs.Known.{AreInterrupts}
use Rattle.random_apps.proofs.Dice.interrupts.Given as goal

abbrev pub invariant-loop : goal.invariant-loop
invariant-loop l =
    (length l.interrupts.items ≤ l.counter) × (1 ≤ l.tick)
    × (l.tick ≤ 1 + 200000 * l.counter) × AreInterrupts l.tick l.interrupts.items
