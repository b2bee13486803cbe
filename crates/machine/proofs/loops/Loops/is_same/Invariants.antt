use Rattle.std.proofs.Common.{◌≡◌, ℕ, ◌<◌, get_or}
use Rattle.machine.specs.Loops.{no_loop}
use Rattle.machine.proofs.loops.Loops.is_same.Given as goal

abbrev pub invariant-loop-level : goal.invariant-loop-level
invariant-loop-level l =
    (level : ℕ) → level < l.level → get_or l.self-inside.cells level no_loop ≡ get_or l.other-inside.cells level no_loop
