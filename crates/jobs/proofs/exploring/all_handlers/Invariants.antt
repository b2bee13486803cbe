use Rattle.std.proofs.Common.{◌↔◌, ◌<◌, ℕ}
use Rattle.std.specs.Prelude.{Contains}
use Rattle.jobs.proofs.exploring.all_handlers.Given as goal

abbrev pub invariant-loop-number : goal.invariant-loop-number
invariant-loop-number l = (handler : ℕ) → Contains l.handlers.items handler ↔ (handler < l.number)
