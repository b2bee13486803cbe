use Rattle.std.proofs.Common.{◌≡◌, ◌+◌, ℕ, suc, []}
use Rattle.kernel.specs.Along.{GoesOn}
use Rattle.kernel.specs.Quiet.{IsQuiet}
use Rattle.kernel.proofs.quiet.pass_ticks.Given as goal

abbrev pub invariant-loop : goal.invariant-loop
invariant-loop l = record {
  along : GoesOn l.app l.limits (l.fn.kernel.steps + l.count) l.fn.kernel l.kernel [] [];
  quiet : (n : ℕ) → l.counter + suc n ≡ l.count → IsQuiet l.app l.limits (suc n) l.kernel;
  steps : l.kernel.steps ≡ l.fn.kernel.steps + l.counter;
}
