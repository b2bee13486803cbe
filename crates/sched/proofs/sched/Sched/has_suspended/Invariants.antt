use Rattle.std.proofs.Common.{◌≡◌, ◌<◌, ℕ, false}
use Rattle.sched.specs.Schedule.{is_suspended}
use Rattle.sched.proofs.sched.Sched.has_suspended.Given as goal

abbrev pub invariant-loop-number : goal.invariant-loop-number
invariant-loop-number l = record {
  none : (i : ℕ) → i < l.number → is_suspended l.self i ≡ false;
}
