use Rattle.std.proofs.Common.{◌≡◌, ◌<◌, ℕ, false}
use Rattle.std.specs.Option.{is_some}
use Rattle.model.specs.State.{State, status_at}
use Rattle.groups.specs.StandsFor.{StandsFor, event_wait}
use Rattle.groups.proofs.groups.Groups.has_waiter.Given as goal

abbrev pub invariant-loop-number : goal.invariant-loop-number
invariant-loop-number l = record {
  none : (s : State) → StandsFor l.self s → (i : ℕ) → i < l.number → is_some (event_wait (status_at s i)) ≡ false;
}
