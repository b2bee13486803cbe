use Rattle.std.proofs.Common.{◌≡◌, ◌<◌, ℕ, false, None}
use Rattle.std.specs.Option.{is_some}
use Rattle.model.specs.State.{State, status_at}
use Rattle.model.specs.Invariant.{wait_of}
use Rattle.objects.specs.Objects.{StandsFor}
use Rattle.objects.proofs.objects.Objects.has_waiter.Given as goal

abbrev pub invariant-loop-number : goal.invariant-loop-number
invariant-loop-number l = record {
  none : (s : State) → StandsFor l.self None s → (i : ℕ) → i < l.number → is_some (wait_of (status_at s i)) ≡ false;
}
