use Rattle.std.proofs.Common.{◌≡◌, ◌<◌, ◌||◌, ℕ, true}
use Rattle.model.specs.Application.{is_endless}
use Rattle.model.specs.State.{State, status_at}
use Rattle.model.specs.Step.{is_ended}
use Rattle.machine.specs.StandsFor.{Stands}
use Rattle.kernel.proofs.over.are_others_ended.Given as goal

abbrev pub invariant-loop-number : goal.invariant-loop-number
invariant-loop-number l =
    (s : State) → Stands l.machine s → (i : ℕ) → i < l.number → (is_endless l.app i || is_ended (status_at s i)) ≡ true
