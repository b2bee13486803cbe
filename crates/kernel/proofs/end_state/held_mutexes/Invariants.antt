use Rattle.std.proofs.Common.{◌≡◌, ◌≤◌, None, length, take}
use Rattle.arrayvec.specs.ArrayVec.{array_vec_len}
use Rattle.model.specs.State.{State}
use Rattle.objects.specs.Objects.{StandsFor}
use Rattle.model.specs.EndStates.{held_from}
use Rattle.kernel.proofs.end_state.held_mutexes.Given as goal

abbrev pub invariant-loop-number : goal.invariant-loop-number
invariant-loop-number l = record {
  told : (s : State) → StandsFor l.objects None s → length s.objects ≡ l.count
      → l.held.items ≡ held_from 0 (take l.number s.objects);
  count : array_vec_len l.held ≤ l.number;
}
