use Rattle.std.proofs.Common.{◌≡◌, map}
use Rattle.std.specs.List.{range_with_len}
use Rattle.arrayvec.specs.ArrayVec.{array_vec_len}
use Rattle.model.specs.State.{State}
use Rattle.model.specs.EndStates.{situation_of}
use Rattle.kernel.specs.EndStates.{StandsOpened}
use Rattle.kernel.proofs.end_state.situations.Given as goal

abbrev pub invariant-loop-number : goal.invariant-loop-number
invariant-loop-number l = record {
  told : (s : State) → StandsOpened l.machine l.awake s → l.situations.items ≡ map (situation_of s) (range_with_len 0 l.number);
  count : array_vec_len l.situations ≡ l.number;
}
