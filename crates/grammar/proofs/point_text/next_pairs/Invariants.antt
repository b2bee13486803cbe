use Rattle.std.proofs.Common.{◌≡◌, ◌-◌, map}
use Rattle.arrayvec.specs.ArrayVec.{array_vec_len}
use Rattle.grammar.specs.Points.{pair_view, raw_pairs}
use Rattle.grammar.proofs.PointTexts.{behind}
use Rattle.grammar.proofs.point_text.next_pairs.Given as goal

abbrev pub invariant-loop-pairs : goal.invariant-loop-pairs
invariant-loop-pairs l = raw_pairs l.fn.words ≡ behind (map pair_view l.pairs.items) (raw_pairs l.words)

abbrev pub decreases-loop-pairs : goal.decreases-loop-pairs
decreases-loop-pairs l = 3 - array_vec_len l.pairs
