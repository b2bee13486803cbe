use Rattle.std.proofs.Common.{◌≡◌, drop, map}
use Rattle.grammar.specs.Points.{falls_from, pair_view}
use Rattle.grammar.proofs.point_text.falls.Given as goal

abbrev pub invariant-loop-pair : goal.invariant-loop-pair
invariant-loop-pair l = falls_from 0 (map pair_view l.pairs) ≡ falls_from l.last (map pair_view (drop l.pair-index l.pairs))
