use Rattle.std.proofs.Common.{◌≡◌, drop, length, map}
use Rattle.grammar.specs.Points.{all_known, pair_view}
use Rattle.grammar.proofs.PointTexts.{behind}
use Rattle.script.specs.Entries.{source_names, entries_view}
use Rattle.script.proofs.points.injections.Given as goal

abbrev pub invariant-loop-pair : goal.invariant-loop-pair
invariant-loop-pair l =
    let names = source_names (entries_view l.entries) in
    (all_known names (map pair_view l.pairs)
    ≡ behind l.injections.items (all_known names (map pair_view (drop l.pair-index l.pairs))))
    × (length l.injections.items ≡ l.pair-index)
