use Rattle.std.proofs.Common.{◌≡◌, map, drop}
use Rattle.toml.specs.View.{view}
use Rattle.script.specs.Arrays.{each_fault}
use Rattle.script.specs.Values.{text_elements}
use Rattle.script.proofs.values.check_texts.Given as goal

abbrev pub invariant-loop-index : goal.invariant-loop-index
invariant-loop-index l =
    each_fault (text_elements l.place) tt 0 (map view l.values)
    ≡ each_fault (text_elements l.place) tt l.index (map view (drop l.index l.values))
