use Rattle.std.proofs.Common.{◌≡◌, map, drop}
use Rattle.toml.specs.View.{view}
use Rattle.script.specs.Arrays.{each_fault}
use Rattle.script.specs.Entries.{source_names, entries_view}
use Rattle.script.specs.Points.{point_elements}
use Rattle.script.proofs.points.check_all.Given as goal

abbrev pub invariant-loop-index : goal.invariant-loop-index
invariant-loop-index l =
    each_fault (point_elements (source_names (entries_view l.entries)) l.place) tt 0 (map view l.values)
    ≡ each_fault (point_elements (source_names (entries_view l.entries)) l.place) tt l.index (map view (drop l.index l.values))
