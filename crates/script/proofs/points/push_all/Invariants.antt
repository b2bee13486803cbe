use Rattle.std.proofs.Common.{◌≡◌, ◌≤◌, ◌++◌, length, map, drop, vec_capacity}
use Rattle.std.specs.List.{filter_map}
use Rattle.toml.specs.View.{view}
use Rattle.script.specs.Arrays.{each_fault}
use Rattle.script.specs.Entries.{source_names, entries_view}
use Rattle.script.specs.Points.{entry_named, point_elements}
use Rattle.script.proofs.points.push_all.Given as goal

abbrev pub invariant-loop-index : goal.invariant-loop-index
invariant-loop-index l =
    let names = source_names (entries_view l.entries) in
    record {
      checks : each_fault (point_elements names l.place) tt 0 (map view l.values)
          ≡ each_fault (point_elements names l.place) tt l.index (map view (drop l.index l.values));
      named : filter_map (entry_named names) (map view l.values)
          ≡ l.points.items ++ filter_map (entry_named names) (map view (drop l.index l.values));
      count : length l.points.items ≡ l.index;
      room : length l.values ≤ vec_capacity l.points;
    }
