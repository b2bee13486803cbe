use Rattle.std.proofs.Common.{◌≡◌, ◌+◌, ◌++◌, map, drop, length}
use Rattle.toml.specs.Data.{as_table}
use Rattle.toml.specs.View.{view}
use Rattle.script.specs.Arrays.{each_fault, tables}
use Rattle.script.proofs.sections.read_each.Given as goal

abbrev pub invariant-loop-index : goal.invariant-loop-index
invariant-loop-index g l =
    let r = g.R.EntryReader in
    record {
      checks : each_fault (tables l.section (r.named l.reader) (r.keys l.reader))
          (map r.shown l.initial.read.items) 0 (map view l.values)
          ≡ each_fault (tables l.section (r.named l.reader) (r.keys l.reader)) (map r.shown l.read.items) l.index
          (map view (drop l.index l.values));
      named : map r.shown l.initial.read.items ++ map (λ d. r.named l.reader (as_table d)) (map view l.values)
          ≡ map r.shown l.read.items ++ map (λ d. r.named l.reader (as_table d)) (map view (drop l.index l.values));
      count : length l.read.items ≡ length l.initial.read.items + l.index;
    }
