use Rattle.std.proofs.Common.{◌≡◌, map, drop}
use Rattle.std.specs.List.{position_from}
use Rattle.std.specs.Str.{bytes_eq}
use Rattle.grammar.specs.Names.{index_of}
use Rattle.script.proofs.named.index_of.Given as goal

abbrev pub invariant-loop-index : goal.invariant-loop-index
invariant-loop-index g l =
    index_of l.name (map g.E.Named.name_of (map g.E.Named.shown l.entries))
    ≡ position_from (λ name. bytes_eq name l.name) l.index (map g.E.Named.name_of (map g.E.Named.shown (drop l.index l.entries)))
