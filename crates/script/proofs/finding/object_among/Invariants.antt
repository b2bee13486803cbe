use Rattle.std.proofs.Common.{◌≡◌, map, drop}
use Rattle.std.specs.List.{position_from}
use Rattle.script.specs.Entries.{object_view}
use Rattle.script.specs.Finding.{is_called}
use Rattle.script.proofs.finding.object_among.Given as goal

abbrev pub invariant-loop-index : goal.invariant-loop-index
invariant-loop-index l =
    position_from (is_called l.sort l.word) 0 (map object_view l.objects)
    ≡ position_from (is_called l.sort l.word) l.index (map object_view (drop l.index l.objects))
