use Rattle.std.proofs.Common.{◌≡◌, map, drop}
use Rattle.script.specs.Arrays.{each_fault}
use Rattle.script.specs.Entries.{Raw, raw_view, entries_view}
use Rattle.script.specs.Ops.{scripts_fault, task_scripts}
use Rattle.script.proofs.ops.check_scripts.Given as goal

abbrev pub invariant-loop-entry : goal.invariant-loop-entry
invariant-loop-entry l =
    scripts_fault (entries_view l.entries)
    ≡ each_fault (task_scripts (entries_view l.entries)) tt l.entry
    (map (λ (t : Raw). t.script) (map raw_view (drop l.entry l.entries.tasks.items)))
