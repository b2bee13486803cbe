use Rattle.std.proofs.Common.{◌≡◌, map, drop}
use Rattle.script.specs.Arrays.{each_fault}
use Rattle.script.specs.Entries.{RawIsr, isr_view, entries_view}
use Rattle.script.specs.Ops.{handler_ops_fault, handler_scripts}
use Rattle.script.proofs.ops.check_handlers.Given as goal

abbrev pub invariant-loop-entry : goal.invariant-loop-entry
invariant-loop-entry l =
    handler_ops_fault (entries_view l.entries)
    ≡ each_fault (handler_scripts (entries_view l.entries)) tt l.entry
    (map (λ (h : RawIsr). h.ops) (map isr_view (drop l.entry l.entries.handlers.items)))
