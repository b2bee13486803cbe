-- Pass two: the ops of handlers and of tasks.
use Rattle.std.specs.Prelude.{◌≤◌, ℕ, Bool, true, false, ◌&&◌, not, nat_lt, List, [], ◌∷◌, length, map, fold, filter_map, ◌++◌}
use Rattle.std.specs.Prelude.{Option}
use Rattle.std.specs.Prelude.{Some, None, is_none, slice_get, option_and_then}
use Rattle.std.specs.Option.{option_map_or}
use Rattle.toml.specs.Data.{Data, as_str}
use Rattle.model.specs.declared.op.Access.{Access}
use Rattle.model.specs.declared.value.Value.{Value}
use Rattle.model.specs.declared.block.Block.{Block}
use Rattle.model.specs.declared.block.Edge.{Edge}
use Rattle.model.specs.declared.op.Op.{Op}
use Rattle.model.specs.declared.op.Op.TheVariants.{Do, NextCommand, Obey}
use Rattle.model.specs.declared.op.IsrOp.{IsrOp}
use Rattle.model.specs.declared.op.IsrOp.TheVariants as isr
use Rattle.model.specs.Application.{Definition, Handler}
use Rattle.model.specs.Blocks.{blocks_past, edge_of, edge_of_isr, ending, may_stand, with_ends}
use Rattle.model.specs.Scripts.{fits, most_name_bytes, most_handler_ops, most_apart}
use Rattle.script.specs.declared.fault.Fault.{Fault}
use Rattle.script.specs.declared.fault.FaultKind.TheVariants.{BadOp, UnknownName, NoDaemon, OverwriteLength, BadNesting}
use Rattle.script.specs.declared.place.Place.{Place}
use Rattle.script.specs.declared.place.Section.TheVariants as section
use Rattle.script.specs.declared.place.Key.TheVariants as key
use Rattle.script.specs.Faults.{at_entry, at_key, at_element, fault_at, first_fault, fails_if, need}
use Rattle.script.specs.Arrays.{Elements, each_fault, alike}
use Rattle.grammar.specs.Grammar.{Word, Naming, words_of, op_of, isr_op_of}
use Rattle.script.specs.Entries.{ObjectEntry, RawIsr, Raw, DaemonEntry, Entries}
use Rattle.grammar.specs.Finding.{any_name}
use Rattle.script.specs.Finding.{among}

-- The object of this number allows the call: `overwrite` is for queues of length 1.
abbrev pub allows : List ObjectEntry → ℕ → Access Value → Bool
allows objects object access = option_map_or (λ (o : ObjectEntry). fits o.kind access) (slice_get objects object) false

-- What distinguishes the ops of tasks from those of handlers: which words spell which op, whether the daemon has to do it, and
-- whether an object allows it; what it is to the blocks of its script; and which op its text is if these blocks are open.
pub record Ops (O : Type 0) : Type 0 where
  pub of_words : Naming → List Word → Option O
  pub is_command : O → Bool
  pub is_allowed : List ObjectEntry → O → Bool
  pub edge_of : O → Edge
  pub ending : List Block → O → O

-- A call that waits is allowed by each object that its text may name.
abbrev pub is_allowed : List ObjectEntry → Op → Bool
is_allowed objects (Do object access) = allows objects object access
is_allowed objects _ = true

-- the same of a handler's op
abbrev pub is_isr_allowed : List ObjectEntry → IsrOp → Bool
is_isr_allowed objects (isr.Do object access) = allows objects object access
is_isr_allowed objects _ = true

-- It is a command for the daemon.
abbrev pub is_command : IsrOp → Bool
is_command (isr.Command c) = true
is_command _ = false

-- the ops of tasks
abbrev pub task_ops : Ops Op
task_ops = record {
  of_words = op_of;
  is_command = λ op. false;
  is_allowed = is_allowed;
  edge_of = edge_of;
  ending = ending;
}

-- the ops of handlers; each `end` is that of an `if`
abbrev pub handler_ops : Ops IsrOp
handler_ops = record {
  of_words = isr_op_of;
  is_command = is_command;
  is_allowed = is_isr_allowed;
  edge_of = edge_of_isr;
  ending = λ blocks op. op;
}

-- ---- one op

-- the op of a value that is a text, if names are read in this way
abbrev pub op_in : {O : Type 0} → Ops O → Naming → Data → Option O
op_in ops named d = option_and_then (λ text. ops.of_words named (words_of text)) (as_str d)

-- what it is to the blocks of its script, if these are open
abbrev pub edge_in : {O : Type 0} → Ops O → List Block → O → Edge
edge_in ops blocks op = ops.edge_of (ops.ending blocks op)

-- There is a daemon if it is a command, its object allows it, and it is allowed where these blocks are open.
abbrev pub standing_fault : {O : Type 0} → Ops O → Entries → List Block → Place → O → Option Fault
standing_fault ops entries blocks p op = first_fault (
    fails_if (ops.is_command op && is_none entries.daemon) (fault_at NoDaemon p)
    ∷ fails_if (not (ops.is_allowed entries.objects op)) (fault_at OverwriteLength p)
    ∷ fails_if (not (may_stand (edge_in ops blocks op) blocks)) (fault_at BadNesting p)
    ∷ [])

-- It is an op, whatever its names are, they are those of entries, and it is allowed there.
abbrev pub op_fault : {O : Type 0} → Ops O → Entries → List Block → Place → Data → Option Fault
op_fault ops entries blocks p d = first_fault (
    fails_if (is_none (op_in ops any_name d)) (fault_at BadOp p)
    ∷ need (fault_at UnknownName p) (op_in ops (among entries) d) (standing_fault ops entries blocks p)
    ∷ [])

-- the blocks that are open after it
abbrev pub blocks_with : {O : Type 0} → Ops O → Entries → List Block → Data → List Block
blocks_with ops entries blocks d =
    option_map_or (λ op. blocks_past (edge_in ops blocks op) blocks) (op_in ops (among entries) d) blocks

-- ---- all ops

-- the ops of a script, each where these blocks are open
abbrev pub op_elements : {O : Type 0} → Ops O → Entries → Place → Elements (List Block) Data
op_elements ops entries p =
    record { at = at_element p; fault = op_fault ops entries; next = blocks_with ops entries }

-- Each op of a script; at its end no block is open.
abbrev pub script_fault : {O : Type 0} → Ops O → Entries → Place → List Data → Option Fault
script_fault ops entries p ds = first_fault (
    each_fault (op_elements ops entries p) [] 0 ds
    ∷ fails_if (nat_lt 0 (length (fold (blocks_with ops entries) [] ds))) (fault_at BadNesting (at_element p (length ds)))
    ∷ [])

-- the ops that they spell
abbrev pub ops_named : {O : Type 0} → Ops O → Entries → List Data → List O
ops_named ops entries ds = filter_map (op_in ops (among entries)) ds

-- the script of a task that they spell; each `end` is that of the block that it ends
abbrev pub script_named : Entries → List Data → List Op
script_named entries ds = with_ends [] (ops_named task_ops entries ds)

-- the ops of each handler
abbrev pub handler_scripts : Entries → Elements (Unit {0}) (List Data)
handler_scripts entries =
    alike (λ i. at_key (at_entry section.Handler i) key.Ops) (script_fault handler_ops entries)

unfoldable pub handler_ops_fault : Entries → Option Fault
handler_ops_fault entries =
    each_fault (handler_scripts entries) tt 0 (map (λ (h : RawIsr). h.ops) entries.handlers)

-- the script of each task
abbrev pub task_scripts : Entries → Elements (Unit {0}) (List Data)
task_scripts entries =
    alike (λ i. at_key (at_entry section.Task i) key.Script) (script_fault task_ops entries)

unfoldable pub scripts_fault : Entries → Option Fault
scripts_fault entries = each_fault (task_scripts entries) tt 0 (map (λ (t : Raw). t.script) entries.tasks)

-- a handler with its ops
abbrev pub with_isr_ops : Entries → RawIsr → Handler
with_isr_ops entries h = record {
  name = h.name;
  ops = ops_named handler_ops entries h.ops;
  armed = h.armed;
  apart = h.apart;
}

-- Its name is no longer, its ops are no more, and its comings no further apart than they may be.
abbrev pub IsLimited : Handler → Type 0
IsLimited h = (length h.name ≤ most_name_bytes) × (length h.ops ≤ most_handler_ops) × (h.apart ≤ most_apart)

-- a task with its script
abbrev pub with_script : Entries → Raw → Definition
with_script entries t = record {
  name = t.name;
  priority = t.priority;
  endless = t.endless;
  script = script_named entries t.script;
}

-- the daemon as a task, if there is one: without an end it asks for a command of the queue of this number, and does it
abbrev pub daemon_task : (commands : ℕ) → Option DaemonEntry → List Definition
daemon_task commands None = []
daemon_task commands (Some d) =
    record { name = d.name; priority = d.priority; endless = true; script = NextCommand commands ∷ Obey ∷ [] } ∷ []

-- all tasks: those of the section, and after them the daemon, whose queue is after the objects of the sections
abbrev pub all_tasks : Entries → List Definition
all_tasks entries = map (with_script entries) entries.tasks ++ daemon_task (length entries.objects) entries.daemon
