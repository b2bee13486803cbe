-- All checks of a document in their order, and the application that it names.
use Rattle.std.specs.Prelude.{ℕ, ◌==◌, Bool, false, List, [], ◌∷◌, ◌++◌, length, map, Option, option_and_then, if◌then◌else◌}
use Rattle.toml.specs.Data.{Data, Members, as_table}
use Rattle.model.specs.Application.{Application, Limits}
use Rattle.model.specs.Scripts.{most_ticks}
use Rattle.script.specs.declared.fault.Fault.{Fault}
use Rattle.script.specs.declared.fault.FaultKind.TheVariants.{Missing, WrongKind}
use Rattle.script.specs.declared.place.Section.TheVariants as section
use Rattle.script.specs.declared.place.Key.TheVariants as key
use Rattle.script.specs.Faults.{at_section, fault_at, first_fault, fails_if, need, optional}
use Rattle.script.specs.Names.{handler_names, task_names}
use Rattle.script.specs.Values.{member_of, number_fault, number_or, boolean_fault, boolean_or}
use Rattle.script.specs.Entries.{Entries, all_objects, daemon_of, initial_values, isr_names, source_names, names_of}
use Rattle.script.specs.Sections.{data_at, no_entries, objects_fault, objects_named, groups_fault, groups_named, variables_fault}
use Rattle.script.specs.Sections.{variables_named, handlers_fault, handlers_named, tasks_fault, tasks_named, daemon_fault}
use Rattle.script.specs.Sections.{daemon_named}
use Rattle.script.specs.Ops.{handler_ops_fault, scripts_fault, with_isr_ops, all_tasks}
use Rattle.script.specs.Interrupts.{interrupts_fault, interrupts_named}
use Rattle.script.specs.Points.{campaign_fault, campaign_named}

-- the most ticks and steps that a file may ask for, except for the ticks of one that is tickless; and the limits of a file that
-- says nothing (profile)
abbrev pub most_limit : ℕ
most_limit = 1000000

-- whether the document asks for idle that lets as many ticks pass in a step as come before the next thing to happen
abbrev pub tickless_named : Members → Bool
tickless_named document = boolean_or false (data_at section.Tickless document)

-- It is a table, and its keys are limits, of a document that is tickless or not.
abbrev pub limits_fault : (tickless : Bool) → Data → Option Fault
limits_fault tickless d =
    let p = at_section section.Limits in
    need (fault_at WrongKind p) (as_table d) (λ ms. first_fault (
    optional p key.Ticks (number_fault 1 (if tickless then most_ticks else most_limit)) ms
    ∷ optional p key.Steps (number_fault 1 most_limit) ms
    ∷ []))

-- the limits, if there are any
abbrev pub limits_named : Option Data → Limits
limits_named d = record {
  ticks = number_or most_limit (member_of key.Ticks (option_and_then as_table d));
  steps = number_or most_limit (member_of key.Steps (option_and_then as_table d));
}

-- ---- the entries with names, as far as they are read before each section

abbrev pub with_no_groups : Members → Entries
with_no_groups document = record no_entries { objects = objects_named document }

abbrev pub with_no_variables : Members → Entries
with_no_variables document = record (with_no_groups document) { groups = groups_named document }

abbrev pub with_no_handlers : Members → Entries
with_no_handlers document = record (with_no_variables document) { variables = variables_named document }

abbrev pub with_no_tasks : Members → Entries
with_no_tasks document = record (with_no_handlers document) { handlers = handlers_named document }

abbrev pub with_no_daemon : Members → Entries
with_no_daemon document = record (with_no_tasks document) { tasks = tasks_named document }

unfoldable pub entries_of : Members → Entries
entries_of document = record (with_no_daemon document) { daemon = daemon_named document }

-- all their checks, but those of ops; there is a task, and the daemon comes last
unfoldable pub entries_fault : Members → Option Fault
entries_fault document = first_fault (
    objects_fault document
    ∷ groups_fault (with_no_groups document) document
    ∷ variables_fault (with_no_variables document) document
    ∷ handlers_fault (with_no_handlers document) document
    ∷ tasks_fault (with_no_tasks document) document
    ∷ fails_if (length (tasks_named document) == 0) (fault_at Missing (at_section section.Task))
    ∷ daemon_fault (with_no_daemon document) document
    ∷ [])

-- ---- the document

-- the fault of the first check that fails (profile): first pass one, then the ops of the handlers and the scripts of
-- the tasks that it has found, then the base interrupts, and then the points of the campaign
abbrev pub load_fault : Members → Option Fault
load_fault document =
    let entries = entries_of document in
    first_fault (
    option_and_then (number_fault 0 4294967295 (at_section section.Start)) (data_at section.Start document)
    ∷ option_and_then (boolean_fault (at_section section.Tickless)) (data_at section.Tickless document)
    ∷ option_and_then (limits_fault (tickless_named document)) (data_at section.Limits document)
    ∷ entries_fault document
    ∷ handler_ops_fault entries
    ∷ scripts_fault entries
    ∷ interrupts_fault (isr_names entries) document
    ∷ campaign_fault (source_names entries) document
    ∷ [])

-- the application that a document names in which no check fails
abbrev pub app_named : Members → Application
app_named document =
    let entries = entries_of document in
    record {
      start = number_or 0 (data_at section.Start document);
      tickless = tickless_named document;
      limits = limits_named (data_at section.Limits document);
      objects = all_objects entries;
      group_count = length entries.groups;
      variables = initial_values entries;
      handlers = map (with_isr_ops entries) entries.handlers;
      interrupts = interrupts_named (isr_names entries) document;
      tasks = all_tasks entries;
      daemon = daemon_of entries;
      points = campaign_named (source_names entries) document;
    }

-- the names of a document: those of its objects, event groups and variables, and of the handlers and tasks of its application
abbrev pub document_names : Members → List (List ℕ)
document_names document =
    (names_of (with_no_handlers document) ++ handler_names (app_named document)) ++ task_names (app_named document)
