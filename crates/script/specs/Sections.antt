-- The sections of a document whose entries have names. `.._keys` are the checks of an entry's keys in their order, `.._named`
-- is what it names, or what all of them name, and `.._fault` are all checks of the section.
use Rattle.std.specs.Prelude.{◌-◌, nat_le, true, false, List, [], ◌∷◌, ◌++◌, length, map, fold, Option, Some, None, option_map}
use Rattle.std.specs.Prelude.{option_and_then}
use Rattle.toml.specs.Data.{Data, Members, as_table, get_member}
use Rattle.model.specs.declared.object.ObjectKind.{ObjectKind}
use Rattle.model.specs.declared.object.ObjectKind.TheVariants as kind
use Rattle.model.specs.Scripts.{most_objects, most_groups, most_variables, most_handlers, most_tasks, most_items, most_count}
use Rattle.model.specs.Scripts.{most_handler_ops, most_apart, most_ops, priorities}
use Rattle.script.specs.declared.fault.Fault.{Fault}
use Rattle.script.specs.declared.fault.FaultKind.TheVariants.{WrongKind, TooMany}
use Rattle.script.specs.declared.place.Place.{Place}
use Rattle.script.specs.declared.place.Section.{Section}
use Rattle.script.specs.declared.place.Section.TheVariants as section
use Rattle.script.specs.declared.place.Key.TheVariants as key
use Rattle.script.specs.declared.object_section.ObjectSection.{ObjectSection}
use Rattle.script.specs.declared.object_section.ObjectSection.TheVariants.{Queue, Binary, Counting, Mutex}
use Rattle.script.specs.Faults.{at_section, fault_at, section_word, first_fault, fails_if, need, required, optional}
use Rattle.script.specs.Values.{member_of, number_fault, number_named, boolean_fault, boolean_or, name_fault, name_named}
use Rattle.script.specs.Values.{texts_fault, texts_named}
use Rattle.script.specs.Arrays.{section_fault, section_named}
use Rattle.script.specs.Entries.{ObjectEntry, GroupEntry, VariableEntry, RawIsr, Raw, DaemonEntry, Entries, names_of}

-- what is at a section
abbrev pub data_at : Section → Members → Option Data
data_at s document = get_member (section_word s) document

abbrev pub no_entries : Entries
no_entries = record { objects = []; groups = []; variables = []; handlers = []; tasks = []; daemon = None }

-- ---- objects

-- as a section of the file
abbrev pub section_of : ObjectSection → Section
section_of Queue = section.Queue
section_of Binary = section.Binary
section_of Counting = section.Counting
section_of Mutex = section.Mutex

-- the keys of an object beside its name; a semaphore starts with no more than its greatest count
abbrev pub kind_fault : ObjectSection → Place → Members → Option Fault
kind_fault Queue p ms = required p key.Length (number_fault 1 most_items) ms
kind_fault Counting p ms = first_fault (
    required p key.Max (number_fault 1 most_count) ms
    ∷ optional p key.Initial (number_fault 0 (number_named key.Max (Some ms))) ms
    ∷ [])
kind_fault _ p ms = None

-- the object that they name; a binary semaphore counts to 1 and starts empty
abbrev pub kind_named : ObjectSection → Option Members → ObjectKind
kind_named Queue ms = kind.Queue (number_named key.Length ms)
kind_named Binary ms = kind.Semaphore 1 0
kind_named Counting ms = kind.Semaphore (number_named key.Max ms) (number_named key.Initial ms)
kind_named Mutex ms = kind.Mutex

abbrev pub object_keys : ObjectSection → Entries → List ObjectEntry → Place → Members → Option Fault
object_keys s earlier before p ms = first_fault (
    required p key.Name (name_fault (names_of earlier ++ map (λ (o : ObjectEntry). o.name) before)) ms
    ∷ kind_fault s p ms
    ∷ [])

abbrev pub object_named : ObjectSection → Option Members → ObjectEntry
object_named s ms = record { name = name_named ms; kind = kind_named s ms }

-- the sections of objects, in the order in which their objects are numbered
abbrev pub object_sections : List ObjectSection
object_sections = Queue ∷ Binary ∷ Counting ∷ Mutex ∷ []

-- these objects, and those of a section
unfoldable pub with_objects : List ObjectEntry → ObjectSection → Members → List ObjectEntry
with_objects before s document = before ++ section_named (object_named s) (data_at (section_of s) document)

-- the checks of a section, after these objects, with which there are no more than there may be
unfoldable pub more_objects_fault : List ObjectEntry → ObjectSection → Members → Option Fault
more_objects_fault before s document =
    section_fault most_objects (section_of s) (object_named s) (object_keys s no_entries) before (data_at (section_of s) document)

-- each of these sections in order, after these objects
abbrev pub each_objects_fault : List ObjectSection → List ObjectEntry → Members → Option Fault
each_objects_fault [] before document = None
each_objects_fault (s ∷ ss) before document = first_fault (
    more_objects_fault before s document
    ∷ each_objects_fault ss (with_objects before s document) document
    ∷ [])

unfoldable pub objects_fault : Members → Option Fault
objects_fault document = each_objects_fault object_sections [] document

unfoldable pub objects_named : Members → List ObjectEntry
objects_named document = fold (λ before s. with_objects before s document) [] object_sections

-- ---- event groups, variables, handlers and tasks, each after the entries of earlier sections

abbrev pub group_keys : Entries → List GroupEntry → Place → Members → Option Fault
group_keys earlier before p ms =
    required p key.Name (name_fault (names_of earlier ++ map (λ (g : GroupEntry). g.name) before)) ms

abbrev pub group_named : Option Members → GroupEntry
group_named ms = record { name = name_named ms }

unfoldable pub groups_fault : Entries → Members → Option Fault
groups_fault earlier document =
    section_fault most_groups section.Group group_named (group_keys earlier) [] (data_at section.Group document)

unfoldable pub groups_named : Members → List GroupEntry
groups_named document = section_named group_named (data_at section.Group document)

abbrev pub variable_keys : Entries → List VariableEntry → Place → Members → Option Fault
variable_keys earlier before p ms = first_fault (
    required p key.Name (name_fault (names_of earlier ++ map (λ (v : VariableEntry). v.name) before)) ms
    ∷ optional p key.Initial (number_fault 0 4294967295) ms
    ∷ [])

abbrev pub variable_named : Option Members → VariableEntry
variable_named ms = record { name = name_named ms; initial = number_named key.Initial ms }

unfoldable pub variables_fault : Entries → Members → Option Fault
variables_fault earlier document =
    section_fault most_variables section.Variable variable_named (variable_keys earlier) [] (data_at section.Variable document)

unfoldable pub variables_named : Members → List VariableEntry
variables_named document = section_named variable_named (data_at section.Variable document)

abbrev pub handler_keys : Entries → List RawIsr → Place → Members → Option Fault
handler_keys earlier before p ms = first_fault (
    required p key.Name (name_fault (names_of earlier ++ map (λ (h : RawIsr). h.name) before)) ms
    ∷ required p key.Ops (texts_fault most_handler_ops) ms
    ∷ optional p key.Armed boolean_fault ms
    ∷ optional p key.Apart (number_fault 0 most_apart) ms
    ∷ [])

abbrev pub handler_named : Option Members → RawIsr
handler_named ms = record {
  name = name_named ms;
  ops = texts_named key.Ops ms;
  armed = boolean_or true (member_of key.Armed ms);
  apart = number_named key.Apart ms;
}

unfoldable pub handlers_fault : Entries → Members → Option Fault
handlers_fault earlier document =
    section_fault most_handlers section.Handler handler_named (handler_keys earlier) [] (data_at section.Handler document)

unfoldable pub handlers_named : Members → List RawIsr
handlers_named document = section_named handler_named (data_at section.Handler document)

abbrev pub task_keys : Entries → List Raw → Place → Members → Option Fault
task_keys earlier before p ms = first_fault (
    required p key.Name (name_fault (names_of earlier ++ map (λ (t : Raw). t.name) before)) ms
    ∷ required p key.Priority (number_fault 0 (priorities - 1)) ms
    ∷ optional p key.Endless boolean_fault ms
    ∷ required p key.Script (texts_fault most_ops) ms
    ∷ [])

abbrev pub task_named : Option Members → Raw
task_named ms = record {
  name = name_named ms;
  priority = number_named key.Priority ms;
  endless = boolean_or false (member_of key.Endless ms);
  script = texts_named key.Script ms;
}

unfoldable pub tasks_fault : Entries → Members → Option Fault
tasks_fault earlier document =
    section_fault most_tasks section.Task task_named (task_keys earlier) [] (data_at section.Task document)

unfoldable pub tasks_named : Members → List Raw
tasks_named document = section_named task_named (data_at section.Task document)

-- ---- the daemon, after all other entries

-- its keys; none of the entries has its name
abbrev pub daemon_keys : Entries → Place → Members → Option Fault
daemon_keys earlier p ms = first_fault (
    required p key.Name (name_fault (names_of earlier)) ms
    ∷ required p key.Priority (number_fault 0 (priorities - 1)) ms
    ∷ required p key.Length (number_fault 1 most_items) ms
    ∷ [])

abbrev pub daemon_entry : Option Members → DaemonEntry
daemon_entry ms = record {
  name = name_named ms;
  priority = number_named key.Priority ms;
  size = number_named key.Length ms;
}

-- The section is one table, and may be left out. The daemon is one more task, so there has to be room among the tasks (profile).
unfoldable pub daemon_fault : Entries → Members → Option Fault
daemon_fault earlier document =
    let p = at_section section.Daemon in
    option_and_then (λ d. need (fault_at WrongKind p) (as_table d) (λ ms. first_fault (
    fails_if (nat_le most_tasks (length earlier.tasks)) (fault_at TooMany p)
    ∷ daemon_keys earlier p ms
    ∷ [])))
    (data_at section.Daemon document)

unfoldable pub daemon_named : Members → Option DaemonEntry
daemon_named document = option_map (λ d. daemon_entry (as_table d)) (data_at section.Daemon document)
