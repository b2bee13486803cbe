-- The entries of a document that have names, as the file has them: the ops of handlers and tasks are still its texts.
use Rattle.std.specs.Prelude.{◌≡◌, ℕ, Bool, List, [], ◌∷◌, ◌++◌, codes, length, map, Option, Some, None, is_some, option_map}
use Rattle.toml.specs.Data.{Data}
use Rattle.toml.specs.View.{view}
use Rattle.model.specs.declared.object.ObjectKind.{ObjectKind}
use Rattle.model.specs.declared.object.ObjectKind.TheVariants as kind
use Rattle.model.specs.Application.{Application, of_file}
use Rattle.script.specs.declared.named_object.NamedObject.{NamedObject}
use Rattle.script.specs.declared.named_group.NamedGroup.{NamedGroup}
use Rattle.script.specs.declared.named_variable.NamedVariable.{NamedVariable}
use Rattle.script.specs.declared.raw_handler.RawHandler.{RawHandler}
use Rattle.script.specs.declared.raw_task.RawTask.{RawTask}
use Rattle.script.specs.declared.named_daemon.NamedDaemon.{NamedDaemon}
use Rattle.script.specs.declared.entries.NamedEntries.{NamedEntries}

pub record ObjectEntry : Type 0 where
  pub name : List ℕ
  pub kind : ObjectKind

pub record GroupEntry : Type 0 where
  pub name : List ℕ

-- a variable, and what it is at reset
pub record VariableEntry : Type 0 where
  pub name : List ℕ
  pub initial : ℕ

pub record RawIsr : Type 0 where
  pub name : List ℕ
  pub ops : List Data
  pub armed : Bool
  pub apart : ℕ

pub record Raw : Type 0 where
  pub name : List ℕ
  pub priority : ℕ
  pub endless : Bool
  pub script : List Data

-- the daemon, and how many commands its queue holds
pub record DaemonEntry : Type 0 where
  pub name : List ℕ
  pub priority : ℕ
  pub size : ℕ

pub record Entries : Type 0 where
  pub objects : List ObjectEntry
  pub groups : List GroupEntry
  pub variables : List VariableEntry
  pub handlers : List RawIsr
  pub tasks : List Raw
  pub daemon : Option DaemonEntry

-- ---- the same of what the code keeps

abbrev pub object_view : NamedObject → ObjectEntry
object_view o = record { name = o.name.now; kind = o.kind }

abbrev pub group_view : NamedGroup → GroupEntry
group_view g = record { name = g.name.now }

abbrev pub variable_view : NamedVariable → VariableEntry
variable_view v = record { name = v.name.now; initial = v.initial }

abbrev pub isr_view : RawHandler → RawIsr
isr_view h = record { name = h.name.now; ops = map view h.ops.now; armed = h.armed; apart = h.apart }

abbrev pub raw_view : RawTask → Raw
raw_view t = record { name = t.name.now; priority = t.priority; endless = t.endless; script = map view t.script.now }

abbrev pub daemon_view : NamedDaemon → DaemonEntry
daemon_view d = record { name = d.name.now; priority = d.priority; size = d.size }

abbrev pub entries_view : NamedEntries → Entries
entries_view e = record {
  objects = map object_view e.objects.items;
  groups = map group_view e.groups.items;
  variables = map variable_view e.variables.items;
  handlers = map isr_view e.handlers.items;
  tasks = map raw_view e.tasks.items;
  daemon = option_map daemon_view e.daemon;
}

-- ---- what is asked of them

-- the names of the handlers
abbrev pub isr_names : Entries → List (List ℕ)
isr_names entries = map (λ (h : RawIsr). h.name) entries.handlers

-- the names of the interrupts that can be injected: of the handlers, and then of the tick
abbrev pub source_names : Entries → List (List ℕ)
source_names entries = isr_names entries ++ codes "tick" ∷ []

-- all names but the daemon's, section by section
abbrev pub names_of : Entries → List (List ℕ)
names_of entries =
    map (λ (o : ObjectEntry). o.name) entries.objects
    ++ (map (λ (g : GroupEntry). g.name) entries.groups
    ++ (map (λ (v : VariableEntry). v.name) entries.variables
    ++ (isr_names entries ++ map (λ (t : Raw). t.name) entries.tasks)))

-- what each variable is at reset
abbrev pub initial_values : Entries → List ℕ
initial_values entries = map (λ (v : VariableEntry). v.initial) entries.variables

-- the daemon's queue, if there is a daemon
abbrev pub command_queue : Option DaemonEntry → List ObjectKind
command_queue None = []
command_queue (Some d) = kind.Queue d.size ∷ []

-- all objects: those of the sections, and after them the daemon's queue
abbrev pub all_objects : Entries → List ObjectKind
all_objects entries = map (λ (o : ObjectEntry). o.kind) entries.objects ++ command_queue entries.daemon

-- the daemon's number, if there is a daemon: it is the task after those of the section
abbrev pub daemon_of : Entries → Option ℕ
daemon_of entries = option_map (λ (d : DaemonEntry). length entries.tasks) entries.daemon

-- The application has these objects, this many event groups, this many variables, this many handlers, this many tasks of the
-- file, and a daemon if these have one.
pub record HasEntries (app : Application) (entries : Entries) : Type 0 where
  pub objects : app.objects ≡ all_objects entries
  pub groups : app.group_count ≡ length entries.groups
  pub variables : length app.variables ≡ length entries.variables
  pub handlers : length app.handlers ≡ length entries.handlers
  pub tasks : length (of_file app.daemon app.tasks) ≡ length entries.tasks
  pub daemon : is_some app.daemon ≡ is_some entries.daemon
