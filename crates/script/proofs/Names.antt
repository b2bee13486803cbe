-- The objects, event groups, variables, handlers and tasks of a document that is taken have names of their own.
use Rattle.std.proofs.Common.{◌≡◌, ◌≢◌, ◌<◌, ◌+◌, ◌-◌, ◌++◌, ℕ, false, not, List, [], ◌∷◌, length, map, get_or, Option, Some, None}
use Rattle.std.proofs.Common.{option_map, nat_lt, nat_le, refl, sym, ap, subst, ◌∙◌, append_assoc, append-nil, arith}
use Rattle.std.specs.Prelude.{◌==◌, ◌||◌, unwrap_or, option_and_then, codes}
use Rattle.std.specs.List.{list_any, fold}
use Rattle.std.specs.Str.{bytes_eq}
use Rattle.std.proofs.lemmas.Bool.{true≢false}
use Rattle.std.proofs.lemmas.List.{map-append}
use Rattle.std.proofs.lemmas.List.Quantifiers.{all_pairs_push}
use Rattle.std.proofs.lemmas.List.Folds.{list_any_at, list_any-append}
use Rattle.std.proofs.lemmas.Slice.Eq.{bytes_eq-Decides}
use Rattle.toml.specs.Data.{Data, Members, as_str, as_table, get_member}
use Rattle.model.specs.Application.{Handler, Definition}
use Rattle.model.specs.Scripts.{most_objects, most_groups, most_variables, most_handlers, most_tasks}
use Rattle.script.specs.declared.fault.FaultKind.TheVariants.{Missing, WrongKind, OutOfRange, DoubleName, TooMany}
use Rattle.script.specs.declared.fault.Fault.{Fault}
use Rattle.script.specs.declared.place.Place.{Place}
use Rattle.script.specs.declared.place.Section.{Section}
use Rattle.script.specs.declared.place.Section.TheVariants as section
use Rattle.script.specs.declared.place.Key.TheVariants as key
use Rattle.script.specs.declared.object_section.ObjectSection.{ObjectSection}
use Rattle.script.specs.Faults.{at_section, at_entry, at_key, fault_at, fails_if, first_fault, need, required}
use Rattle.grammar.specs.Names.{is_name}
use Rattle.script.specs.Names.{task_names, AreDistinct}
use Rattle.script.specs.Values.{name_fault, name_named, text_named}
use Rattle.script.specs.Arrays.{array_of, tables, each_fault, section_fault, section_named}
use Rattle.script.specs.Entries.{ObjectEntry, GroupEntry, VariableEntry, RawIsr, Raw, DaemonEntry, Entries, names_of}
use Rattle.script.specs.Sections.{data_at, no_entries, section_of, object_keys, object_named, object_sections, with_objects}
use Rattle.script.specs.Sections.{more_objects_fault, each_objects_fault, objects_fault, objects_named, group_keys, group_named}
use Rattle.script.specs.Sections.{groups_fault, groups_named, variable_keys, variable_named, variables_fault, variables_named}
use Rattle.script.specs.Sections.{handler_keys, handler_named, handlers_fault, handlers_named}
use Rattle.script.specs.Sections.{task_keys, task_named, tasks_fault, tasks_named, daemon_keys, daemon_entry, daemon_fault}
use Rattle.script.specs.Sections.{daemon_named}
use Rattle.script.specs.Ops.{with_script, with_isr_ops, daemon_task, all_tasks}
use Rattle.script.specs.Load.{with_no_groups, with_no_variables, with_no_handlers, with_no_tasks, with_no_daemon, entries_of}
use Rattle.script.specs.Load.{entries_fault, load_fault, app_named, document_names}
use Rattle.script.proofs.Checks.{none_fails, passes}
use Rattle.script.proofs.Passing.{passed}

-- one of them has the name, section by section
pub any_named : (name : List ℕ) (entries : Entries) → list_any (bytes_eq name) (names_of entries)
    ≡ (list_any (bytes_eq name) (map (λ (o : ObjectEntry). o.name) entries.objects)
    || (list_any (bytes_eq name) (map (λ (g : GroupEntry). g.name) entries.groups)
    || (list_any (bytes_eq name) (map (λ (v : VariableEntry). v.name) entries.variables)
    || (list_any (bytes_eq name) (map (λ (h : RawIsr). h.name) entries.handlers)
    || list_any (bytes_eq name) (map (λ (t : Raw). t.name) entries.tasks)))))
any_named name entries = simp list_any-append

-- where no object, no event group, no variable and no handler has it
pub not_named : (name : List ℕ) (entries : Entries)
    → list_any (bytes_eq name) (map (λ (o : ObjectEntry). o.name) entries.objects) ≡ false
    → list_any (bytes_eq name) (map (λ (g : GroupEntry). g.name) entries.groups) ≡ false
    → list_any (bytes_eq name) (map (λ (v : VariableEntry). v.name) entries.variables) ≡ false
    → list_any (bytes_eq name) (map (λ (h : RawIsr). h.name) entries.handlers) ≡ false
    → list_any (bytes_eq name) (names_of entries) ≡ list_any (bytes_eq name) (map (λ (t : Raw). t.name) entries.tasks)
not_named name entries objects groups variables handlers = rw (any_named name entries, objects, groups, variables, handlers) refl

-- ---- a name that is taken is none of those before it

abbrev IsNew : List (List ℕ) → List ℕ → Type 0
IsNew names name = list_any (bytes_eq name) names ≡ false

text_is_new : (p : Place) (names : List (List ℕ)) (name : List ℕ)
    → first_fault (fails_if (not (is_name name)) (fault_at OutOfRange p)
    ∷ fails_if (list_any (bytes_eq name) names) (fault_at DoubleName p) ∷ [])
    ≡ None
    → IsNew names name
text_is_new p names name none =
    let later = (none_fails (fails_if (not (is_name name)) (fault_at OutOfRange p)) _ none).1 in
    passes (list_any (bytes_eq name) names) (fault_at DoubleName p) (none_fails _ [] later).0

data_is_new : (p : Place) (names : List (List ℕ)) (text : Option (List ℕ))
    → need (fault_at WrongKind p) text (λ name. first_fault (fails_if (not (is_name name)) (fault_at OutOfRange p)
    ∷ fails_if (list_any (bytes_eq name) names) (fault_at DoubleName p) ∷ [])) ≡ None → IsNew names (unwrap_or text [])
data_is_new p names None none = cc
data_is_new p names (Some name) none = text_is_new p names name none

value_is_new : (p : Place) (names : List (List ℕ)) (value : Option Data)
    → need (fault_at Missing p) value (name_fault names p) ≡ None → IsNew names (text_named value)
value_is_new p names None none = cc
value_is_new p names (Some d) none = data_is_new p names (as_str d) none

name_is_new : (p : Place) (names : List (List ℕ)) (ms : Members)
    → required p key.Name (name_fault names) ms ≡ None → IsNew names (name_named (Some ms))
name_is_new p names ms none = value_is_new (at_key p key.Name) names (get_member (codes "name") ms) none

differs : (name : List ℕ) (names : List (List ℕ)) → IsNew names name
    → (k : ℕ) (d : List ℕ) → k < length names → get_or names k d ≢ name
differs name names new k d within same =
    let equal = (bytes_eq-Decides name (get_or names k d)).1 (sym same) in
    true≢false (sym (list_any_at (bytes_eq name) names k d within equal) ∙ new)

-- with a new one they are still distinct
longer : (names : List (List ℕ)) (name : List ℕ) → AreDistinct names → IsNew names name → AreDistinct (names ++ name ∷ [])
longer names name distinct new =
    all_pairs_push (λ name other. name ≢ other) names name distinct (differs name names new)

none_distinct : AreDistinct []
none_distinct i j d lt within = absurd (omega arith)

-- ---- the entries of a section, one after another, after those of earlier sections

module _ {X : Type 0} (name : X → List ℕ) (value : Option Members → X) (keys : List X → Place → Members → Option Fault)
    (earlier : List (List ℕ))
    (is_new : (before : List X) (p : Place) (ms : Members) → keys before p ms ≡ None
    → IsNew (earlier ++ map name before) (name (value (Some ms)))) where
  abbrev Distinct : List X → Type 0
  Distinct xs = AreDistinct (earlier ++ map name xs)

  table_is_new : (before : List X) (p : Place) (table : Option Members) → need (fault_at WrongKind p) table (keys before p) ≡ None
      → IsNew (earlier ++ map name before) (name (value table))
  table_is_new before p None none = cc
  table_is_new before p (Some ms) none = is_new before p ms none

  one_more : (before : List X) (x : X) → Distinct before → IsNew (earlier ++ map name before) (name x) → Distinct (before ++ x ∷ [])
  one_more before x distinct new =
      let both : (earlier ++ map name before) ++ name x ∷ [] ≡ earlier ++ map name (before ++ x ∷ []) =
      append_assoc earlier (map name before) (name x ∷ [])
      ∙ ap (λ names. earlier ++ names) (sym (map-append name before (x ∷ []))) in
      subst AreDistinct both (longer (earlier ++ map name before) (name x) distinct new)

  each_differs : (s : Section) (before : List X) (i : ℕ) (ds : List Data) → each_fault (tables s value keys) before i ds ≡ None
      → Distinct before → Distinct (before ++ map (λ d. value (as_table d)) ds)
  each_differs s before i [] none distinct = subst Distinct (sym (append-nil before)) distinct
  each_differs s before i (d ∷ ds) none distinct =
      let p = at_entry s i in
      let x = value (as_table d) in
      let here = none_fails (need (fault_at WrongKind p) (as_table d) (keys before p)) _ none in
      let new = table_is_new before p (as_table d) here.0 in
      subst Distinct (append_assoc before (x ∷ []) (map (λ d. value (as_table d)) ds))
      (each_differs s (before ++ x ∷ []) (i + 1) ds (none_fails _ [] here.1).0 (one_more before x distinct new))

  array_differs : (most : ℕ) (s : Section) (before : List X) (array : Option (List Data))
      → need (fault_at WrongKind (at_section s)) array (λ ds. first_fault (
      fails_if (nat_lt most (length ds)) (fault_at TooMany (at_section s)) ∷ each_fault (tables s value keys) before 0 ds ∷ []))
      ≡ None
      → Distinct before → Distinct (before ++ map (λ d. value (as_table d)) (unwrap_or array []))
  array_differs most s before None none distinct = cc
  array_differs most s before (Some ds) none distinct =
      let few = none_fails (fails_if (nat_lt most (length ds)) (fault_at TooMany (at_section s))) _ none in
      each_differs s before 0 ds (none_fails _ [] few.1).0 distinct

  pub section_differs : (most : ℕ) (s : Section) (before : List X) (d : Option Data)
      → section_fault most s value keys before d ≡ None → Distinct before → Distinct (before ++ section_named value d)
  section_differs most s before None none distinct = subst Distinct (sym (append-nil before)) distinct
  section_differs most s before (Some d) none distinct = array_differs (most - length before) s before (array_of d) none distinct

-- ---- the sections

objects_differ : (ss : List ObjectSection) (before : List ObjectEntry) (document : Members)
    → each_objects_fault ss before document ≡ None → AreDistinct (map (λ (o : ObjectEntry). o.name) before)
    → AreDistinct (map (λ (o : ObjectEntry). o.name) (fold (λ before s. with_objects before s document) before ss))
unfolding more_objects_fault with_objects
objects_differ [] before document none distinct = distinct
objects_differ (s ∷ ss) before document none distinct =
    let d = data_at (section_of s) document in
    let here = none_fails (more_objects_fault before s document) _ none in
    let more = section_differs (λ (o : ObjectEntry). o.name) (object_named s) (object_keys s no_entries) []
    (λ before p ms none. name_is_new p _ ms (none_fails (required p key.Name (name_fault _) ms) _ none).0)
    most_objects (section_of s) before d here.0 distinct in
    objects_differ ss (with_objects before s document) document (none_fails _ [] here.1).0 more

all_objects_differ : (document : Members) → objects_fault document ≡ None
    → AreDistinct (map (λ (o : ObjectEntry). o.name) (objects_named document))
unfolding objects_fault objects_named
all_objects_differ document none = objects_differ object_sections [] document none none_distinct

groups_differ : (earlier : Entries) (document : Members) → groups_fault earlier document ≡ None → AreDistinct (names_of earlier)
    → AreDistinct (names_of earlier ++ map (λ (g : GroupEntry). g.name) (groups_named document))
unfolding groups_fault groups_named
groups_differ earlier document none distinct =
    section_differs (λ (g : GroupEntry). g.name) group_named (group_keys earlier) (names_of earlier)
    (λ before p ms none. name_is_new p _ ms none)
    most_groups section.Group [] (data_at section.Group document) none
    (subst AreDistinct (sym (append-nil (names_of earlier))) distinct)

variables_differ : (earlier : Entries) (document : Members) → variables_fault earlier document ≡ None
    → AreDistinct (names_of earlier)
    → AreDistinct (names_of earlier ++ map (λ (v : VariableEntry). v.name) (variables_named document))
unfolding variables_fault variables_named
variables_differ earlier document none distinct =
    section_differs (λ (v : VariableEntry). v.name) variable_named (variable_keys earlier) (names_of earlier)
    (λ before p ms none. name_is_new p _ ms (none_fails (required p key.Name (name_fault _) ms) _ none).0)
    most_variables section.Variable [] (data_at section.Variable document) none
    (subst AreDistinct (sym (append-nil (names_of earlier))) distinct)

handlers_differ : (earlier : Entries) (document : Members) → handlers_fault earlier document ≡ None → AreDistinct (names_of earlier)
    → AreDistinct (names_of earlier ++ map (λ (h : RawIsr). h.name) (handlers_named document))
unfolding handlers_fault handlers_named
handlers_differ earlier document none distinct =
    section_differs (λ (h : RawIsr). h.name) handler_named (handler_keys earlier) (names_of earlier)
    (λ before p ms none. name_is_new p _ ms (none_fails (required p key.Name (name_fault _) ms) _ none).0)
    most_handlers section.Handler [] (data_at section.Handler document) none
    (subst AreDistinct (sym (append-nil (names_of earlier))) distinct)

tasks_differ : (earlier : Entries) (document : Members) → tasks_fault earlier document ≡ None → AreDistinct (names_of earlier)
    → AreDistinct (names_of earlier ++ map (λ (t : Raw). t.name) (tasks_named document))
unfolding tasks_fault tasks_named
tasks_differ earlier document none distinct =
    section_differs (λ (t : Raw). t.name) task_named (task_keys earlier) (names_of earlier)
    (λ before p ms none. name_is_new p _ ms (none_fails (required p key.Name (name_fault _) ms) _ none).0)
    most_tasks section.Task [] (data_at section.Task document) none
    (subst AreDistinct (sym (append-nil (names_of earlier))) distinct)

-- ---- the daemon

-- its name, where there is a daemon
abbrev daemon_names : Option DaemonEntry → List (List ℕ)
daemon_names None = []
daemon_names (Some d) = d.name ∷ []

daemon_is_new : (earlier : Entries) (p : Place) (table : Option Members)
    → need (fault_at WrongKind p) table (λ ms. first_fault (
    fails_if (nat_le most_tasks (length earlier.tasks)) (fault_at TooMany p) ∷ daemon_keys earlier p ms ∷ [])) ≡ None
    → IsNew (names_of earlier) (name_named table)
daemon_is_new earlier p None none = cc
daemon_is_new earlier p (Some ms) none =
    let room = none_fails (fails_if (nat_le most_tasks (length earlier.tasks)) (fault_at TooMany p)) _ none in
    let keys = none_fails (daemon_keys earlier p ms) [] room.1 in
    name_is_new p (names_of earlier) ms (none_fails (required p key.Name (name_fault (names_of earlier)) ms) _ keys.0).0

section_is_new : (earlier : Entries) (d : Option Data)
    → option_and_then (λ d. need (fault_at WrongKind (at_section section.Daemon)) (as_table d) (λ ms. first_fault (
    fails_if (nat_le most_tasks (length earlier.tasks)) (fault_at TooMany (at_section section.Daemon))
    ∷ daemon_keys earlier (at_section section.Daemon) ms ∷ []))) d ≡ None
    → AreDistinct (names_of earlier)
    → AreDistinct (names_of earlier ++ daemon_names (option_map (λ d. daemon_entry (as_table d)) d))
section_is_new earlier None none distinct = subst AreDistinct (sym (append-nil (names_of earlier))) distinct
section_is_new earlier (Some d) none distinct =
    longer (names_of earlier) (name_named (as_table d)) distinct
    (daemon_is_new earlier (at_section section.Daemon) (as_table d) none)

daemon_differs : (earlier : Entries) (document : Members) → daemon_fault earlier document ≡ None → AreDistinct (names_of earlier)
    → AreDistinct (names_of earlier ++ daemon_names (daemon_named document))
unfolding daemon_fault daemon_named
daemon_differs earlier document none distinct = section_is_new earlier (data_at section.Daemon document) none distinct

-- ---- the document

with_ops_names : (entries : Entries) (tasks : List Raw)
    → map (λ (d : Definition). d.name) (map (with_script entries) tasks) ≡ map (λ (t : Raw). t.name) tasks
with_ops_names entries [] = refl
with_ops_names entries (t ∷ ts) = ap (λ names. t.name ∷ names) (with_ops_names entries ts)

daemon_task_names : (commands : ℕ) (o : Option DaemonEntry)
    → map (λ (d : Definition). d.name) (daemon_task commands o) ≡ daemon_names o
daemon_task_names commands None = refl
daemon_task_names commands (Some d) = refl

all_tasks_names : (entries : Entries)
    → map (λ (d : Definition). d.name) (all_tasks entries) ≡ map (λ (t : Raw). t.name) entries.tasks ++ daemon_names entries.daemon
all_tasks_names entries =
    map-append (λ (d : Definition). d.name) (map (with_script entries) entries.tasks)
    (daemon_task (length entries.objects) entries.daemon)
    ∙ ap (λ names. names ++ map (λ (d : Definition). d.name) (daemon_task (length entries.objects) entries.daemon))
    (with_ops_names entries entries.tasks)
    ∙ ap (λ names. map (λ (t : Raw). t.name) entries.tasks ++ names) (daemon_task_names (length entries.objects) entries.daemon)

with_isr_ops_names : (entries : Entries) (handlers : List RawIsr)
    → map (λ (h : Handler). h.name) (map (with_isr_ops entries) handlers) ≡ map (λ (h : RawIsr). h.name) handlers
with_isr_ops_names entries [] = refl
with_isr_ops_names entries (h ∷ hs) = ap (λ names. h.name ∷ names) (with_isr_ops_names entries hs)

entries_differ : (document : Members) → entries_fault document ≡ None
    → AreDistinct ((names_of (with_no_handlers document) ++ map (λ (h : RawIsr). h.name) (handlers_named document))
    ++ (map (λ (t : Raw). t.name) (tasks_named document) ++ daemon_names (daemon_named document)))
unfolding entries_fault
entries_differ document none =
    let objects = none_fails (objects_fault document) _ none in
    let groups = none_fails (groups_fault (with_no_groups document) document) _ objects.1 in
    let variables = none_fails (variables_fault (with_no_variables document) document) _ groups.1 in
    let handlers = none_fails (handlers_fault (with_no_handlers document) document) _ variables.1 in
    let tasks = none_fails (tasks_fault (with_no_tasks document) document) _ handlers.1 in
    let first = subst AreDistinct (sym (append-nil _)) (all_objects_differ document objects.0) in
    let second = groups_differ (with_no_groups document) document groups.0 first in
    let grouped : names_of (with_no_groups document) ++ map (λ (g : GroupEntry). g.name) (groups_named document)
    ≡ names_of (with_no_variables document) =
    simp append-nil in
    let third = variables_differ (with_no_variables document) document variables.0 (subst AreDistinct grouped second) in
    let stored : names_of (with_no_variables document) ++ map (λ (v : VariableEntry). v.name) (variables_named document)
    ≡ names_of (with_no_handlers document) =
    simp (append_assoc, append-nil) in
    let fourth = handlers_differ (with_no_handlers document) document handlers.0 (subst AreDistinct stored third) in
    let handled : names_of (with_no_handlers document) ++ map (λ (h : RawIsr). h.name) (handlers_named document)
    ≡ names_of (with_no_tasks document) =
    simp (append_assoc, append-nil) in
    let fifth = tasks_differ (with_no_tasks document) document tasks.0 (subst AreDistinct handled fourth) in
    let all : names_of (with_no_tasks document) ++ map (λ (t : Raw). t.name) (tasks_named document)
    ≡ names_of (with_no_daemon document) =
    simp (append_assoc, append-nil) in
    let some = none_fails (fails_if (length (tasks_named document) == 0) (fault_at Missing (at_section section.Task)))
    (daemon_fault (with_no_daemon document) document ∷ []) tasks.1 in
    let daemon = none_fails (daemon_fault (with_no_daemon document) document) [] some.1 in
    let sixth = daemon_differs (with_no_daemon document) document daemon.0 (subst AreDistinct all fifth) in
    subst
    (λ names. AreDistinct (names ++ (map (λ (t : Raw). t.name) (tasks_named document) ++ daemon_names (daemon_named document))))
    (sym handled)
    (subst AreDistinct (append_assoc (names_of (with_no_tasks document)) (map (λ (t : Raw). t.name) (tasks_named document))
    (daemon_names (daemon_named document)))
    (subst (λ names. AreDistinct (names ++ daemon_names (daemon_named document))) (sym all) sixth))

pub names_differ : (document : Members) → load_fault document ≡ None → AreDistinct (document_names document)
unfolding entries_of
names_differ document none =
    let entries = (passed document none).entries in
    subst (λ isr_names. AreDistinct ((names_of (with_no_handlers document) ++ isr_names) ++ task_names (app_named document)))
    (sym (with_isr_ops_names (entries_of document) (handlers_named document)))
    (subst (λ others.
    AreDistinct ((names_of (with_no_handlers document) ++ map (λ (h : RawIsr). h.name) (handlers_named document)) ++ others))
    (sym (all_tasks_names (entries_of document))) (entries_differ document entries))
