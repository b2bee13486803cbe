-- Where one looks in a file, the checks of what is there, and which of them fails first.
use Rattle.std.specs.Prelude.{◌≡◌, ℕ, Bool, List, [], ◌∷◌, Option, Some, None, Result, Ok, Err, codes, ◌++◌, option_map}
use Rattle.std.specs.Prelude.{option_and_then, option_to_list, if◌then◌else◌}
use Rattle.std.specs.Fmt.{decimal}
use Rattle.toml.specs.Data.{Data, Members, get_member}
use Rattle.script.specs.declared.fault.FaultKind.{FaultKind}
use Rattle.script.specs.declared.fault.FaultKind.TheVariants.{Missing, WrongKind, OutOfRange, BadOp, UnknownName, DoubleName}
use Rattle.script.specs.declared.fault.FaultKind.TheVariants.{BadNesting, OverwriteLength, TooMany, NoDaemon}
use Rattle.script.specs.declared.fault.Fault.{Fault}
use Rattle.script.specs.declared.fault.LoadError.{LoadError}
use Rattle.script.specs.declared.fault.LoadError.TheVariants as error
use Rattle.script.specs.declared.place.Place.{Place}
use Rattle.script.specs.declared.place.PlaceWord.{PlaceWord}
use Rattle.script.specs.declared.place.PlaceWord.TheVariants.{Name, Index}
use Rattle.script.specs.declared.place.Section.{Section}
use Rattle.script.specs.declared.place.Section.TheVariants as section
use Rattle.script.specs.declared.place.Key.{Key}
use Rattle.script.specs.declared.place.Key.TheVariants as key

-- ---- places

-- a section as a whole
abbrev pub at_section : Section → Place
at_section s = record { section = s; entry = None; key = None; index = None }

-- the entry i of a section
abbrev pub at_entry : Section → ℕ → Place
at_entry s i = record { section = s; entry = Some i; key = None; index = None }

-- a key of what is at a place
abbrev pub at_key : Place → Key → Place
at_key p k = record p { key = Some k }

-- the element n of the array at a place
abbrev pub at_element : Place → ℕ → Place
at_element p n = record p { index = Some n }

-- ---- the words of a place

-- the name of a section in the file
abbrev pub section_word : Section → List ℕ
section_word section.Start = codes "start"
section_word section.Tickless = codes "tickless"
section_word section.Limits = codes "limits"
section_word section.Queue = codes "queue"
section_word section.Binary = codes "binary"
section_word section.Counting = codes "counting"
section_word section.Mutex = codes "mutex"
section_word section.Group = codes "group"
section_word section.Variable = codes "variable"
section_word section.Handler = codes "handler"
section_word section.Task = codes "task"
section_word section.Daemon = codes "daemon"
section_word section.Interrupt = codes "interrupt"
section_word section.Campaign = codes "campaign"

-- the name of a key in the file
abbrev pub key_word : Key → List ℕ
key_word key.Ticks = codes "ticks"
key_word key.Steps = codes "steps"
key_word key.Name = codes "name"
key_word key.Length = codes "length"
key_word key.Max = codes "max"
key_word key.Initial = codes "initial"
key_word key.Ops = codes "ops"
key_word key.Armed = codes "armed"
key_word key.Apart = codes "apart"
key_word key.Priority = codes "priority"
key_word key.Endless = codes "endless"
key_word key.Script = codes "script"
key_word key.Tick = codes "tick"
key_word key.Handler = codes "handler"
key_word key.Points = codes "points"

-- the word of an index that applies
abbrev pub index_words : Option ℕ → List (List ℕ)
index_words index = option_to_list (option_map decimal index)

-- the section, the index of the entry, the key, and the index inside the key's array, as far as they apply
abbrev pub place_words : Place → List (List ℕ)
place_words p =
    section_word p.section
    ∷ (index_words p.entry ++ (option_to_list (option_map key_word p.key) ++ index_words p.index))

-- the text of one of these words
abbrev pub word_text : PlaceWord → List ℕ
word_text (Name name) = name.now
word_text (Index index) = decimal index

-- ---- the names and numbers of faults

-- the number of a fault of this kind, as its line has it (profile)
abbrev pub fault_code : FaultKind → ℕ
fault_code Missing = 1
fault_code WrongKind = 2
fault_code OutOfRange = 3
fault_code BadOp = 4
fault_code UnknownName = 5
fault_code DoubleName = 6
fault_code BadNesting = 7
fault_code OverwriteLength = 8
fault_code TooMany = 9
fault_code NoDaemon = 11

-- the name of a fault of this kind, as its line has it (profile)
abbrev pub fault_name : FaultKind → List ℕ
fault_name Missing = codes "Missing"
fault_name WrongKind = codes "WrongKind"
fault_name OutOfRange = codes "OutOfRange"
fault_name BadOp = codes "BadOp"
fault_name UnknownName = codes "UnknownName"
fault_name DoubleName = codes "DoubleName"
fault_name BadNesting = codes "BadNesting"
fault_name OverwriteLength = codes "OverwriteLength"
fault_name TooMany = codes "TooMany"
fault_name NoDaemon = codes "NoDaemon"

-- a fault of this kind at a place
abbrev pub fault_at : FaultKind → Place → Fault
fault_at k p = record { kind = k; place = p }

-- ---- checks

-- A check is the fault that it finds, or nothing. The fault of the first of some checks that finds one:
abbrev pub first_fault : List (Option Fault) → Option Fault
first_fault [] = None
first_fault (None ∷ checks) = first_fault checks
first_fault ((Some fault) ∷ checks) = Some fault

-- the check that finds this fault if the test is true
abbrev pub fails_if : Bool → Fault → Option Fault
fails_if b fault = if b then Some fault else None

-- the check that finds this fault if there is nothing, and otherwise checks what there is
abbrev pub need : {X : Type 0} → Fault → Option X → (X → Option Fault) → Option Fault
need fault None check = Some fault
need fault (Some x) check = check x

-- what is at a key, which must be there, is checked so at its place
abbrev pub required : Place → Key → (Place → Data → Option Fault) → Members → Option Fault
required p k check ms = need (fault_at Missing (at_key p k)) (get_member (key_word k) ms) (check (at_key p k))

-- the same at a key that may be left out
abbrev pub optional : Place → Key → (Place → Data → Option Fault) → Members → Option Fault
optional p k check ms = option_and_then (check (at_key p k)) (get_member (key_word k) ms)

-- What was read is this value if the check finds nothing, and otherwise the fault that it finds.
abbrev pub Judges : {X : Type 0} → Result X Fault → Option Fault → X → Type 0
Judges (Ok x) check value = (check ≡ None) × (x ≡ value)
Judges (Err fault) check value = check ≡ Some fault

-- What a call that takes memory made is this value if the check finds nothing, unless memory is refused, and otherwise the fault
-- that the check finds, whatever memory is left.
abbrev pub Loads : {X : Type 0} → Result X LoadError → Option Fault → X → Type 0
Loads (Ok x) check value = (check ≡ None) × (x ≡ value)
Loads (Err error.Memory) check value = check ≡ None
Loads (Err (error.Fault fault)) check value = check ≡ Some fault

-- What was read, as a view shows it.
abbrev pub seen : {X Y E : Type 0} → (X → Y) → Result X E → Result Y E
seen view (Ok x) = Ok (view x)
seen view (Err e) = Err e
