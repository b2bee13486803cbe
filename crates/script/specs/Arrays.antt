-- Arrays of a document, whose elements are checked one after the other.
use Rattle.std.specs.Prelude.{ℕ, nat_lt, ◌+◌, ◌-◌, List, [], ◌∷◌, ◌++◌, length, map, Option, None, option_map, option_and_then}
use Rattle.std.specs.Prelude.{unwrap_or}
use Rattle.toml.specs.Data.{Data, Items, no_items, item, Members, as_table, as_array}
use Rattle.script.specs.declared.fault.Fault.{Fault}
use Rattle.script.specs.declared.fault.FaultKind.TheVariants.{WrongKind, TooMany}
use Rattle.script.specs.declared.place.Place.{Place}
use Rattle.script.specs.declared.place.Section.{Section}
use Rattle.script.specs.Faults.{at_section, at_entry, fault_at, first_fault, fails_if, need}

-- How elements are checked: each at its place; S is what matters of those before it.
pub record Elements (S X : Type 0) : Type 0 where
  pub at : ℕ → Place
  pub fault : S → Place → X → Option Fault
  pub next : S → X → S

-- each element from the one of this index on
abbrev pub each_fault : {S X : Type 0} → Elements S X → S → ℕ → List X → Option Fault
each_fault elements s i [] = None
each_fault elements s i (x ∷ xs) = first_fault (
    elements.fault s (elements.at i) x
    ∷ each_fault elements (elements.next s x) (i + 1) xs
    ∷ [])

-- elements that are checked alike, whatever is before them
abbrev pub alike : {X : Type 0} → (ℕ → Place) → (Place → X → Option Fault) → Elements (Unit {0}) X
alike at fault = record { at = at; fault = λ s p x. fault p x; next = λ s x. s }

-- ---- arrays

-- items as a list
abbrev pub list_of : Items → List Data
list_of no_items = []
list_of (item d ds) = d ∷ list_of ds

-- the elements, if it is an array
abbrev pub array_of : Data → Option (List Data)
array_of d = option_map list_of (as_array d)

-- the same, or none
abbrev pub elements_of : Option Data → List Data
elements_of d = unwrap_or (option_and_then array_of d) []

-- It is an array of this many elements at most.
abbrev pub array_fault : {S : Type 0} → (most : ℕ) → Elements S Data → S → Place → Data → Option Fault
array_fault most elements s p d = need (fault_at WrongKind p) (array_of d) (λ ds. first_fault (
    fails_if (nat_lt most (length ds)) (fault_at TooMany p)
    ∷ each_fault elements s 0 ds
    ∷ []))

-- ---- sections

-- The entries of a section are tables, whose keys are checked in their order, after the entries before.
abbrev pub tables : {X : Type 0} → Section → (Option Members → X) → (List X → Place → Members → Option Fault)
    → Elements (List X) Data
tables s value keys = record {
  at = at_entry s;
  fault = λ before p d. need (fault_at WrongKind p) (as_table d) (keys before p);
  next = λ before d. before ++ value (as_table d) ∷ [];
}

-- A section may be left out. It has this many entries at most, together with those before.
abbrev pub section_fault : {X : Type 0} → (most : ℕ) → Section → (Option Members → X)
    → (List X → Place → Members → Option Fault) → List X → Option Data → Option Fault
section_fault most s value keys before d =
    option_and_then (array_fault (most - length before) (tables s value keys) before (at_section s)) d

-- what the entries of a section are
abbrev pub section_named : {X : Type 0} → (Option Members → X) → Option Data → List X
section_named value d = map (λ e. value (as_table e)) (elements_of d)
