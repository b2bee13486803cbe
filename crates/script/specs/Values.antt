-- What is at the keys of a document, with its checks: numbers, booleans, names and texts. If a check fails the value is a
-- default, which nobody sees.
use Rattle.std.specs.Prelude.{ℕ, ℤ, pos, negsuc, Bool, not, ◌||◌, nat_lt, List, [], ◌∷◌, Option, Some, None, is_none}
use Rattle.std.specs.Prelude.{option_map, option_and_then, unwrap_or}
use Rattle.std.specs.List.{list_any}
use Rattle.std.specs.Str.{bytes_eq}
use Rattle.std.specs.Borrow.{Bor}
use Rattle.toml.specs.Data.{Data, Members, as_integer, as_bool, as_str, get_member}
use Rattle.toml.specs.View.{view}
use Rattle.toml.specs.declared.value.Value.{Value}
use Rattle.script.specs.declared.fault.Fault.{Fault}
use Rattle.script.specs.declared.fault.FaultKind.TheVariants.{WrongKind, OutOfRange, UnknownName, DoubleName}
use Rattle.script.specs.declared.place.Place.{Place}
use Rattle.script.specs.declared.place.Key.{Key}
use Rattle.script.specs.declared.place.Key.TheVariants as key
use Rattle.script.specs.Faults.{at_element, key_word, fault_at, first_fault, fails_if, need}
use Rattle.grammar.specs.Names.{is_name, index_of}
use Rattle.script.specs.Arrays.{Elements, alike, array_fault, elements_of}

-- what the code found at a key
abbrev pub data_of : Option (Bor Value) → Option Data
data_of value = option_map (λ v. view v.now) value

-- what is at a key of a table, if it is one
abbrev pub member_of : Key → Option Members → Option Data
member_of k members = option_and_then (get_member (key_word k)) members

-- ---- numbers

-- an integer from the least to the most
abbrev pub integer_fault : (least most : ℕ) → Place → ℤ → Option Fault
integer_fault least most p (pos n) = fails_if (nat_lt n least || nat_lt most n) (fault_at OutOfRange p)
integer_fault least most p (negsuc n) = Some (fault_at OutOfRange p)

-- the same of what has to be one
abbrev pub number_fault : (least most : ℕ) → Place → Data → Option Fault
number_fault least most p d = need (fault_at WrongKind p) (as_integer d) (integer_fault least most p)

abbrev pub integer_named : Option ℤ → ℕ
integer_named (Some (pos n)) = n
integer_named _ = 0

-- the number, or the default if it is left out
abbrev pub number_or : ℕ → Option Data → ℕ
number_or default None = default
number_or default (Some d) = integer_named (as_integer d)

-- the number at a key of a table
abbrev pub number_named : Key → Option Members → ℕ
number_named k ms = number_or 0 (member_of k ms)

-- ---- booleans

-- It is a boolean.
abbrev pub boolean_fault : Place → Data → Option Fault
boolean_fault p d = fails_if (is_none (as_bool d)) (fault_at WrongKind p)

-- which one, or the default if it is left out
abbrev pub boolean_or : Bool → Option Data → Bool
boolean_or default d = unwrap_or (option_and_then as_bool d) default

-- ---- names

-- the text that is there
abbrev pub text_named : Option Data → List ℕ
text_named d = unwrap_or (option_and_then as_str d) []

-- It is a text, a name, and none of these names.
abbrev pub name_fault : List (List ℕ) → Place → Data → Option Fault
name_fault names p d = need (fault_at WrongKind p) (as_str d) (λ name. first_fault (
    fails_if (not (is_name name)) (fault_at OutOfRange p)
    ∷ fails_if (list_any (bytes_eq name) names) (fault_at DoubleName p)
    ∷ []))

abbrev pub name_named : Option Members → List ℕ
name_named ms = text_named (member_of key.Name ms)

-- It is a text, and one of these names.
abbrev pub known_fault : List (List ℕ) → Place → Data → Option Fault
known_fault names p d = need (fault_at WrongKind p) (as_str d) (λ name.
    fails_if (is_none (index_of name names)) (fault_at UnknownName p))

-- which of these it is
abbrev pub known_named : List (List ℕ) → Option Data → ℕ
known_named names d = unwrap_or (option_and_then (λ name. index_of name names) (option_and_then as_str d)) 0

-- ---- texts

-- Each element of the array at a place is a text.
abbrev pub text_elements : Place → Elements (Unit {0}) Data
text_elements p = alike (at_element p) (λ q d. fails_if (is_none (as_str d)) (fault_at WrongKind q))

-- an array of this many texts at most
abbrev pub texts_fault : (most : ℕ) → Place → Data → Option Fault
texts_fault most p d = array_fault most (text_elements p) tt p d

abbrev pub texts_named : Key → Option Members → List Data
texts_named k ms = elements_of (member_of k ms)
