-- What is said of a key or an array where a check finds a fault or none.
use Rattle.std.proofs.Common.{◌≡◌, ◌+◌, ◌-◌, ◌<◌, ◌≤◌, ℕ, Bool, true, List, [], ◌∷◌, length, Option, Some, None, ap, sym, ◌∙◌}
use Rattle.std.proofs.Common.{arith}
use Rattle.std.specs.Prelude.{nat_lt, nat_le, not}
use Rattle.std.specs.List.{list_any}
use Rattle.std.specs.Str.{bytes_eq}
use Rattle.std.proofs.lemmas.Bool.{lt-ltb, le-ltb, lt-leb}
use Rattle.toml.specs.Data.{Data, Members, get_member, as_str}
use Rattle.model.specs.declared.block.Block.{Block}
use Rattle.model.proofs.Nesting.{nothing_open}
use Rattle.script.specs.declared.fault.Fault.{Fault}
use Rattle.script.specs.declared.fault.FaultKind.TheVariants.{Missing, WrongKind, OutOfRange, DoubleName, TooMany}
use Rattle.script.specs.declared.place.Place.{Place}
use Rattle.script.specs.declared.place.Key.{Key}
use Rattle.script.specs.Faults.{key_word, at_key, fault_at, first_fault, fails_if, need, required}
use Rattle.grammar.specs.Names.{is_name}
use Rattle.script.specs.Values.{name_fault}
use Rattle.script.specs.Arrays.{Elements, each_fault, array_of, array_fault}
use Rattle.script.proofs.Steps.{alone, passed}

-- a key, which is at this place
module _ (place : Place) (key : Key) (check : Place → Data → Option Fault)
    (ms : Members) (here : Place) (is : here ≡ at_key place key) where
  pub missing : (fault : Fault) → None ≡ get_member (key_word key) ms → fault ≡ fault_at Missing here
      → required place key check ms ≡ Some fault
  missing fault none same =
      ap (λ o. need (fault_at Missing (at_key place key)) o (check (at_key place key))) (sym none)
      ∙ ap (λ p. Some (fault_at Missing p)) (sym is)
      ∙ ap (λ f. Some f) (sym same)

  pub there : (d : Data) (found : Option Fault) → Some d ≡ get_member (key_word key) ms → check here d ≡ found
      → required place key check ms ≡ found
  there d found some finds =
      ap (λ o. need (fault_at Missing (at_key place key)) o (check (at_key place key))) (sym some)
      ∙ ap (λ p. check p d) (sym is)
      ∙ finds

-- an array of this many elements at most
module _ {S : Type 0} (most : ℕ) (elements : Elements S Data) (s : S) (p : Place) (d : Data) where
  pub no_array : None ≡ array_of d → array_fault most elements s p d ≡ Some (fault_at WrongKind p)
  no_array none =
      ap (λ o. need (fault_at WrongKind p) o (λ ds.
      first_fault (fails_if (nat_lt most (length ds)) (fault_at TooMany p) ∷ each_fault elements s 0 ds ∷ []))) (sym none)

  pub too_many : (ds : List Data) → Some ds ≡ array_of d → most < length ds
      → array_fault most elements s p d ≡ Some (fault_at TooMany p)
  too_many ds some many =
      ap (λ o. need (fault_at WrongKind p) o (λ ds.
      first_fault (fails_if (nat_lt most (length ds)) (fault_at TooMany p) ∷ each_fault elements s 0 ds ∷ []))) (sym some)
      ∙ ap (λ b. first_fault (fails_if b (fault_at TooMany p) ∷ each_fault elements s 0 ds ∷ [])) (lt-ltb most (length ds) many)

  pub few_enough : (ds : List Data) (found : Option Fault) → Some ds ≡ array_of d
      → length ds ≤ most → each_fault elements s 0 ds ≡ found
      → array_fault most elements s p d ≡ found
  few_enough ds found some few finds =
      ap (λ o. need (fault_at WrongKind p) o (λ ds.
      first_fault (fails_if (nat_lt most (length ds)) (fault_at TooMany p) ∷ each_fault elements s 0 ds ∷ []))) (sym some)
      ∙ ap (λ b. first_fault (fails_if b (fault_at TooMany p) ∷ each_fault elements s 0 ds ∷ [])) (le-ltb most (length ds) few)
      ∙ alone (each_fault elements s 0 ds)
      ∙ finds

-- a name, which none of these is
module _ (names : List (List ℕ)) (p : Place) (d : Data) where
  pub no_text : None ≡ as_str d → name_fault names p d ≡ Some (fault_at WrongKind p)
  no_text none =
      ap (λ o. need (fault_at WrongKind p) o (λ name. first_fault (
      fails_if (not (is_name name)) (fault_at OutOfRange p)
      ∷ fails_if (list_any (bytes_eq name) names) (fault_at DoubleName p)
      ∷ []))) (sym none)

  pub text : (name : List ℕ) (is double : Bool) → Some name ≡ as_str d → is_name name ≡ is → list_any (bytes_eq name) names ≡ double
      → name_fault names p d
      ≡ first_fault (fails_if (not is) (fault_at OutOfRange p) ∷ fails_if double (fault_at DoubleName p) ∷ [])
  text name is double some named found =
      ap (λ o. need (fault_at WrongKind p) o (λ name. first_fault (
      fails_if (not (is_name name)) (fault_at OutOfRange p)
      ∷ fails_if (list_any (bytes_eq name) names) (fault_at DoubleName p)
      ∷ []))) (sym some)
      ∙ ap (λ b.
      first_fault
      (fails_if (not b) (fault_at OutOfRange p) ∷ fails_if (list_any (bytes_eq name) names) (fault_at DoubleName p) ∷ []))
      named
      ∙ ap (λ b. first_fault (fails_if (not is) (fault_at OutOfRange p) ∷ fails_if b (fault_at DoubleName p) ∷ [])) found

-- ---- how many fit

pub too_many_left : (left used most count : ℕ) → left + used ≡ most → left < count → most - used < count
too_many_left left used most count all over = omega arith

pub few_left : (left used most count : ℕ) → left + used ≡ most → count ≤ left → count ≤ most - used
few_left left used most count all fits = omega arith

-- ---- three checks

-- None of two finds a fault, and there are not too many yet.
pub none_of_three : (first second : Option Fault) (most count : ℕ) (fault : Fault) → first ≡ None → second ≡ None → count < most
    → first_fault (first ∷ second ∷ fails_if (nat_le most count) fault ∷ []) ≡ None
none_of_three first second most count fault none_first none_second few =
    ap (λ o. first_fault (o ∷ second ∷ fails_if (nat_le most count) fault ∷ [])) none_first
    ∙ ap (λ o. first_fault (o ∷ fails_if (nat_le most count) fault ∷ [])) none_second
    ∙ ap (λ b. first_fault (fails_if b fault ∷ [])) (lt-leb most count few)

-- One of the first two finds a fault, so the third is not asked.
pub found_of_three : (first second third : Option Fault) (fault : Fault) → first_fault (first ∷ second ∷ []) ≡ Some fault
    → first_fault (first ∷ second ∷ third ∷ []) ≡ Some fault
found_of_three None None third fault found = cc
found_of_three None (Some other) third fault found = found
found_of_three (Some other) second third fault found = found

-- ---- the end of a script

-- No op's check finds a fault, and no block is open.
pub closed : (check : Option Fault) (open_blocks left : List Block) (fault : Fault) → check ≡ None → open_blocks ≡ left
    → true ≡ not (nat_lt 0 (length left)) → first_fault (check ∷ fails_if (nat_lt 0 (length open_blocks)) fault ∷ []) ≡ None
closed check open_blocks left fault none is empty =
    passed check (fails_if (nat_lt 0 (length open_blocks)) fault ∷ []) none
    ∙ ap (λ blocks. first_fault (fails_if (nat_lt 0 (length blocks)) fault ∷ [])) (is ∙ nothing_open left empty)
