-- The base interrupts and the points that are taken are those of a well formed application.
use Rattle.std.proofs.Common.{◌≡◌, ◌+◌, ◌<◌, ◌≤◌, ◌++◌, ℕ, ℤ, pos, negsuc, List, [], ◌∷◌, length, map, Option, Some, None, refl}
use Rattle.std.proofs.Common.{subst, sym, arith}
use Rattle.std.specs.Prelude.{◌==◌, ◌||◌, codes, nat_lt, nat_le, is_none, option_and_then, unwrap_or}
use Rattle.std.specs.List.{filter, filter_map, cons_option, AllByRecursion}
use Rattle.std.proofs.lemmas.Bool.{eqb-true, ltb-false, leb-false, or_parts}
use Rattle.std.proofs.lemmas.List.{append-nil, append_assoc, length-map, length-append}
use Rattle.toml.specs.Data.{Data, Members, as_str, as_integer, as_table, get_member}
use Rattle.model.specs.declared.plan.Injection.{Injection}
use Rattle.model.specs.declared.plan.PointEntry.{PointEntry}
use Rattle.model.specs.declared.plan.PointEntry.TheVariants.{One, Each}
use Rattle.model.specs.Application.{Application, Interrupt, interrupts_at}
use Rattle.model.specs.Points.{IsPoint}
use Rattle.model.specs.Scripts.{IsInterrupt, IsPointEntry, last_interrupt, last_point, most_at_once, most_interrupts, most_points}
use Rattle.model.proofs.Nesting.{all-append}
use Rattle.model.proofs.Sorting.{by_test}
use Rattle.script.specs.declared.fault.FaultKind.TheVariants.{Missing, WrongKind, OutOfRange, UnknownName, TooMany}
use Rattle.script.specs.declared.place.Place.{Place}
use Rattle.script.specs.declared.place.Key.{Key}
use Rattle.script.specs.declared.place.Key.TheVariants as key
use Rattle.script.specs.declared.place.Section.TheVariants as section
use Rattle.script.specs.Faults.{at_section, at_entry, at_key, key_word, fault_at, fails_if, first_fault, need, required}
use Rattle.grammar.specs.Names.{index_of}
use Rattle.script.specs.Values.{integer_fault, number_fault, integer_named, number_or, number_named, known_fault, known_named}
use Rattle.script.specs.Values.{member_of}
use Rattle.script.specs.Arrays.{array_of, elements_of, tables, each_fault, section_fault}
use Rattle.script.specs.Sections.{data_at}
use Rattle.grammar.specs.Grammar.{Word, words_of}
use Rattle.grammar.specs.Points.{SpellsEntry, SpellsInjections, SpellsSteps, entry_of}
use Rattle.script.specs.Points.{entry_named, point_elements, points_fault, campaign_fault, campaign_named}
use Rattle.script.specs.Interrupts.{count_at, interrupt_named, interrupt_keys, interrupts_fault, interrupts_named}
use Rattle.script.proofs.Checks.{none_fails, passes}
use Rattle.script.proofs.Counted.{count_both}
use Rattle.script.proofs.Fitting.{below_from}
use Rattle.grammar.proofs.PointTexts.{sound}

-- ---- what the checks of keys give

integer_in : (least most : ℕ) (p : Place) (z : Option ℤ) → need (fault_at WrongKind p) z (integer_fault least most p) ≡ None
    → (least ≤ integer_named z) × (integer_named z ≤ most)
integer_in least most p None none = cc
integer_in least most p (Some (pos n)) none =
    let within =
    or_parts (nat_lt n least) (nat_lt most n) (passes (nat_lt n least || nat_lt most n) (fault_at OutOfRange p) none) in
    (ltb-false n least within.0, ltb-false most n within.1)
integer_in least most p (Some (negsuc n)) none = cc

value_in : (least most : ℕ) (p : Place) (value : Option Data) → need (fault_at Missing p) value (number_fault least most p) ≡ None
    → (least ≤ number_or 0 value) × (number_or 0 value ≤ most)
value_in least most p None none = cc
value_in least most p (Some d) none = integer_in least most p (as_integer d) none

number_in : (least most : ℕ) (p : Place) (k : Key) (ms : Members) → required p k (number_fault least most) ms ≡ None
    → (least ≤ number_named k (Some ms)) × (number_named k (Some ms) ≤ most)
number_in least most p k ms none = value_in least most (at_key p k) (get_member (key_word k) ms) none

index_known : (names : List (List ℕ)) (p : Place) (name : List ℕ) (o : Option ℕ) → index_of name names ≡ o
    → fails_if (is_none o) (fault_at UnknownName p) ≡ None → unwrap_or o 0 < length names
index_known names p name None is none = cc
index_known names p name (Some n) is none = let below = below_from 0 name names n is in omega arith

text_known : (names : List (List ℕ)) (p : Place) (text : Option (List ℕ))
    → need (fault_at WrongKind p) text (λ name. fails_if (is_none (index_of name names)) (fault_at UnknownName p)) ≡ None
    → unwrap_or (option_and_then (λ name. index_of name names) text) 0 < length names
text_known names p None none = cc
text_known names p (Some name) none = index_known names p name (index_of name names) refl none

value_known : (names : List (List ℕ)) (p : Place) (value : Option Data)
    → need (fault_at Missing p) value (known_fault names p) ≡ None
    → known_named names value < length names
value_known names p None none = cc
value_known names p (Some d) none = text_known names p (as_str d) none

-- ---- the base interrupts

record Comes (names : List (List ℕ)) (before : List Interrupt) (i : Interrupt) : Type 0 where
  pub first : 1 ≤ i.tick
  pub last : i.tick ≤ last_interrupt
  pub known : i.handler < length names
  pub room : count_at i.tick before < most_at_once

keys_come : (names : List (List ℕ)) (before : List Interrupt) (p : Place) (ms : Members) → interrupt_keys names before p ms ≡ None
    → Comes names before (interrupt_named names (Some ms))
keys_come names before p ms none =
    let tick = none_fails (required p key.Tick (number_fault 1 last_interrupt) ms) _ none in
    let handler = none_fails (required p key.Handler (known_fault names) ms) _ tick.1 in
    let count = count_at (interrupt_named names (Some ms)).tick before in
    let few = passes (nat_le most_at_once count) (fault_at TooMany p) (none_fails _ [] handler.1).0 in
    let within = number_in 1 last_interrupt p key.Tick ms tick.0 in
    record {
      first = within.0;
      last = within.1;
      known = value_known names (at_key p key.Handler) (get_member (codes "handler") ms) handler.0;
      room = leb-false most_at_once count few;
    }

table_comes : (names : List (List ℕ)) (before : List Interrupt) (p : Place) (table : Option Members)
    → need (fault_at WrongKind p) table (interrupt_keys names before p) ≡ None → Comes names before (interrupt_named names table)
table_comes names before p None none = cc
table_comes names before p (Some ms) none = keys_come names before p ms none

-- it is one more at its own tick, and at no other
few_more : (i : Interrupt) (is : List Interrupt) → count_at i.tick is < most_at_once
    → ((tick : ℕ) → count_at tick is ≤ most_at_once) → (tick : ℕ) → count_at tick (is ++ i ∷ []) ≤ most_at_once
few_more i is room few tick = by_test (i.tick == tick)
    (λ t.
    let here = subst (λ n. count_at n is < most_at_once) (eqb-true i.tick tick t) room in
    let one : count_at tick (i ∷ []) ≡ 1 = rw t refl in
    let more = count_both tick is (i ∷ []) in
    omega arith)
    (λ t.
    let none : count_at tick (i ∷ []) ≡ 0 = rw t refl in
    let more = count_both tick is (i ∷ []) in
    let before = few tick in
    omega arith)

-- the base interrupts of an application of this many handlers
pub record AreInterrupts (handlers : ℕ) (interrupts : List Interrupt) : Type 0 where
  pub first : AllByRecursion (λ (i : Interrupt). 1 ≤ i.tick) interrupts
  pub last : AllByRecursion (λ (i : Interrupt). i.tick ≤ last_interrupt) interrupts
  pub known : AllByRecursion (λ (i : Interrupt). i.handler < handlers) interrupts
  pub few : length interrupts ≤ most_interrupts
  pub few_at_once : (tick : ℕ) → count_at tick interrupts ≤ most_at_once

none_yet : (handlers : ℕ) → AreInterrupts handlers []
none_yet handlers = record {
  first = tt;
  last = tt;
  known = tt;
  few = omega arith;
  few_at_once = λ tick. omega arith;
}

one_more : (names : List (List ℕ)) (i : Interrupt) (is : List Interrupt) → Comes names is i → length is < most_interrupts
    → AreInterrupts (length names) is → AreInterrupts (length names) (is ++ i ∷ [])
one_more names i is comes room h = record {
  first = all-append (λ (j : Interrupt). 1 ≤ j.tick) is i h.first comes.first;
  last = all-append (λ (j : Interrupt). j.tick ≤ last_interrupt) is i h.last comes.last;
  known = all-append (λ (j : Interrupt). j.handler < length names) is i h.known comes.known;
  few = omega (arith, length-append is (i ∷ []));
  few_at_once = few_more i is comes.room h.few_at_once;
}

each_comes : (names : List (List ℕ)) (before : List Interrupt) (i : ℕ) (ds : List Data)
    → each_fault (tables section.Interrupt (interrupt_named names) (interrupt_keys names)) before i ds ≡ None
    → length before + length ds ≤ most_interrupts → AreInterrupts (length names) before
    → AreInterrupts (length names) (before ++ map (λ d. interrupt_named names (as_table d)) ds)
each_comes names before i [] none few h = subst (AreInterrupts (length names)) (sym (append-nil before)) h
each_comes names before i (d ∷ ds) none few h =
    let p = at_entry section.Interrupt i in
    let next = interrupt_named names (as_table d) in
    let here = none_fails (need (fault_at WrongKind p) (as_table d) (interrupt_keys names before p)) _ none in
    let comes = table_comes names before p (as_table d) here.0 in
    subst (AreInterrupts (length names)) (append_assoc before (next ∷ []) (map (λ e. interrupt_named names (as_table e)) ds))
    (each_comes names (before ++ next ∷ []) (i + 1) ds (none_fails _ [] here.1).0
    (omega (arith, length-append before (next ∷ []))) (one_more names next before comes (omega arith) h))

array_comes : (names : List (List ℕ)) (array : Option (List Data))
    → need (fault_at WrongKind (at_section section.Interrupt)) array (λ ds. first_fault (
    fails_if (nat_lt most_interrupts (length ds)) (fault_at TooMany (at_section section.Interrupt))
    ∷ each_fault (tables section.Interrupt (interrupt_named names) (interrupt_keys names)) [] 0 ds ∷ [])) ≡ None
    → AreInterrupts (length names) (map (λ d. interrupt_named names (as_table d)) (unwrap_or array []))
array_comes names None none = cc
array_comes names (Some ds) none =
    let here =
    none_fails (fails_if (nat_lt most_interrupts (length ds)) (fault_at TooMany (at_section section.Interrupt))) _ none in
    let few = ltb-false most_interrupts (length ds) (passes (nat_lt most_interrupts (length ds)) _ here.0) in
    each_comes names [] 0 ds (none_fails _ [] here.1).0 (omega arith) (none_yet (length names))

section_comes : (names : List (List ℕ)) (d : Option Data)
    → section_fault most_interrupts section.Interrupt (interrupt_named names) (interrupt_keys names) [] d ≡ None
    → AreInterrupts (length names) (map (λ e. interrupt_named names (as_table e)) (elements_of d))
section_comes names None none = none_yet (length names)
section_comes names (Some d) none = array_comes names (array_of d) none

pub taken_interrupts : (names : List (List ℕ)) (document : Members) → interrupts_fault names document ≡ None
    → AreInterrupts (length names) (interrupts_named names document)
unfolding interrupts_fault interrupts_named
taken_interrupts names document none = section_comes names (data_at section.Interrupt document) none

pub are_interrupts : (app : Application) (is : List Interrupt) → AllByRecursion (λ (i : Interrupt). 1 ≤ i.tick) is
    → AllByRecursion (λ (i : Interrupt). i.tick ≤ last_interrupt) is
    → AllByRecursion (λ (i : Interrupt). i.handler < length app.handlers) is
    → AllByRecursion (IsInterrupt app) is
are_interrupts app [] first last known = tt
are_interrupts app (i ∷ is) first last known =
    (record { first = first.0; last = last.0; handler = known.0 }, are_interrupts app is first.1 last.1 known.1)

pub few_come : (app : Application) (tick : ℕ) → count_at tick app.interrupts ≤ most_at_once
    → length (interrupts_at app tick) ≤ most_at_once
few_come app tick few =
    omega (arith, length-map (filter (λ (i : Interrupt). i.tick == tick) app.interrupts) (λ (i : Interrupt). i.handler))

-- ---- the points

-- an entry of an application in which this many interrupts can be injected
abbrev IsEntry : (handlers : ℕ) → PointEntry → Type 0
IsEntry handlers (One point) =
    IsPoint point × AllByRecursion (λ (i : Injection). (i.step ≤ last_point) × (i.handler < handlers)) point
IsEntry handlers (Each range) = (range.handler < handlers) × (range.first ≤ range.last) × (range.last ≤ last_point)

spelled_injections : (names ws : List Word) (is : List Injection) → SpellsInjections names is ws
    → AllByRecursion (λ (i : Injection). (i.step ≤ last_point) × (i.handler < length names)) is
spelled_injections names [] [] h = tt
spelled_injections names (w ∷ []) [] h = absurd h
spelled_injections names (w ∷ name ∷ ws) [] h = absurd h
spelled_injections names [] (i ∷ is) h = absurd h
spelled_injections names (w ∷ []) (i ∷ is) h = absurd h
spelled_injections names (w ∷ name ∷ ws) (i ∷ is) h =
    ((h.1, let below = below_from 0 name names i.handler h.3 in omega arith), spelled_injections names ws is h.4)

spelled_steps : (first last : ℕ) (ws : List Word) → SpellsSteps first last ws → (first ≤ last) × (last ≤ last_point)
spelled_steps first last [] h =
    let from_start : first ≡ 0 = h.0 in
    let to_end : last ≡ last_point = h.1 in
    (omega (arith, from_start), omega (arith, to_end))
spelled_steps first last (from ∷ []) h = absurd h
spelled_steps first last (from ∷ a ∷ []) h = absurd h
spelled_steps first last (from ∷ a ∷ to ∷ []) h = absurd h
spelled_steps first last (from ∷ a ∷ to ∷ b ∷ []) h = (h.4, h.5)
spelled_steps first last (from ∷ a ∷ to ∷ b ∷ w ∷ ws) h = absurd h

spelled_entry : (names ws : List Word) (entry : PointEntry) → SpellsEntry names entry ws → IsEntry (length names) entry
spelled_entry names ws (One point) h = (h.0, spelled_injections names ws point h.1)
spelled_entry names [] (Each range) h = absurd h
spelled_entry names (w ∷ []) (Each range) h = absurd h
spelled_entry names (w ∷ name ∷ ws) (Each range) h =
    let steps = spelled_steps range.first range.last ws h.3 in
    (let below = below_from 0 name names range.handler h.2 in omega arith, steps.0, steps.1)

text_entry : (names : List Word) (text : Option (List ℕ)) (entry : PointEntry)
    → option_and_then (λ text. entry_of names (words_of text)) text ≡ Some entry → IsEntry (length names) entry
text_entry names None entry e = cc
text_entry names (Some text) entry e = spelled_entry names (words_of text) entry (sound names (words_of text) entry e)

one_entry : (names : List Word) (d : Data) (o : Option PointEntry) (entries : List PointEntry) → entry_named names d ≡ o
    → AllByRecursion (IsEntry (length names)) entries → AllByRecursion (IsEntry (length names)) (cons_option o entries)
one_entry names d None entries is h = h
one_entry names d (Some entry) entries is h = (text_entry names (as_str d) entry is, h)

all_entries : (names : List Word) (ds : List Data) → AllByRecursion (IsEntry (length names)) (filter_map (entry_named names) ds)
all_entries names [] = tt
all_entries names (d ∷ ds) = one_entry names d (entry_named names d) _ refl (all_entries names ds)

length_cons : (o : Option PointEntry) (entries : List PointEntry) → length (cons_option o entries) ≤ 1 + length entries
length_cons None entries = omega arith
length_cons (Some entry) entries = omega arith

fewer : (names : List Word) (ds : List Data) → length (filter_map (entry_named names) ds) ≤ length ds
fewer names [] = omega arith
fewer names (d ∷ ds) =
    let one = length_cons (entry_named names d) (filter_map (entry_named names) ds) in
    let others = fewer names ds in
    omega arith

few_array : (names : List Word) (p : Place) (array : Option (List Data))
    → need (fault_at WrongKind p) array (λ ds. first_fault (
    fails_if (nat_lt most_points (length ds)) (fault_at TooMany p) ∷ each_fault (point_elements names p) tt 0 ds ∷ [])) ≡ None
    → length (unwrap_or array []) ≤ most_points
few_array names p None none = cc
few_array names p (Some ds) none =
    ltb-false most_points (length ds) (passes (nat_lt most_points (length ds)) _ (none_fails _ _ none).0)

few_value : (names : List Word) (p : Place) (value : Option Data) → need (fault_at Missing p) value (points_fault names p) ≡ None
    → length (elements_of value) ≤ most_points
few_value names p None none = cc
few_value names p (Some d) none = few_array names p (array_of d) none

few_table : (names : List Word) (p : Place) (table : Option Members)
    → need (fault_at WrongKind p) table (required p key.Points (points_fault names)) ≡ None
    → length (elements_of (member_of key.Points table)) ≤ most_points
few_table names p None none = cc
few_table names p (Some ms) none = few_value names (at_key p key.Points) (get_member (codes "points") ms) none

few_section : (names : List Word) (p : Place) (d : Option Data)
    → option_and_then (λ d. need (fault_at WrongKind p) (as_table d) (required p key.Points (points_fault names))) d ≡ None
    → length (elements_of (member_of key.Points (option_and_then as_table d))) ≤ most_points
few_section names p None none = omega arith
few_section names p (Some d) none = few_table names p (as_table d) none

-- the entries of an application of this many handlers
pub record ArePoints (handlers : ℕ) (points : List PointEntry) : Type 0 where
  pub entries : AllByRecursion (IsEntry handlers) points
  pub few : length points ≤ most_points

pub taken_points : (names : List Word) (document : Members) → campaign_fault names document ≡ None
    → ArePoints (length names) (campaign_named names document)
unfolding campaign_fault campaign_named
taken_points names document none =
    let d = data_at section.Campaign document in
    let ds = elements_of (member_of key.Points (option_and_then as_table d)) in
    let few = few_section names (at_section section.Campaign) d none in
    let less = fewer names ds in
    record { entries = all_entries names ds; few = omega arith }

up_to : (n : ℕ) (is : List Injection) → AllByRecursion (λ (i : Injection). (i.step ≤ last_point) × (i.handler < n + 1)) is
    → AllByRecursion (λ (i : Injection). (i.step ≤ last_point) × (i.handler ≤ n)) is
up_to n [] h = tt
up_to n (i ∷ is) h = ((h.0.0, let less = h.0.1 in omega arith), up_to n is h.1)

-- the numbers of the handlers, and of the tick
pub are_entries : (app : Application) (points : List PointEntry) → AllByRecursion (IsEntry (length app.handlers + 1)) points
    → AllByRecursion (IsPointEntry app) points
are_entries app [] h = tt
are_entries app (One point ∷ points) h = ((h.0.0, up_to (length app.handlers) point h.0.1), are_entries app points h.1)
are_entries app (Each range ∷ points) h = ((let less = h.0.0 in omega arith, h.0.1, h.0.2), are_entries app points h.1)
