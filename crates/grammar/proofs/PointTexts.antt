-- What is read of an entry's words is what the grammar of points spells.
use Rattle.std.proofs.Common.{◌≡◌, ◌≤◌, ◌<◌, ◌+◌, ◌++◌, ◌&&◌, ℕ, Bool, true, false, cond, leb, ltb, List, [], ◌∷◌, length, map}
use Rattle.std.proofs.Common.{Option, Some, None, refl, ap, sym, subst, ◌∙◌, inl, inr, option_map, arith}
use Rattle.std.specs.Prelude.{option_and_then, codes}
use Rattle.std.specs.List.{AllByRecursion, position_from}
use Rattle.std.specs.Option.{option_map_or}
use Rattle.std.specs.Str.{bytes_eq}
use Rattle.std.proofs.lemmas.Bool.{leb-true, le-leb, lt-leb, ltb-true, lt-ltb, ltb-false, le-ltb, and_parts, or_parts, not-true}
use Rattle.std.proofs.lemmas.List.{append_assoc, length-append}
use Rattle.std.proofs.lemmas.Slice.Eq.{bytes_eq-Decides}
use Rattle.model.specs.declared.plan.Injection.{Injection}
use Rattle.model.specs.declared.plan.PointEntry.{PointEntry}
use Rattle.model.specs.declared.plan.PointEntry.TheVariants.{One, Each}
use Rattle.model.specs.Points.{AreInOrder, IsPoint, most_of_point}
use Rattle.model.specs.Scripts.{last_point}
use Rattle.model.proofs.Sorting.{by_test}
use Rattle.grammar.specs.Grammar.{Word, number_of}
use Rattle.grammar.specs.Names.{is_name, index_of}
use Rattle.grammar.specs.Points.{SpellsEntry, SpellsInjections, SpellsSteps, RawEntry, RawPair, RawSpan, RawOne, RawEach}
use Rattle.grammar.specs.Points.{after_all, all_known, all_there, entry_from, entry_of, falls_from, if_point, if_step, injection_at}
use Rattle.grammar.specs.Points.{is_formed, known, may_be_point, range_at, raw_at, raw_each, raw_of, raw_pair, raw_pairs, span_at}
use Rattle.grammar.specs.Points.{span_between, span_of, span_of_steps, step_of}
use Rattle.grammar.proofs.Reading.{chosen}

-- ---- two words

-- They spell this injection, whose handler is still a name.
abbrev IsPair : Word → Word → RawPair → Type 0
IsPair w name p = (number_of w ≡ Some p.step) × (p.step ≤ last_point) × (is_name name ≡ true) × (name ≡ p.handler)

pair_of_step : (w name : Word) (n : ℕ) (p : RawPair) (b : Bool) → leb n last_point ≡ b → is_name name ≡ true → number_of w ≡ Some n
    → option_map (raw_at name) (cond b (Some n) None) ≡ Some p → IsPair w name p
pair_of_step w name n p true few t number e =
    let same : raw_at name n ≡ p = cc in
    subst (λ q. IsPair w name q) same (number, leb-true n last_point few, t, refl)
pair_of_step w name n p false few t number e = cc

pair_of_number : (w name : Word) (o : Option ℕ) (p : RawPair) → is_name name ≡ true → number_of w ≡ o
    → option_map (raw_at name) (option_and_then if_step o) ≡ Some p → IsPair w name p
pair_of_number w name None p t number e = cc
pair_of_number w name (Some n) p t number e = pair_of_step w name n p (leb n last_point) refl t number e

pair_sound : (w name : Word) (p : RawPair) → raw_pair w name ≡ Some p → IsPair w name p
pair_sound w name p e = elim (chosen (is_name name) _ _ _ e) [
  | inl here ↦ pair_of_number w name (number_of w) p here.0 refl here.1
  | inr later ↦ let none = later.1 in cc
]

pair_complete : (w name : Word) (step : ℕ) → number_of w ≡ Some step → step ≤ last_point
    → is_name name ≡ true → raw_pair w name ≡ Some (raw_at name step)
pair_complete w name step number few t =
    ap (λ b. cond b (option_map (raw_at name) (option_and_then if_step (number_of w))) None) t
    ∙ ap (λ o. option_map (raw_at name) (option_and_then if_step o)) number
    ∙ ap (λ b. option_map (raw_at name) (cond b (Some step) None)) (le-leb step last_point few)

-- ---- all words

-- They spell these injections, two words each.
abbrev ArePairs : List Word → List RawPair → Type 0
ArePairs [] [] = Unit {0}
ArePairs (w ∷ name ∷ ws) (p ∷ ps) = IsPair w name p × ArePairs ws ps
ArePairs ws ps = ⊥

there : {X : Type 0} (o : Option X) (os : Option (List X)) (xs : List X) → all_there o os ≡ Some xs
    → (x : X) × (ys : List X) × (o ≡ Some x) × (os ≡ Some ys) × (x ∷ ys ≡ xs)
there None os xs e = cc
there (Some x) None xs e = cc
there (Some x) (Some ys) xs e = (x, ys, refl, refl, cc)

pairs_sound : (ws : List Word) (ps : List RawPair) → raw_pairs ws ≡ Some ps → ArePairs ws ps
pairs_sound [] [] e = tt
pairs_sound [] (p ∷ ps) e = cc
pairs_sound (w ∷ []) ps e = cc
pairs_sound (w ∷ name ∷ ws) ps e =
    let t = there (raw_pair w name) (raw_pairs ws) ps e in
    subst (ArePairs (w ∷ name ∷ ws)) t.4 (pair_sound w name t.0 t.2, pairs_sound ws t.1 t.3)

-- ---- injections whose handlers are known

-- The handlers of these injections have the names of those, and the steps are the same.
abbrev pub AreKnown : List Word → List RawPair → List Injection → Type 0
AreKnown names [] [] = Unit {0}
AreKnown names (p ∷ ps) (i ∷ is) = (i.step ≡ p.step) × (index_of p.handler names ≡ Some i.handler) × AreKnown names ps is
AreKnown names ps is = ⊥

one_known : (step : ℕ) (o : Option ℕ) (i : Injection)
    → option_map (injection_at step) o ≡ Some i → (i.step ≡ step) × (o ≡ Some i.handler)
one_known step None i e = cc
one_known step (Some handler) i e =
    let same : injection_at step handler ≡ i = cc in
    (sym (ap (λ (j : Injection). j.step) same), ap (λ (j : Injection). Some j.handler) same)

pub known_sound : (names : List Word) (ps : List RawPair) (is : List Injection)
    → all_known names ps ≡ Some is → AreKnown names ps is
known_sound names [] [] e = tt
known_sound names [] (i ∷ is) e = cc
known_sound names (p ∷ ps) is e =
    let t = there (known names p) (all_known names ps) is e in
    let one = one_known p.step (index_of p.handler names) t.0 t.2 in
    subst (AreKnown names (p ∷ ps)) t.4 (one.0, one.1, known_sound names ps t.1 t.3)

same_injection : (i : Injection) (step : ℕ) → i.step ≡ step → injection_at step i.handler ≡ i
same_injection i step e = rw (← e) refl

known_complete : (names : List Word) (ps : List RawPair) (is : List Injection) → AreKnown names ps is → all_known names ps ≡ Some is
known_complete names [] [] h = refl
known_complete names [] (i ∷ is) h = absurd h
known_complete names (p ∷ ps) [] h = absurd h
known_complete names (p ∷ ps) (i ∷ is) h =
    let first : known names p ≡ Some i = ap (option_map (injection_at p.step)) h.1 ∙ ap Some (same_injection i p.step h.0) in
    rw (first, known_complete names ps is h.2) refl

-- ---- their order

as_many : (names : List Word) (ps : List RawPair) (is : List Injection) → AreKnown names ps is → length ps ≡ length is
as_many names [] [] h = refl
as_many names [] (i ∷ is) h = absurd h
as_many names (p ∷ ps) [] h = absurd h
as_many names (p ∷ ps) (i ∷ is) h = let more = as_many names ps is h.2 in omega arith

abbrev From : ℕ → List Injection → Type 0
From n is = AllByRecursion (λ (i : Injection). n ≤ i.step) is

from_less : (m n : ℕ) → m ≤ n → (is : List Injection) → From n is → From m is
from_less m n le [] h = tt
from_less m n le (i ∷ is) h = (let above = h.0 in omega arith, from_less m n le is h.1)

rises : (names : List Word) (last : ℕ) (ps : List RawPair) (is : List Injection) → AreKnown names ps is → falls_from last ps ≡ false
    → From last is × AreInOrder is
rises names last [] [] h isnt = (tt, tt)
rises names last [] (i ∷ is) h isnt = absurd h
rises names last (p ∷ ps) [] h isnt = absurd h
rises names last (p ∷ ps) (i ∷ is) h isnt =
    let parts = or_parts (ltb p.step last) (falls_from p.step ps) isnt in
    let above = ltb-false p.step last parts.0 in
    let later = rises names p.step ps is h.2 parts.1 in
    let same : i.step ≡ p.step = h.0 in
    let low : last ≤ i.step = omega (arith, above, same) in
    let from : From i.step is = subst (λ n. From n is) (sym same) later.0 in
    ((low, from_less last i.step low is from), (from, later.1))

falls_not : (names : List Word) (last : ℕ) (ps : List RawPair) (is : List Injection)
    → AreKnown names ps is → From last is → AreInOrder is
    → falls_from last ps ≡ false
falls_not names last [] [] h from rising = refl
falls_not names last [] (i ∷ is) h from rising = absurd h
falls_not names last (p ∷ ps) [] h from rising = absurd h
falls_not names last (p ∷ ps) (i ∷ is) h from rising =
    let above : last ≤ p.step = subst (λ n. last ≤ n) h.0 from.0 in
    let later : From p.step is = subst (λ n. From n is) h.0 rising.0 in
    rw (le-ltb p.step last above) (falls_not names p.step ps is h.2 later rising.1)

from_nothing : (is : List Injection) → From 0 is
from_nothing [] = tt
from_nothing (i ∷ is) = (omega arith, from_nothing is)

-- What may be a point is one, once its handlers are known, and a point may be one.
pub is_point : (names : List Word) (ps : List RawPair) (is : List Injection)
    → AreKnown names ps is → may_be_point ps ≡ true → IsPoint is
is_point names ps is h may =
    let parts = and_parts (ltb 0 (length ps)) _ may in
    let rest = and_parts (leb (length ps) most_of_point) _ parts.1 in
    let many = as_many names ps is h in
    record {
      some = let low = ltb-true 0 (length ps) parts.0 in omega (arith, low, many);
      few = let high = leb-true (length ps) most_of_point rest.0 in omega (arith, high, many);
      in_order = (rises names 0 ps is h (not-true (falls_from 0 ps) rest.1)).1;
    }

may_be : (names : List Word) (ps : List RawPair) (is : List Injection) → AreKnown names ps is → IsPoint is → may_be_point ps ≡ true
may_be names ps is h point =
    let many = as_many names ps is h in
    let low : 0 < length ps = omega (arith, point.some, many) in
    let high : length ps ≤ most_of_point = omega (arith, point.few, many) in
    rw (lt-ltb 0 (length ps) low, le-leb (length ps) most_of_point high, falls_not names 0 ps is h (from_nothing is) point.in_order)
    refl

-- ---- injections and words

spelled : (names ws : List Word) (ps : List RawPair) (is : List Injection)
    → ArePairs ws ps → AreKnown names ps is → SpellsInjections names is ws
spelled names [] [] [] pairs h = tt
spelled names [] [] (i ∷ is) pairs h = absurd h
spelled names [] (p ∷ ps) is pairs h = absurd pairs
spelled names (w ∷ []) [] is pairs h = absurd pairs
spelled names (w ∷ []) (p ∷ ps) is pairs h = absurd pairs
spelled names (w ∷ name ∷ ws) [] is pairs h = absurd pairs
spelled names (w ∷ name ∷ ws) (p ∷ ps) [] pairs h = absurd h
spelled names (w ∷ name ∷ ws) (p ∷ ps) (i ∷ is) pairs h =
    let first = pairs.0 in
    let number : number_of w ≡ Some i.step = first.0 ∙ ap Some (sym h.0) in
    let few : i.step ≤ last_point = subst (λ n. n ≤ last_point) (sym h.0) first.1 in
    let index : index_of name names ≡ Some i.handler = subst (λ n. index_of n names ≡ Some i.handler) (sym first.3) h.1 in
    (number, few, first.2, index, spelled names ws ps is pairs.1 h.2)

read : (names ws : List Word) (is : List Injection) → SpellsInjections names is ws
    → (ps : List RawPair) × (raw_pairs ws ≡ Some ps) × AreKnown names ps is
read names [] [] h = ([], refl, tt)
read names [] (i ∷ is) h = absurd h
read names (w ∷ []) [] h = absurd h
read names (w ∷ []) (i ∷ is) h = absurd h
read names (w ∷ name ∷ ws) [] h = absurd h
read names (w ∷ name ∷ ws) (i ∷ is) h =
    let r = read names ws is h.4 in (
      raw_at name i.step ∷ r.0,
      rw (pair_complete w name i.step h.0 h.1 h.2, r.1) refl,
      (refl, h.3, r.2),
    )

-- ---- the word `all`

no_number : (w : Word) (step : ℕ) → number_of w ≡ Some step → bytes_eq w (codes "all") ≡ false
no_number w step number = by_test (bytes_eq w (codes "all"))
    (λ t.
    let none : number_of w ≡ None = ap number_of ((bytes_eq-Decides w (codes "all")).0 t) in
    cc)
    (λ t. t)

pairs_have_no_all : (names ws : List Word) (is : List Injection) → SpellsInjections names is ws → after_all ws ≡ None
pairs_have_no_all names [] is h = refl
pairs_have_no_all names (w ∷ []) [] h = absurd h
pairs_have_no_all names (w ∷ []) (i ∷ is) h = absurd h
pairs_have_no_all names (w ∷ name ∷ ws) [] h = absurd h
pairs_have_no_all names (w ∷ name ∷ ws) (i ∷ is) h = rw (no_number w i.step h.0) refl

-- ---- a range

-- They spell this range, whose handler is still a name.
abbrev IsSpan : List Word → RawSpan → Type 0
IsSpan [] span = ⊥
IsSpan (name ∷ ws) span = (is_name name ≡ true) × (name ≡ span.handler) × SpellsSteps span.first span.last ws

may_be_step : (m n : ℕ) (b : Bool) → leb m last_point ≡ b → cond b (Some m) None ≡ Some n → (m ≡ n) × (n ≤ last_point)
may_be_step m n true few e =
    let same : m ≡ n = cc in
    (same, subst (λ k. k ≤ last_point) same (leb-true m last_point few))
may_be_step m n false few e = cc

number_sound : (o : Option ℕ) (n : ℕ) → option_and_then if_step o ≡ Some n → (o ≡ Some n) × (n ≤ last_point)
number_sound None n e = cc
number_sound (Some m) n e = let is = may_be_step m n (leb m last_point) refl e in (ap Some is.0, is.1)

step_sound : (w : Word) (n : ℕ) → step_of w ≡ Some n → (number_of w ≡ Some n) × (n ≤ last_point)
step_sound w n e = number_sound (number_of w) n e

step_complete : (w : Word) (n : ℕ) → number_of w ≡ Some n → n ≤ last_point → step_of w ≡ Some n
step_complete w n number few =
    ap (option_and_then if_step) number ∙ ap (λ b. cond b (Some n) None) (le-leb n last_point few)

-- What is read of two steps is this range.
abbrev IsBetween : Word → Option ℕ → Option ℕ → RawSpan → Type 0
IsBetween name a b span = (name ≡ span.handler) × (a ≡ Some span.first) × (b ≡ Some span.last) × (span.first ≤ span.last)

rising_span : (name : Word) (first last : ℕ) (span : RawSpan) (b : Bool) → leb first last ≡ b
    → cond b (Some (span_at name first last)) None ≡ Some span → IsBetween name (Some first) (Some last) span
rising_span name first last span true is e =
    let same : span_at name first last ≡ span = cc in
    subst (IsBetween name (Some first) (Some last)) same (refl, refl, refl, leb-true first last is)
rising_span name first last span false is e = cc

between_sound : (name : Word) (a b : Option ℕ) (span : RawSpan) → span_between name a b ≡ Some span → IsBetween name a b span
between_sound name None b span e = cc
between_sound name (Some first) None span e = cc
between_sound name (Some first) (Some last) span e = rising_span name first last span (leb first last) refl e

from_to_sound : (name from a to b : Word) (span : RawSpan) → span_of_steps name (from ∷ a ∷ to ∷ b ∷ []) ≡ Some span
    → (name ≡ span.handler) × SpellsSteps span.first span.last (from ∷ a ∷ to ∷ b ∷ [])
from_to_sound name from a to b span e =
    elim (chosen (bytes_eq from (codes "from") && bytes_eq to (codes "to")) _ _ _ e) [
      | inl here ↦
          let words = and_parts (bytes_eq from (codes "from")) _ here.0 in
          let between = between_sound name (step_of a) (step_of b) span here.1 in
          let first = step_sound a span.first between.1 in
          let last = step_sound b span.last between.2 in
          let is_from = (bytes_eq-Decides from (codes "from")).0 words.0 in
          let is_to = (bytes_eq-Decides to (codes "to")).0 words.1 in
          (between.0, (is_from, first.0, is_to, last.0, between.3, last.1))
      | inr later ↦ let none = later.1 in cc
    ]

steps_sound : (name : Word) (ws : List Word) (span : RawSpan) → span_of_steps name ws ≡ Some span
    → (name ≡ span.handler) × SpellsSteps span.first span.last ws
steps_sound name [] span e =
    let same : span_at name 0 last_point ≡ span = cc in
    subst (λ (s : RawSpan). (name ≡ s.handler) × SpellsSteps s.first s.last []) same (refl, (refl, refl))
steps_sound name (from ∷ []) span e = cc
steps_sound name (from ∷ a ∷ []) span e = cc
steps_sound name (from ∷ a ∷ to ∷ []) span e = cc
steps_sound name (from ∷ a ∷ to ∷ b ∷ []) span e = from_to_sound name from a to b span e
steps_sound name (from ∷ a ∷ to ∷ b ∷ w ∷ ws) span e = cc

steps_complete : (name : Word) (ws : List Word) (first last : ℕ) → SpellsSteps first last ws
    → span_of_steps name ws ≡ Some (span_at name first last)
steps_complete name [] first last h = rw (h.0, h.1) refl
steps_complete name (from ∷ []) first last h = absurd h
steps_complete name (from ∷ a ∷ []) first last h = absurd h
steps_complete name (from ∷ a ∷ to ∷ []) first last h = absurd h
steps_complete name (from ∷ a ∷ to ∷ b ∷ []) first last h =
    let rising : first ≤ last = h.4 in
    let few : last ≤ last_point = h.5 in
    let one : first ≤ last_point = omega (arith, rising, few) in
    rw (
      (bytes_eq-Decides from (codes "from")).1 h.0,
      (bytes_eq-Decides to (codes "to")).1 h.2,
      step_complete a first h.1 one,
      step_complete b last h.3 few,
      le-leb first last rising,
    ) refl
steps_complete name (from ∷ a ∷ to ∷ b ∷ w ∷ ws) first last h = absurd h

span_sound : (ws : List Word) (span : RawSpan) → span_of ws ≡ Some span → IsSpan ws span
span_sound [] span e = cc
span_sound (name ∷ ws) span e = elim (chosen (is_name name) _ _ _ e) [
  | inl here ↦ let steps = steps_sound name ws span here.1 in (here.0, steps.0, steps.1)
  | inr later ↦ let none = later.1 in cc
]

span_complete : (name : Word) (ws : List Word) (first last : ℕ) → is_name name ≡ true → SpellsSteps first last ws
    → span_of (name ∷ ws) ≡ Some (span_at name first last)
span_complete name ws first last t h =
    ap (λ b. cond b (span_of_steps name ws) None) t ∙ steps_complete name ws first last h

-- ---- an entry

found : {X Y : Type 0} (made : X → Y) (o : Option X) (y : Y) → option_map made o ≡ Some y → (x : X) × (o ≡ Some x) × (made x ≡ y)
found made None y e = cc
found made (Some x) y e = (x, refl, cc)

-- The words spell this entry, whose handlers are still names.
abbrev IsRaw : RawEntry → List Word → Type 0
IsRaw (RawOne ps) ws = (raw_pairs ws ≡ Some ps) × (may_be_point ps ≡ true)
IsRaw (RawEach span) [] = ⊥
IsRaw (RawEach span) (w ∷ ws) = (w ≡ codes "all") × IsSpan ws span

each_raw : (w : Word) (ws : List Word) (o : Option RawSpan) (raw : RawEntry) → span_of ws ≡ o → w ≡ codes "all"
    → option_map RawEach o ≡ Some raw → IsRaw raw (w ∷ ws)
each_raw w ws None raw read all e = cc
each_raw w ws (Some span) raw read all e =
    let same : RawEach span ≡ raw = cc in
    subst (λ r. IsRaw r (w ∷ ws)) same (all, span_sound ws span read)

one_raw : (ws : List Word) (ps : List RawPair) (raw : RawEntry) (b : Bool) → may_be_point ps ≡ b → raw_pairs ws ≡ Some ps
    → cond b (Some (RawOne ps)) None ≡ Some raw → IsRaw raw ws
one_raw ws ps raw true may pairs e =
    let same : RawOne ps ≡ raw = cc in
    subst (λ r. IsRaw r ws) same (pairs, may)
one_raw ws ps raw false may pairs e = cc

pairs_raw : (ws : List Word) (o : Option (List RawPair)) (raw : RawEntry)
    → raw_pairs ws ≡ o → option_and_then if_point o ≡ Some raw → IsRaw raw ws
pairs_raw ws None raw pairs e = cc
pairs_raw ws (Some ps) raw pairs e = one_raw ws ps raw (may_be_point ps) refl pairs e

word_raw : (w : Word) (ws : List Word) (raw : RawEntry) (b : Bool) → bytes_eq w (codes "all") ≡ b
    → option_map_or raw_each (cond b (Some ws) None) (option_and_then if_point (raw_pairs (w ∷ ws))) ≡ Some raw
    → IsRaw raw (w ∷ ws)
word_raw w ws raw true all e = each_raw w ws (span_of ws) raw refl ((bytes_eq-Decides w (codes "all")).0 all) e
word_raw w ws raw false all e = pairs_raw (w ∷ ws) (raw_pairs (w ∷ ws)) raw refl e

raw_sound : (ws : List Word) (raw : RawEntry) → raw_of ws ≡ Some raw → IsRaw raw ws
raw_sound [] raw e = pairs_raw [] (raw_pairs []) raw refl e
raw_sound (w ∷ ws) raw e = word_raw w ws raw (bytes_eq w (codes "all")) refl e

-- The injections of an entry that was read may be a point.
formed_raw : (ws : List Word) (raw : RawEntry) → IsRaw raw ws → is_formed raw ≡ true
formed_raw ws (RawOne ps) h = h.1
formed_raw ws (RawEach span) h = refl

pub formed : (ws : List Word) (raw : RawEntry) → raw_of ws ≡ Some raw → is_formed raw ≡ true
formed ws raw e = formed_raw ws raw (raw_sound ws raw e)

one_spelled : (names ws : List Word) (ps : List RawPair) (is : List Injection)
    → IsRaw (RawOne ps) ws → AreKnown names ps is → SpellsEntry names (One is) ws
one_spelled names ws ps is raw h = (is_point names ps is h raw.1, spelled names ws ps is (pairs_sound ws ps raw.0) h)

each_spelled : (names ws : List Word) (span : RawSpan) (handler : ℕ) → IsRaw (RawEach span) ws
    → index_of span.handler names ≡ Some handler → SpellsEntry names (range_at span handler) ws
each_spelled names [] span handler raw index = absurd raw
each_spelled names (w ∷ []) span handler raw index = absurd raw.1
each_spelled names (w ∷ name ∷ ws) span handler raw index =
    (raw.0, raw.1.0, subst (λ n. index_of n names ≡ Some handler) (sym raw.1.1) index, raw.1.2)

from_raw : (names ws : List Word) (raw : RawEntry) (entry : PointEntry)
    → IsRaw raw ws → entry_from names raw ≡ Some entry → SpellsEntry names entry ws
from_raw names ws (RawOne ps) entry raw e =
    let f = found One (all_known names ps) entry e in
    subst (λ x. SpellsEntry names x ws) f.2 (one_spelled names ws ps f.0 raw (known_sound names ps f.0 f.1))
from_raw names ws (RawEach span) entry raw e =
    let f = found (range_at span) (index_of span.handler names) entry e in
    subst (λ x. SpellsEntry names x ws) f.2 (each_spelled names ws span f.0 raw f.1)

read_sound : (names ws : List Word) (o : Option RawEntry) (entry : PointEntry) → raw_of ws ≡ o
    → option_and_then (entry_from names) o ≡ Some entry → SpellsEntry names entry ws
read_sound names ws None entry read e = cc
read_sound names ws (Some raw) entry read e = from_raw names ws raw entry (raw_sound ws raw read) e

pub sound : (names ws : List Word) (entry : PointEntry) → entry_of names ws ≡ Some entry → SpellsEntry names entry ws
sound names ws entry e = read_sound names ws (raw_of ws) entry refl e

one_complete : (names ws : List Word) (is : List Injection) → IsPoint is
    → SpellsInjections names is ws → entry_of names ws ≡ Some (One is)
one_complete names ws is point h =
    let r = read names ws is h in
    let may = may_be names r.0 is r.2 point in
    ap (λ o. option_and_then (entry_from names) (option_map_or raw_each o (option_and_then if_point (raw_pairs ws))))
    (pairs_have_no_all names ws is h)
    ∙ ap (λ o. option_and_then (entry_from names) (option_and_then if_point o)) r.1
    ∙ ap (λ b. option_and_then (entry_from names) (cond b (Some (RawOne r.0)) None)) may
    ∙ ap (option_map One) (known_complete names r.0 is r.2)

pub complete : (names ws : List Word) (entry : PointEntry) → SpellsEntry names entry ws → entry_of names ws ≡ Some entry
complete names ws (One is) h = one_complete names ws is h.0 h.1
complete names [] (Each range) h = absurd h
complete names (w ∷ []) (Each range) h = absurd h
complete names (w ∷ name ∷ ws) (Each range) h =
    let span = span_at name range.first range.last in
    ap (λ b.
    option_and_then (entry_from names)
    (option_map_or raw_each (cond b (Some (name ∷ ws)) None) (option_and_then if_point (raw_pairs (w ∷ name ∷ ws)))))
    ((bytes_eq-Decides w (codes "all")).1 h.0)
    ∙ ap (λ o. option_and_then (entry_from names) (option_map RawEach o)) (span_complete name ws range.first range.last h.1 h.3)
    ∙ ap (option_map (range_at span)) h.2

-- ---- words that are read with no handler's name in view

pub never : (names ws : List Word) (entry : PointEntry) → raw_of ws ≡ None → SpellsEntry names entry ws → ⊥
never names ws entry none h =
    let some = complete names ws entry h in
    let nothing : entry_of names ws ≡ None = ap (option_and_then (entry_from names)) none in
    cc

-- a word's index among others, of which it is one
index_from : (w : Word) (k : ℕ) (before after : List Word)
    → (index : ℕ) × (position_from (λ name. bytes_eq name w) k (before ++ w ∷ after) ≡ Some index)
index_from w k [] after = (k, rw ((bytes_eq-Decides w w).1 refl) refl)
index_from w k (b ∷ before) after = by_test (bytes_eq b w)
    (λ t. (k, rw t refl))
    (λ t. let later = index_from w (k + 1) before after in (later.0, rw t later.1))

abbrev names_in : List RawPair → List Word
names_in ps = map (λ (p : RawPair). p.handler) ps

-- Where handlers have just these names, all are known.
known_by_their_names : (before : List Word) (ps : List RawPair) → (is : List Injection) × AreKnown (before ++ names_in ps) ps is
known_by_their_names before [] = ([], tt)
known_by_their_names before (p ∷ ps) =
    let first = index_from p.handler 0 before (names_in ps) in
    let later = known_by_their_names (before ++ p.handler ∷ []) ps in
    let same : (before ++ p.handler ∷ []) ++ names_in ps ≡ before ++ p.handler ∷ names_in ps =
    append_assoc before (p.handler ∷ []) (names_in ps) in (
      injection_at p.step first.0 ∷ later.0,
      (refl, first.1, subst (λ names. AreKnown names ps later.0) same later.1),
    )

spelled_with : (ws : List Word) (raw : RawEntry) → IsRaw raw ws
    → (names : List Word) × (entry : PointEntry) × SpellsEntry names entry ws
spelled_with ws (RawOne ps) raw =
    let known = known_by_their_names [] ps in
    (names_in ps, One known.0, one_spelled (names_in ps) ws ps known.0 raw known.1)
spelled_with ws (RawEach span) raw =
    let index = index_from span.handler 0 [] [] in
    (span.handler ∷ [], range_at span index.0, each_spelled (span.handler ∷ []) ws span index.0 raw index.1)

pub with_some_names : (ws : List Word) (raw : RawEntry) → raw_of ws ≡ Some raw
    → (names : List Word) × (entry : PointEntry) × SpellsEntry names entry ws
with_some_names ws raw e = spelled_with ws raw (raw_sound ws raw e)

-- ---- one injection after another

-- these, and then the others, where they are there
abbrev pub behind : {X : Type 0} → List X → Option (List X) → Option (List X)
behind [] others = others
behind (x ∷ xs) others = all_there (Some x) (behind xs others)

module _ {X : Type 0} where
  pub behind_nothing : (xs : List X) → behind xs (Some []) ≡ Some xs
  behind_nothing [] = refl
  behind_nothing (x ∷ xs) = ap (all_there (Some x)) (behind_nothing xs)

  pub behind_none : (xs : List X) → behind xs None ≡ None
  behind_none [] = refl
  behind_none (x ∷ xs) = ap (all_there (Some x)) (behind_none xs)

  behind_some : (xs others : List X) → behind xs (Some others) ≡ Some (xs ++ others)
  behind_some [] others = refl
  behind_some (x ∷ xs) others = ap (all_there (Some x)) (behind_some xs others)

  pub one_more : (xs : List X) (x : X) (others : Option (List X))
      → behind xs (all_there (Some x) others) ≡ behind (xs ++ x ∷ []) others
  one_more [] x others = refl
  one_more (y ∷ xs) x others = ap (all_there (Some y)) (one_more xs x others)

too_long : (ps others : List RawPair) → 3 ≤ length ps → 1 ≤ length others → if_point (ps ++ others) ≡ None
too_long ps others many some =
    let long = length-append ps others in
    let above : most_of_point < length (ps ++ others) = omega (arith, long) in
    let low : 0 < length (ps ++ others) = omega arith in
    let isnt : may_be_point (ps ++ others) ≡ false =
    rw (lt-ltb 0 (length (ps ++ others)) low, lt-leb (length (ps ++ others)) most_of_point above) refl in
    ap (λ b. cond b (Some (RawOne (ps ++ others))) None) isnt

more_read : (ps : List RawPair) (o : Option (List RawPair)) → 3 ≤ length ps → ((qs : List RawPair) → o ≡ Some qs → 1 ≤ length qs)
    → option_and_then if_point (behind ps o) ≡ None
more_read ps None many some = ap (option_and_then if_point) (behind_none ps)
more_read ps (Some qs) many some = ap (option_and_then if_point) (behind_some ps qs) ∙ too_long ps qs many (some qs refl)

some_read : (ws : List Word) → (ws ≡ [] → ⊥) → (qs : List RawPair) → raw_pairs ws ≡ Some qs → 1 ≤ length qs
some_read [] some qs e = absurd (some refl)
some_read (w ∷ []) some qs e = cc
some_read (w ∷ name ∷ ws) some qs e =
    let t = there (raw_pair w name) (raw_pairs ws) qs e in
    subst (λ xs. 1 ≤ length xs) t.4 (omega arith)

pub too_many : (ps : List RawPair) (ws : List Word) → 3 ≤ length ps
    → (ws ≡ [] → ⊥) → option_and_then if_point (behind ps (raw_pairs ws)) ≡ None
too_many ps ws many some = more_read ps (raw_pairs ws) many (some_read ws some)
