-- The injections of a point's text.
use Rattle.std.proofs.Common.{◌≡◌, ◌≤◌, ◌<◌, ℕ, suc, zero, Bool, true, false, cond, ltb, List, [], ◌∷◌, get_or, length, map}
use Rattle.std.proofs.Common.{Option, Some, None, refl, ap, sym}
use Rattle.std.proofs.Common.{arith, subst}
use Rattle.std.specs.Prelude.{option_and_then, option_map}
use Rattle.std.specs.List.{AllByRecursion, list_all}
use Rattle.std.specs.Option.{option_map_or}
use Rattle.std.specs.Str.{IsUtf8}
use Rattle.std.proofs.lemmas.Bool.{and_parts, ltb-false, not-true, or_parts}
use Rattle.std.proofs.lemmas.Bool.Decides.{nat_tests}
use Rattle.std.proofs.lemmas.Str.{IsUtf8-from_ascii}
use Rattle.grammar.specs.declared.raw_point.RawInjection.{RawInjection}
use Rattle.grammar.specs.Grammar.{Word, number_of}
use Rattle.grammar.specs.Names.{is_name, is_name_byte}
use Rattle.grammar.specs.Points.{RawEach, RawOne, RawPair, RawSpan, after_all, all_there, falls_from, if_point, if_step}
use Rattle.grammar.specs.Points.{may_be_point, pair_view, raw_at, raw_each, raw_of, raw_pair, raw_pairs, span_of}
use Rattle.model.specs.Points.{Rises}
use Rattle.requests.specs.Asked.{is_rising}

-- ---- their order

abbrev From : ℕ → List RawPair → Type 0
From n ps = AllByRecursion (λ (p : RawPair). n ≤ p.step) ps

from_less : (m n : ℕ) → m ≤ n → (ps : List RawPair) → From n ps → From m ps
from_less m n le [] h = tt
from_less m n le (p ∷ ps) h = (let above = h.0 in omega arith, from_less m n le ps h.1)

abbrev pub AreRising : List RawPair → Type 0
AreRising ps = Rises (λ (p : RawPair). p.step) ps

rises : (last : ℕ) (ps : List RawPair) → falls_from last ps ≡ false → From last ps × AreRising ps
rises last [] isnt = (tt, tt)
rises last (p ∷ ps) isnt =
    let parts = or_parts (ltb p.step last) (falls_from p.step ps) isnt in
    let above = ltb-false p.step last parts.0 in
    let later = rises p.step ps parts.1 in
    ((above, from_less last p.step above ps later.0), later)

pub rising : (ps : List RawPair) → is_rising ps ≡ true → AreRising ps
rising ps is = (rises 0 ps (not-true (falls_from 0 ps) is)).1

-- What may be a point is.
pub may_rise : (ps : List RawPair) → may_be_point ps ≡ true → is_rising ps ≡ true
may_rise ps may = (and_parts _ _ (and_parts (ltb 0 (length ps)) _ may).1).1

-- ---- what is read

if_one : (o : Option (List RawPair)) (ps : List RawPair) → option_and_then if_point o ≡ Some (RawOne ps)
    → (o ≡ Some ps) × (may_be_point ps ≡ true)
if_one None ps e = absurd (cc e)
if_one (Some qs) ps e = by (may_be_point qs) refl e
  where
    by : (b : Bool) → may_be_point qs ≡ b → cond b (Some (RawOne qs)) None ≡ Some (RawOne ps)
        → (Some qs ≡ Some ps) × (may_be_point ps ≡ true)
    by true may same = let is : qs ≡ ps = cc in (ap Some is, subst (λ (rs : List RawPair). may_be_point rs ≡ true) is may)
    by false may same = absurd (cc same)

no_each : (ws : List Word) (ps : List RawPair) → raw_each ws ≡ Some (RawOne ps) → ⊥
no_each ws ps e = by (span_of ws) e
  where
    by : (o : Option RawSpan) → option_map RawEach o ≡ Some (RawOne ps) → ⊥
    by (Some span) same = cc same
    by None same = cc same

-- What spells a point is pairs that may be one.
pub of_pairs : (ws : List Word) (ps : List RawPair) → raw_of ws ≡ Some (RawOne ps)
    → (raw_pairs ws ≡ Some ps) × (may_be_point ps ≡ true)
of_pairs ws ps e = by (after_all ws) e
  where
    by : (o : Option (List Word)) → option_map_or raw_each o (option_and_then if_point (raw_pairs ws)) ≡ Some (RawOne ps)
        → (raw_pairs ws ≡ Some ps) × (may_be_point ps ≡ true)
    by None same = if_one (raw_pairs ws) ps same
    by (Some after) same = absurd (no_each after ps same)

-- ---- their names

abbrev AreNamed : List RawPair → Type 0
AreNamed ps = AllByRecursion (λ (p : RawPair). is_name p.handler ≡ true) ps

raw_named : (name : Word) (o : Option ℕ) (p : RawPair) → is_name name ≡ true → option_map (raw_at name) o ≡ Some p
    → is_name p.handler ≡ true
raw_named name None p is same = absurd (cc same)
raw_named name (Some step) p is same =
    let here : raw_at name step ≡ p = cc in subst (λ (q : RawPair). is_name q.handler ≡ true) here is

pair_named : (w name : Word) (p : RawPair) → raw_pair w name ≡ Some p → is_name p.handler ≡ true
pair_named w name p e = by (is_name name) refl e
  where
    by : (b : Bool) → is_name name ≡ b
        → cond b (option_map (raw_at name) (option_and_then if_step (number_of w))) None ≡ Some p → is_name p.handler ≡ true
    by true is same = raw_named name (option_and_then if_step (number_of w)) p is same
    by false is same = absurd (cc same)

pub pairs_named : (ws : List Word) (ps : List RawPair) → raw_pairs ws ≡ Some ps → AreNamed ps
pairs_named [] [] e = tt
pairs_named [] (p ∷ ps) e = absurd (cc e)
pairs_named (w ∷ []) ps e = absurd (cc e)
pairs_named (w ∷ name ∷ ws) ps e = by (raw_pair w name) (raw_pairs ws) ps refl refl e (pairs_named ws)
  where
    by : (o : Option RawPair) (os : Option (List RawPair)) (qs : List RawPair) → raw_pair w name ≡ o → raw_pairs ws ≡ os
        → all_there o os ≡ Some qs → ((rs : List RawPair) → raw_pairs ws ≡ Some rs → AreNamed rs) → AreNamed qs
    by (Some p) (Some rs) qs one rest same named =
        let is : p ∷ rs ≡ qs = cc in
        subst AreNamed is (pair_named w name p one, named rs rest)
    by None os qs one rest same named = absurd (cc same)
    by (Some p) None qs one rest same named = absurd (cc same)

-- ---- a name is text

small : (c : ℕ) → is_name_byte c ≡ true → c < 128
small c is = grind (arith, nat_tests)

all_small : (bs : List ℕ) → list_all is_name_byte bs ≡ true → (i : ℕ) → get_or bs i 0 < 128
all_small [] all i = omega arith
all_small (b ∷ bs) all zero = small b (and_parts (is_name_byte b) (list_all is_name_byte bs) all).0
all_small (b ∷ bs) all (suc i) = all_small bs (and_parts (is_name_byte b) (list_all is_name_byte bs) all).1 i

pub name_is_text : (name : List ℕ) → is_name name ≡ true → IsUtf8 name
name_is_text [] is = absurd (cc is)
name_is_text (b ∷ bs) is = IsUtf8-from_ascii (b ∷ bs) (all_small (b ∷ bs) (and_parts _ _ (and_parts _ _ is).1).1)

-- ---- as the code has them

named_views : (pairs : List RawInjection) → AreNamed (map pair_view pairs)
    → AllByRecursion (λ (pair : RawInjection). is_name pair.handler.now ≡ true) pairs
named_views [] h = tt
named_views (pair ∷ pairs) h = (h.0, named_views pairs h.1)

-- What is read of a text as injections has names, and may be a point.
pub views_named : (ws : List Word) (read pairs : List RawInjection) → Some (RawOne (map pair_view read)) ≡ raw_of ws → pairs ≡ read
    → AllByRecursion (λ (pair : RawInjection). is_name pair.handler.now ≡ true) pairs
views_named ws read pairs e same =
    let of = of_pairs ws (map pair_view read) (sym e) in
    named_views pairs (rw same (pairs_named ws (map pair_view read) of.0))

pub views_may : (ws : List Word) (read pairs : List RawInjection) → Some (RawOne (map pair_view read)) ≡ raw_of ws → pairs ≡ read
    → may_be_point (map pair_view pairs) ≡ true
views_may ws read pairs e same = rw same (of_pairs ws (map pair_view read) (sym e)).1
