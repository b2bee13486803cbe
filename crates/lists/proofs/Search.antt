-- A walk along a list to the first entry of a greater value.
use Rattle.std.proofs.Common.{◌≡◌, ℕ, ◌<◌, ◌≤◌, true, false, Option, Some, None, List, [], ◌∷◌, ◌++◌, get_or, length, sym, ◌∙◌, ap}
use Rattle.std.proofs.Common.{subst, refl, arith, append_assoc}
use Rattle.std.specs.Prelude.{nat_lt, if◌then◌else◌}
use Rattle.std.proofs.lemmas.Bool.{le-ltb, lt-ltb}
use Rattle.std.proofs.lemmas.Option.{same_Some}
use Rattle.lists.specs.Lists.{Each, EachOnce, first_of, insert_sorted}
use Rattle.lists.specs.Links.{walk, at_link, Linked, IsStored, Spells, upper}
use Rattle.lists.proofs.Entries.{none-some, Each-right, Each-imp, distinct-right, few_entries}
use Rattle.lists.proofs.Links.{last_of, at_place, after_place}
use Rattle.lists.proofs.Spelled.{walk-linked}

-- the search has reached `at`, with entries before it that are not greater
pub record Search (value : ℕ) (entries : List (ℕ × ℕ)) (at : Option ℕ) : Type 0 where
  pub before : List (ℕ × ℕ)
  pub rest : List (ℕ × ℕ)
  pub whole : entries ≡ before ++ rest
  pub here : at ≡ first_of rest
  pub same : upper value entries ≡ upper value rest

-- the entries before the first of a greater value
abbrev pub lower : ℕ → List (ℕ × ℕ) → List (ℕ × ℕ)
lower value [] = []
lower value (x ∷ xs) = if nat_lt value x.1 then [] else x ∷ lower value xs

pub lower-upper : (value : ℕ) (xs : List (ℕ × ℕ)) → xs ≡ lower value xs ++ upper value xs
lower-upper value [] = refl
lower-upper value (x ∷ xs) =
    elim (nat_lt value
    x.1) as (λ b. (x ∷ xs) ≡ (if◌then◌else◌ b [] (x ∷ lower value xs)) ++ (if◌then◌else◌ b (x ∷ xs) (upper value xs))) [
      | true ↦ refl
      | false ↦ ap (λ (ys : List (ℕ × ℕ)). x ∷ ys) (lower-upper value xs)
    ]

pub insert_sorted-lower-upper : (n value : ℕ) (xs : List (ℕ × ℕ))
    → insert_sorted (n, value) xs ≡ lower value xs ++ (n, value) ∷ upper value xs
insert_sorted-lower-upper n value [] = refl
insert_sorted-lower-upper n value (x ∷ xs) =
    elim (nat_lt value
    x.1) as (λ b.
    (if◌then◌else◌ b ((n, value) ∷ x ∷ xs) (x ∷ insert_sorted (n, value) xs))
    ≡ (if◌then◌else◌ b [] (x ∷ lower value xs)) ++ (n, value) ∷ (if◌then◌else◌ b (x ∷ xs) (upper value xs))) [
      | true ↦ refl
      | false ↦ ap (λ (ys : List (ℕ × ℕ)). x ∷ ys) (insert_sorted-lower-upper n value xs)
    ]

module _ {L N : ℕ} {next prev place : List (Option ℕ)} {values : List ℕ} {firsts lasts : List (Option ℕ)}
    {ls : List (List (ℕ × ℕ))} (h : Spells L N next prev place values firsts lasts ls) (l : ℕ) (hl : l < L) where
  -- the walk from a place in the list is the rest of it
  pub walk-rest : (fs bs : List (ℕ × ℕ)) → get_or ls l [] ≡ fs ++ bs → walk next values N (first_of bs) ≡ bs
  walk-rest fs bs split =
      let nx : Option ℕ → Option ℕ = at_link next (get_or firsts l None) in
      let pv : Option ℕ → Option ℕ = at_link prev (get_or lasts l None) in
      let linked : Linked nx pv None (fs ++ bs) = subst (Linked nx pv None) split (h.linked l hl) in
      let stored : Each (IsStored N place values l) bs =
      Each-right (IsStored N place values l) fs bs (subst (Each (IsStored N place values l)) split (h.stored l hl)) in
      let distinct : EachOnce bs = distinct-right fs bs (subst EachOnce split (h.distinct l hl)) in
      let few = few_entries N bs (Each-imp (IsStored N place values l) (λ e. e.0 < N) bs (λ e i. i.known) stored) distinct in
      ap (walk next values N) (sym (at_place nx pv None fs bs linked).0)
      ∙ walk-linked next values (get_or firsts l None) pv N (last_of None fs) bs (after_place nx pv None fs bs linked)
      few (Each-imp (IsStored N place values l) (λ e. get_or values e.0 0 ≡ e.1) bs (λ e i. i.valued) stored)

  -- what a node of the list shows of its place
  pub record Shows (value n : ℕ) (at : Option ℕ) : Type 0 where
    pub known : n < N
    pub greater : value < get_or values n 0 → at ≡ first_of (upper value (get_or ls l []))
    pub goes_on : get_or values n 0 ≤ value → Search value (get_or ls l []) (get_or next n None)
    pub shorter : length (walk next values N (get_or next n None)) < length (walk next values N at)

  shows_at : (value n : ℕ) (at : Option ℕ) (before rest : List (ℕ × ℕ)) → get_or ls l [] ≡ before ++ rest
      → at ≡ first_of rest → upper value (get_or ls l []) ≡ upper value rest → at ≡ Some n → Shows value n at
  shows_at value n at before [] whole here same e = absurd (none-some n (sym here ∙ e))
  shows_at value n at before (x ∷ rest) whole here same e =
      let nx : Option ℕ → Option ℕ = at_link next (get_or firsts l None) in
      let pv : Option ℕ → Option ℕ = at_link prev (get_or lasts l None) in
      let linked : Linked nx pv None (before ++ x ∷ rest) = subst (Linked nx pv None) whole (h.linked l hl) in
      let stored : Each (IsStored N place values l) (x ∷ rest) =
      Each-right (IsStored N place values l) before (x ∷ rest) (subst (Each (IsStored N place values l)) whole (h.stored l hl)) in
      let n_is : n ≡ x.0 = same_Some n x.0 (sym e ∙ here) in
      let value_is : get_or values n 0 ≡ x.1 = ap (λ (k : ℕ). get_or values k 0) n_is ∙ stored.0.valued in
      let next_is : get_or next n None ≡ first_of rest =
      ap (λ (k : ℕ). get_or next k None) n_is
      ∙ (at_place nx pv (Some x.0) [] rest (after_place nx pv None before (x ∷ rest) linked).2).0 in
      let whole' : get_or ls l [] ≡ (before ++ x ∷ []) ++ rest = whole ∙ sym (append_assoc before (x ∷ []) rest) in
      record {
        known = subst (λ (k : ℕ). k < N) (sym n_is) stored.0.known;
        greater = λ lt.
            let test : nat_lt value x.1 ≡ true = lt-ltb value x.1 (omega (arith, lt, value_is)) in
            let found : upper value (x ∷ rest) ≡ x ∷ rest = rw test refl in
            here ∙ ap first_of (sym (same ∙ found));
        goes_on = λ le.
            let test : nat_lt value x.1 ≡ false = le-ltb value x.1 (omega (arith, le, value_is)) in
            let passed : upper value (x ∷ rest) ≡ upper value rest = rw test refl in
            record { before = before ++ x ∷ []; rest = rest; whole = whole'; here = next_is; same = same ∙ passed };
        shorter =
            let now : length (walk next values N at) ≡ length (x ∷ rest) =
            ap (λ (o : Option ℕ). length (walk next values N o)) here ∙ ap length (walk-rest before (x ∷ rest) whole) in
            let after : length (walk next values N (get_or next n None)) ≡ length rest =
            ap (λ (o : Option ℕ). length (walk next values N o)) next_is ∙ ap length (walk-rest (before ++ x ∷ []) rest whole') in
            omega (arith, now, after);
      }

  pub shows : (value n : ℕ) (at : Option ℕ) → Search value (get_or ls l []) at → at ≡ Some n → Shows value n at
  shows value n at s e = shows_at value n at s.before s.rest s.whole s.here s.same e

  ends_at : (value : ℕ) (rest : List (ℕ × ℕ)) → None ≡ first_of rest
      → upper value (get_or ls l []) ≡ upper value rest → None ≡ first_of (upper value (get_or ls l []))
  ends_at value [] here same = ap first_of (sym same)
  ends_at value (x ∷ rest) here same = absurd (none-some x.0 here)

  -- the search that reaches the end found none
  pub ends : (value : ℕ) → Search value (get_or ls l []) None → None ≡ first_of (upper value (get_or ls l []))
  ends value s = ends_at value s.rest s.here s.same
