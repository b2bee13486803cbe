-- A walk along a sorted list, from its last entry on, to the first entry of a greater value.
use Rattle.std.proofs.Common.{◌≡◌, ℕ, ◌<◌, ◌≤◌, true, false, Option, Some, None, List, [], ◌∷◌, ◌++◌, get_or, length, sym, ◌∙◌, ap}
use Rattle.std.proofs.Common.{subst, refl, arith, append_assoc, append-nil}
use Rattle.std.specs.Prelude.{nat_lt}
use Rattle.std.proofs.lemmas.Bool.{le-ltb, lt-ltb}
use Rattle.std.proofs.lemmas.Option.{same_Some}
use Rattle.lists.specs.Lists.{Each, EachOnce, IsSorted, first_of}
use Rattle.lists.specs.Links.{walk, at_link, Linked, IsStored, Spells, upper}
use Rattle.lists.proofs.Entries.{none-some, Each-right, Each-imp, distinct-right, few_entries}
use Rattle.lists.proofs.Links.{last_of, at_place}
use Rattle.lists.proofs.Search.{walk-rest}

-- the search has reached `at`, the last of the entries before those that it has passed; all of these are greater, and
-- `after` is the first of them
pub record SearchBack (value : ℕ) (entries : List (ℕ × ℕ)) (at after : Option ℕ) : Type 0 where
  pub before : List (ℕ × ℕ)
  pub rest : List (ℕ × ℕ)
  pub whole : entries ≡ before ++ rest
  pub here : at ≡ last_of None before
  pub behind : after ≡ first_of rest
  pub greater : Each (λ e. value < e.1) rest

-- entries that are not greater, before others
upper-right : (value : ℕ) (xs ys : List (ℕ × ℕ)) → Each (λ e. e.1 ≤ value) xs → upper value (xs ++ ys) ≡ upper value ys
upper-right value [] ys h = refl
upper-right value (x ∷ xs) ys h =
    let test : nat_lt value x.1 ≡ false = le-ltb value x.1 h.0 in
    rw test (upper-right value xs ys h.1)

-- entries that are greater
upper-same : (value : ℕ) (xs : List (ℕ × ℕ)) → Each (λ e. value < e.1) xs → upper value xs ≡ xs
upper-same value [] h = refl
upper-same value (x ∷ xs) h = let test : nat_lt value x.1 ≡ true = lt-ltb value x.1 h.0 in rw test refl

-- in sorted entries none of those before one is greater
before-sorted : (xs : List (ℕ × ℕ)) (x : ℕ × ℕ) (ys : List (ℕ × ℕ)) → IsSorted (xs ++ x ∷ ys) → Each (λ e. e.1 ≤ x.1) xs
before-sorted [] x ys h = tt
before-sorted (f ∷ xs) x ys h = ((Each-right (λ (e : ℕ × ℕ). f.1 ≤ e.1) xs (x ∷ ys) h.0).0, before-sorted xs x ys h.1)

-- the place at which the walk stops: an entry that is not greater, before entries that are
upper-sorted : (value : ℕ) (xs : List (ℕ × ℕ)) (x : ℕ × ℕ) (ys : List (ℕ × ℕ)) → IsSorted (xs ++ x ∷ ys)
    → x.1 ≤ value → Each (λ e. value < e.1) ys → upper value (xs ++ x ∷ ys) ≡ ys
upper-sorted value xs x ys sorted le greater =
    let lower : Each (λ e. e.1 ≤ value) xs =
    Each-imp (λ (e : ℕ × ℕ). e.1 ≤ x.1) (λ (e : ℕ × ℕ). e.1 ≤ value) xs
    (λ e h. omega (arith, h, le)) (before-sorted xs x ys sorted) in
    upper-right value xs (x ∷ ys) lower ∙ upper-right value (x ∷ []) ys (le, tt) ∙ upper-same value ys greater

-- the last of some entries
split_last : (x : ℕ × ℕ) (xs : List (ℕ × ℕ))
    → (front : List (ℕ × ℕ)) × (last : ℕ × ℕ) × (x ∷ xs ≡ front ++ last ∷ []) × (last_of (Some x.0) xs ≡ Some last.0)
split_last x [] = ([], x, refl, refl)
split_last x (y ∷ ys) =
    let s = split_last y ys in
    (x ∷ s.0, s.1, ap (λ (zs : List (ℕ × ℕ)). x ∷ zs) s.2, s.3)

module _ {L N : ℕ} {next prev place : List (Option ℕ)} {values : List ℕ} {firsts lasts : List (Option ℕ)}
    {ls : List (List (ℕ × ℕ))} (h : Spells L N next prev place values firsts lasts ls) (l : ℕ) (hl : l < L) where
  -- at first it has passed none
  pub starts : (value : ℕ) → SearchBack value (get_or ls l []) (get_or lasts l None) None
  starts value =
      let entries = get_or ls l [] in
      let nx : Option ℕ → Option ℕ = at_link next (get_or firsts l None) in
      let pv : Option ℕ → Option ℕ = at_link prev (get_or lasts l None) in
      let whole : entries ≡ entries ++ [] = sym (append-nil entries) in
      let linked : Linked nx pv None (entries ++ []) = subst (Linked nx pv None) whole (h.linked l hl) in
      record {
        before = entries;
        rest = [];
        whole = whole;
        here = (at_place nx pv None entries [] linked).1;
        behind = refl;
        greater = tt;
      }

  -- what a node of the list shows of its place
  pub record ShowsBack (value n : ℕ) (after : Option ℕ) : Type 0 where
    pub known : n < N
    pub found : IsSorted (get_or ls l []) → get_or values n 0 ≤ value → after ≡ first_of (upper value (get_or ls l []))
    pub goes_on : value < get_or values n 0 → SearchBack value (get_or ls l []) (get_or prev n None) (Some n)
    pub longer : length (walk next values N after) < length (walk next values N (Some n))
    pub few : length (walk next values N (Some n)) ≤ N

  shows_at : (value n : ℕ) (at after : Option ℕ) (front : List (ℕ × ℕ)) (x : ℕ × ℕ) (rest : List (ℕ × ℕ))
      → get_or ls l [] ≡ front ++ x ∷ rest → at ≡ Some x.0 → after ≡ first_of rest
      → Each (λ e. value < e.1) rest → at ≡ Some n → ShowsBack value n after
  shows_at value n at after front x rest whole here behind greater e =
      let nx : Option ℕ → Option ℕ = at_link next (get_or firsts l None) in
      let pv : Option ℕ → Option ℕ = at_link prev (get_or lasts l None) in
      let linked : Linked nx pv None (front ++ x ∷ rest) = subst (Linked nx pv None) whole (h.linked l hl) in
      let stored : Each (IsStored N place values l) (x ∷ rest) =
      Each-right (IsStored N place values l) front (x ∷ rest) (subst (Each (IsStored N place values l)) whole (h.stored l hl)) in
      let distinct : EachOnce (x ∷ rest) = distinct-right front (x ∷ rest) (subst EachOnce whole (h.distinct l hl)) in
      let is_first : Some n ≡ first_of (x ∷ rest) = sym e ∙ here in
      let n_is : n ≡ x.0 = same_Some n x.0 is_first in
      let value_is : get_or values n 0 ≡ x.1 = ap (λ (k : ℕ). get_or values k 0) n_is ∙ stored.0.valued in
      let prev_is : get_or prev n None ≡ last_of None front =
      ap (λ (k : ℕ). get_or prev k None) n_is ∙ (at_place nx pv None front (x ∷ rest) linked).1 in
      let whole' : get_or ls l [] ≡ (front ++ x ∷ []) ++ rest = whole ∙ sym (append_assoc front (x ∷ []) rest) in
      let now : length (walk next values N (Some n)) ≡ length (x ∷ rest) =
      ap (λ (o : Option ℕ). length (walk next values N o)) is_first ∙ ap length (walk-rest h l hl front (x ∷ rest) whole) in
      let before : length (walk next values N after) ≡ length rest =
      ap (λ (o : Option ℕ). length (walk next values N o)) behind ∙ ap length (walk-rest h l hl (front ++ x ∷ []) rest whole') in
      let room : length (x ∷ rest) ≤ N =
      few_entries N (x ∷ rest) (Each-imp (IsStored N place values l) (λ e. e.0 < N) (x ∷ rest) (λ e i. i.known) stored) distinct in
      record {
        known = subst (λ (k : ℕ). k < N) (sym n_is) stored.0.known;
        found = λ sorted le.
            behind
            ∙ ap first_of
            (sym (upper-sorted value front x rest (subst IsSorted whole sorted) (omega (arith, le, value_is)) greater))
            ∙ ap (λ (xs : List (ℕ × ℕ)). first_of (upper value xs)) (sym whole);
        goes_on = λ lt.
            record {
              before = front;
              rest = x ∷ rest;
              whole = whole;
              here = prev_is;
              behind = is_first;
              greater = (omega (arith, lt, value_is), greater);
            };
        longer = omega (arith, now, before);
        few = omega (arith, now, room);
      }

  shows_last : (value n : ℕ) (at after : Option ℕ) (before rest : List (ℕ × ℕ)) → get_or ls l [] ≡ before ++ rest
      → at ≡ last_of None before → after ≡ first_of rest → Each (λ e. value < e.1) rest → at ≡ Some n → ShowsBack value n after
  shows_last value n at after [] rest whole here behind greater e = absurd (none-some n (sym here ∙ e))
  shows_last value n at after (x ∷ before) rest whole here behind greater e =
      let s = split_last x before in
      let whole' : get_or ls l [] ≡ s.0 ++ s.1 ∷ rest =
      whole ∙ ap (λ (xs : List (ℕ × ℕ)). xs ++ rest) s.2 ∙ append_assoc s.0 (s.1 ∷ []) rest in
      shows_at value n at after s.0 s.1 rest whole' (here ∙ s.3) behind greater e

  pub shows_back : (value n : ℕ) (at after : Option ℕ)
      → SearchBack value (get_or ls l []) at after → at ≡ Some n → ShowsBack value n after
  shows_back value n at after s e = shows_last value n at after s.before s.rest s.whole s.here s.behind s.greater e

  ends_at : (value : ℕ) (after : Option ℕ) (before rest : List (ℕ × ℕ))
      → get_or ls l [] ≡ before ++ rest → None ≡ last_of None before → after ≡ first_of rest
      → Each (λ e. value < e.1) rest → after ≡ first_of (upper value (get_or ls l []))
  ends_at value after [] rest whole here behind greater =
      behind ∙ ap first_of (sym (upper-same value rest greater)) ∙ ap (λ (xs : List (ℕ × ℕ)). first_of (upper value xs)) (sym whole)
  ends_at value after (x ∷ before) rest whole here behind greater =
      let s = split_last x before in
      absurd (none-some s.1.0 (here ∙ s.3))

  -- the search that reaches the front has passed all, and all are greater
  pub ends_back : (value : ℕ) (at after : Option ℕ) → SearchBack value (get_or ls l []) at after
      → at ≡ None → after ≡ first_of (upper value (get_or ls l []))
  ends_back value at after s e = ends_at value after s.before s.rest s.whole (sym e ∙ s.here) s.behind s.greater
