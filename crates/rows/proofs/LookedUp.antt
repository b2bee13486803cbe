-- Elements that are looked up by their places.
use Rattle.std.specs.Prelude.{slice_get, Some}
use Rattle.std.specs.List.{AllByRecursion, filter_map}
use Rattle.std.proofs.Common.{◌≡◌, ◌<◌, ◌≤◌, ◌+◌, ℕ, zero, suc, List, [], ◌∷◌, ◌++◌, length, take, drop, slice_index_or, refl, sym}
use Rattle.std.proofs.Common.{subst, ap, ◌∙◌, length-append, arith}
use Rattle.std.proofs.lemmas.List.{get_or-drop, get_or-take, length-drop, length-take-le}
use Rattle.std.proofs.lemmas.List.Elements.{filter_map-append}
use Rattle.std.proofs.lemmas.Option.{get_or_from_slice_get, slice_get_read}

-- what holds of each holds of the one that is found
pub all_got : {X : Type 0} (P : X → Type 0) (xs : List X) (i : ℕ) (x : X) → slice_get xs i ≡ Some x → AllByRecursion P xs → P x
all_got P [] i x e all = absurd (cc)
all_got P (y ∷ ys) zero x e all = let same : y ≡ x = cc in subst P same all.0
all_got P (y ∷ ys) (suc i) x e all = all_got P ys i x e all.1

module _ {X : Type 0} where
  abbrev pub looked_up : List X → List ℕ → List X
  looked_up xs places = filter_map (slice_get xs) places

  abbrev pub AreThere : List X → List ℕ → Type 0
  AreThere xs places = AllByRecursion (λ place. place < length xs) places

  -- what is in a place that is there
  found : (xs : List X) (place : ℕ) → place < length xs → (x : X) × (slice_get xs place ≡ Some x)
  found [] place l = absurd (omega arith)
  found (x ∷ xs) zero l = (x, refl)
  found (x ∷ xs) (suc place) l = found xs place (omega arith)

  still_found : (xs more : List X) (place : ℕ) (x : X) → slice_get xs place ≡ Some x → slice_get (xs ++ more) place ≡ Some x
  still_found [] more place x is = absurd (cc)
  still_found (y ∷ xs) more zero x is = is
  still_found (y ∷ xs) more (suc place) x is = still_found xs more place x is

  -- each place has an element
  pub all_found : (xs : List X) (places : List ℕ) → AreThere xs places → length (looked_up xs places) ≡ length places
  all_found xs [] there = refl
  all_found xs (place ∷ places) there =
      let (x, is) = found xs place there.0 in
      rw is (ap (λ (n : ℕ). suc n) (all_found xs places there.1))

  -- that of a place is found by the place's number
  pub found_at : (xs : List X) (places : List ℕ) → AreThere xs places → (number place : ℕ) → slice_get places number ≡ Some place
      → slice_get (looked_up xs places) number ≡ slice_get xs place
  found_at xs [] there number place is = absurd (cc)
  found_at xs (p ∷ places) there zero place is =
      let (x, here) = found xs p there.0 in
      let same : p ≡ place = cc in
      rw here (sym here ∙ ap (slice_get xs) same)
  found_at xs (p ∷ places) there (suc number) place is =
      let (x, here) = found xs p there.0 in
      rw here (found_at xs places there.1 number place is)

  -- more elements change none
  pub more_there : (xs more : List X) (places : List ℕ) → AreThere xs places → AreThere (xs ++ more) places
  more_there xs more [] there = tt
  more_there xs more (place ∷ places) there =
      (let l = there.0 in omega (arith, length-append xs more), more_there xs more places there.1)

  pub more_found : (xs more : List X) (places : List ℕ) → AreThere xs places → looked_up (xs ++ more) places ≡ looked_up xs places
  more_found xs more [] there = refl
  more_found xs more (place ∷ places) there =
      let (x, here) = found xs place there.0 in
      rw (here, still_found xs more place x here, more_found xs more places there.1) refl

  -- one more place
  pub one_there : (xs : List X) (places : List ℕ) (place : ℕ) → AreThere xs places
      → place < length xs → AreThere xs (places ++ place ∷ [])
  one_there xs [] place there l = (l, tt)
  one_there xs (p ∷ places) place there l = (there.0, one_there xs places place there.1 l)

  pub one_found : (xs : List X) (places : List ℕ) (place : ℕ) (x : X) → slice_get xs place ≡ Some x
      → looked_up xs (places ++ place ∷ []) ≡ looked_up xs places ++ x ∷ []
  one_found xs places place x is = filter_map-append (slice_get xs) places (place ∷ []) ∙ rw is refl

  last_found : (xs : List X) (x : X) → slice_get (xs ++ x ∷ []) (length xs) ≡ Some x
  last_found [] x = refl
  last_found (y ∷ xs) x = last_found xs x

  -- an element behind the others, in a place of its own
  pub new_found : (xs : List X) (places : List ℕ) (x : X) → AreThere xs places
      → looked_up (xs ++ x ∷ []) (places ++ length xs ∷ []) ≡ looked_up xs places ++ x ∷ []
  new_found xs places x there =
      one_found (xs ++ x ∷ []) places (length xs) x (last_found xs x)
      ∙ ap (λ (ys : List X). ys ++ x ∷ []) (more_found xs (x ∷ []) places there)

  pub new_there : (xs : List X) (places : List ℕ) (x : X) → AreThere xs places → AreThere (xs ++ x ∷ []) (places ++ length xs ∷ [])
  new_there xs places x there =
      one_there (xs ++ x ∷ []) places (length xs) (more_there xs (x ∷ []) places there) (omega (arith, length-append xs (x ∷ [])))

  -- ---- those of some places

  module _ (xs : List X) (places : List ℕ) (rows : List X) (same : looked_up xs places ≡ rows) (there : AreThere xs places) where
    pub as_many : length rows ≡ length places
    as_many = ap (λ (ys : List X). length ys) (sym same) ∙ all_found xs places there

    module _ (number place : ℕ) (l : number < length rows) (is : place ≡ slice_index_or places number place) where
      here : slice_get places number ≡ Some place
      here = slice_get_read places (length places) number place refl (let many = as_many in omega arith) is

      pub place_low : place < length xs
      place_low = all_got (λ p. p < length xs) places number place here there

      pub its : slice_get rows number ≡ slice_get xs place
      its = ap (λ (ys : List X). slice_get ys number) (sym same) ∙ found_at xs places there number place here

      pub seen : (x : X) → x ≡ slice_index_or xs place x → slice_get rows number ≡ Some x
      seen x e = its ∙ slice_get_read xs (length xs) place x refl place_low e

  -- ---- some elements of a list

  pub some_long : (xs : List X) (first count : ℕ) → first + count ≤ length xs → length (take count (drop first xs)) ≡ count
  some_long xs first count within = length-take-le count (drop first xs) (omega (arith, length-drop first xs))

  pub some_at : (xs : List X) (first count index : ℕ) (x : X) → index < count → slice_get xs (first + index) ≡ Some x
      → x ≡ slice_index_or (take count (drop first xs)) index x
  some_at xs first count index x l is =
      sym (get_or-take count (drop first xs) index x l ∙ get_or-drop first xs index x
      ∙ get_or_from_slice_get xs (first + index) x x is)
