-- One more turn of a loop over a list.
use Rattle.std.proofs.Common.{◌≡◌, ◌+◌, ◌<◌, ◌≤◌, ◌++◌, ℕ, suc, Bool, true, false, List, [], ◌∷◌, length, get_or, map, drop, Option}
use Rattle.std.proofs.Common.{Some, None, Result, Ok, Err, refl, ap, sym, subst, ◌∙◌, append_assoc, add-one, arith, length-append}
use Rattle.std.proofs.Common.{drop-cons}
use Rattle.std.specs.List.{AllByRecursion, filter_map, cons_option, list_any, position_from}
use Rattle.std.specs.Prelude.{◌||◌, if◌then◌else◌, OnOk}
use Rattle.std.specs.Result.{IsErrAnd, IfOk}
use Rattle.std.proofs.Math.ListN.{drop_of_length-le}
use Rattle.std.proofs.lemmas.List.{append-nil}
use Rattle.model.proofs.Nesting.{all-append}
use Rattle.script.specs.declared.fault.Fault.{Fault}
use Rattle.script.specs.Faults.{Judges, seen, first_fault}
use Rattle.script.specs.Arrays.{Elements, each_fault}

-- What is left from an index on, where this element is there.
pub left : {X : Type 0} (xs : List X) (i : ℕ) (x : X) → i < length xs → x ≡ get_or xs i x → drop i xs ≡ x ∷ drop (i + 1) xs
left xs i x below is = rw add-one (drop-cons xs i x below ∙ ap (λ y. y ∷ drop (suc i) xs) (sym is))

-- the same of a list that is seen as another
pub left_in : {X : Type 0} (seen xs : List X) → seen ≡ xs → (i : ℕ) (x : X) → i < length seen → x ≡ get_or seen i x
    → drop i xs ≡ x ∷ drop (i + 1) xs
left_in seen xs same i x below is =
    subst (λ ys. drop i ys ≡ x ∷ drop (i + 1) ys) same (left seen i x below is)

-- ---- what has been made of the elements before

module _ {X Y Z : Type 0} (view : X → Y) (x : X) (rest more : List X) (turn : rest ≡ x ∷ more) where
  -- Of each element something is made: of this one too.
  pub one_made : (f : Y → Z) (all made after : List Z) (z : Z) → all ≡ made ++ map f (map view rest) → z ≡ f (view x)
      → after ≡ made ++ z ∷ [] → all ≡ after ++ map f (map view more)
  one_made f all made after z so_far is is_after =
      so_far
      ∙ ap (λ ys. made ++ map f (map view ys)) turn
      ∙ ap (λ y. made ++ y ∷ map f (map view more)) (sym is)
      ∙ sym (append_assoc made (z ∷ []) (map f (map view more)))
      ∙ ap (λ zs. zs ++ map f (map view more)) (sym is_after)

  -- What is left names what this element does, if anything, and what the others do.
  pub next_named : (f : Y → Option Z) (o : Option Z) → f (view x) ≡ o
      → filter_map f (map view rest) ≡ cons_option o (filter_map f (map view more))
  next_named f o is =
      ap (λ ys. filter_map f (map view ys)) turn ∙ ap (λ p. cons_option p (filter_map f (map view more))) is

  -- Some elements name something: this one does,
  pub named : (f : Y → Option Z) (all made after : List Z) (z : Z) → all ≡ made ++ filter_map f (map view rest)
      → f (view x) ≡ Some z → after ≡ made ++ z ∷ [] → all ≡ after ++ filter_map f (map view more)
  named f all made after z so_far is is_after =
      so_far
      ∙ ap (λ zs. made ++ zs) (next_named f (Some z) is)
      ∙ sym (append_assoc made (z ∷ []) (filter_map f (map view more)))
      ∙ ap (λ zs. zs ++ filter_map f (map view more)) (sym is_after)

  -- or it doesn't.
  pub passed_over : (f : Y → Option Z) (all made : List Z) → all ≡ made ++ filter_map f (map view rest)
      → f (view x) ≡ None → all ≡ made ++ filter_map f (map view more)
  passed_over f all made so_far is = so_far ∙ ap (λ zs. made ++ zs) (next_named f None is)

  -- Something holds of what is made of each: of this one's, and of the others'.
  pub all_left : (f : Y → Z) (P : Z → Type 0) → AllByRecursion P (map f (map view rest))
      → P (f (view x)) × AllByRecursion P (map f (map view more))
  all_left f P holds = subst (λ ys. AllByRecursion P (map f (map view ys))) turn holds

-- ---- one element more

module _ {Z : Type 0} (z : Z) (before after : List Z) (is : after ≡ before ++ z ∷ []) where
  count : length after ≡ length before + 1
  count = ap length is ∙ length-append before (z ∷ [])

  pub grown : (i : ℕ) → length before ≤ i → length after ≤ i + 1
  grown i few = omega (arith, count)

  pub counted : (i : ℕ) → length before ≡ i → length after ≡ i + 1
  counted i same = count ∙ ap (λ n. n + 1) same

  pub all_grown : (P : Z → Type 0) → AllByRecursion P before → P z → AllByRecursion P after
  all_grown P holds here = subst (AllByRecursion P) (sym is) (all-append P before z holds here)

-- one that has none more
pub kept : (count i : ℕ) → count ≤ i → count ≤ i + 1
kept count i few = omega arith

-- ---- one of which something is true

module _ {Y : Type 0} (test : Y → Bool) (y : Y) (rest more : List Y) (turn : rest ≡ y ∷ more) where
  pub any_here : test y ≡ true → list_any test rest ≡ true
  any_here is = ap (list_any test) turn ∙ ap (λ b. b || list_any test more) is

  pub any_later : test y ≡ false → list_any test rest ≡ list_any test more
  any_later is = ap (list_any test) turn ∙ ap (λ b. b || list_any test more) is

  pub position_here : (i : ℕ) → test y ≡ true → position_from test i rest ≡ Some i
  position_here i is =
      ap (position_from test i) turn ∙ ap (λ b. if b then Some i else position_from test (i + 1) more) is

  pub position_later : (i : ℕ) → test y ≡ false → position_from test i rest ≡ position_from test (i + 1) more
  position_later i is =
      ap (position_from test i) turn ∙ ap (λ b. if b then Some i else position_from test (i + 1) more) is

-- ---- checks

-- one check alone
pub alone : (check : Option Fault) → first_fault (check ∷ []) ≡ check
alone None = refl
alone (Some fault) = refl

-- a check that finds a fault, and what follows
pub found : (check : Option Fault) (checks : List (Option Fault)) (fault : Fault)
    → check ≡ Some fault → first_fault (check ∷ checks) ≡ Some fault
found check checks fault is = ap (λ o. first_fault (o ∷ checks)) is

-- Elements are checked one after the other.
module _ {S Y : Type 0} (elements : Elements S Y) (s : S) (i : ℕ) (y : Y) (rest more : List Y) (turn : rest ≡ y ∷ more) where
  -- At this one the check finds nothing,
  pub goes_on : (all : Option Fault) → all ≡ each_fault elements s i rest
      → elements.fault s (elements.at i) y ≡ None → all ≡ each_fault elements (elements.next s y) (i + 1) more
  goes_on all so_far none =
      let others = each_fault elements (elements.next s y) (i + 1) more in
      so_far
      ∙ ap (each_fault elements s i) turn
      ∙ ap (λ o. first_fault (o ∷ others ∷ [])) none
      ∙ alone others

  -- or it finds a fault.
  pub stops : (all : Option Fault) (fault : Fault) → all ≡ each_fault elements s i rest
      → elements.fault s (elements.at i) y ≡ Some fault → all ≡ Some fault
  stops all fault so_far is =
      let others = each_fault elements (elements.next s y) (i + 1) more in
      so_far
      ∙ ap (each_fault elements s i) turn
      ∙ found (elements.fault s (elements.at i) y) (others ∷ []) fault is

-- No check finds a fault.
pub all_pass : {S Y : Type 0} (elements : Elements S Y) (s : S) (i : ℕ) (rest : List Y) (all : Option Fault)
    → all ≡ each_fault elements s i rest → rest ≡ [] → all ≡ None
all_pass elements s i rest all so_far none = so_far ∙ ap (each_fault elements s i) none

-- ---- the end

-- Nothing is left.
pub none_left : {X : Type 0} (seen xs : List X) → seen ≡ xs → (i : ℕ) → length seen ≤ i → drop i xs ≡ []
none_left seen xs same i over = subst (λ ys. drop i ys ≡ []) same (drop_of_length-le seen over)

-- What is made of each is all of it.
pub all_made : {X Y Z : Type 0} (f : Y → Z) (view : X → Y) (rest : List X) (all made : List Z) → all ≡ made ++ map f (map view rest)
    → rest ≡ [] → made ≡ all
all_made f view rest all made so_far none =
    sym (so_far ∙ ap (λ xs. made ++ map f (map view xs)) none ∙ append-nil made)

-- What is named is all of it.
pub all_named : {X Y Z : Type 0} (f : Y → Option Z) (view : X → Y) (rest : List X) (all made : List Z)
    → all ≡ made ++ filter_map f (map view rest) → rest ≡ [] → made ≡ all
all_named f view rest all made so_far none =
    sym (so_far ∙ ap (λ xs. made ++ filter_map f (map view xs)) none ∙ append-nil made)

-- As long as an index is below a length that is no more than the most, there is room.
pub room : (count i n most : ℕ) → count ≤ i → i < n → n ≤ most → count < most
room count i n most few below fits = omega arith

-- an index further on
pub further : (n i : ℕ) → (n + i) + 1 ≡ n + (i + 1)
further n i = omega arith

-- what is judged where a check finds a fault
pub refused : {X : Type 0} (result : Result X Fault) (check : Option Fault) (value : X) (fault : Fault)
    → IsErrAnd result (λ e. e ≡ fault)
    → check ≡ Some fault → Judges result check value
refused (Ok x) check value fault is finds = absurd is
refused (Err e) check value fault is finds = finds ∙ ap (λ f. Some f) (sym is)

-- the same of a result that is seen as another
pub refused_seen : {X Y : Type 0} (view : X → Y) (result : Result X Fault) (check : Option Fault) (value : Y) (fault : Fault)
    → IsErrAnd result (λ e. e ≡ fault) → check ≡ Some fault → Judges (seen view result) check value
refused_seen view (Ok x) check value fault is finds = absurd is
refused_seen view (Err e) check value fault is finds = finds ∙ ap (λ f. Some f) (sym is)

-- Nothing is said of what there isn't.
pub of_none : {X : Type 0} (result : Result X Fault) (fault : Fault) (P : X → Type 0)
    → IsErrAnd result (λ e. e ≡ fault) → IfOk result P
of_none (Ok x) fault P is = absurd is
of_none (Err e) fault P is = tt

-- A check that finds nothing is passed over.
pub passed : (check : Option Fault) (checks : List (Option Fault))
    → check ≡ None → first_fault (check ∷ checks) ≡ first_fault checks
passed check checks none = ap (λ o. first_fault (o ∷ checks)) none

-- Nothing is said of what was not done.
pub not_done : {X : Type 0} (result : Result X Fault) (fault : Fault) (P : Type 0)
    → IsErrAnd result (λ e. e ≡ fault) → OnOk result P
not_done (Ok x) fault P is = absurd is
not_done (Err e) fault P is = tt
