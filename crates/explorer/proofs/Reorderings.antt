-- What doesn't depend on the order of a list.
use Rattle.std.proofs.Common.{◌≡◌, ◌≢◌, List, [], ◌∷◌, ◌++◌, Bool, ap₂, length, map, refl, sym, ◌∙◌, subst, arith}
use Rattle.std.proofs.Common.{append-nil}
use Rattle.std.specs.Prelude.{Contains, if◌then◌else◌}
use Rattle.std.specs.List.{AllByRecursion, filter, flat_map}
use Rattle.model.proofs.Sorting.{by_test}
use Rattle.model.specs.Placements.{AreDistinct}
use Rattle.model.proofs.Among.{all_among, all_if}
use Rattle.explorer.specs.Reordered.{IsReordered}
use Rattle.explorer.specs.Reordered.IsReordered.{Nothing, Kept, Swapped, Then}

module _ {X : Type 0} where
  pub as_it_is : (xs : List X) → IsReordered xs xs
  as_it_is [] = Nothing
  as_it_is (x ∷ xs) = Kept x (as_it_is xs)

  pub if_same : (xs ys : List X) → xs ≡ ys → IsReordered xs ys
  if_same xs ys e = subst (IsReordered xs) e (as_it_is xs)

  pub turned : (xs ys : List X) → IsReordered xs ys → IsReordered ys xs
  turned _ _ Nothing = Nothing
  turned _ _ (Kept x {xs} {ys} h) = Kept x (turned xs ys h)
  turned _ _ (Swapped x y xs) = Swapped y x xs
  turned _ _ (Then {xs} {ys} {zs} h k) = Then (turned ys zs k) (turned xs ys h)

  pub behind_all : (zs xs ys : List X) → IsReordered xs ys → IsReordered (zs ++ xs) (zs ++ ys)
  behind_all [] xs ys h = h
  behind_all (z ∷ zs) xs ys h = Kept z (behind_all zs xs ys h)

  pub before_all : (zs xs ys : List X) → IsReordered xs ys → IsReordered (xs ++ zs) (ys ++ zs)
  before_all zs _ _ Nothing = as_it_is zs
  before_all zs _ _ (Kept x {xs} {ys} h) = Kept x (before_all zs xs ys h)
  before_all zs _ _ (Swapped x y xs) = Swapped x y (xs ++ zs)
  before_all zs _ _ (Then {xs} {ys} {zs = vs} h k) = Then (before_all zs xs ys h) (before_all zs ys vs k)

  past_one : (x : X) (xs ys : List X) → IsReordered (x ∷ xs ++ ys) (xs ++ x ∷ ys)
  past_one x [] ys = as_it_is (x ∷ ys)
  past_one x (z ∷ xs) ys = Then (Swapped x z (xs ++ ys)) (Kept z (past_one x xs ys))

  pub past : (xs ys zs : List X) → IsReordered (xs ++ (ys ++ zs)) (ys ++ (xs ++ zs))
  past [] ys zs = as_it_is (ys ++ zs)
  past (x ∷ xs) ys zs = Then (Kept x (past xs ys zs)) (past_one x ys (xs ++ zs))

  pub turned_round : (xs ys : List X) → IsReordered (xs ++ ys) (ys ++ xs)
  turned_round xs ys =
      subst (λ (zs : List X). IsReordered (xs ++ zs) (ys ++ xs)) (append-nil ys)
      (subst (λ (zs : List X). IsReordered (xs ++ (ys ++ [])) (ys ++ zs)) (append-nil xs) (past xs ys []))

  pub all_reordered : (P : X → Type 0) (xs ys : List X) → IsReordered xs ys → AllByRecursion P xs → AllByRecursion P ys
  all_reordered P _ _ Nothing all = tt
  all_reordered P _ _ (Kept x {xs} {ys} h) all = (all.0, all_reordered P xs ys h all.1)
  all_reordered P _ _ (Swapped x y xs) all = (all.1.0, (all.0, all.1.1))
  all_reordered P _ _ (Then {xs} {ys} {zs} h k) all = all_reordered P ys zs k (all_reordered P xs ys h all)

  pub among_reordered : (x : X) (xs ys : List X) → IsReordered xs ys → Contains xs x → Contains ys x
  among_reordered x xs ys h is = all_among (Contains ys) xs x
      (all_reordered (Contains ys) ys xs (turned xs ys h) (all_if (Contains ys) ys (λ y i. i))) is

  pub distinct_reordered : (xs ys : List X) → IsReordered xs ys → AreDistinct xs → AreDistinct ys
  distinct_reordered _ _ Nothing d = tt
  distinct_reordered _ _ (Kept x {xs} {ys} h) d = (all_reordered (λ y. y ≢ x) xs ys h d.0, distinct_reordered xs ys h d.1)
  distinct_reordered _ _ (Swapped x y xs) d = (((λ e. d.0.0 (sym e)), d.1.0), (d.0.1, d.1.1))
  distinct_reordered _ _ (Then {xs} {ys} {zs} h k) d = distinct_reordered ys zs k (distinct_reordered xs ys h d)

  pub length_reordered : (xs ys : List X) → IsReordered xs ys → length xs ≡ length ys
  length_reordered _ _ Nothing = refl
  length_reordered _ _ (Kept x {xs} {ys} h) = let rest = length_reordered xs ys h in omega arith
  length_reordered _ _ (Swapped x y xs) = refl
  length_reordered _ _ (Then {xs} {ys} {zs} h k) = length_reordered xs ys h ∙ length_reordered ys zs k

module _ {X Y : Type 0} where
  pub map_reordered : (f : X → Y) (xs ys : List X) → IsReordered xs ys → IsReordered (map f xs) (map f ys)
  map_reordered f _ _ Nothing = Nothing
  map_reordered f _ _ (Kept x {xs} {ys} h) = Kept (f x) (map_reordered f xs ys h)
  map_reordered f _ _ (Swapped x y xs) = Swapped (f x) (f y) (map f xs)
  map_reordered f _ _ (Then {xs} {ys} {zs} h k) = Then (map_reordered f xs ys h) (map_reordered f ys zs k)

  pub flat_reordered : (g : X → List Y) (xs ys : List X) → IsReordered xs ys → IsReordered (flat_map g xs) (flat_map g ys)
  flat_reordered g _ _ Nothing = Nothing
  flat_reordered g _ _ (Kept x {xs} {ys} h) = behind_all (g x) (flat_map g xs) (flat_map g ys) (flat_reordered g xs ys h)
  flat_reordered g _ _ (Swapped x y xs) = past (g x) (g y) (flat_map g xs)
  flat_reordered g _ _ (Then {xs} {ys} {zs} h k) = Then (flat_reordered g xs ys h) (flat_reordered g ys zs k)

  -- the first of each, and then the rest of each
  firsts : (f : X → Y) (g : X → List Y) (xs : List X) → IsReordered (map f xs ++ flat_map g xs) (flat_map (λ x. f x ∷ g x) xs)
  firsts f g [] = Nothing
  firsts f g (x ∷ xs) =
      Kept (f x) (Then (past (map f xs) (g x) (flat_map g xs))
      (behind_all (g x) (map f xs ++ flat_map g xs) (flat_map (λ y. f y ∷ g y) xs) (firsts f g xs)))

  -- the same, but of the first of each only those that pass
  firsts_if : (p : X → Bool) (f : X → Y) (g : X → List Y) (xs : List X)
      → IsReordered (map f (filter p xs) ++ flat_map g xs) (flat_map (λ x. if p x then f x ∷ g x else g x) xs)
  firsts_if p f g [] = Nothing
  firsts_if p f g (x ∷ xs) =
      let rest : IsReordered (map f (filter p xs) ++ (g x ++ flat_map g xs))
      (g x ++ flat_map (λ y. if p y then f y ∷ g y else g y) xs) =
      Then (past (map f (filter p xs)) (g x) (flat_map g xs))
      (behind_all (g x) (map f (filter p xs) ++ flat_map g xs) (flat_map (λ y. if p y then f y ∷ g y else g y) xs)
      (firsts_if p f g xs)) in
      by_test (p x) (λ t. rw t (Kept (f x) rest)) (λ t. rw t rest)

  flat_same : (g h : X → List Y) (xs : List X) → ((x : X) → g x ≡ h x) → flat_map g xs ≡ flat_map h xs
  flat_same g h [] same = refl
  flat_same g h (x ∷ xs) same = ap₂ (λ (ys zs : List Y). ys ++ zs) (same x) (flat_same g h xs same)

  flat_none : (xs : List X) → flat_map (λ (x : X). let none : List Y = [] in none) xs ≡ []
  flat_none [] = refl
  flat_none (x ∷ xs) = flat_none xs

-- The same of the places that pass.
pub by_columns_if : {X Y Z : Type 0} (can : X → Y → Bool) (f : X → Y → Z) (xs : List X) (ys : List Y)
    → IsReordered (flat_map (λ x. map (λ y. f x y) (filter (λ y. can x y) ys)) xs)
    (flat_map (λ y. map (λ x. f x y) (filter (λ x. can x y) xs)) ys)
by_columns_if {Z = Z} can f [] ys = if_same [] (flat_map (λ y. map (λ x. f x y) []) ys) (sym (flat_none ys))
by_columns_if {X} {Y} {Z} can f (x ∷ xs) ys =
    let row : X → List Z = λ z. map (λ y. f z y) (filter (λ y. can z y) ys) in
    let column : Y → List Z = λ y. map (λ z. f z y) (filter (λ z. can z y) xs) in
    Then (behind_all (row x) (flat_map row xs) (flat_map column ys) (by_columns_if can f xs ys))
    (Then (firsts_if (λ y. can x y) (λ y. f x y) column ys)
    (if_same (flat_map (λ y. if can x y then f x y ∷ column y else column y) ys)
    (flat_map (λ y. map (λ z. f z y) (filter (λ z. can z y) (x ∷ xs))) ys)
    (flat_same (λ y. if can x y then f x y ∷ column y else column y)
    (λ y. map (λ z. f z y) (filter (λ z. can z y) (x ∷ xs))) ys
    (λ y. by_test (can x y) (λ t. rw t refl) (λ t. rw t refl)))))
