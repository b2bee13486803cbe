-- What is among a list, what holds of all of it, and lists in which nothing is there twice.
use Rattle.std.proofs.Common.{◌≡◌, ◌≢◌, ◌⊎◌, ◌<◌, ◌+◌, ℕ, zero, suc, Bool, true, List, [], ◌∷◌, ◌++◌, length, get_or, map, refl, ap}
use Rattle.std.proofs.Common.{sym, ◌∙◌}
use Rattle.std.proofs.Common.{subst, inl, inr, arith}
use Rattle.std.specs.Prelude.{Contains}
use Rattle.std.specs.List.{AllByRecursion, filter, flat_map}
use Rattle.std.proofs.lemmas.List.Elements.{Contains-append_left, Contains-append_right}
use Rattle.std.proofs.lemmas.List.{map-append}
use Rattle.model.specs.Placements.{AreDistinct}
use Rattle.model.proofs.Sorting.{by_test}

module _ {X : Type 0} where
  pub first_is : (x : X) (xs : List X) → Contains (x ∷ xs) x
  first_is x xs = (0, omega arith, refl)

  pub later_is : (y : X) (xs : List X) (x : X) → Contains xs x → Contains (y ∷ xs) x
  later_is y xs x h = (suc h.0, (let l : h.0 < length xs = h.1 in omega arith), h.2)

  at_place : (y : X) (xs : List X) (x : X) (k : ℕ) → k < length (y ∷ xs) → get_or (y ∷ xs) k x ≡ x → (x ≡ y) ⊎ Contains xs x
  at_place y xs x zero l e = inl (sym e)
  at_place y xs x (suc k) l e = inr (k, omega arith, e)

  pub first_or_later : (y : X) (xs : List X) (x : X) → Contains (y ∷ xs) x → (x ≡ y) ⊎ Contains xs x
  first_or_later y xs x h = at_place y xs x h.0 h.1 h.2

  pub none_is : {Y : Type 0} (x : X) → Contains [] x → Y
  none_is x h = let l : h.0 < 0 = h.1 in absurd (omega arith)

-- ---- what holds of all

module _ {X : Type 0} (P : X → Type 0) where
  pub all_among : (xs : List X) (x : X) → AllByRecursion P xs → Contains xs x → P x
  all_among [] x all h = none_is x h
  all_among (y ∷ ys) x all h = elim (first_or_later y ys x h) [
    | inl e ↦ subst P (sym e) all.0
    | inr r ↦ all_among ys x all.1 r
  ]

  pub all_if : (xs : List X) → ((x : X) → Contains xs x → P x) → AllByRecursion P xs
  all_if [] f = tt
  all_if (x ∷ xs) f = (f x (first_is x xs), all_if xs (λ y h. f y (later_is x xs y h)))

  pub all_append : (xs ys : List X) → AllByRecursion P xs → AllByRecursion P ys → AllByRecursion P (xs ++ ys)
  all_append [] ys h k = k
  all_append (x ∷ xs) ys h k = (h.0, all_append xs ys h.1 k)

  pub all_before : (xs ys : List X) → AllByRecursion P (xs ++ ys) → AllByRecursion P xs
  all_before [] ys h = tt
  all_before (x ∷ xs) ys h = (h.0, all_before xs ys h.1)

  pub all_after : (xs ys : List X) → AllByRecursion P (xs ++ ys) → AllByRecursion P ys
  all_after [] ys h = h
  all_after (x ∷ xs) ys h = all_after xs ys h.1

  pub all_weaker : (Q : X → Type 0) → ((x : X) → P x → Q x) → (xs : List X) → AllByRecursion P xs → AllByRecursion Q xs
  all_weaker Q w [] h = tt
  all_weaker Q w (x ∷ xs) h = (w x h.0, all_weaker Q w xs h.1)

  pub all_of_both : (Q : X → Type 0) (xs : List X)
      → AllByRecursion P xs → AllByRecursion Q xs → AllByRecursion (λ x. P x × Q x) xs
  all_of_both Q [] h k = tt
  all_of_both Q (x ∷ xs) h k = ((h.0, k.0), all_of_both Q xs h.1 k.1)

  module _ {Y : Type 0} where
    pub all_map : (f : Y → X) (ys : List Y) → AllByRecursion (λ y. P (f y)) ys → AllByRecursion P (map f ys)
    all_map f [] h = tt
    all_map f (y ∷ ys) h = (h.0, all_map f ys h.1)

    pub all_flat : (g : Y → List X) (ys : List Y) → AllByRecursion (λ y. AllByRecursion P (g y)) ys → AllByRecursion P
        (flat_map g ys)
    all_flat g [] h = tt
    all_flat g (y ∷ ys) h = all_append (g y) (flat_map g ys) h.0 (all_flat g ys h.1)

  module _ (test : X → Bool) where
    -- of those that pass the test, also that
    pub all_filter : (xs : List X) → AllByRecursion P xs → AllByRecursion (λ x. P x × (test x ≡ true)) (filter test xs)
    all_filter [] h = tt
    all_filter (x ∷ xs) h = by_test (test x)
        (λ t. rw t ((h.0, t), all_filter xs h.1))
        (λ t. rw t (all_filter xs h.1))

    pub all_kept : (xs : List X) → AllByRecursion P xs → AllByRecursion P (filter test xs)
    all_kept [] h = tt
    all_kept (x ∷ xs) h = by_test (test x) (λ t. rw t (h.0, all_kept xs h.1)) (λ t. rw t (all_kept xs h.1))

module _ {X : Type 0} (test : X → Bool) where
  pub among_filter : (xs : List X) (x : X) → Contains xs x → test x ≡ true → Contains (filter test xs) x
  among_filter [] x h passes = none_is x h
  among_filter (y ∷ ys) x h passes = elim (first_or_later y ys x h) [
    | inl e ↦
        (let first : test y ≡ true = subst (λ (z : X). test z ≡ true) e passes in
        rw first (subst (λ (z : X). Contains (y ∷ filter test ys) z) (sym e) (first_is y (filter test ys))))
    | inr r ↦ by_test (test y)
        (λ t. rw t (later_is y (filter test ys) x (among_filter ys x r passes)))
        (λ t. rw t (among_filter ys x r passes))
  ]

  pub distinct_filter : (xs : List X) → AreDistinct xs → AreDistinct (filter test xs)
  distinct_filter [] h = tt
  distinct_filter (x ∷ xs) h = by_test (test x)
      (λ t. rw t (all_kept (λ y. y ≢ x) test xs h.0, distinct_filter xs h.1))
      (λ t. rw t (distinct_filter xs h.1))

module _ {X Y : Type 0} where
  pub among_map : (f : X → Y) (xs : List X) (x : X) → Contains xs x → Contains (map f xs) (f x)
  among_map f [] x h = none_is x h
  among_map f (y ∷ ys) x h = elim (first_or_later y ys x h) [
    | inl e ↦ subst (λ (z : X). Contains (f y ∷ map f ys) (f z)) (sym e) (first_is (f y) (map f ys))
    | inr r ↦ later_is (f y) (map f ys) (f x) (among_map f ys x r)
  ]

  pub among_flat : (g : X → List Y) (xs : List X) (x : X) (y : Y) → Contains xs x → Contains (g x) y → Contains (flat_map g xs) y
  among_flat g [] x y h k = none_is x h
  among_flat g (z ∷ zs) x y h k = elim (first_or_later z zs x h) [
    | inl e ↦ Contains-append_left (g z) (flat_map g zs) y (subst (λ (v : X). Contains (g v) y) e k)
    | inr r ↦ Contains-append_right (g z) (flat_map g zs) y (among_flat g zs x y r k)
  ]

-- ---- nothing twice

pub distinct_append : {X : Type 0} (xs ys : List X) → AreDistinct xs → AreDistinct ys
    → AllByRecursion (λ x. AllByRecursion (λ y. y ≢ x) ys) xs → AreDistinct (xs ++ ys)
distinct_append [] ys h k apart = k
distinct_append (x ∷ xs) ys h k apart = (
  all_append (λ z. z ≢ x) xs ys h.0 apart.0,
  distinct_append xs ys h.1 k apart.1,
)

module _ {X Y : Type 0} where
  pub distinct_map : (f : X → Y) (key : Y → X) (xs : List X) → AllByRecursion (λ x. key (f x) ≡ x) xs
      → AreDistinct xs → AreDistinct (map f xs)
  distinct_map f key [] own h = tt
  distinct_map f key (x ∷ xs) own h = (
    all_map (λ z. z ≢ f x) f xs (all_weaker (λ y. (y ≢ x) × (key (f y) ≡ y)) (λ y. f y ≢ f x)
        (λ y both e. both.0 (sym both.1 ∙ ap key e ∙ own.0))
        xs (all_of_both (λ y. y ≢ x) (λ y. key (f y) ≡ y) xs h.0 own.1)),
    distinct_map f key xs own.1 h.1,
  )

  -- Lists whose elements lead back to what each is of have nothing twice together.
  pub distinct_flat : (g : X → List Y) (key : Y → X) (xs : List X) → AllByRecursion (λ x. AllByRecursion (λ z. key z ≡ x) (g x)) xs
      → AllByRecursion (λ x. AreDistinct (g x)) xs → AreDistinct xs → AreDistinct (flat_map g xs)
  distinct_flat g key [] own each h = tt
  distinct_flat g key (x ∷ xs) own each h =
      let others : AllByRecursion (λ w. key w ≢ x) (flat_map g xs) =
      all_flat (λ w. key w ≢ x) g xs (all_weaker (λ y. (y ≢ x) × AllByRecursion (λ z. key z ≡ y) (g y))
      (λ y. AllByRecursion (λ w. key w ≢ x) (g y))
      (λ y both. all_weaker (λ z. key z ≡ y) (λ w. key w ≢ x) (λ w is e. both.0 (sym is ∙ e)) (g y) both.1)
      xs (all_of_both (λ y. y ≢ x) (λ y. AllByRecursion (λ z. key z ≡ y) (g y)) xs h.0 own.1)) in
      distinct_append (g x) (flat_map g xs) each.0 (distinct_flat g key xs own.1 each.1 h.1)
      (all_weaker (λ z. key z ≡ x) (λ z. AllByRecursion (λ w. w ≢ z) (flat_map g xs))
      (λ z is. all_weaker (λ w. key w ≢ x) (λ w. w ≢ z) (λ w apart e. apart (ap key e ∙ is)) (flat_map g xs) others)
      (g x) own.0)

  pub map_flat : {Z : Type 0} (f : Y → Z) (g : X → List Y) (xs : List X) → map f (flat_map g xs) ≡ flat_map (λ x. map f (g x)) xs
  map_flat {Z = Z} f g [] = refl
  map_flat {Z = Z} f g (x ∷ xs) = rw map-append (ap (λ (zs : List Z). map f (g x) ++ zs) (map_flat f g xs))
