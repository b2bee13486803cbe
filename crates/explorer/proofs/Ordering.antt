-- The order of placements is one.
use Rattle.std.proofs.Common.{◌≡◌, ◌<◌, ℕ, Bool, true, false, ◌&&◌, eqb, ltb, List, [], ◌∷◌, ◌++◌, length, refl, ap, sym, ◌∙◌}
use Rattle.std.proofs.Common.{subst, arith, inl, inr, length-append}
use Rattle.std.specs.Prelude.{◌||◌, ◌⊎◌}
use Rattle.std.proofs.lemmas.Bool.{eq-eqb, eqb-true, eqb-false, lt-ltb, ltb-true, le-ltb, ltb-false}
use Rattle.std.proofs.lemmas.Bool.Decides.{nat_tests}
use Rattle.model.specs.declared.plan.Injection.{Injection}
use Rattle.model.specs.Placements.{is_below, is_less, is_same_injection, is_sooner}
use Rattle.model.proofs.Sorting.{by_test}

-- ---- one injection and another

sooner_trans : (i j k : Injection) → is_sooner i j ≡ true → is_sooner j k ≡ true → is_sooner i k ≡ true
sooner_trans i j k h l = grind (arith, nat_tests)

sooner_apart : (i : Injection) → is_sooner i i ≡ false
sooner_apart i = grind (arith, nat_tests)

sooner_or : (i j : Injection) → is_sooner i j ≡ false → is_same_injection i j ≡ false → is_sooner j i ≡ true
sooner_or i j h l = grind (arith, nat_tests)

same_is : (i j : Injection) → is_same_injection i j ≡ true → i ≡ j
same_is i j h =
    let step : i.step ≡ j.step = grind (arith, nat_tests) in
    let handler : i.handler ≡ j.handler = grind (arith, nat_tests) in
    ap (λ (n : ℕ). record i { step = n }) step ∙ ap (λ (n : ℕ). record j { handler = n }) handler

same_itself : (i : Injection) → is_same_injection i i ≡ true
same_itself i = grind (arith, nat_tests)

-- ---- tests

or_cases : (a b : Bool) → a || b ≡ true → (a ≡ true) ⊎ (b ≡ true)
or_cases true b h = inl refl
or_cases false b h = inr h

or_left : (a b : Bool) → a ≡ true → a || b ≡ true
or_left true b h = refl
or_left false b h = absurd (cc)

or_right : (a b : Bool) → b ≡ true → a || b ≡ true
or_right true b h = refl
or_right false b h = h

or_neither : (a b : Bool) → a || b ≡ false → (a ≡ false) × (b ≡ false)
or_neither true b h = absurd (cc)
or_neither false b h = (refl, h)

both_are : (a b : Bool) → a && b ≡ true → (a ≡ true) × (b ≡ true)
both_are true b h = (refl, h)
both_are false b h = absurd (cc)

both_hold : (a b : Bool) → a ≡ true → b ≡ true → a && b ≡ true
both_hold true b h k = k
both_hold false b h k = absurd (cc)

-- ---- lists of injections

below_itself : (xs : List Injection) → is_below xs xs ≡ false
below_itself [] = refl
below_itself (i ∷ is) =
    rw (sooner_apart i, same_itself i) (below_itself is)

below_trans : (xs ys zs : List Injection) → is_below xs ys ≡ true → is_below ys zs ≡ true → is_below xs zs ≡ true
below_trans [] ys zs h k = absurd (cc)
below_trans (i ∷ is) [] zs h k = absurd (cc)
below_trans (i ∷ is) (j ∷ js) [] h k = absurd (cc)
below_trans (i ∷ is) (j ∷ js) (l ∷ ls) h k = elim (or_cases (is_sooner i j) (is_same_injection i j && is_below is js) h) [
  | inl sooner ↦
      or_left (is_sooner i l) (is_same_injection i l && is_below is ls)
      (elim (or_cases (is_sooner j l) (is_same_injection j l && is_below js ls) k) [
        | inl later ↦ sooner_trans i j l sooner later
        | inr same ↦
            subst (λ (m : Injection). is_sooner i m ≡ true)
            (same_is j l (both_are (is_same_injection j l) (is_below js ls) same).0) sooner
      ])
  | inr same ↦
      (let parts = both_are (is_same_injection i j) (is_below is js) same in
      let is_j = same_is i j parts.0 in
      elim (or_cases (is_sooner j l) (is_same_injection j l && is_below js ls) k) [
        | inl later ↦
            or_left (is_sooner i l) (is_same_injection i l && is_below is ls)
            (subst (λ (m : Injection). is_sooner m l ≡ true) (sym is_j) later)
        | inr too ↦
            (let more = both_are (is_same_injection j l) (is_below js ls) too in
            or_right (is_sooner i l) (is_same_injection i l && is_below is ls)
            (both_hold (is_same_injection i l) (is_below is ls)
            (subst (λ (m : Injection). is_same_injection m l ≡ true) (sym is_j) more.0)
            (below_trans is js ls parts.1 more.1)))
      ])
]

below_total : (xs ys : List Injection) → length xs ≡ length ys → is_below xs ys ≡ false → (xs ≡ ys) ⊎ (is_below ys xs ≡ true)
below_total [] [] e h = inl refl
below_total [] (j ∷ js) e h = absurd (omega (arith, e))
below_total (i ∷ is) [] e h = absurd (omega (arith, e))
below_total (i ∷ is) (j ∷ js) e h =
    let parts = or_neither (is_sooner i j) (is_same_injection i j && is_below is js) h in
    by_test (is_same_injection i j)
    (λ t.
    let same = same_is i j t in
    let rest : is_below is js ≡ false = subst (λ (b : Bool). b && is_below is js ≡ false) t parts.1 in
    elim (below_total is js (omega (arith, e)) rest) [
      | inl equal ↦ inl (ap (λ (m : Injection). m ∷ is) same ∙ ap (λ (ms : List Injection). j ∷ ms) equal)
      | inr below ↦
          inr (or_right (is_sooner j i) (is_same_injection j i && is_below js is)
          (both_hold (is_same_injection j i) (is_below js is)
          (subst (λ (m : Injection). is_same_injection j m ≡ true) (sym same) (same_itself j)) below))
    ])
    (λ t. inr (or_left (is_sooner j i) (is_same_injection j i && is_below js is) (sooner_or i j parts.0 t)))

-- behind as many injections
below-append : (xs ys zs : List Injection) → length xs ≡ length ys → is_below (xs ++ zs) (ys ++ zs) ≡ is_below xs ys
below-append [] [] zs e = below_itself zs
below-append [] (j ∷ js) zs e = absurd (omega (arith, e))
below-append (i ∷ is) [] zs e = absurd (omega (arith, e))
below-append (i ∷ is) (j ∷ js) zs e =
    ap (λ (b : Bool). is_sooner i j || (is_same_injection i j && b)) (below-append is js zs (omega (arith, e)))

-- ---- with their numbers

less_of_as_many : (xs ys : List Injection) → length xs ≡ length ys → is_less xs ys ≡ is_below xs ys
less_of_as_many xs ys e =
    let not : ltb (length xs) (length ys) ≡ false = le-ltb (length xs) (length ys) (omega (arith, e)) in
    let same : eqb (length xs) (length ys) ≡ true = eq-eqb (length xs) (length ys) e in
    rw (not, same) refl

fewer_is_less : (xs ys : List Injection) → length xs < length ys → is_less xs ys ≡ true
fewer_is_less xs ys l = or_left (ltb (length xs) (length ys)) (eqb (length xs) (length ys) && is_below xs ys)
    (lt-ltb (length xs) (length ys) l)

-- It has fewer, or as many and is below.
less_cases : (xs ys : List Injection) → is_less xs ys ≡ true
    → (length xs < length ys) ⊎ ((length xs ≡ length ys) × (is_below xs ys ≡ true))
less_cases xs ys h = elim (or_cases (ltb (length xs) (length ys)) (eqb (length xs) (length ys) && is_below xs ys) h) [
  | inl few ↦ inl (ltb-true (length xs) (length ys) few)
  | inr rest ↦
      (let parts = both_are (eqb (length xs) (length ys)) (is_below xs ys) rest in
      inr (eqb-true (length xs) (length ys) parts.0, parts.1))
]

pub less_itself : (xs : List Injection) → is_less xs xs ≡ false
less_itself xs = less_of_as_many xs xs refl ∙ below_itself xs

pub less_trans : (xs ys zs : List Injection) → is_less xs ys ≡ true → is_less ys zs ≡ true → is_less xs zs ≡ true
less_trans xs ys zs h k = elim (less_cases xs ys h) [
  | inl few ↦
      elim (less_cases ys zs k) [
        | inl fewer ↦ fewer_is_less xs zs (omega (arith, few, fewer))
        | inr same ↦ fewer_is_less xs zs (let e = same.0 in omega (arith, few, e))
      ]
  | inr same ↦
      elim (less_cases ys zs k) [
        | inl fewer ↦ fewer_is_less xs zs (let e = same.0 in omega (arith, fewer, e))
        | inr too ↦ less_of_as_many xs zs (same.0 ∙ too.0) ∙ below_trans xs ys zs same.1 too.1
      ]
]

pub less_total : (xs ys : List Injection) → is_less xs ys ≡ false → (xs ≡ ys) ⊎ (is_less ys xs ≡ true)
less_total xs ys h =
    let parts = or_neither (ltb (length xs) (length ys)) (eqb (length xs) (length ys) && is_below xs ys) h in
    let no_fewer = ltb-false (length xs) (length ys) parts.0 in
    by_test (eqb (length xs) (length ys))
    (λ t.
    let same = eqb-true (length xs) (length ys) t in
    let rest : is_below xs ys ≡ false = subst (λ (b : Bool). b && is_below xs ys ≡ false) t parts.1 in
    elim (below_total xs ys same rest) [
      | inl equal ↦ inl equal
      | inr below ↦ inr (less_of_as_many ys xs (sym same) ∙ below)
    ])
    (λ t. inr (fewer_is_less ys xs (let apart = eqb-false (length xs) (length ys) t in omega (arith, no_fewer, apart))))

-- What isn't less than the one isn't less than what is less than it.
pub not_less : (a b c : List Injection) → is_less a c ≡ false → is_less b c ≡ true → is_less a b ≡ false
not_less a b c isnt below = by_test (is_less a b)
    (λ t. let less = less_trans a b c t below in absurd (cc))
    (λ t. t)

pub not_less_on : (a b c : List Injection) → is_less a b ≡ false → is_less b c ≡ false → is_less a c ≡ false
not_less_on a b c h k = elim (less_total b c k) [
  | inl same ↦ subst (λ (xs : List Injection). is_less a xs ≡ false) same h
  | inr less ↦ by_test (is_less a c)
      (λ t. let both = less_trans a c b t less in absurd (cc))
      (λ t. t)
]

pub less-append : (xs ys zs : List Injection) → length xs ≡ length ys → is_less (xs ++ zs) (ys ++ zs) ≡ is_less xs ys
less-append xs ys zs e =
    let long : length (xs ++ zs) ≡ length (ys ++ zs) = omega (arith, length-append xs zs, length-append ys zs, e) in
    less_of_as_many (xs ++ zs) (ys ++ zs) long ∙ below-append xs ys zs e ∙ sym (less_of_as_many xs ys e)
