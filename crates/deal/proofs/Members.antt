-- A fact of each value of a list.
use Rattle.std.proofs.Common.{◌≡◌, ℕ, zero, suc, List, [], ◌∷◌, ◌++◌, set, sym, subst, arith}
use Rattle.std.specs.Prelude.{All}
use mathlib.Core.Option.{some, some-ne-none, some-injective}
use lib.ListN.{get_elem?}
use Rattle.std.specs.List.{AllByRecursion}

module _ {V : Type 0} (P : V → Type 0) where
  pub each_left : (xs ys : List V) → AllByRecursion P (xs ++ ys) → AllByRecursion P xs
  each_left [] ys h = tt
  each_left (x ∷ xs) ys h = (h.0, each_left xs ys h.1)

  pub each_right : (xs ys : List V) → AllByRecursion P (xs ++ ys) → AllByRecursion P ys
  each_right [] ys h = h
  each_right (x ∷ xs) ys h = each_right xs ys h.1

  pub each_last : (xs : List V) (y : V) → AllByRecursion P xs → P y → AllByRecursion P (xs ++ y ∷ [])
  each_last [] y h p = (p, tt)
  each_last (x ∷ xs) y h p = (h.0, each_last xs y h.1 p)

  pub each_middle : (xs : List V) (y : V) (ys : List V) → AllByRecursion P (xs ++ y ∷ ys) → P y
  each_middle [] y ys h = h.0
  each_middle (x ∷ xs) y ys h = each_middle xs y ys h.1

  pub each_at : (vs : List V) (i : ℕ) (v : V) → AllByRecursion P vs → get_elem? vs i ≡ some v → P v
  each_at [] i v h e = absurd (some-ne-none v (sym e))
  each_at (x ∷ xs) zero v h e = subst P (some-injective x v e) h.0
  each_at (x ∷ xs) (suc i) v h e = each_at xs i v h.1 e

  pub each_with : (vs : List V) (i : ℕ) (w : V) → AllByRecursion P vs → P w → AllByRecursion P (set vs i w)
  each_with [] i w h p = h
  each_with (x ∷ xs) zero w h p = (p, h.1)
  each_with (x ∷ xs) (suc i) w h p = (h.0, each_with xs i w h.1 p)

  pub each_of_all : (xs : List V) → All P xs → AllByRecursion P xs
  each_of_all [] h = tt
  each_of_all (x ∷ xs) h = (h 0 x (omega arith), each_of_all xs (λ k d short. h (suc k) d (omega (arith, short))))

  pub all_of_each : (xs : List V) → AllByRecursion P xs → All P xs
  all_of_each [] h k d short = absurd (omega (arith, short))
  all_of_each (x ∷ xs) h zero d short = h.0
  all_of_each (x ∷ xs) h (suc k) d short = all_of_each xs h.1 k d (omega (arith, short))
