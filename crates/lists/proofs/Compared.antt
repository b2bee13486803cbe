-- What a comparison by `!=` has shown if it was false: that both are the same.
use mathlib.Core.Bool.{beq}
use Rattle.std.proofs.Common.{◌≡◌, ℕ, Bool, true, false, Some, None, List, [], ◌∷◌, ap, ap₂, sym, refl, arith}
use Rattle.std.specs.Prelude.{nat_eq, not}
use Rattle.std.specs.Option.{option_eq}
use Rattle.std.specs.Cmp.Lexicographic.{pointwise}
use Rattle.std.proofs.lemmas.Bool.{and_parts, not-false}

-- A test of two values is true only of the same.
abbrev pub TellsSame : {X : Type 0} → (X → X → Bool) → Type 0
TellsSame {X} test = (x y : X) → test x y ≡ true → x ≡ y

pub same_told : {X : Type 0} (test : X → X → Bool) → TellsSame test → (x y : X) → false ≡ not (test x y) → x ≡ y
same_told test same x y told = same x y (not-false (test x y) (sym told))

pub same_number : TellsSame nat_eq
same_number x y told = grind arith

pub same_flag : TellsSame beq
same_flag x y told = grind arith

pub same_option : {X : Type 0} (test : X → X → Bool) → TellsSame test → TellsSame (option_eq test)
same_option test same None None told = refl
same_option test same None (Some y) told = absurd cc
same_option test same (Some x) None told = absurd cc
same_option test same (Some x) (Some y) told = ap Some (same x y told)

pub same_list : {X : Type 0} (test : X → X → Bool) → TellsSame test → TellsSame (pointwise test)
same_list test same [] [] told = refl
same_list test same [] (y ∷ ys) told = absurd cc
same_list test same (x ∷ xs) [] told = absurd cc
same_list {X} test same (x ∷ xs) (y ∷ ys) told =
    let both = and_parts (test x y) (pointwise test xs ys) told in
    ap₂ (λ (z : X) (zs : List X). z ∷ zs) (same x y both.0) (same_list test same xs ys both.1)

pub same_numbers : (xs ys : List ℕ) → false ≡ not (pointwise nat_eq xs ys) → xs ≡ ys
same_numbers = same_told (pointwise nat_eq) (same_list nat_eq same_number)
