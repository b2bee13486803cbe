-- An array that is filled, object by object, with a number of each at reset.
use Rattle.std.proofs.Common.{◌≡◌, ℕ, zero, suc, ◌+◌, ◌<◌, ◌≤◌, inl, inr, List, [], ◌∷◌, get_or, set, length, map, replicate, sym}
use Rattle.std.proofs.Common.{◌∙◌, ap, subst, refl, arith}
use Rattle.std.specs.List.{AllByRecursion}
use Rattle.std.specs.Prelude.{All}
use Rattle.std.proofs.lemmas.Bool.{cases_eq, cases_lt}
use Rattle.std.proofs.lemmas.List.{get_or_default, get_or-map, get_or-set_same, get_or-set_other, get_or_past, length-map}
use Rattle.std.proofs.lemmas.List.{length-set}
use Rattle.model.specs.declared.object.ObjectKind.{ObjectKind}
use Rattle.model.specs.declared.object.ObjectKind.TheVariants.{Queue, Semaphore, Mutex}
use Rattle.model.specs.Scripts.{IsObjectKind}
use Rattle.model.specs.State.{Object, no_object}
use Rattle.model.specs.Step.{object_at_reset}
use Rattle.objects.specs.Places.{object_places}

-- the number of an object of this index
abbrev pub number_at : (Object → ℕ) → List ObjectKind → ℕ → ℕ
number_at f kinds i = f (get_or (map object_at_reset kinds) i no_object)

-- It is filled up to this index, with 0 in the places after it.
pub record IsFilled (f : Object → ℕ) (kinds : List ObjectKind) (xs : List ℕ) (i : ℕ) : Type 0 where
  pub done : (j : ℕ) → j < i → get_or xs j 0 ≡ number_at f kinds j
  pub rest : (j : ℕ) → i ≤ j → get_or xs j 0 ≡ 0
  pub full : length xs ≡ object_places

nothing : (n i : ℕ) → let none : ℕ = 0 in get_or (replicate n none) i none ≡ none
nothing zero i = refl
nothing (suc n) zero = refl
nothing (suc n) (suc i) = nothing n i

pub nothing_small : (i : ℕ) → let none : ℕ = 0 in get_or (replicate object_places none) i none < 65536
nothing_small i = rw (nothing object_places i) (omega arith)

module _ (f : Object → ℕ) (kinds : List ObjectKind) where
  pub filled_none : IsFilled f kinds (let none : ℕ = 0 in replicate object_places none) 0
  filled_none = record { done = λ j l. absurd (omega (arith, l)); rest = λ j l. nothing object_places j; full = refl }

  pub filled_one_more : (xs : List ℕ) (i v : ℕ) (k : ObjectKind) → length kinds ≤ object_places → i < length kinds
      → v ≡ f (object_at_reset (get_or kinds i k)) → IsFilled f kinds xs i → IsFilled f kinds (set xs i v) (i + 1)
  filled_one_more xs i v k few l e h = record {
    done = λ j m. elim (cases_eq j i) [
      | inl same ↦
          subst (λ (n : ℕ). get_or (set xs i v) n 0 ≡ number_at f kinds n) (sym same)
          (get_or-set_same xs i v 0 (let full = h.full in omega (arith, full, few, l)) ∙ e
          ∙ ap f (sym (get_or-map object_at_reset kinds i k no_object l)))
      | inr other ↦ get_or-set_other xs i j v 0 other ∙ h.done j (omega (arith, m, other))
    ];
    rest = λ j m. get_or-set_other xs i j v 0 (λ same. omega (arith, m, same)) ∙ h.rest j (omega (arith, m));
    full = length-set xs i v ∙ h.full;
  }

  pub filled_all : (xs : List ℕ) (i : ℕ) → length kinds ≤ i → f no_object ≡ 0
      → IsFilled f kinds xs i → (j : ℕ) → get_or xs j 0 ≡ number_at f kinds j
  filled_all xs i past none h j = elim (cases_lt j i) [
    | inl l ↦ h.done j l
    | inr m ↦
        h.rest j m ∙ sym none
        ∙ ap f (sym (get_or_past (map object_at_reset kinds) j no_object (rw length-map (omega (arith, past, m)))))
  ]

-- ---- the lengths of queues

size_small : (kinds : List ObjectKind) (i : ℕ) → AllByRecursion IsObjectKind kinds
    → number_at (λ (o : Object). o.size) kinds i ≤ 256
size_small [] i h = omega arith
size_small (Queue size ∷ kinds) zero h = h.0.1
size_small (Semaphore most first ∷ kinds) zero h = omega arith
size_small (Mutex ∷ kinds) zero h = omega arith
size_small (kind ∷ kinds) (suc i) h = size_small kinds i h.1

pub all_small : (kinds : List ObjectKind) (xs : List ℕ) → AllByRecursion IsObjectKind kinds
    → ((j : ℕ) → get_or xs j 0 ≡ number_at (λ (o : Object). o.size) kinds j) → All (λ n. n ≤ 256) xs
all_small kinds xs h is = λ i d l.
    let small = size_small kinds i h in
    let same = get_or_default xs i d 0 l ∙ is i in
    omega (arith, small, same)
