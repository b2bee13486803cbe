-- How a point lies in memory.
use Rattle.std.proofs.Common.{◌≡◌, ◌≤◌, ◌<◌, ◌-◌, ℕ, zero, suc, List, [], ◌∷◌, length, take, slice_index, slice_index_or, refl, sym}
use Rattle.std.proofs.Common.{ap, arith}
use Rattle.model.specs.declared.plan.Injection.{Injection}
use Rattle.model.specs.Points.{last_step}
use Rattle.model.specs.Packing.{handlers_of, paired, steps_of}

-- what lies in a place
pub at_place : (is : List Injection) → length is ≤ 3 → (place : ℕ) → place < length is → (other : Injection)
    → record { step = slice_index (steps_of is) place; handler = slice_index (handlers_of is) place }
    ≡ slice_index_or is place other
at_place [] few place l other = absurd (omega arith)
at_place (a ∷ []) few zero l other = refl
at_place (a ∷ []) few (suc place) l other = absurd (omega arith)
at_place (a ∷ b ∷ []) few zero l other = refl
at_place (a ∷ b ∷ []) few (suc zero) l other = refl
at_place (a ∷ b ∷ []) few (suc (suc place)) l other = absurd (omega arith)
at_place (a ∷ b ∷ c ∷ []) few zero l other = refl
at_place (a ∷ b ∷ c ∷ []) few (suc zero) l other = refl
at_place (a ∷ b ∷ c ∷ []) few (suc (suc zero)) l other = refl
at_place (a ∷ b ∷ c ∷ []) few (suc (suc (suc place))) l other = absurd (omega arith)
at_place (a ∷ b ∷ c ∷ d ∷ is) few place l other = absurd (omega arith)

-- it is in the place of this number, if there is one
abbrev pub IsAt : List Injection → ℕ → Injection → Type 0
IsAt is place i = place < length is → i ≡ slice_index_or is place i

pub first_of : (is : List Injection) → 1 ≤ length is → (x : Injection) → IsAt is 0 x → (others : List Injection) × (is ≡ x ∷ others)
first_of [] some x at = absurd (omega arith)
first_of (a ∷ is) some x at = (is, ap (λ (i : Injection). i ∷ is) (sym (at (omega arith))))

pub last_of : (is : List Injection) → 1 ≤ length is → length is ≤ 3
    → (x : Injection) → IsAt is (length is - 1) x → x.step ≡ last_step is
last_of [] some few x at = absurd (omega arith)
last_of (a ∷ []) some few x at = ap (λ (i : Injection). i.step) (at (omega arith))
last_of (a ∷ b ∷ []) some few x at = ap (λ (i : Injection). i.step) (at (omega arith))
last_of (a ∷ b ∷ c ∷ []) some few x at = ap (λ (i : Injection). i.step) (at (omega arith))
last_of (a ∷ b ∷ c ∷ d ∷ is) some few x at = absurd (omega arith)

-- the places say which injections lie there
pub kept : (is : List Injection) → length is ≤ 3 → take (length is) (paired (steps_of is) (handlers_of is)) ≡ is
kept [] few = refl
kept (a ∷ []) few = refl
kept (a ∷ b ∷ []) few = refl
kept (a ∷ b ∷ c ∷ []) few = refl
kept (a ∷ b ∷ c ∷ d ∷ is) few = absurd (omega arith)
