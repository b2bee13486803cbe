-- Two storages whose queues have the same items, wherever in their pools these lie.
use Rattle.std.proofs.Common.{◌≡◌, ℕ, ◌+◌, ◌<◌, ◌≤◌, inl, inr, List, get_or, length, sym, ◌∙◌, ap, ap₂, arith}
use Rattle.std.proofs.lemmas.Bool.{cases_lt}
use Rattle.std.proofs.lemmas.List.{get_or_default, get_or_past}
use Rattle.lists.specs.Words.{AreZeroBetween}
use Rattle.model.specs.State.{Object, no_object}
use Rattle.objects.specs.Places.{last_place, object_places}
use Rattle.objects.specs.Items.{object_in}
use Rattle.objects.specs.Rings.{Fields, IsFront, IsItems, base_of, count_of, head_of, listed, object_of, objects_of, place, ring}
use Rattle.objects.specs.Rings.{size_of, wrap}
use Rattle.objects.proofs.Listed.{listed-same}
use Rattle.objects.proofs.Rings.{object-is, place-in}

-- this many of the first items of a queue are the same in both
abbrev pub AreAlike : Fields → Fields → ℕ → ℕ → Type 0
AreAlike a b q count = (k : ℕ) → k < count → get_or a.pool (place a q k) 0 ≡ get_or b.pool (place b q k) 0

pub same_queue : (a b : Fields) (q : ℕ) → q < object_places → size_of a q ≡ size_of b q → count_of a q ≡ count_of b q
    → AreAlike a b q (count_of a q) → object_in (objects_of a) q ≡ object_in (objects_of b) q
same_queue a b q hq sizes counts alike =
    let items : ring a q ≡ ring b q =
    listed-same (λ k. get_or a.pool (place a q k) 0) (λ k. get_or b.pool (place b q k) 0) (count_of a q) alike
    ∙ ap (listed (λ k. get_or b.pool (place b q k) 0)) counts in
    object-is a q hq ∙ ap₂ (λ (size : ℕ) (xs : List ℕ). record no_object { size = size; items = xs }) sizes items
    ∙ sym (object-is b q hq)

pub same_queues : (a b : Fields) → ((q : ℕ) → q < object_places → object_in (objects_of a) q ≡ object_in (objects_of b) q)
    → objects_of a ≡ objects_of b
unfolding objects_of
same_queues a b same =
    listed-same (object_of a) (object_of b) object_places (λ q hq. sym (object-is a q hq) ∙ same q hq ∙ object-is b q hq)

-- no queue has many items
pub few_items : {a : Fields} → IsItems a → (q : ℕ) → count_of a q < 32768
few_items {a} h q = elim (cases_lt q object_places) [
  | inl known ↦ let few = h.few q known in let small = h.small q known in omega (arith, few, small)
  | inr past ↦
      let many = h.counts_length in
      let none : count_of a q ≡ 0 = get_or_past a.counts q 0 (omega (arith, many, past)) in
      omega (arith, none)
]

-- Queues that are empty in one of two storages with the same counts and lengths are passed: those before them are the same.
pub same_past : (a b : Fields) {u v : List Object} → objects_of a ≡ u → objects_of b ≡ v → a.lengths ≡ b.lengths
    → a.counts ≡ b.counts → (from end : ℕ) → end ≤ object_places → AreZeroBetween a.counts from end
    → ((q : ℕ) → q < from → object_in u q ≡ object_in v q) → (q : ℕ) → q < end → object_in u q ≡ object_in v q
same_past a b is_u is_v lengths counts from end within zeros same q below = elim (cases_lt q from) [
  | inl before ↦ same q before
  | inr behind ↦
      let none : count_of a q ≡ 0 = zeros q behind below in
      ap (λ (objects : List Object). object_in objects q) (sym is_u)
      ∙ same_queue a b q (omega (arith, below, within)) (ap (λ (xs : List ℕ). get_or xs q 0) lengths)
      (ap (λ (xs : List ℕ). get_or xs q 0) counts) (λ k few. absurd (omega (arith, few, none)))
      ∙ ap (λ (objects : List Object). object_in objects q) is_v
]

-- item k of a queue, which is read `at` places after the base, lies in the front of a pool
module _ {a : Fields} (h : IsFront a) (q k size at : ℕ) (hq : q < object_places) (hk : k < count_of a q)
    (sizes : size ≡ size_of a q) (steps : at ≡ wrap size (head_of a q + k)) where
  place_is : base_of a q + at ≡ place a q k
  place_is = ap (λ (p : ℕ). base_of a q + p) (steps ∙ ap (λ (n : ℕ). wrap n (head_of a q + k)) sizes)

  pub within_front : base_of a q + at < length a.pool
  within_front =
      let few : count_of a q ≤ size_of a q = h.storage.few q hq in
      let here = (place-in h.storage q k hq (omega (arith, few, hk))).1 in
      let is = place_is in
      let front = h.front in
      elim (cases_lt q last_place) [
        | inl less ↦ let far = h.storage.apart q last_place less (omega arith) in omega (arith, is, here, front, far)
        | inr more ↦
            let end : base_of a q + size_of a q ≡ base_of a last_place + size_of a last_place =
            ap (λ (r : ℕ). base_of a r + size_of a r) (omega (arith, hq, more)) in
            omega (arith, is, here, front, end)
      ]

  pub item_is : (item : ℕ) → item ≡ get_or a.pool (base_of a q + at) item → item ≡ get_or a.pool (place a q k) 0
  item_is item read =
      read ∙ get_or_default a.pool (base_of a q + at) item 0 within_front ∙ ap (λ (p : ℕ). get_or a.pool p 0) place_is
