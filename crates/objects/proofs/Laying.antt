-- The regions of a new storage, laid one after the other.
use Rattle.std.proofs.Common.{◌≡◌, ℕ, ◌+◌, ◌-◌, ◌*◌, ◌<◌, ◌≤◌, inl, inr, List, [], ◌++◌, get_or, set, length, drop, replicate, sym}
use Rattle.std.proofs.Common.{◌∙◌, ap, subst, arith, refl}
use Rattle.std.proofs.lemmas.List.{get_or-set_same, get_or-set_other, length-set, length-append, length-replicate, drop-replicate}
use Rattle.std.proofs.lemmas.List.{get_or-replicate, get_or_past, get_or_append_left, get_or-append_right}
use Rattle.std.proofs.lemmas.Bool.{cases_lt}
use Rattle.std.specs.Prelude.{All}
use Rattle.objects.specs.Places.{item_places, object_places}
use Rattle.objects.specs.Rings.{Fields, IsItems, place, object_of, objects_of}
use Rattle.model.specs.State.{no_object}
use Rattle.objects.proofs.Listed.{get_or-listed, listed-none}

-- the first i regions lie one after the other, and end at `used`
pub record IsLaid (sizes bases : List ℕ) (used i : ℕ) : Type 0 where
  pub sizes_length : length sizes ≡ object_places
  pub bases_length : length bases ≡ object_places
  pub small : (q : ℕ) → get_or sizes q 0 ≤ 256
  pub bound : used ≤ 256 * i
  pub below : (q : ℕ) → q < i → get_or bases q 0 + get_or sizes q 0 ≤ used
  pub apart : (q r : ℕ) → q < r → r < i → get_or bases q 0 + get_or sizes q 0 ≤ get_or bases r 0

pub laid_none : (sizes bases : List ℕ) → length sizes ≡ object_places
    → length bases ≡ object_places → ((q : ℕ) → get_or sizes q 0 ≤ 256) → IsLaid sizes bases 0 0
laid_none sizes bases l m small = record {
  sizes_length = l;
  bases_length = m;
  small = small;
  bound = omega arith;
  below = λ q h. absurd (omega (arith, h));
  apart = λ q r h k. absurd (omega (arith, k));
}

pub laid_more : {sizes bases : List ℕ} {used i : ℕ} → i < object_places → IsLaid sizes bases used i
    → IsLaid sizes (set bases i used) (used + get_or sizes i 0) (i + 1)
laid_more {sizes} {bases} {used} {i} hi h =
    let bases_length = h.bases_length in
    let at_i : get_or (set bases i used) i 0 ≡ used = get_or-set_same bases i used 0 (omega (arith, bases_length, hi)) in
    let other : (q : ℕ) → q < i → get_or (set bases i used) q 0 ≡ get_or bases q 0 = λ q hq.
    get_or-set_other bases i q used 0 (λ e. omega (arith, e, hq)) in
    record {
      sizes_length = h.sizes_length;
      bases_length = length-set bases i used ∙ h.bases_length;
      small = h.small;
      bound = let small = h.small i in let bound = h.bound in omega (arith, small, bound);
      below = λ q hq. elim (cases_lt q i) [
        | inl less ↦ let e = other q less in let b = h.below q less in omega (arith, e, b)
        | inr more ↦
            let is : q ≡ i = omega (arith, more, hq) in
            subst (λ (r : ℕ). get_or (set bases i used) r 0 + get_or sizes r 0 ≤ used + get_or sizes i 0)
            (sym is) (omega (arith, at_i))
      ];
      apart = λ q r qr hr. elim (cases_lt r i) [
        | inl less ↦
            let e = other q (omega (arith, qr, less)) in
            let f = other r less in
            let b = h.apart q r qr less in
            omega (arith, e, f, b)
        | inr more ↦
            let is : r ≡ i = omega (arith, more, hr) in
            let before : q < i = omega (arith, qr, is) in
            let e = other q before in
            let b = h.below q before in
            subst (λ (k : ℕ). get_or (set bases i used) q 0 + get_or sizes q 0 ≤ get_or (set bases i used) k 0)
            (sym is) (omega (arith, at_i, e, b))
      ];
    }

abbrev pub zeros : ℕ → List ℕ
zeros n = replicate n 0

zero_at : (n q : ℕ) → get_or (zeros n) q 0 ≡ 0
zero_at n q = elim (cases_lt q n) [
  | inl less ↦ get_or-replicate n q 0 0 less
  | inr more ↦ let l : length (zeros n) ≡ n = length-replicate n 0 in get_or_past (zeros n) q 0 (omega (arith, l, more))
]

zeros_length : (n : ℕ) → length (zeros n) ≡ n
zeros_length n = length-replicate n 0

-- the lengths that are asked for, with those of the other queues after them
pub padded : (lengths front : List ℕ) → front ≡ lengths
    → front ++ drop (length lengths) (zeros object_places) ≡ lengths ++ replicate (object_places - length lengths) 0
padded lengths front e =
    ap (λ (xs : List ℕ). xs ++ drop (length lengths) (zeros object_places)) e
    ∙ ap (λ (xs : List ℕ). lengths ++ xs) (drop-replicate (length lengths) object_places 0)

pub padded_length : (lengths : List ℕ) → length lengths ≤ object_places
    → length (lengths ++ zeros (object_places - length lengths)) ≡ object_places
padded_length lengths few =
    let l = zeros_length (object_places - length lengths) in
    length-append lengths (zeros (object_places - length lengths)) ∙ omega (arith, l, few)

pub padded_small : (lengths : List ℕ) → All (λ n. n ≤ 256) lengths → (q : ℕ)
    → get_or (lengths ++ zeros (object_places - length lengths)) q 0 ≤ 256
padded_small lengths small q = elim (cases_lt q (length lengths)) [
  | inl less ↦
      subst (λ (n : ℕ). n ≤ 256)
      (sym (get_or_append_left lengths (zeros (object_places - length lengths)) 0 q less)) (small q 0 less)
  | inr more ↦
      let e : get_or (lengths ++ zeros (object_places - length lengths)) q 0 ≡ 0 =
      get_or-append_right lengths (zeros (object_places - length lengths)) (length lengths) q 0 refl more
      ∙ zero_at (object_places - length lengths) (q - length lengths) in
      omega (arith, e)
]

pub laid_start : (lengths front : List ℕ) → front ≡ lengths → length lengths ≤ object_places → All (λ n. n ≤ 256) lengths
    → IsLaid (front ++ drop (length lengths) (zeros object_places)) (zeros object_places) 0 0
laid_start lengths front e few small =
    subst (λ (sizes : List ℕ). IsLaid sizes (zeros object_places) 0 0) (sym (padded lengths front e))
    (laid_none (lengths ++ zeros (object_places - length lengths)) (zeros object_places)
    (padded_length lengths few) (zeros_length object_places) (padded_small lengths small))

abbrev pub fresh : List ℕ → List ℕ → ℕ → Fields
fresh sizes bases n =
    record { pool = zeros n; bases = bases; lengths = sizes; heads = zeros object_places; counts = zeros object_places }

pub fresh_is : {sizes bases : List ℕ} {used i : ℕ} (n : ℕ) → n ≡ item_places
    → i ≡ object_places → IsLaid sizes bases used i → IsItems (fresh sizes bases n)
fresh_is {sizes} {bases} {used} {i} n hn hi laid = let h = subst (IsLaid sizes bases used) hi laid in record {
  pool_length = zeros_length n ∙ hn;
  bases_length = h.bases_length;
  lengths_length = h.sizes_length;
  heads_length = zeros_length object_places;
  counts_length = zeros_length object_places;
  small = λ q hq. h.small q;
  fits = λ q hq. let b = h.below q hq in let bound = h.bound in omega (arith, b, bound);
  apart = h.apart;
  started = λ q hq some. subst (λ (k : ℕ). k < get_or sizes q 0) (sym (zero_at object_places q)) some;
  few = λ q hq. subst (λ (k : ℕ). k ≤ get_or sizes q 0) (sym (zero_at object_places q)) (omega arith);
}

pub fresh_object : (sizes bases : List ℕ) (n q : ℕ) → q < object_places
    → get_or (objects_of (fresh sizes bases n)) q no_object ≡ record no_object { size = get_or sizes q 0; items = [] }
unfolding objects_of
fresh_object sizes bases n q hq =
    let a = fresh sizes bases n in
    get_or-listed (object_of a) object_places q no_object hq
    ∙ ap (λ (xs : List ℕ). record no_object { size = get_or sizes q 0; items = xs })
    (listed-none (λ k. get_or a.pool (place a q k) 0) (get_or (zeros object_places) q 0) (zero_at object_places q))

-- the length that was asked for, or none
pub padded_at : (lengths : List ℕ) (q : ℕ) → get_or (lengths ++ zeros (object_places - length lengths)) q 0 ≡ get_or lengths q 0
padded_at lengths q = elim (cases_lt q (length lengths)) [
  | inl less ↦ get_or_append_left lengths (zeros (object_places - length lengths)) 0 q less
  | inr more ↦
      get_or-append_right lengths (zeros (object_places - length lengths)) (length lengths) q 0 refl more
      ∙ zero_at (object_places - length lengths) (q - length lengths) ∙ sym (get_or_past lengths q 0 more)
]
