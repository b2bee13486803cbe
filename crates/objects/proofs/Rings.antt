-- The rings after a write to one of them.
use Rattle.std.proofs.Common.{true, false, ◌≡◌, ◌≢◌, ℕ, suc, ◌+◌, ◌-◌, ◌<◌, ◌≤◌, inl, inr, Some, List, [], ◌∷◌, ◌++◌, get_or, set}
use Rattle.std.proofs.Common.{length, drop, take, sym, ◌∙◌, ap, ap₂, subst, arith, refl, append-nil}
use Rattle.std.proofs.lemmas.List.{get_or-set_same, get_or-set_other, length-set, length-take, get_or-take, get_or_past}
use Rattle.std.proofs.lemmas.List.{get_or_append_left, take-append-drop}
use Rattle.std.proofs.Math.Seq.{take-append_seam}
use Rattle.std.proofs.lemmas.Bool.{cases_eq, cases_lt, lt-ltb, le-ltb}
use Rattle.std.specs.Prelude.{nat_lt, slice_get}
use Rattle.model.specs.State.{Object, no_object}
use Rattle.objects.specs.Places.{item_places, last_place, object_places}
use Rattle.objects.specs.Items.{IsSound, object_in, holding}
use Rattle.objects.specs.Rings.{Fields, IsItems, IsFront, with_pool, listed, wrap, place, ring, object_of, objects_of, base_of}
use Rattle.objects.specs.Rings.{size_of, head_of, count_of}
use Rattle.objects.proofs.Listed.{length-listed, get_or-listed, listed-same, listed-more, listed-set, listed-none, listed-first}
use Rattle.objects.proofs.Listed.{listed-rest, listed-add, set-own}

-- places in a region

wrap-less : (size at : ℕ) → at < size → wrap size at ≡ at
wrap-less size at h = let t : nat_lt at size ≡ true = lt-ltb at size h in rw t refl

wrap-more : (size at : ℕ) → size ≤ at → wrap size at ≡ at - size
wrap-more size at h = let t : nat_lt at size ≡ false = le-ltb at size h in rw t refl

pub wrap-below : (size at : ℕ) → at < size + size → wrap size at < size
wrap-below size at h = elim (cases_lt at size) [
  | inl less ↦ let e = wrap-less size at less in omega (arith, e, less)
  | inr more ↦ let e = wrap-more size at more in omega (arith, e, more, h)
]

-- fewer than `size` steps lead to another place
pub wrap-differ : (size i j : ℕ) → i < j → j < i + size → j < size + size → wrap size i ≢ wrap size j
wrap-differ size i j ij near h = λ same. elim (cases_lt i size) [
  | inl less_i ↦ let e = wrap-less size i less_i in elim (cases_lt j size) [
    | inl less_j ↦ let f = wrap-less size j less_j in omega (arith, e, f, same, ij)
    | inr more_j ↦ let f = wrap-more size j more_j in omega (arith, e, f, same, near, more_j)
  ]
  | inr more_i ↦
      let e = wrap-more size i more_i in
      let f = wrap-more size j (omega (arith, more_i, ij)) in
      omega (arith, e, f, same, ij, more_i)
]

-- steps from the place after `head` are one more step from `head`
pub wrap-on : (size head k : ℕ) → head < size → k < size → wrap size (wrap size (head + 1) + k) ≡ wrap size (head + suc k)
wrap-on size head k h l = elim (cases_lt (head + 1) size) [
  | inl less ↦ let e : wrap size (head + 1) ≡ head + 1 = wrap-less size (head + 1) less in ap (wrap size) (omega (arith, e))
  | inr more ↦
      let e : wrap size (head + 1) ≡ head + 1 - size = wrap-more size (head + 1) more in
      let last : wrap size (head + 1) + k ≡ k = omega (arith, e, more, h) in
      let f = wrap-less size k l in
      let g = wrap-more size (head + suc k) (omega (arith, more)) in
      ap (wrap size) last ∙ f ∙ omega (arith, g, more, h)
]

-- the place before `head`
pub wrap-back : (size head : ℕ) → head < size → wrap size (wrap size (head + size - 1) + 1) ≡ head
wrap-back size head h = elim (cases_eq head 0) [
  | inl none ↦
      let e = wrap-less size (head + size - 1) (omega (arith, none, h)) in
      let f = wrap-more size (head + size - 1 + 1) (omega (arith, none, h)) in
      ap (λ (i : ℕ). wrap size (i + 1)) e ∙ f ∙ omega (arith, none, h)
  | inr some ↦
      let e : wrap size (head + size - 1) ≡ head + size - 1 - size = wrap-more size (head + size - 1) (omega (arith, some, h)) in
      let back : wrap size (head + size - 1) + 1 ≡ head = omega (arith, e, some, h) in
      ap (wrap size) back ∙ wrap-less size head h
]

-- the objects, as callers see them
pub object-is : (a : Fields) (q : ℕ) → q < object_places → object_in (objects_of a) q ≡ object_of a q
unfolding objects_of
object-is a q h = get_or-listed (object_of a) object_places q no_object h

pub ring-length : (a : Fields) (q : ℕ) → length (ring a q) ≡ count_of a q
ring-length a q = length-listed (λ k. get_or a.pool (place a q k) 0) (count_of a q)

pub count-is : (a : Fields) (q : ℕ) → q < object_places → length (object_in (objects_of a) q).items ≡ count_of a q
count-is a q h = ap (λ (o : Object). length o.items) (object-is a q h) ∙ ring-length a q

pub size-is : (a : Fields) (q : ℕ) → q < object_places → (object_in (objects_of a) q).size ≡ size_of a q
size-is a q h = ap (λ (o : Object). o.size) (object-is a q h)

no_more : (a : Fields) (q : ℕ) → object_places ≤ q → object_in (objects_of a) q ≡ no_object
unfolding objects_of
no_more a q past =
    let as_many = length-listed (object_of a) object_places in
    get_or_past (listed (object_of a) object_places) q no_object (omega (arith, as_many, past))

pub sound : {a : Fields} → IsItems a → IsSound (objects_of a)
unfolding objects_of
sound {a} h = record {
  as_many = length-listed (object_of a) object_places;
  small = λ q. elim (cases_lt q object_places) [
    | inl known ↦ let e = size-is a q known in let small = h.small q known in omega (arith, e, small)
    | inr past ↦ let e = ap (λ (o : Object). o.size) (no_more a q past) in omega (arith, e)
  ];
  few = λ q. elim (cases_lt q object_places) [
    | inl known ↦ let e = count-is a q known in let f = size-is a q known in let few = h.few q known in omega (arith, e, f, few)
    | inr past ↦
        let e = ap (λ (o : Object). length o.items) (no_more a q past) in
        let f = ap (λ (o : Object). o.size) (no_more a q past) in omega (arith, e, f)
  ];
}

-- Item `x` is written at `p`, in the region of queue q, which then begins at `head` and has `count` items
abbrev pub written : Fields → ℕ → ℕ → ℕ → ℕ → ℕ → Fields
written a q p x head count =
    record {
      pool = set a.pool p x;
      bases = a.bases;
      lengths = a.lengths;
      heads = set a.heads q head;
      counts = set a.counts q count;
    }

module _ {a : Fields} (h : IsItems a) where
  -- the places of a queue lie in its region
  pub place-in : (q k : ℕ) → q < object_places → k < size_of a q
      → (base_of a q ≤ place a q k) × (place a q k < base_of a q + size_of a q)
  place-in q k hq hk =
      let head = h.started q hq (omega (arith, hk)) in
      let below = wrap-below (size_of a q) (head_of a q + k) (omega (arith, head, hk)) in
      (omega arith, omega (arith, below))

  -- they are apart from the region of another queue
  pub place-apart : (q r k p : ℕ) → q < object_places → r < object_places → r ≢ q
      → k < size_of a r → base_of a q ≤ p → p < base_of a q + size_of a q → place a r k ≢ p
  place-apart q r k p hq hr ne hk from to = λ same.
      let lies = place-in r k hr hk in
      let lies_from = lies.0 in
      let lies_to = lies.1 in
      elim (cases_lt q r) [
        | inl less ↦ let far = h.apart q r less hr in omega (arith, far, to, lies_from, same)
        | inr more ↦ let far = h.apart r q (omega (arith, more, ne)) hq in omega (arith, far, from, lies_to, same)
      ]

  module _ (q p x head count : ℕ) (hq : q < object_places) (from : base_of a q ≤ p)
      (to : p < base_of a q + size_of a q) (hh : head < size_of a q) (hc : count ≤ size_of a q) where
    pub here_head : head_of (written a q p x head count) q ≡ head
    here_head = let n = h.heads_length in get_or-set_same a.heads q head 0 (omega (arith, n, hq))

    pub here_count : count_of (written a q p x head count) q ≡ count
    here_count = let n = h.counts_length in get_or-set_same a.counts q count 0 (omega (arith, n, hq))

    pub written_is : IsItems (written a q p x head count)
    written_is = record {
      pool_length = length-set a.pool p x ∙ h.pool_length;
      bases_length = h.bases_length;
      lengths_length = h.lengths_length;
      heads_length = length-set a.heads q head ∙ h.heads_length;
      counts_length = length-set a.counts q count ∙ h.counts_length;
      small = h.small;
      fits = h.fits;
      apart = h.apart;
      started = λ r hr some. elim (cases_eq r q) [
        | inl same ↦
            subst (λ (i : ℕ). head_of (written a q p x head count) i < size_of a i)
            (sym same) (subst (λ (i : ℕ). i < size_of a q) (sym here_head) hh)
        | inr other ↦ subst (λ (i : ℕ). i < size_of a r) (sym (get_or-set_other a.heads q r head 0 other)) (h.started r hr some)
      ];
      few = λ r hr. elim (cases_eq r q) [
        | inl same ↦
            subst (λ (i : ℕ). count_of (written a q p x head count) i ≤ size_of a i)
            (sym same) (subst (λ (i : ℕ). i ≤ size_of a q) (sym here_count) hc)
        | inr other ↦ subst (λ (i : ℕ). i ≤ size_of a r) (sym (get_or-set_other a.counts q r count 0 other)) (h.few r hr)
      ];
    }

    -- another queue's items stay
    other_ring : (r : ℕ) → r < object_places → r ≢ q → ring (written a q p x head count) r ≡ ring a r
    other_ring r hr ne =
        let few = h.few r hr in
        let same_head : head_of (written a q p x head count) r ≡ head_of a r = get_or-set_other a.heads q r head 0 ne in
        let same_count : count_of (written a q p x head count) r ≡ count_of a r = get_or-set_other a.counts q r count 0 ne in
        ap (listed (λ k. get_or (set a.pool p x) (place (written a q p x head count) r k) 0)) same_count
        ∙ listed-same (λ k. get_or (set a.pool p x) (place (written a q p x head count) r k) 0)
        (λ k. get_or a.pool (place a r k) 0) (count_of a r) (λ k hk.
        ap (λ (i : ℕ). get_or (set a.pool p x) (base_of a r + wrap (size_of a r) (i + k)) 0) same_head
        ∙ get_or-set_other a.pool p (place a r k) x 0 (place-apart q r k p hq hr ne (omega (arith, hk, few)) from to))

    -- the queues after the write, if queue q's items are known
    pub written_queues : (xs : List ℕ)
        → listed (λ k. get_or (set a.pool p x) (base_of a q + wrap (size_of a q) (head + k)) 0) count ≡ xs
        → objects_of (written a q p x head count) ≡ set (objects_of a) q (record no_object { size = size_of a q; items = xs })
    unfolding objects_of
    written_queues xs e =
        let b = written a q p x head count in
        let here : ring b q ≡ xs =
        ap₂ (λ (i n : ℕ). listed (λ k. get_or (set a.pool p x) (base_of a q + wrap (size_of a q) (i + k)) 0) n) here_head here_count
        ∙ e in
        listed-set (object_of a) (object_of b) object_places q hq
        (λ r hr ne. ap (λ (xs : List ℕ). record no_object { size = size_of a r; items = xs }) (other_ring r hr ne))
        ∙ ap (λ (ys : List ℕ). set (listed (object_of a) object_places) q (record no_object { size = size_of a q; items = ys }))
        here

  -- an item is put after the others
  pub pushed_back : (q x : ℕ) → q < object_places → count_of a q < size_of a q
      → listed (λ k. get_or (set a.pool (place a q (count_of a q)) x) (place a q k) 0) (count_of a q + 1) ≡ ring a q ++ x ∷ []
  pushed_back q x hq room =
      let p = place a q (count_of a q) in
      let head = h.started q hq (omega (arith, room)) in
      let pool = h.pool_length in
      let fits = h.fits q hq in
      let to = (place-in q (count_of a q) hq room).1 in
      let f : ℕ → ℕ = λ k. get_or (set a.pool p x) (place a q k) 0 in
      let g : ℕ → ℕ = λ k. get_or a.pool (place a q k) 0 in
      let kept : listed f (count_of a q) ≡ listed g (count_of a q) = listed-same f g (count_of a q) (λ k hk.
      get_or-set_other a.pool p (place a q k) x 0 (λ same.
      wrap-differ (size_of a q) (head_of a q + k) (head_of a q + count_of a q) (omega (arith, hk))
      (omega (arith, room)) (omega (arith, head, room)) (omega (arith, same)))) in
      let last : f (count_of a q) ≡ x = get_or-set_same a.pool p x 0 (omega (arith, pool, fits, to)) in
      listed-add f (count_of a q) ∙ listed-more f (count_of a q) ∙ ap₂ (λ (xs : List ℕ) (y : ℕ). xs ++ y ∷ []) kept last

  -- an item is put before the others
  pub pushed_front : (q x head : ℕ) → q < object_places → count_of a q < size_of a q → head < size_of a q
      → wrap (size_of a q) (head + 1) ≡ head_of a q
      → listed (λ k. get_or (set a.pool (base_of a q + head) x) (base_of a q + wrap (size_of a q) (head + k)) 0) (count_of a q + 1)
      ≡ x ∷ ring a q
  pushed_front q x head hq room hh next =
      let size = size_of a q in
      let base = base_of a q in
      let p = base + head in
      let pool = h.pool_length in
      let fits = h.fits q hq in
      let zero_is : wrap size (head + 0) ≡ head = wrap-less size (head + 0) (omega (arith, hh)) ∙ omega arith in
      let first : get_or (set a.pool p x) (base + wrap size (head + 0)) 0 ≡ x =
      ap (λ (i : ℕ). get_or (set a.pool p x) (base + i) 0) zero_is ∙ get_or-set_same a.pool p x 0 (omega (arith, pool, fits, hh)) in
      let f : ℕ → ℕ = λ k. get_or (set a.pool p x) (base + wrap size (head + suc k)) 0 in
      let g : ℕ → ℕ = λ k. get_or a.pool (place a q k) 0 in
      let kept : listed f (count_of a q) ≡ listed g (count_of a q) = listed-same f g (count_of a q) (λ k hk.
      let on : wrap size (head + suc k) ≡ wrap size (head_of a q + k) =
      sym (wrap-on size head k hh (omega (arith, hk, room))) ∙ ap (λ (i : ℕ). wrap size (i + k)) next in
      get_or-set_other a.pool p (base + wrap size (head + suc k)) x 0 (λ same.
      wrap-differ size (head + 0) (head + suc k) (omega arith) (omega (arith, hk, room))
      (omega (arith, hk, room, hh)) (omega (arith, same, zero_is)))
      ∙ ap (λ (i : ℕ). get_or a.pool (base + i) 0) on) in
      listed-add (λ k. get_or (set a.pool p x) (base + wrap size (head + k)) 0) (count_of a q)
      ∙ ap₂ (λ (y : ℕ) (xs : List ℕ). y ∷ xs) first kept

  -- the first item of a queue that has one
  pub first_at : (q : ℕ) → q < object_places → 0 < count_of a q → place a q 0 ≡ base_of a q + head_of a q
  first_at q hq some =
      let few = h.few q hq in
      let head = h.started q hq (omega (arith, some, few)) in
      ap (λ (i : ℕ). base_of a q + i) (wrap-less (size_of a q) (head_of a q + 0) (omega (arith, head)) ∙ omega arith)

-- What a call makes of the queues: queue q has the items xs, and the others stay as they are.
pub record Becomes (b : Fields) (s : List Object) (q : ℕ) (xs : List ℕ) : Type 0 where
  pub is : IsItems b
  pub items : objects_of b ≡ set s q (holding (object_in s q) xs)
  pub sound : IsSound (objects_of b)

module _ {a : Fields} (h : IsItems a) {s : List Object} (seen : objects_of a ≡ s) where
  pub room_is : (q : ℕ) → q < object_places → length (object_in s q).items < (object_in s q).size → count_of a q < size_of a q
  room_is q hq room =
      let r = subst (λ (t : List Object). length (object_in t q).items < (object_in t q).size) (sym seen) room in
      let count = count-is a q hq in
      let size = size-is a q hq in
      omega (arith, r, count, size)

  becomes : (b : Fields) (q : ℕ) (f : List ℕ → List ℕ) → q < object_places → IsItems b
      → objects_of b ≡ set (objects_of a) q (record no_object { size = size_of a q; items = f (ring a q) })
      → Becomes b s q (f (object_in s q).items)
  becomes b q f hq is items =
      let here : objects_of b ≡ set (objects_of a) q (holding (object_in (objects_of a) q) (f (object_in (objects_of a) q).items)) =
      items ∙ ap (λ (o : Object). set (objects_of a) q (holding o (f o.items))) (sym (object-is a q hq)) in
      record {
        is = is;
        items = subst (λ (t : List Object). objects_of b ≡ set t q (holding (object_in t q) (f (object_in t q).items))) seen here;
        sound = sound is;
      }

  pub sound_is : IsSound s
  sound_is = subst IsSound seen (sound h)

  pub no_first : (q : ℕ) → q < object_places → count_of a q ≡ 0 → (object_in s q).items ≡ []
  no_first q hq none =
      subst (λ (t : List Object). (object_in t q).items ≡ []) seen
      (ap (λ (o : Object). o.items) (object-is a q hq) ∙ listed-none (λ k. get_or a.pool (place a q k) 0) (count_of a q) none)

  pub first_is : (q : ℕ) → q < object_places → 0 < count_of a q
      → Some (get_or a.pool (base_of a q + head_of a q) 0) ≡ slice_get (object_in s q).items 0
  first_is q hq some =
      let f : ℕ → ℕ = λ k. get_or a.pool (place a q k) 0 in
      subst (λ (t : List Object). Some (get_or a.pool (base_of a q + head_of a q) 0) ≡ slice_get (object_in t q).items 0) seen
      (ap (λ (i : ℕ). Some (get_or a.pool i 0)) (sym (first_at h q hq some))
      ∙ sym (listed-first f (count_of a q) some)
      ∙ ap (λ (xs : List ℕ). slice_get xs 0) (sym (ap (λ (o : Object). o.items) (object-is a q hq))))

  pub head_in : (q : ℕ) → q < object_places → 0 < size_of a q → base_of a q + head_of a q < item_places
  head_in q hq some =
      let head = h.started q hq some in
      let fits = h.fits q hq in
      omega (arith, head, fits)

  pub back_in : (q at : ℕ) → q < object_places → length (object_in s q).items < (object_in s q).size
      → at ≡ wrap (size_of a q) (head_of a q + count_of a q) → base_of a q + at < item_places
  back_in q at hq room is =
      let lies = (place-in h q (count_of a q) hq (room_is q hq room)).1 in
      let fits = h.fits q hq in
      omega (arith, lies, fits, is)

  pub front_in : (q head : ℕ) → q < object_places → length (object_in s q).items < (object_in s q).size
      → head ≡ wrap (size_of a q) (head_of a q + size_of a q - 1) → base_of a q + head < item_places
  front_in q head hq room is =
      let has = room_is q hq room in
      let old = h.started q hq (omega (arith, has)) in
      let below = wrap-below (size_of a q) (head_of a q + size_of a q - 1) (omega (arith, old)) in
      let fits = h.fits q hq in
      omega (arith, below, fits, is)

  pub room_left : (q : ℕ) → q < object_places → size_of a q - count_of a q + length (object_in s q).items ≡ (object_in s q).size
  room_left q hq =
      let count = count-is a q hq in
      let size = size-is a q hq in
      let few = h.few q hq in
      let e : size_of a q - count_of a q + length (object_in (objects_of a) q).items ≡ (object_in (objects_of a) q).size =
      omega (arith, count, size, few) in
      subst (λ (t : List Object). size_of a q - count_of a q + length (object_in t q).items ≡ (object_in t q).size) seen e

  pub none_taken : (q : ℕ) → q < object_places → count_of a q ≡ 0
      → s ≡ set s q (holding (object_in s q) (drop 1 (object_in s q).items))
  none_taken q hq none =
      let e : (object_in s q).items ≡ [] = no_first q hq none in
      let same : holding (object_in s q) (drop 1 (object_in s q).items) ≡ object_in s q =
      ap (λ (xs : List ℕ). holding (object_in s q) (drop 1 xs)) e ∙ ap (holding (object_in s q)) (sym e) in
      sym (ap (set s q) same ∙ set-own s q no_object)

  pub put_back : (q x at : ℕ) → q < object_places → length (object_in s q).items < (object_in s q).size
      → at ≡ wrap (size_of a q) (head_of a q + count_of a q)
      → Becomes (record {
        pool = set a.pool (base_of a q + at) x;
        bases = a.bases;
        lengths = a.lengths;
        heads = a.heads;
        counts = set a.counts q (count_of a q + 1);
      })
      s q ((object_in s q).items ++ x ∷ [])
  put_back q x at hq room is =
      let n = count_of a q in
      let has = room_is q hq room in
      let p = place a q n in
      let lies = place-in h q n hq has in
      let head = h.started q hq (omega (arith, has)) in
      let b : List ℕ → Fields = λ heads.
      record { pool = set a.pool p x; bases = a.bases; lengths = a.lengths; heads = heads; counts = set a.counts q (n + 1) } in
      let made : Becomes (b (set a.heads q (head_of a q))) s q ((object_in s q).items ++ x ∷ []) =
      becomes (b (set a.heads q (head_of a q))) q (λ xs. xs ++ x ∷ []) hq
      (written_is h q p x (head_of a q) (n + 1) hq lies.0 lies.1 head (omega (arith, has)))
      (written_queues h q p x (head_of a q) (n + 1) hq lies.0 lies.1 head
      (omega (arith, has)) (ring a q ++ x ∷ []) (pushed_back h q x hq has)) in
      subst (λ (i : ℕ).
      Becomes (record {
        pool = set a.pool (base_of a q + i) x;
        bases = a.bases;
        lengths = a.lengths;
        heads = a.heads;
        counts = set a.counts q (n + 1);
      })
      s q ((object_in s q).items ++ x ∷ []))
      (sym is)
      (subst (λ (heads : List ℕ). Becomes (b heads) s q ((object_in s q).items ++ x ∷ [])) (set-own a.heads q 0) made)

  pub put_front : (q x head : ℕ) → q < object_places → length (object_in s q).items < (object_in s q).size
      → head ≡ wrap (size_of a q) (head_of a q + size_of a q - 1)
      → Becomes (record {
        pool = set a.pool (base_of a q + head) x;
        bases = a.bases;
        lengths = a.lengths;
        heads = set a.heads q head;
        counts = set a.counts q (count_of a q + 1);
      })
      s q (x ∷ (object_in s q).items)
  put_front q x head hq room is =
      let n = count_of a q in
      let has = room_is q hq room in
      let p = base_of a q + head in
      let old = h.started q hq (omega (arith, has)) in
      let below = wrap-below (size_of a q) (head_of a q + size_of a q - 1) (omega (arith, old)) in
      let hh : head < size_of a q = omega (arith, is, below) in
      let next : wrap (size_of a q) (head + 1) ≡ head_of a q =
      ap (λ (i : ℕ). wrap (size_of a q) (i + 1)) is ∙ wrap-back (size_of a q) (head_of a q) old in
      becomes (written a q p x head (n + 1)) q (λ xs. x ∷ xs) hq
      (written_is h q p x head (n + 1) hq (omega arith) (omega (arith, hh)) hh (omega (arith, has)))
      (written_queues h q p x head (n + 1) hq (omega arith) (omega (arith, hh)) hh
      (omega (arith, has)) (x ∷ ring a q) (pushed_front h q x head hq has hh next))

  pub taken : (q head : ℕ) → q < object_places → 0 < count_of a q → head ≡ wrap (size_of a q) (head_of a q + 1)
      → Becomes (record {
        pool = a.pool;
        bases = a.bases;
        lengths = a.lengths;
        heads = set a.heads q head;
        counts = set a.counts q (count_of a q - 1);
      })
      s q (drop 1 (object_in s q).items)
  taken q head hq some is =
      let n = count_of a q in
      let size = size_of a q in
      let base = base_of a q in
      let few = h.few q hq in
      let old = h.started q hq (omega (arith, some, few)) in
      let p = base + head_of a q in
      let x = get_or a.pool p 0 in
      let below = wrap-below size (head_of a q + 1) (omega (arith, old)) in
      let hh : head < size = omega (arith, is, below) in
      let f : ℕ → ℕ = λ k. get_or (set a.pool p x) (base + wrap size (head + k)) 0 in
      let g : ℕ → ℕ = λ k. get_or a.pool (place a q k) 0 in
      let rest : listed f (n - 1) ≡ drop 1 (ring a q) =
      listed-same f (λ k. g (suc k)) (n - 1) (λ k hk.
      ap (λ (pool : List ℕ). get_or pool (base + wrap size (head + k)) 0) (set-own a.pool p 0)
      ∙ ap (λ (i : ℕ). get_or a.pool (base + wrap size (i + k)) 0) is
      ∙ ap (λ (i : ℕ). get_or a.pool (base + i) 0) (wrap-on size (head_of a q) k old (omega (arith, hk, few))))
      ∙ sym (listed-rest g n) in
      let b : List ℕ → Fields = λ pool.
      record { pool = pool; bases = a.bases; lengths = a.lengths; heads = set a.heads q head; counts = set a.counts q (n - 1) } in
      let made : Becomes (b (set a.pool p x)) s q (drop 1 (object_in s q).items) =
      becomes (b (set a.pool p x)) q (λ xs. drop 1 xs) hq
      (written_is h q p x head (n - 1) hq (omega arith) (omega (arith, old)) hh (omega (arith, few)))
      (written_queues h q p x head (n - 1) hq (omega arith) (omega (arith, old))
      hh (omega (arith, few)) (drop 1 (ring a q)) rest) in
      subst (λ (pool : List ℕ). Becomes (b pool) s q (drop 1 (object_in s q).items)) (set-own a.pool p 0) made

  pub long_is : (q : ℕ) → q < object_places → 0 < (object_in s q).size → 0 < size_of a q
  long_is q hq long =
      let r = subst (λ (t : List Object). 0 < (object_in t q).size) (sym seen) long in
      let size = size-is a q hq in
      omega (arith, r, size)

  pub replaced : (q x : ℕ) → q < object_places → 0 < (object_in s q).size
      → Becomes (record {
        pool = set a.pool (base_of a q + head_of a q) x;
        bases = a.bases;
        lengths = a.lengths;
        heads = a.heads;
        counts = set a.counts q 1;
      })
      s q (x ∷ [])
  replaced q x hq long =
      let size = size_of a q in
      let base = base_of a q in
      let some = long_is q hq long in
      let head = h.started q hq some in
      let pool = h.pool_length in
      let fits = h.fits q hq in
      let p = base + head_of a q in
      let b : List ℕ → Fields = λ heads.
      record { pool = set a.pool p x; bases = a.bases; lengths = a.lengths; heads = heads; counts = set a.counts q 1 } in
      let zero_is : wrap size (head_of a q + 0) ≡ head_of a q =
      wrap-less size (head_of a q + 0) (omega (arith, head)) ∙ omega arith in
      let first : get_or (set a.pool p x) (base + wrap size (head_of a q + 0)) 0 ≡ x =
      ap (λ (i : ℕ). get_or (set a.pool p x) (base + i) 0) zero_is
      ∙ get_or-set_same a.pool p x 0 (omega (arith, pool, fits, head)) in
      let made : Becomes (b (set a.heads q (head_of a q))) s q (x ∷ []) =
      becomes (b (set a.heads q (head_of a q))) q (λ xs. x ∷ []) hq
      (written_is h q p x (head_of a q) 1 hq (omega arith) (omega (arith, head)) head (omega (arith, some)))
      (written_queues h q p x (head_of a q) 1 hq (omega arith) (omega (arith, head))
      head (omega (arith, some)) (x ∷ []) (ap (λ (y : ℕ). y ∷ []) first)) in
      subst (λ (heads : List ℕ). Becomes (b heads) s q (x ∷ [])) (set-own a.heads q 0) made

-- a pool that is the same as far as the last region ends holds the same queues
pub same_front : {a : Fields} → IsItems a → (pool : List ℕ)
    → ((i : ℕ) → i < base_of a last_place + size_of a last_place → get_or pool i 0 ≡ get_or a.pool i 0)
    → objects_of (record { pool = pool; bases = a.bases; lengths = a.lengths; heads = a.heads; counts = a.counts }) ≡ objects_of a
unfolding objects_of
same_front {a} h pool same =
    let b : Fields = record { pool = pool; bases = a.bases; lengths = a.lengths; heads = a.heads; counts = a.counts } in
    listed-same (object_of b) (object_of a) object_places
    (λ q hq. ap (λ (xs : List ℕ). record no_object { size = size_of a q; items = xs })
    (listed-same (λ k. get_or pool (place a q k) 0) (λ k. get_or a.pool (place a q k) 0) (count_of a q) (λ k hk.
    let few = h.few q hq in
    let lies = (place-in h q k hq (omega (arith, hk, few))).1 in
    same (place a q k) (elim (cases_lt q last_place) [
      | inl less ↦ let far = h.apart q last_place less (omega arith) in omega (arith, far, lies)
      | inr last ↦
          let is : q ≡ last_place = omega (arith, last, hq) in
          subst (λ (r : ℕ). place a q k < base_of a r + size_of a r) is lies
    ]))))

-- a pool whose front is copied
pub copied : {a : Fields} → IsItems a → (front back : List ℕ) → front ≡ take (base_of a last_place + size_of a last_place) a.pool
    → objects_of (record { pool = front ++ back; bases = a.bases; lengths = a.lengths; heads = a.heads; counts = a.counts })
    ≡ objects_of a
copied {a} h front back e =
    let used = base_of a last_place + size_of a last_place in
    let fits = h.fits last_place (omega arith) in
    let pool = h.pool_length in
    let len : length front ≡ used = ap length e ∙ length-take used a.pool ∙ omega (arith, fits, pool) in
    same_front h (front ++ back) (λ i hi.
    get_or_append_left front back 0 i (omega (arith, len, hi))
    ∙ ap (λ (xs : List ℕ). get_or xs i 0) e ∙ get_or-take used a.pool i 0 hi)

-- ---- a storage without what comes after its last region

-- It is the front of the storage's pool, and holds the same queues.
module _ {a : Fields} (h : IsItems a) (front : List ℕ) (e : front ≡ take (base_of a last_place + size_of a last_place) a.pool) where
  pub front_is : IsFront (with_pool front a)
  front_is =
      let used = base_of a last_place + size_of a last_place in
      let fits = h.fits last_place (omega arith) in
      let pool = h.pool_length in
      record {
        back = drop used a.pool;
        storage =
            subst (λ (pool : List ℕ). IsItems (with_pool pool a))
            (sym (take-append-drop used a.pool) ∙ ap (λ (xs : List ℕ). xs ++ drop used a.pool) (sym e)) h;
        front = ap length e ∙ length-take used a.pool ∙ omega (arith, fits, pool);
      }

  pub front_holds : objects_of (with_pool front a) ≡ objects_of a
  front_holds = ap (λ (pool : List ℕ). objects_of (with_pool pool a)) (sym (append-nil front)) ∙ copied h front [] e

-- Whatever comes after it, it holds the same queues.
module _ {a : Fields} (h : IsFront a) (back : List ℕ) where
  refilled_front : a.pool ≡ take (base_of a last_place + size_of a last_place) (a.pool ++ h.back)
  refilled_front = sym (ap (λ (n : ℕ). take n (a.pool ++ h.back)) (sym h.front) ∙ take-append_seam a.pool h.back)

  pub refilled : objects_of (with_pool (a.pool ++ back) a) ≡ objects_of a
  refilled =
      copied h.storage a.pool back refilled_front ∙ sym (copied h.storage a.pool [] refilled_front)
      ∙ ap (λ (pool : List ℕ). objects_of (with_pool pool a)) (append-nil a.pool)
