-- A sleeper comes into one of the two lists, or leaves them.
use Rattle.std.proofs.Common.{◌≡◌, ◌≢◌, ℕ, ◌<◌, ◌≤◌, ◌+◌, ◌^◌, inl, inr, Bool, false, Option, Some, None, List, [], ◌∷◌, ◌++◌}
use Rattle.std.proofs.Common.{length, map, set, sym, ◌∙◌, ap, ap₂, subst, arith, refl}
use Rattle.std.specs.Option.{is_some}
use Rattle.std.proofs.lemmas.Bool.{cases_eq, cases_lt}
use Rattle.lists.specs.Lists.{Each, IsSorted, IsSound, entries_of, has_node, insert_sorted, place_of, without}
use Rattle.lists.proofs.Entries.{Each-imp, Each-insert_sorted, Each-without, IsSorted-insert_sorted, IsSorted-without}
use Rattle.lists.proofs.Entries.{apart_from_test, has_node-append, has_node-left, has_node-other, has_node-same, has_or_not}
use Rattle.lists.proofs.Entries.{insert_sorted-after, insert_sorted-before, insert_sorted-left, insert_sorted-right, without-append}
use Rattle.lists.proofs.Entries.{without-other, without-same}
use Rattle.lists.proofs.Laws.{entries_of-set_other, entries_of-set_same, entries_of-without, place_of-None}
use Rattle.clock.specs.Timeline.{IsClock, count_from, delayed_list_of}

-- entries whose ticks are counted from a base

pub Each-count_from : (P : ℕ × ℕ → Type 0) (b : ℕ) (xs : List (ℕ × ℕ)) → Each (λ e. P (e.0, b + e.1)) xs → Each P (count_from b xs)
Each-count_from P b [] h = tt
Each-count_from P b (x ∷ xs) h = (h.0, Each-count_from P b xs h.1)

has_node-count_from : (n b : ℕ) (xs : List (ℕ × ℕ)) → has_node n (count_from b xs) ≡ has_node n xs
has_node-count_from n b [] = refl
has_node-count_from n b (x ∷ xs) = elim (cases_eq x.0 n) [
  | inl same ↦ has_node-same n (x.0, b + x.1) (count_from b xs) same ∙ sym (has_node-same n x xs same)
  | inr other ↦
      has_node-other n (x.0, b + x.1) (count_from b xs) other ∙ has_node-count_from n b xs ∙ sym (has_node-other n x xs other)
]

without-count_from : (n b : ℕ) (xs : List (ℕ × ℕ)) → without n (count_from b xs) ≡ count_from b (without n xs)
without-count_from n b [] = refl
without-count_from n b (x ∷ xs) = elim (cases_eq x.0 n) [
  | inl same ↦
      without-same n (x.0, b + x.1) (count_from b xs) same ∙ without-count_from n b xs
      ∙ ap (count_from b) (sym (without-same n x xs same))
  | inr other ↦
      without-other n (x.0, b + x.1) (count_from b xs) other
      ∙ ap (λ (ys : List (ℕ × ℕ)). (x.0, b + x.1) ∷ ys) (without-count_from n b xs)
      ∙ ap (count_from b) (sym (without-other n x xs other))
]

insert_sorted-count_from : (b n w : ℕ) (xs : List (ℕ × ℕ))
    → count_from b (insert_sorted (n, w) xs) ≡ insert_sorted (n, b + w) (count_from b xs)
insert_sorted-count_from b n w [] = refl
insert_sorted-count_from b n w (x ∷ xs) = elim (cases_lt w x.1) [
  | inl less ↦
      ap (count_from b) (insert_sorted-before n w x xs less)
      ∙ sym (insert_sorted-before n (b + w) (x.0, b + x.1) (count_from b xs) (omega (arith, less)))
  | inr more ↦
      ap (count_from b) (insert_sorted-after n w x xs more)
      ∙ ap (λ (ys : List (ℕ × ℕ)). (x.0, b + x.1) ∷ ys) (insert_sorted-count_from b n w xs)
      ∙ sym (insert_sorted-after n (b + w) (x.0, b + x.1) (count_from b xs) (omega (arith, more)))
]

module _ {ls : List (List (ℕ × ℕ))} {age base tick current overflow : ℕ} (h : IsClock ls age base tick current overflow) where
  in_either : (P : ℕ → Type 0) → P current → P overflow → (l : ℕ) → l < length ls → P l
  in_either P here there l below =
      let a = h.sound.as_many in
      let b = h.current_known in
      let c = h.overflow_known in
      let d = h.differ in
      elim (cases_eq l current) [
        | inl same ↦ subst P (sym same) here
        | inr other ↦
            let is : l ≡ overflow = omega (arith, a, b, c, d, other, below) in
            subst P (sym is) there
      ]

  -- a task that is_asleep has a place, and no other has
  pub asleep_is : (n : ℕ) → is_some (place_of ls n) ≡ has_node n (delayed_list_of ls base current overflow)
  asleep_is n =
      let here = has_node-count_from n base (entries_of ls current) in
      let there = has_node-count_from n (base + 2 ^ 32) (entries_of ls overflow) in
      elim (has_or_not n (entries_of ls current)) [
        | inl has ↦
            ap is_some (h.sound.one_place n current has)
            ∙ sym (has_node-left n (count_from base (entries_of ls current))
            (count_from (base + 2 ^ 32) (entries_of ls overflow)) (here ∙ has))
        | inr none ↦
            let skip =
            has_node-append n (count_from base (entries_of ls current))
            (count_from (base + 2 ^ 32) (entries_of ls overflow)) (here ∙ none) in
            elim (has_or_not n (entries_of ls overflow)) [
              | inl has ↦ ap is_some (h.sound.one_place n overflow has) ∙ sym (skip ∙ there ∙ has)
              | inr out ↦
                  let nowhere : place_of ls n ≡ None =
                  place_of-None n ls (in_either (λ l. Each (λ e. Some n ≢ Some e.0) (entries_of ls l))
                  (apart_from_test n (entries_of ls current) none) (apart_from_test n (entries_of ls overflow) out)) in
                  ap is_some nowhere ∙ sym (skip ∙ there ∙ out)
            ]
      ]

  none_of : (o : Option ℕ) (b : Bool) → is_some o ≡ b → b ≡ false → o ≡ None
  none_of None b e f = refl
  none_of (Some l) b e f = absurd cc

  pub no_place : (n : ℕ) → has_node n (delayed_list_of ls base current overflow) ≡ false → place_of ls n ≡ None
  no_place n awake = none_of (place_of ls n) (has_node n (delayed_list_of ls base current overflow)) (asleep_is n) awake

  -- a wake time of this turn goes into the current list
  pub into_current : (n w : ℕ) → tick < w → w < 2 ^ 32
      → IsSound 2 32 (set ls current (insert_sorted (n, w) (entries_of ls current)))
      → IsClock (set ls current (insert_sorted (n, w) (entries_of ls current))) age base tick current overflow
  into_current n w later fits sound =
      let new = insert_sorted (n, w) (entries_of ls current) in
      let here = entries_of-set_same ls current new (subst (λ (k : ℕ). current < k) (sym h.sound.as_many) h.current_known) in
      let there = entries_of-set_other ls current overflow new (λ e. h.differ (sym e)) in
      record {
        sound = sound;
        current_known = h.current_known;
        overflow_known = h.overflow_known;
        differ = h.differ;
        young = h.young;
        countable = h.countable;
        ahead =
            subst (Each (λ e. tick < e.1)) (sym here)
            (Each-insert_sorted (λ e. tick < e.1) n w (entries_of ls current) later h.ahead);
        fits =
            subst (Each (λ e. e.1 < 2 ^ 32)) (sym here)
            (Each-insert_sorted (λ e. e.1 < 2 ^ 32) n w (entries_of ls current) fits h.fits);
        overflow_fits = subst (Each (λ e. e.1 < 2 ^ 32)) (sym there) h.overflow_fits;
        near = subst (Each (λ e. e.1 < tick)) (sym there) h.near;
        sorted = subst IsSorted (sym here) (IsSorted-insert_sorted n w (entries_of ls current) h.sorted);
        overflow_sorted = subst IsSorted (sym there) h.overflow_sorted;
      }

  -- and one of the next turn into the overflow list
  pub into_overflow : (n w : ℕ) → w < 2 ^ 32 → w < tick
      → IsSound 2 32 (set ls overflow (insert_sorted (n, w) (entries_of ls overflow)))
      → IsClock (set ls overflow (insert_sorted (n, w) (entries_of ls overflow))) age base tick current overflow
  into_overflow n w fits soon sound =
      let new = insert_sorted (n, w) (entries_of ls overflow) in
      let here = entries_of-set_same ls overflow new (subst (λ (k : ℕ). overflow < k) (sym h.sound.as_many) h.overflow_known) in
      let there = entries_of-set_other ls overflow current new h.differ in
      record {
        sound = sound;
        current_known = h.current_known;
        overflow_known = h.overflow_known;
        differ = h.differ;
        young = h.young;
        countable = h.countable;
        ahead = subst (Each (λ e. tick < e.1)) (sym there) h.ahead;
        fits = subst (Each (λ e. e.1 < 2 ^ 32)) (sym there) h.fits;
        overflow_fits =
            subst (Each (λ e. e.1 < 2 ^ 32)) (sym here)
            (Each-insert_sorted (λ e. e.1 < 2 ^ 32) n w (entries_of ls overflow) fits h.overflow_fits);
        near =
            subst (Each (λ e. e.1 < tick)) (sym here)
            (Each-insert_sorted (λ e. e.1 < tick) n w (entries_of ls overflow) soon h.near);
        sorted = subst IsSorted (sym there) h.sorted;
        overflow_sorted = subst IsSorted (sym here) (IsSorted-insert_sorted n w (entries_of ls overflow) h.overflow_sorted);
      }

  -- either way the sleepers gain one at its wake time
  pub delayed-current : (n w : ℕ) → w < 2 ^ 32
      → delayed_list_of (set ls current (insert_sorted (n, w) (entries_of ls current))) base current overflow
      ≡ insert_sorted (n, base + w) (delayed_list_of ls base current overflow)
  delayed-current n w fits =
      let new = insert_sorted (n, w) (entries_of ls current) in
      let here = entries_of-set_same ls current new (subst (λ (k : ℕ). current < k) (sym h.sound.as_many) h.current_known) in
      let there = entries_of-set_other ls current overflow new (λ e. h.differ (sym e)) in
      let later : Each (λ e. base + w < e.1) (count_from (base + 2 ^ 32) (entries_of ls overflow)) =
      Each-count_from (λ e. base + w < e.1) (base + 2 ^ 32) (entries_of ls overflow)
      (Each-imp (λ e. e.1 < 2 ^ 32) (λ e. base + w < base + 2 ^ 32 + e.1)
      (entries_of ls overflow) (λ e lt. omega (arith, fits)) h.overflow_fits) in
      ap₂ (λ (xs ys : List (ℕ × ℕ)). count_from base xs ++ count_from (base + 2 ^ 32) ys) here there
      ∙ ap (λ (xs : List (ℕ × ℕ)). xs ++ count_from (base + 2 ^ 32) (entries_of ls overflow))
      (insert_sorted-count_from base n w (entries_of ls current))
      ∙ sym (insert_sorted-left n (base + w) (count_from base (entries_of ls current))
      (count_from (base + 2 ^ 32) (entries_of ls overflow)) later)

  pub delayed-overflow : (n w : ℕ)
      → delayed_list_of (set ls overflow (insert_sorted (n, w) (entries_of ls overflow))) base current overflow
      ≡ insert_sorted (n, base + 2 ^ 32 + w) (delayed_list_of ls base current overflow)
  delayed-overflow n w =
      let new = insert_sorted (n, w) (entries_of ls overflow) in
      let here = entries_of-set_same ls overflow new (subst (λ (k : ℕ). overflow < k) (sym h.sound.as_many) h.overflow_known) in
      let there = entries_of-set_other ls overflow current new h.differ in
      let earlier : Each (λ e. e.1 ≤ base + 2 ^ 32 + w) (count_from base (entries_of ls current)) =
      Each-count_from (λ e. e.1 ≤ base + 2 ^ 32 + w) base (entries_of ls current)
      (Each-imp (λ e. e.1 < 2 ^ 32) (λ e. base + e.1 ≤ base + 2 ^ 32 + w)
      (entries_of ls current) (λ e lt. omega (arith, lt)) h.fits) in
      ap₂ (λ (xs ys : List (ℕ × ℕ)). count_from base xs ++ count_from (base + 2 ^ 32) ys) there here
      ∙ ap (λ (xs : List (ℕ × ℕ)). count_from base (entries_of ls current) ++ xs)
      (insert_sorted-count_from (base + 2 ^ 32) n w (entries_of ls overflow))
      ∙ sym (insert_sorted-right n (base + 2 ^ 32 + w) (count_from base (entries_of ls current))
      (count_from (base + 2 ^ 32) (entries_of ls overflow)) earlier)

  -- a task that is woken leaves both lists
  pub out_of_lists : (n : ℕ) → IsSound 2 32 (map (without n) ls) → IsClock (map (without n) ls) age base tick current overflow
  out_of_lists n sound =
      let here = entries_of-without n current ls in
      let there = entries_of-without n overflow ls in
      record {
        sound = sound;
        current_known = h.current_known;
        overflow_known = h.overflow_known;
        differ = h.differ;
        young = h.young;
        countable = h.countable;
        ahead = subst (Each (λ e. tick < e.1)) (sym here) (Each-without (λ e. tick < e.1) n (entries_of ls current) h.ahead);
        fits = subst (Each (λ e. e.1 < 2 ^ 32)) (sym here) (Each-without (λ e. e.1 < 2 ^ 32) n (entries_of ls current) h.fits);
        overflow_fits =
            subst (Each (λ e. e.1 < 2 ^ 32)) (sym there)
            (Each-without (λ e. e.1 < 2 ^ 32) n (entries_of ls overflow) h.overflow_fits);
        near = subst (Each (λ e. e.1 < tick)) (sym there) (Each-without (λ e. e.1 < tick) n (entries_of ls overflow) h.near);
        sorted = subst IsSorted (sym here) (IsSorted-without n (entries_of ls current) h.sorted);
        overflow_sorted = subst IsSorted (sym there) (IsSorted-without n (entries_of ls overflow) h.overflow_sorted);
      }

-- the sleepers without one that is woken
pub delayed-without : (n base current overflow : ℕ) (ls : List (List (ℕ × ℕ)))
    → delayed_list_of (map (without n) ls) base current overflow ≡ without n (delayed_list_of ls base current overflow)
delayed-without n base current overflow ls =
    ap₂ (λ (xs ys : List (ℕ × ℕ)). count_from base xs ++ count_from (base + 2 ^ 32) ys)
    (entries_of-without n current ls) (entries_of-without n overflow ls)
    ∙ ap₂ (λ (xs ys : List (ℕ × ℕ)). xs ++ ys) (sym (without-count_from n base (entries_of ls current)))
    (sym (without-count_from n (base + 2 ^ 32) (entries_of ls overflow)))
    ∙ sym (without-append n (count_from base (entries_of ls current)) (count_from (base + 2 ^ 32) (entries_of ls overflow)))
