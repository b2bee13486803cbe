-- Who holds how many mutexes, when one is locked or freed.
use Rattle.std.proofs.Common.{◌≡◌, ◌≢◌, ℕ, zero, suc, ◌+◌, ◌-◌, ◌<◌, ◌≤◌, inl, inr, cond, Option, Some, None, List, [], ◌∷◌, get_or}
use Rattle.std.proofs.Common.{set, length, map, replicate, sym, ◌∙◌, ap, ap₂, subst, refl, arith}
use Rattle.std.proofs.lemmas.Bool.{cases_eq}
use Rattle.std.proofs.lemmas.List.{get_or-replicate, get_or-set_same, get_or-set_other, length-set, map-set}
use Rattle.model.specs.Switching.{is_same}
use Rattle.model.proofs.Sorting.{by_test}
use Rattle.model.proofs.Lists.{eqb-apart, eqb-refl}
use Rattle.objects.specs.Places.{object_places}
use Rattle.objects.specs.Mutexes.{AreMutexes, count_held, holder_in, named_by}

-- 1 if this task is the holder
abbrev one_of : ℕ → Option ℕ → ℕ
one_of task holder = cond (is_same holder (Some task)) 1 0

-- another holder of one object
count_put : (task : ℕ) (holders : List (Option ℕ)) (o : ℕ) (holder : Option ℕ) → o < length holders
    → count_held task (set holders o holder) + one_of task (holder_in holders o) ≡ count_held task holders + one_of task holder
count_put task [] o holder l = absurd (omega (arith, l))
count_put task (x ∷ holders) zero holder l = by_test (is_same x (Some task))
    (λ t. rw t (by_test (is_same holder (Some task)) (λ u. rw u refl) (λ u. rw u (omega arith))))
    (λ t. rw t (by_test (is_same holder (Some task)) (λ u. rw u (omega arith)) (λ u. rw u refl)))
count_put task (x ∷ holders) (suc o) holder l =
    let rest = count_put task holders o holder (omega (arith, l)) in
    by_test (is_same x (Some task))
    (λ t. rw t (omega (arith, rest)))
    (λ t. rw t rest)

count_most : (task : ℕ) (holders : List (Option ℕ)) → count_held task holders ≤ length holders
count_most task [] = omega arith
count_most task (x ∷ holders) =
    let rest = count_most task holders in
    by_test (is_same x (Some task)) (λ t. rw t (omega (arith, rest))) (λ t. rw t (omega (arith, rest)))

none_held : (task n : ℕ) → count_held task (replicate n None) ≡ 0
none_held task zero = refl
none_held task (suc n) = none_held task n

pub free_at_first : AreMutexes (replicate object_places None) (let none : ℕ = 0 in replicate 32 none)
free_at_first = record {
  as_many = refl;
  for_all = refl;
  counted = λ task l. get_or-replicate 32 task 0 0 l ∙ sym (none_held task object_places);
}

-- another byte names another holder
pub named_put : (bytes : List ℕ) (o byte : ℕ) {holders : List (Option ℕ)} {holder : Option ℕ} → map named_by bytes ≡ holders
    → named_by byte ≡ holder → map named_by (set bytes o byte) ≡ set holders o holder
named_put bytes o byte name names =
    map-set named_by bytes o byte ∙ ap₂ (λ (hs : List (Option ℕ)) (h : Option ℕ). set hs o h) name names

-- A holder of one more, and of one less: the counts of the others stay.
module _ (holders : List (Option ℕ)) (held : List ℕ) (h : AreMutexes holders held) (o : ℕ) (known : o < object_places) where
  there : o < length holders
  there = let n = h.as_many in omega (arith, n, known)

  pub few_held : (task : ℕ) → task < 32 → get_or held task 0 ≤ object_places
  few_held task l =
      let n = h.as_many in
      let most = count_most task holders in
      let is = h.counted task l in
      omega (arith, n, most, is)

  pub one_held : (task : ℕ) → task < 32 → holder_in holders o ≡ Some task → 1 ≤ get_or held task 0
  one_held task l own =
      let put = count_put task holders o None there in
      let here : one_of task (holder_in holders o) ≡ 1 = ap (one_of task) own ∙ rw (eqb-refl task) refl in
      let gone : one_of task None ≡ 0 = refl in
      let is = h.counted task l in
      omega (arith, put, here, gone, is)

  counts_put : (holder : Option ℕ) (task n : ℕ) → task < 32
      → n + one_of task (holder_in holders o) ≡ get_or held task 0 + one_of task holder
      → ((other : ℕ) → other ≢ task → one_of other (holder_in holders o) ≡ one_of other holder)
      → AreMutexes (set holders o holder) (set held task n)
  counts_put holder task n l own others = record {
    as_many = length-set holders o holder ∙ h.as_many;
    for_all = length-set held task n ∙ h.for_all;
    counted = λ i m. elim (cases_eq i task) [
      | inl same ↦
          let put = count_put task holders o holder there in
          let is = h.counted task l in
          let here : n ≡ count_held task (set holders o holder) = omega (arith, put, is, own) in
          subst (λ (k : ℕ). get_or (set held task n) k 0 ≡ count_held k (set holders o holder)) (sym same)
          (get_or-set_same held task n 0 (let all = h.for_all in omega (arith, all, l)) ∙ here)
      | inr other ↦
          let put = count_put i holders o holder there in
          let alike = others i other in
          let here : count_held i holders ≡ count_held i (set holders o holder) = omega (arith, put, alike) in
          get_or-set_other held task i n 0 other ∙ h.counted i m ∙ here
    ];
  }

  pub mutex_locked : (task : ℕ) → task < 32 → holder_in holders o ≡ None
      → AreMutexes (set holders o (Some task)) (set held task (get_or held task 0 + 1))
  mutex_locked task l free =
      let here : one_of task (holder_in holders o) ≡ 0 = ap (one_of task) free in
      let own : one_of task (Some task) ≡ 1 = rw (eqb-refl task) refl in
      counts_put (Some task) task (get_or held task 0 + 1) l (omega (arith, here, own)) (λ i ne.
      let e = eqb-apart task i (λ q. ne (sym q)) in ap (one_of i) free ∙ rw e refl)

  pub mutex_freed : (task : ℕ) → task < 32 → holder_in holders o ≡ Some task
      → AreMutexes (set holders o None) (set held task (get_or held task 0 - 1))
  mutex_freed task l own =
      let here : one_of task (holder_in holders o) ≡ 1 = ap (one_of task) own ∙ rw (eqb-refl task) refl in
      let gone : one_of task None ≡ 0 = refl in
      let some = one_held task l own in
      counts_put None task (get_or held task 0 - 1) l (omega (arith, here, gone, some)) (λ i ne.
      let e = eqb-apart task i (λ q. ne (sym q)) in ap (one_of i) own ∙ rw e refl)
