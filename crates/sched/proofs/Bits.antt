-- The word of bits, one for each list.
use Rattle.std.proofs.Common.{◌≡◌, ◌≢◌, ℕ, zero, suc, ◌-◌, ◌*◌, ◌/◌, ◌%◌, ◌^◌, ◌<◌, ◌≤◌, inl, inr, Option, List, [], ◌∷◌, ◌++◌}
use Rattle.std.proofs.Common.{Some, None, length, map, set, replicate, get_or, sym, ◌∙◌, ap, subst, arith, refl, bit_and, bit_or}
use Rattle.std.specs.Prelude.{nat_lt}
use Rattle.std.specs.Int.{bit_at, bit_not, leading_zeros, w32}
use Rattle.std.proofs.Math.Nat.{div-eq_of_lt-le, one-le-pow, pow-le-pow_right}
use Rattle.std.proofs.lemmas.Bool.{cases_eq, cases_lt, le-ltb, lt-ltb}
use Rattle.std.proofs.lemmas.Nat.{div_below, leading_top, le-div}
use Rattle.std.proofs.lemmas.Nat.Bits.{bit_at-zero, bit_at_above, bit_at_clear_other, bit_at_clear_same, bit_at_set_other}
use Rattle.std.proofs.lemmas.Nat.Bits.{bit_at_set_same}
use Rattle.std.proofs.lemmas.List.{get_or_past}
use Rattle.std.proofs.lemmas.Option.{same_Some}
use Rattle.lists.specs.Lists.{IsSound, entries_of, place_of, rotated, without}
use Rattle.lists.proofs.Entries.{has_or_not, apart_from_test, without-apart}
use Rattle.lists.proofs.Laws.{entries_of-set_other, entries_of-set_same, entries_of-without}
use Rattle.sched.specs.ReadyLists.{AreReadyLists, IsHighest, bit_of, is_below}

-- the place of the highest bit
highest_bit : (n : ℕ) → 0 < n → n < 2 ^ 32
    → (31 - leading_zeros w32 n < 32) × (n / 2 ^ (31 - leading_zeros w32 n) ≡ 1)
    × ((i : ℕ) → 31 - leading_zeros w32 n < i → bit_at n i ≡ 0)
highest_bit n some fits =
    let top = leading_top 32 n some fits in
    let j = top.0 in
    let place : 31 - leading_zeros w32 n ≡ j = omega (arith, top.1) in
    let twice : 2 ^ suc j ≡ 2 * 2 ^ j = omega arith in
    let one : n / 2 ^ j ≡ 1 = div-eq_of_lt-le (2 ^ j) (omega (arith, top.2)) (omega (arith, top.3, twice)) in (
      omega arith,
      ap (λ (i : ℕ). n / 2 ^ i) place ∙ one,
      λ i above. bit_at_above n (suc j) i top.3 (omega (arith, place, above)),
    )

bit_of-empty : (xs : List (ℕ × ℕ)) → bit_of xs ≡ 0 → xs ≡ []
bit_of-empty [] e = refl
bit_of-empty (x ∷ xs) e = absurd (omega (arith, e))

bit_of-last : (xs : List (ℕ × ℕ)) (e : ℕ × ℕ) → bit_of (xs ++ e ∷ []) ≡ 1
bit_of-last [] e = refl
bit_of-last (x ∷ xs) e = refl

no_one : (b c : ℕ) → b ≡ 1 → c ≡ 0 → b ≡ c → ⊥
no_one b c one none same = omega (arith, one, none, same)

past_empty : {lists : List (List (ℕ × ℕ))} {occupied : ℕ}
    → AreReadyLists lists occupied → (p : ℕ) → 32 ≤ p → entries_of lists p ≡ []
past_empty {lists} {occupied} h p past = get_or_past lists p [] (let many = h.sound.as_many in omega (arith, many, past))

pub highest_is : {lists : List (List (ℕ × ℕ))} {occupied : ℕ} → AreReadyLists lists occupied
    → occupied ≢ 0 → occupied < 2 ^ 32 → IsHighest lists (Some (31 - leading_zeros w32 occupied))
highest_is {lists} {occupied} h some fits =
    let top = highest_bit occupied (omega (arith, some)) fits in
    let p = 31 - leading_zeros w32 occupied in (
      top.0,
      λ e. no_one (bit_at occupied p) (bit_of (entries_of lists p)) (ap (λ (q : ℕ). q % 2) top.1) (ap bit_of e) (h.bits p top.0),
      λ q above. elim (cases_lt q 32) [
        | inl below ↦ bit_of-empty (entries_of lists q) (sym (h.bits q below) ∙ top.2 q above)
        | inr past ↦ past_empty h q past
      ],
    )

-- a list is the highest if no bit above its own is set
only_bit : (n p : ℕ) → n / 2 ^ p ≡ 1 → n < 2 ^ suc p
only_bit n p one =
    let twice : 2 ^ suc p ≡ 2 * 2 ^ p = omega arith in
    elim (cases_lt n (2 * 2 ^ p)) [
      | inl less ↦ omega (arith, less, twice)
      | inr more ↦ absurd (let two : 2 ≤ n / 2 ^ p = le-div 2 n (2 ^ p) (omega arith) more in omega (arith, two, one))
    ]

pub highest_by_bit : {lists : List (List (ℕ × ℕ))} {occupied : ℕ} → AreReadyLists lists occupied
    → (p : ℕ) → p < 32 → occupied / 2 ^ p ≡ 1 → IsHighest lists (Some p)
highest_by_bit {lists} {occupied} h p known one = (
  known,
  λ e. no_one (bit_at occupied p) (bit_of (entries_of lists p)) (ap (λ (q : ℕ). q % 2) one) (ap bit_of e) (h.bits p known),
  λ q above. elim (cases_lt q 32) [
    | inl below ↦
        bit_of-empty (entries_of lists q)
        (sym (h.bits q below) ∙ bit_at_above occupied (suc p) q (only_bit occupied p one) (omega (arith, above)))
    | inr past ↦ past_empty h q past
  ],
)

bit_of-some : (xs : List (ℕ × ℕ)) → xs ≢ [] → bit_of xs ≡ 1
bit_of-some [] some = absurd (some refl)
bit_of-some (x ∷ xs) some = refl

pub bit_of_highest : {lists : List (List (ℕ × ℕ))} {occupied : ℕ} → AreReadyLists lists occupied
    → occupied < 2 ^ 32 → (p : ℕ) → IsHighest lists (Some p) → occupied / 2 ^ p ≡ 1
bit_of_highest {lists} {occupied} h fits p highest =
    let here : bit_at occupied p ≡ 1 = h.bits p highest.0 ∙ bit_of-some (entries_of lists p) highest.1 in
    let some : 0 < occupied = elim (cases_eq occupied 0) [
      | inl none ↦ absurd (no_one (bit_at occupied p) (bit_at 0 p) here (bit_at-zero p) (ap (λ (n : ℕ). bit_at n p) none))
      | inr other ↦ omega (arith, other)
    ] in
    let top = highest_bit occupied some fits in
    let j = 31 - leading_zeros w32 occupied in
    elim (cases_eq p j) [
      | inl same ↦ ap (λ (i : ℕ). occupied / 2 ^ i) same ∙ top.1
      | inr other ↦ elim (cases_lt p j) [
        | inl less ↦
            absurd (no_one (bit_at occupied j) (bit_of (entries_of lists j))
            (ap (λ (q : ℕ). q % 2) top.1) (ap bit_of (highest.2 j less)) (h.bits j top.0))
        | inr more ↦ absurd (no_one (bit_at occupied p) (bit_at occupied p) here (top.2 p (omega (arith, more, other))) refl)
      ]
    ]

none_by_bits : {lists : List (List (ℕ × ℕ))} {occupied : ℕ} → AreReadyLists lists occupied → occupied ≡ 0 → IsHighest lists None
none_by_bits {lists} {occupied} h none = λ p. elim (cases_lt p 32) [
  | inl below ↦ bit_of-empty (entries_of lists p) (sym (h.bits p below) ∙ ap (λ (n : ℕ). bit_at n p) none ∙ bit_at-zero p)
  | inr past ↦ past_empty h p past
]

-- whether a bit above one is set
above_highest : (n p j : ℕ) → n / 2 ^ j ≡ 1 → nat_lt 1 (n / 2 ^ p) ≡ nat_lt p j
above_highest n p j one =
    let here : 0 < 2 ^ p = one-le-pow p 2 (omega arith) in
    let there : 0 < 2 ^ j = one-le-pow j 2 (omega arith) in
    let twice : 2 ^ suc p ≡ 2 * 2 ^ p = omega arith in
    let below : n < 2 ^ suc j = only_bit n j one in
    let from : 2 ^ j ≤ n = elim (cases_lt n (1 * 2 ^ j)) [
      | inl less ↦ absurd (let none : n / 2 ^ j < 1 = div_below n (2 ^ j) 1 there less in omega (arith, none, one))
      | inr more ↦ omega (arith, more)
    ] in
    elim (cases_lt p j) [
      | inl less ↦
          let power : 2 ^ suc p ≤ 2 ^ j = pow-le-pow_right {n = 2} (omega arith) {i = suc p} {j = j} (omega (arith, less)) in
          let two : 2 ≤ n / 2 ^ p = le-div 2 n (2 ^ p) here (omega (arith, from, power, twice)) in
          lt-ltb 1 (n / 2 ^ p) (omega (arith, two)) ∙ sym (lt-ltb p j less)
      | inr more ↦
          let power : 2 ^ suc j ≤ 2 ^ suc p =
          pow-le-pow_right {n = 2} (omega arith) {i = suc j} {j = suc p} (omega (arith, more)) in
          let one_at_most : n / 2 ^ p < 2 = div_below n (2 ^ p) 2 here (omega (arith, below, power, twice)) in
          le-ltb 1 (n / 2 ^ p) (omega (arith, one_at_most)) ∙ sym (le-ltb p j more)
    ]

-- whether a list above one is not empty, by the bits above its own
pub above_by_bits : {lists : List (List (ℕ × ℕ))} {occupied : ℕ} → AreReadyLists lists occupied → occupied < 2 ^ 32
    → (p : ℕ) → (top : Option ℕ) × IsHighest lists top × (nat_lt 1 (occupied / 2 ^ p) ≡ is_below p top)
above_by_bits {lists} {occupied} h fits p = elim (cases_eq occupied 0) [
  | inl none ↦
      let some : 0 < 2 ^ p = one-le-pow p 2 (omega arith) in
      let nothing : 0 / 2 ^ p < 1 = div_below 0 (2 ^ p) 1 some (omega (arith, some)) in
      (None, none_by_bits h none, ap (λ (n : ℕ). nat_lt 1 (n / 2 ^ p)) none ∙ le-ltb 1 (0 / 2 ^ p) (omega (arith, nothing)))
  | inr other ↦
      let top = highest_bit occupied (omega (arith, other)) fits in (
        Some (31 - leading_zeros w32 occupied),
        highest_is h other fits,
        above_highest occupied p (31 - leading_zeros w32 occupied) top.1,
      )
]

-- a task goes into a list
pub bit_set : {lists : List (List (ℕ × ℕ))} {occupied : ℕ} → AreReadyLists lists occupied
    → (list : ℕ) (e : ℕ × ℕ) → list < 32 → IsSound 32 32 (set lists list (entries_of lists list ++ e ∷ []))
    → AreReadyLists (set lists list (entries_of lists list ++ e ∷ [])) (bit_or occupied (1 * 2 ^ list % 2 ^ 32))
bit_set {lists} {occupied} h list e known sound =
    let new = entries_of lists list ++ e ∷ [] in
    let below : list < length lists = let many = h.sound.as_many in omega (arith, many, known) in
    record {
      sound = sound;
      bits = λ p hp. elim (cases_eq p list) [
        | inl same ↦
            ap (bit_at (bit_or occupied (1 * 2 ^ list % 2 ^ 32))) same ∙ bit_at_set_same w32 occupied list known
            ∙ sym (ap (λ (q : ℕ). bit_of (entries_of (set lists list new) q)) same
            ∙ ap bit_of (entries_of-set_same lists list new below) ∙ bit_of-last (entries_of lists list) e)
        | inr other ↦
            bit_at_set_other w32 occupied list known p other ∙ h.bits p hp
            ∙ sym (ap bit_of (entries_of-set_other lists list p new other))
      ];
    }

-- the first task of a list goes last
bit_of-rotated : (xs : List (ℕ × ℕ)) → bit_of (rotated xs) ≡ bit_of xs
bit_of-rotated [] = refl
bit_of-rotated (x ∷ xs) = bit_of-last xs x

pub bit_rotated : {lists : List (List (ℕ × ℕ))} {occupied : ℕ} → AreReadyLists lists occupied
    → (list : ℕ) → list < 32 → IsSound 32 32 (set lists list (rotated (entries_of lists list)))
    → AreReadyLists (set lists list (rotated (entries_of lists list))) occupied
bit_rotated {lists} {occupied} h list known sound =
    let new = rotated (entries_of lists list) in
    let below : list < length lists = let many = h.sound.as_many in omega (arith, many, known) in
    record {
      sound = sound;
      bits = λ p hp. elim (cases_eq p list) [
        | inl same ↦
            h.bits p hp ∙ ap (λ (q : ℕ). bit_of (entries_of lists q)) same ∙ sym (bit_of-rotated (entries_of lists list))
            ∙ sym (ap (λ (q : ℕ). bit_of (entries_of (set lists list new) q)) same
            ∙ ap bit_of (entries_of-set_same lists list new below))
        | inr other ↦ h.bits p hp ∙ sym (ap bit_of (entries_of-set_other lists list p new other))
      ];
    }

-- a task leaves a list
left_other : {lists : List (List (ℕ × ℕ))} → IsSound 32 32 lists → (task list p : ℕ)
    → place_of lists task ≡ Some list → p ≢ list → entries_of (map (without task) lists) p ≡ entries_of lists p
left_other {lists} sound task list p at other =
    entries_of-without task p lists ∙ elim (has_or_not task (entries_of lists p)) [
      | inl has ↦ absurd (other (same_Some p list (sym (sound.one_place task p has) ∙ at)))
      | inr none ↦ without-apart task (entries_of lists p) (apart_from_test task (entries_of lists p) none)
    ]

pub bit_cleared : {lists : List (List (ℕ × ℕ))} {occupied : ℕ} → AreReadyLists lists occupied → (task list : ℕ) → list < 32
    → place_of lists task ≡ Some list → IsSound 32 32 (map (without task) lists) → entries_of (map (without task) lists) list ≡ []
    → AreReadyLists (map (without task) lists) (bit_and occupied (bit_not w32 (1 * 2 ^ list % 2 ^ 32)))
bit_cleared {lists} {occupied} h task list known at sound empty = record {
  sound = sound;
  bits = λ p hp. elim (cases_eq p list) [
    | inl same ↦
        ap (bit_at (bit_and occupied (bit_not w32 (1 * 2 ^ list % 2 ^ 32)))) same ∙ bit_at_clear_same w32 occupied list known
        ∙ sym (ap (λ (q : ℕ). bit_of (entries_of (map (without task) lists) q)) same ∙ ap bit_of empty)
    | inr other ↦
        bit_at_clear_other w32 occupied list known p hp other ∙ h.bits p hp
        ∙ sym (ap bit_of (left_other h.sound task list p at other))
  ];
}

was_some : (task : ℕ) (xs ys : List (ℕ × ℕ)) → ys ≡ without task xs → ys ≢ [] → xs ≢ []
was_some task [] ys is some = λ e. some is
was_some task (x ∷ xs) ys is some = λ e. cc

pub bit_kept : {lists : List (List (ℕ × ℕ))} {occupied : ℕ} → AreReadyLists lists occupied
    → (task list : ℕ) → place_of lists task ≡ Some list → IsSound 32 32 (map (without task) lists)
    → entries_of (map (without task) lists) list ≢ [] → AreReadyLists (map (without task) lists) occupied
bit_kept {lists} {occupied} h task list at sound some = record {
  sound = sound;
  bits = λ p hp. elim (cases_eq p list) [
    | inl same ↦
        let left : entries_of (map (without task) lists) p ≢ [] =
        subst (λ (q : ℕ). entries_of (map (without task) lists) q ≢ []) (sym same) some in
        h.bits p hp
        ∙ bit_of-some (entries_of lists p)
        (was_some task (entries_of lists p) (entries_of (map (without task) lists) p) (entries_of-without task p lists) left)
        ∙ sym (bit_of-some (entries_of (map (without task) lists) p) left)
    | inr other ↦ h.bits p hp ∙ sym (ap bit_of (left_other h.sound task list p at other))
  ];
}

-- no task in new lists
pub bits_empty : IsSound 32 32 (replicate 32 []) → AreReadyLists (replicate 32 []) 0
bits_empty sound = record {
  sound = sound;
  bits = λ p hp. bit_at-zero p ∙ sym (ap bit_of (none 32 p));
} where
  none : (n p : ℕ) → get_or (replicate n (let xs : List (ℕ × ℕ) = [] in xs)) p [] ≡ []
  none zero p = refl
  none (suc n) zero = refl
  none (suc n) (suc p) = none n p
