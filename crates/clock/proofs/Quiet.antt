-- How long nobody's sleep ends.
use Rattle.std.proofs.Common.{◌≡◌, ℕ, ◌<◌, ◌≤◌, ◌+◌, ◌-◌, ◌^◌, true, Some, None, List, [], ◌∷◌, ◌++◌, sym, ap₂, subst, arith, refl}
use Rattle.std.specs.Prelude.{IsTrue, ◌==◌}
use Rattle.std.proofs.lemmas.Bool.{eq-eqb}
use Rattle.std.proofs.lemmas.Option.{same_Some}
use Rattle.lists.specs.Lists.{Each, IsSorted, entries_of, first_of, has_node, value_of}
use Rattle.lists.proofs.Entries.{Each-imp, Each-append, none-some}
use Rattle.clock.specs.Timeline.{Timeline, Advances, IsClock, count_from, delayed_list_of, timeline_of}
use Rattle.clock.proofs.Advancing.{Turned, clock_after, jumps}
use Rattle.clock.proofs.Sleeping.{Each-count_from}

-- the wake times of a list, whose first sleeper has this one
record FromFirst (tick v : ℕ) (entries : List (ℕ × ℕ)) : Type 0 where
  pub ahead : tick < v
  pub fits : v < 2 ^ 32
  pub all : Each (λ e. v ≤ e.1) entries

from_first : (tick o v : ℕ) (xs : List (ℕ × ℕ)) → Some o ≡ first_of xs → (IsTrue (has_node o xs) → v ≡ value_of o xs)
    → IsSorted xs → Each (λ e. tick < e.1) xs → Each (λ e. e.1 < 2 ^ 32) xs → FromFirst tick v xs
from_first tick o v [] e value sorted ahead fits = absurd (none-some o (sym e))
from_first tick o v (x ∷ xs) e value sorted ahead fits =
    let t : (x.0 == o) ≡ true = eq-eqb x.0 o (sym (same_Some o x.0 e)) in
    let is : v ≡ x.1 = (rw t at value) refl in
    let later = ahead.0 in
    let small = fits.0 in
    record {
      ahead = omega (arith, is, later);
      fits = omega (arith, is, small);
      all = (omega (arith, is), Each-imp (λ e. x.1 ≤ e.1) (λ e. v ≤ e.1) xs (λ e l. omega (arith, is, l)) sorted.0);
    }

none_first : (xs : List (ℕ × ℕ)) → None ≡ first_of xs → xs ≡ []
none_first [] e = refl
none_first (x ∷ xs) e = absurd (none-some x.0 e)

-- no longer than the first one sleeps
until_first : (base tick n o v : ℕ) (xs ys : List (ℕ × ℕ)) → Some o ≡ first_of xs → (IsTrue (has_node o xs) → v ≡ value_of o xs)
    → Each (λ e. base + tick + n < e.1) (count_from base xs ++ ys) → n ≤ v - tick - 1
until_first base tick n o v [] ys e value asleep = absurd (none-some o (sym e))
until_first base tick n o v (x ∷ xs) ys e value asleep =
    let t : (x.0 == o) ≡ true = eq-eqb x.0 o (sym (same_Some o x.0 e)) in
    let is : v ≡ x.1 = (rw t at value) refl in
    let first = asleep.0 in
    omega (arith, is, first)

module _ {ls : List (List (ℕ × ℕ))} {age base tick current overflow : ℕ} (h : IsClock ls age base tick current overflow) where
  asleep_by : (n : ℕ) → tick + n < 2 ^ 32 → Each (λ e. tick + n < e.1) (entries_of ls current)
      → Each (λ e. base + tick + n < e.1) (delayed_list_of ls base current overflow)
  asleep_by n fits here =
      Each-append (λ e. base + tick + n < e.1) (count_from base (entries_of ls current))
      (count_from (base + 2 ^ 32) (entries_of ls overflow))
      (Each-count_from (λ e. base + tick + n < e.1) base (entries_of ls current)
      (Each-imp (λ e. tick + n < e.1) (λ e. base + tick + n < base + e.1) (entries_of ls current) (λ e l. omega (arith, l)) here))
      (Each-count_from (λ e. base + tick + n < e.1) (base + 2 ^ 32) (entries_of ls overflow)
      (Each-imp (λ e. e.1 < 2 ^ 32) (λ e. base + tick + n < base + 2 ^ 32 + e.1)
      (entries_of ls overflow) (λ e l. omega (arith, fits)) h.overflow_fits))

  -- nobody sleeps in this turn
  pub asleep_to_turn : (n : ℕ) → tick + n ≡ 4294967295 → None ≡ first_of (entries_of ls current)
      → Each (λ e. base + tick + n < e.1) (delayed_list_of ls base current overflow)
  asleep_to_turn n last e =
      let none : entries_of ls current ≡ [] = none_first (entries_of ls current) e in
      asleep_by n (omega (arith, last)) (rw none tt)

  -- somebody does
  pub asleep_to_first : (o v : ℕ) → Some o ≡ first_of (entries_of ls current)
      → (IsTrue (has_node o (entries_of ls current)) → v ≡ value_of o (entries_of ls current))
      → Each (λ e. base + tick + (v - tick - 1) < e.1) (delayed_list_of ls base current overflow)
  asleep_to_first o v e value =
      let f = from_first tick o v (entries_of ls current) e value h.sorted h.ahead h.fits in
      let ahead = f.ahead in
      let fits = f.fits in
      asleep_by (v - tick - 1) (omega (arith, ahead, fits)) (Each-imp (λ e. v ≤ e.1)
      (λ e. tick + (v - tick - 1) < e.1) (entries_of ls current) (λ e l. omega (arith, ahead, l)) f.all)

module _ {ls : List (List (ℕ × ℕ))} {age base tick current overflow : ℕ} (h : IsClock ls age base tick current overflow) where
  -- the first who wakes, in this turn
  pub nearest_here : (o v : ℕ) → Some o ≡ first_of (entries_of ls current)
      → (IsTrue (has_node o (entries_of ls current)) → v ≡ value_of o (entries_of ls current))
      → (0 < v - tick) × Each (λ e. base + tick + (v - tick) ≤ e.1) (delayed_list_of ls base current overflow)
  nearest_here o v e value =
      let f = from_first tick o v (entries_of ls current) e value h.sorted h.ahead h.fits in
      let ahead = f.ahead in
      let fits = f.fits in (
        omega (arith, ahead),
        Each-append (λ e. base + tick + (v - tick) ≤ e.1) (count_from base (entries_of ls current))
            (count_from (base + 2 ^ 32) (entries_of ls overflow))
            (Each-count_from (λ e. base + tick + (v - tick) ≤ e.1) base (entries_of ls current)
            (Each-imp (λ e. v ≤ e.1) (λ e. base + tick + (v - tick) ≤ base + e.1)
            (entries_of ls current) (λ e l. omega (arith, ahead, l)) f.all))
            (Each-count_from (λ e. base + tick + (v - tick) ≤ e.1) (base + 2 ^ 32) (entries_of ls overflow)
            (Each-imp (λ e. e.1 < 2 ^ 32) (λ e. base + tick + (v - tick) ≤ base + 2 ^ 32 + e.1)
            (entries_of ls overflow) (λ e l. omega (arith, ahead, fits)) h.overflow_fits)),
      )

  -- or in the next, where nobody does in this one
  pub nearest_next : tick < 2 ^ 32 → None ≡ first_of (entries_of ls current) → (o v : ℕ)
      → Some o ≡ first_of (entries_of ls overflow)
      → (IsTrue (has_node o (entries_of ls overflow)) → v ≡ value_of o (entries_of ls overflow))
      → Each (λ e. base + tick + (v + 2 ^ 32 - tick) ≤ e.1) (delayed_list_of ls base current overflow)
  nearest_next small none o v e value =
      let here : entries_of ls current ≡ [] = none_first (entries_of ls current) none in
      let all : Each (λ e. v ≤ e.1) (entries_of ls overflow) = least_of o v (entries_of ls overflow) e value h.overflow_sorted in
      rw here (Each-count_from (λ e. base + tick + (v + 2 ^ 32 - tick) ≤ e.1) (base + 2 ^ 32) (entries_of ls overflow)
      (Each-imp (λ e. v ≤ e.1) (λ e. base + tick + (v + 2 ^ 32 - tick) ≤ base + 2 ^ 32 + e.1)
      (entries_of ls overflow) (λ e l. omega (arith, l, small)) all)) where
        least_of : (o v : ℕ) (xs : List (ℕ × ℕ)) → Some o ≡ first_of xs
            → (IsTrue (has_node o xs) → v ≡ value_of o xs) → IsSorted xs → Each (λ e. v ≤ e.1) xs
        least_of o v [] e value sorted = tt
        least_of o v (x ∷ xs) e value sorted =
            let t : (x.0 == o) ≡ true = eq-eqb x.0 o (sym (same_Some o x.0 e)) in
            let is : v ≡ x.1 = (rw t at value) refl in
            (omega (arith, is), Each-imp (λ e. x.1 ≤ e.1) (λ e. v ≤ e.1) xs (λ e l. omega (arith, is, l)) sorted.0)

-- nobody sleeps
pub nobody_asleep : (ls : List (List (ℕ × ℕ))) (base current overflow : ℕ) → None ≡ first_of (entries_of ls current)
    → None ≡ first_of (entries_of ls overflow) → delayed_list_of ls base current overflow ≡ []
nobody_asleep ls base current overflow none next =
    ap₂ (λ (xs ys : List (ℕ × ℕ)). count_from base xs ++ count_from (base + 2 ^ 32) ys)
    (none_first (entries_of ls current) none) (none_first (entries_of ls overflow) next)

pub most_to_first : (ls : List (List (ℕ × ℕ))) (base tick current overflow n o v : ℕ) → Some o ≡ first_of (entries_of ls current)
    → (IsTrue (has_node o (entries_of ls current)) → v ≡ value_of o (entries_of ls current))
    → Each (λ e. base + tick + n < e.1) (delayed_list_of ls base current overflow) → n ≤ v - tick - 1
most_to_first ls base tick current overflow n o v e value asleep =
    until_first base tick n o v (entries_of ls current) (count_from (base + 2 ^ 32) (entries_of ls overflow)) e value asleep

-- one tick

still_later : (now base tick : ℕ) (xs ys : List (ℕ × ℕ)) → base + tick ≡ now + 1
    → Each (λ e. now + 1 < e.1) (count_from base xs ++ ys) → Each (λ e. tick < e.1) xs
still_later now base tick [] ys is h = tt
still_later now base tick (x ∷ xs) ys is h = (let l = h.0 in omega (arith, is, l), still_later now base tick xs ys is h.1)

module _ {ls : List (List (ℕ × ℕ))} {age base tick current overflow : ℕ} {old : Timeline}
    (t : Turned ls age base tick current overflow old) (asleep : Each (λ e. old.now + 1 < e.1) old.delayed_list) where
  none_due : Each (λ e. tick < e.1) (entries_of ls current)
  none_due =
      still_later old.now base tick (entries_of ls current) (count_from (base + 2 ^ 32) (entries_of ls overflow))
      t.now (subst (Each (λ e. old.now + 1 < e.1)) t.delayed asleep)

  pub clock_quiet : old.age < 2 ^ 62 → IsClock ls age base tick current overflow
  clock_quiet few = clock_after t ls [] refl none_due (λ k ne. refl) t.sound few (omega arith)

  pub advances_quietly : (held : ℕ) → held ≡ old.held → Advances old (timeline_of ls age held base tick current overflow) []
  advances_quietly held same = jumps t ls [] refl none_due (λ k ne. refl) held same
