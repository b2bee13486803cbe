-- A jump while nobody sleeps.
use Rattle.std.proofs.Common.{◌≡◌, ℕ, ◌≤◌, ◌+◌, ◌^◌, List, [], ◌∷◌, ◌++◌, arith, refl, subst}
use Rattle.lists.specs.Lists.{entries_of}
use Rattle.clock.specs.Timeline.{Timeline, Jumps, IsClock, count_from, delayed_list_of, timeline_of}

none_counted : (base : ℕ) (xs ys : List (ℕ × ℕ)) → count_from base xs ++ ys ≡ [] → (xs ≡ []) × (ys ≡ [])
none_counted base [] ys e = (refl, e)
none_counted base (x ∷ xs) ys e = absurd (cc)

none_alone : (base : ℕ) (xs : List (ℕ × ℕ)) → count_from base xs ≡ [] → xs ≡ []
none_alone base [] e = refl
none_alone base (x ∷ xs) e = absurd (cc)

module _ {ls : List (List (ℕ × ℕ))} {age base tick current overflow : ℕ} (h : IsClock ls age base tick current overflow)
    (quiet : delayed_list_of ls base current overflow ≡ []) where
  none_now : entries_of ls current ≡ []
  none_now = (none_counted base (entries_of ls current) (count_from (base + 2 ^ 32) (entries_of ls overflow)) quiet).0

  none_then : entries_of ls overflow ≡ []
  none_then =
      none_alone (base + 2 ^ 32) (entries_of ls overflow)
      (none_counted base (entries_of ls current) (count_from (base + 2 ^ 32) (entries_of ls overflow)) quiet).1

  module _ (ticks base' tick' : ℕ) (on : base' + tick' ≡ base + tick + ticks) where
    pub clock_unslept : age + ticks ≤ 2 ^ 62 → IsClock ls (age + ticks) base' tick' current overflow
    clock_unslept few = record {
      sound = h.sound;
      current_known = h.current_known;
      overflow_known = h.overflow_known;
      differ = h.differ;
      young = let young = h.young in omega (arith, on, young);
      countable = omega (arith, few);
      ahead = rw none_now tt;
      fits = rw none_now tt;
      overflow_fits = rw none_then tt;
      near = rw none_then tt;
      sorted = rw none_now tt;
      overflow_sorted = rw none_then tt;
    }

    jumps_now : (held : ℕ) → Jumps ticks (timeline_of ls age held base tick current overflow)
        (timeline_of ls (age + ticks) held base' tick' current overflow) []
    jumps_now held = record {
      now = on;
      age = refl;
      held = refl;
      delayed = rw (none_now, none_then) refl;
      later = rw (none_now, none_then) tt;
    }

    pub jumps_unslept : (held : ℕ) (old : Timeline) → timeline_of ls age held base tick current overflow ≡ old
        → Jumps ticks old (timeline_of ls (age + ticks) held base' tick' current overflow) []
    jumps_unslept held old is =
        subst (λ (t : Timeline). Jumps ticks t (timeline_of ls (age + ticks) held base' tick' current overflow) []) is
        (jumps_now held)
