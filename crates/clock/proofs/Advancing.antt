-- Ticks pass: the lists are swapped where the 32 bits wrap, and then the due sleepers go.
use Rattle.std.proofs.Common.{◌≡◌, ◌≢◌, ℕ, ◌<◌, ◌≤◌, ◌+◌, ◌^◌, true, false, Option, Some, None, List, [], ◌∷◌, ◌++◌, sym, ◌∙◌, ap}
use Rattle.std.proofs.Common.{ap₂, subst, arith, refl, append_assoc, append-nil}
use Rattle.std.specs.Option.{is_some}
use Rattle.lists.specs.Lists.{Each, IsSorted, IsSound, entries_of}
use Rattle.lists.proofs.Entries.{Each-right, Each-imp, Each-append, IsSorted-right}
use Rattle.clock.specs.Timeline.{Timeline, Advances, Jumps, count_from, all_until, first_at, timeline_of, IsClock}
use Rattle.clock.proofs.Sleeping.{Each-count_from}
use Rattle.clock.proofs.Taking.{none_left, split_at}

-- a clock whose tick has gone on by this many, and whose due sleepers are still in the current list
pub record TurnedBy (ticks : ℕ) (ls : List (List (ℕ × ℕ))) (age base tick current overflow : ℕ) (old : Timeline) : Type 0 where
  pub sound : IsSound 2 32 ls
  pub current_known : current < 2
  pub overflow_known : overflow < 2
  pub differ : current ≢ overflow
  pub young : base + tick ≤ age + 2 ^ 32
  pub tick_fits : tick < 2 ^ 32
  pub ahead : Each (λ e. tick ≤ e.1) (entries_of ls current)
  pub fits : Each (λ e. e.1 < 2 ^ 32) (entries_of ls current)
  pub overflow_fits : Each (λ e. e.1 < 2 ^ 32) (entries_of ls overflow)
  pub near : Each (λ e. e.1 < tick) (entries_of ls overflow)
  pub sorted : IsSorted (entries_of ls current)
  pub overflow_sorted : IsSorted (entries_of ls overflow)
  pub now : base + tick ≡ old.now + ticks
  pub grown : age ≡ old.age + ticks
  pub delayed : old.delayed_list ≡ count_from base (entries_of ls current) ++ count_from (base + 2 ^ 32) (entries_of ls overflow)

-- by one
abbrev pub Turned : List (List (ℕ × ℕ)) → (age base tick current overflow : ℕ) → Timeline → Type 0
Turned ls age base tick current overflow old = TurnedBy 1 ls age base tick current overflow old

-- ---- several ticks at once: nobody's wake time is passed

-- a sleeper of this turn is nearer than its end
none_this_turn : (now base tick ticks : ℕ) (xs ys : List (ℕ × ℕ)) → base + tick ≡ now → 2 ^ 32 ≤ tick + ticks
    → Each (λ e. e.1 < 2 ^ 32) xs → Each (λ e. now + ticks ≤ e.1) (count_from base xs ++ ys) → xs ≡ []
none_this_turn now base tick ticks [] ys is full fits h = refl
none_this_turn now base tick ticks (x ∷ xs) ys is full fits h =
    let a = h.0 in
    let b = fits.0 in
    absurd (omega (arith, is, full, a, b))

left_part : (now base tick ticks : ℕ) (xs ys : List (ℕ × ℕ)) → base + tick ≡ now + ticks
    → Each (λ e. now + ticks ≤ e.1) (count_from base xs ++ ys) → Each (λ e. tick ≤ e.1) xs
left_part now base tick ticks [] ys is h = tt
left_part now base tick ticks (x ∷ xs) ys is h = (let a = h.0 in omega (arith, is, a), left_part now base tick ticks xs ys is h.1)

module _ {ls : List (List (ℕ × ℕ))} {age held base tick current overflow : ℕ} {old : Timeline}
    (h : IsClock ls age base tick current overflow) (is : timeline_of ls age held base tick current overflow ≡ old)
    (ticks : ℕ) (soon : Each (λ e. old.now + ticks ≤ e.1) old.delayed_list) where
  now_was : base + tick ≡ old.now
  now_was = ap (λ (t : Timeline). t.now) is

  age_was : age ≡ old.age
  age_was = ap (λ (t : Timeline). t.age) is

  asleep_was : Each (λ e. old.now + ticks ≤ e.1)
      (count_from base (entries_of ls current) ++ count_from (base + 2 ^ 32) (entries_of ls overflow))
  asleep_was = subst (Each (λ e. old.now + ticks ≤ e.1)) (sym (ap (λ (t : Timeline). t.delayed_list) is)) soon

  -- within the turn
  pub jumped_within : (next : ℕ) → next ≡ tick + ticks → next < 2 ^ 32
      → TurnedBy ticks ls (age + ticks) base next current overflow old
  jumped_within next after room =
      let now = now_was in
      let same = age_was in
      let young = h.young in
      record {
        sound = h.sound;
        current_known = h.current_known;
        overflow_known = h.overflow_known;
        differ = h.differ;
        young = omega (arith, young, after);
        tick_fits = room;
        ahead =
            left_part old.now base next ticks (entries_of ls current)
            (count_from (base + 2 ^ 32) (entries_of ls overflow)) (omega (arith, now, after)) asleep_was;
        fits = h.fits;
        overflow_fits = h.overflow_fits;
        near = Each-imp (λ e. e.1 < tick) (λ e. e.1 < next) (entries_of ls overflow) (λ e lt. omega (arith, lt, after)) h.near;
        sorted = h.sorted;
        overflow_sorted = h.overflow_sorted;
        now = omega (arith, now, after);
        grown = omega (arith, same);
        delayed = sym (ap (λ (t : Timeline). t.delayed_list) is);
      }

  -- into the next: the lists are swapped, and nobody sleeps in this one any more
  pub jumped_over : (next later : ℕ) → later ≡ base + 2 ^ 32 → next + 2 ^ 32 ≡ tick + ticks
      → next < 2 ^ 32 → TurnedBy ticks ls (age + ticks) later next overflow current old
  jumped_over next later turn after room =
      let now = now_was in
      let same = age_was in
      let young = h.young in
      let none : entries_of ls current ≡ [] =
      none_this_turn old.now base tick ticks (entries_of ls current)
      (count_from (base + 2 ^ 32) (entries_of ls overflow)) now (omega (arith, after)) h.fits asleep_was in
      let there : Each (λ e. old.now + ticks ≤ e.1) (count_from later (entries_of ls overflow)) =
      subst (λ (b : ℕ). Each (λ e. old.now + ticks ≤ e.1) (count_from b (entries_of ls overflow))) (sym turn)
      (subst (λ (xs : List (ℕ × ℕ)).
      Each (λ e. old.now + ticks ≤ e.1) (count_from base xs ++ count_from (base + 2 ^ 32) (entries_of ls overflow)))
      none asleep_was) in
      record {
        sound = h.sound;
        current_known = h.overflow_known;
        overflow_known = h.current_known;
        differ = λ e. h.differ (sym e);
        young = omega (arith, young, turn, after);
        tick_fits = room;
        ahead =
            left_part old.now later next ticks (entries_of ls overflow) [] (omega (arith, now, turn, after))
            (subst (Each (λ e. old.now + ticks ≤ e.1)) (sym (append-nil (count_from later (entries_of ls overflow)))) there);
        fits = h.overflow_fits;
        overflow_fits = h.fits;
        near = rw none tt;
        sorted = h.overflow_sorted;
        overflow_sorted = h.sorted;
        now = omega (arith, now, turn, after);
        grown = omega (arith, same);
        delayed =
            sym (ap (λ (t : Timeline). t.delayed_list) is)
            ∙ ap (λ (xs : List (ℕ × ℕ)). count_from base xs ++ count_from (base + 2 ^ 32) (entries_of ls overflow)) none
            ∙ ap (λ (b : ℕ). count_from b (entries_of ls overflow)) (sym turn)
            ∙ sym (append-nil (count_from later (entries_of ls overflow)))
            ∙ ap (λ (xs : List (ℕ × ℕ)). count_from later (entries_of ls overflow) ++ count_from (later + 2 ^ 32) xs) (sym none);
      }

-- ---- one tick: everybody wakes later than now

module _ {ls : List (List (ℕ × ℕ))} {age held base tick current overflow : ℕ} {old : Timeline}
    (h : IsClock ls age base tick current overflow) (is : timeline_of ls age held base tick current overflow ≡ old) where
  later_than_now : tick < 2 ^ 32 → Each (λ e. old.now + 1 ≤ e.1) old.delayed_list
  later_than_now small =
      subst (λ (t : Timeline). Each (λ e. t.now + 1 ≤ e.1) t.delayed_list) is
      (Each-append (λ e. base + tick + 1 ≤ e.1) (count_from base (entries_of ls current))
      (count_from (base + 2 ^ 32) (entries_of ls overflow))
      (Each-count_from (λ e. base + tick + 1 ≤ e.1) base (entries_of ls current)
      (Each-imp (λ e. tick < e.1) (λ e. base + tick + 1 ≤ base + e.1) (entries_of ls current) (λ e l. omega (arith, l)) h.ahead))
      (Each-count_from (λ e. base + tick + 1 ≤ e.1) (base + 2 ^ 32) (entries_of ls overflow)
      (Each-imp (λ e. e.1 < 2 ^ 32) (λ e. base + tick + 1 ≤ base + 2 ^ 32 + e.1)
      (entries_of ls overflow) (λ e l. omega (arith, small)) h.overflow_fits)))

  -- the last tick of a turn: the lists are swapped
  pub turned_over : (next : ℕ) → next ≡ base + 2 ^ 32 → tick + 1 ≡ 2 ^ 32 → Turned ls (age + 1) next 0 overflow current old
  turned_over next after full =
      jumped_over h is 1 (later_than_now (omega (arith, full))) 0 next after (omega (arith, full)) (omega arith)

  -- any other tick
  pub ticked : tick + 1 < 2 ^ 32 → Turned ls (age + 1) base (tick + 1) current overflow old
  ticked room = jumped_within h is 1 (later_than_now (omega (arith, room))) (tick + 1) refl room

count_from-append : (b : ℕ) (xs ys : List (ℕ × ℕ)) → count_from b (xs ++ ys) ≡ count_from b xs ++ count_from b ys
count_from-append b [] ys = refl
count_from-append b (x ∷ xs) ys = ap (λ (zs : List (ℕ × ℕ)). (x.0, b + x.1) ∷ zs) (count_from-append b xs ys)

count_from-all_until : (b tick : ℕ) (due : List ℕ) → count_from b (all_until tick due) ≡ all_until (b + tick) due
count_from-all_until b tick [] = refl
count_from-all_until b tick (x ∷ xs) = ap (λ (zs : List (ℕ × ℕ)). (x, b + tick) ∷ zs) (count_from-all_until b tick xs)

module _ {ticks : ℕ} {ls : List (List (ℕ × ℕ))} {age base tick current overflow : ℕ} {old : Timeline}
    (h : TurnedBy ticks ls age base tick current overflow old) (ls' : List (List (ℕ × ℕ)))
    (due : List ℕ) (taken : entries_of ls current ≡ all_until tick due ++ entries_of ls' current)
    (later : Each (λ e. tick < e.1) (entries_of ls' current))
    (others : (k : ℕ) → k ≢ current → entries_of ls' k ≡ entries_of ls k) where
  other_same : entries_of ls' overflow ≡ entries_of ls overflow
  other_same = others overflow (λ e. h.differ (sym e))

  pub clock_after : IsSound 2 32 ls' → old.age < 2 ^ 62 → ticks < 2 ^ 32 → IsClock ls' age base tick current overflow
  clock_after sound few short = record {
    sound = sound;
    current_known = h.current_known;
    overflow_known = h.overflow_known;
    differ = h.differ;
    young = h.young;
    countable = let grown = h.grown in omega (arith, grown, few, short);
    ahead = later;
    fits =
        Each-right (λ e. e.1 < 2 ^ 32) (all_until tick due) (entries_of ls' current)
        (subst (Each (λ e. e.1 < 2 ^ 32)) taken h.fits);
    overflow_fits = subst (Each (λ e. e.1 < 2 ^ 32)) (sym other_same) h.overflow_fits;
    near = subst (Each (λ e. e.1 < tick)) (sym other_same) h.near;
    sorted = IsSorted-right (all_until tick due) (entries_of ls' current) (subst IsSorted taken h.sorted);
    overflow_sorted = subst IsSorted (sym other_same) h.overflow_sorted;
  }

  -- those left are later than now
  left_later : Each (λ e. base + tick < e.1)
      (count_from base (entries_of ls' current) ++ count_from (base + 2 ^ 32) (entries_of ls' overflow))
  left_later =
      let tick_fits = h.tick_fits in
      Each-append (λ e. base + tick < e.1) (count_from base (entries_of ls' current))
      (count_from (base + 2 ^ 32) (entries_of ls' overflow))
      (Each-count_from (λ e. base + tick < e.1) base (entries_of ls' current)
      (Each-imp (λ e. tick < e.1) (λ e. base + tick < base + e.1) (entries_of ls' current) (λ e lt. omega (arith, lt)) later))
      (Each-count_from (λ e. base + tick < e.1) (base + 2 ^ 32) (entries_of ls' overflow)
      (Each-imp (λ e. e.1 < 2 ^ 32) (λ e. base + tick < base + 2 ^ 32 + e.1) (entries_of ls' overflow)
      (λ e lt. omega (arith, tick_fits)) (subst (Each (λ e. e.1 < 2 ^ 32)) (sym other_same) h.overflow_fits)))

  pub jumps : (held : ℕ) → held ≡ old.held → Jumps ticks old (timeline_of ls' age held base tick current overflow) due
  jumps held same = record {
    now = h.now;
    age = h.grown;
    held = same;
    delayed =
        h.delayed
        ∙ ap₂ (λ (xs ys : List (ℕ × ℕ)). count_from base xs ++ count_from (base + 2 ^ 32) ys) taken (sym other_same)
        ∙ ap (λ (xs : List (ℕ × ℕ)). xs ++ count_from (base + 2 ^ 32) (entries_of ls' overflow))
        (count_from-append base (all_until tick due) (entries_of ls' current)
        ∙ ap (λ (xs : List (ℕ × ℕ)). xs ++ count_from base (entries_of ls' current)) (count_from-all_until base tick due))
        ∙ append_assoc (all_until (base + tick) due) (count_from base (entries_of ls' current))
        (count_from (base + 2 ^ 32) (entries_of ls' overflow));
    later = left_later;
  }

-- nobody is due, or somebody is, by what the first sleeper of the current list says

module _ {ls : List (List (ℕ × ℕ))} {age base tick current overflow : ℕ}
    {old : Timeline} (h : Turned ls age base tick current overflow old) where
  none_later : (o : Option ℕ) → o ≡ first_at tick (entries_of ls current)
      → is_some o ≡ false → Each (λ e. tick < e.1) (entries_of ls current)
  none_later None e t = none_left tick (entries_of ls current) e h.sorted h.ahead
  none_later (Some n) e t = absurd cc

  pub clock_if_none : (o : Option ℕ) → o ≡ first_at tick (entries_of ls current)
      → is_some o ≡ false → old.age < 2 ^ 62 → IsClock ls age base tick current overflow
  clock_if_none o e t few = clock_after h ls [] refl (none_later o e t) (λ k ne. refl) h.sound few (omega arith)

  pub advances_if_none : (held : ℕ) → held ≡ old.held → (o : Option ℕ) → o ≡ first_at tick (entries_of ls current)
      → is_some o ≡ false → Advances old (timeline_of ls age held base tick current overflow) []
  advances_if_none held same o e t = jumps h ls [] refl (none_later o e t) (λ k ne. refl) held same

  pub some_now : (o : Option ℕ) → o ≡ first_at tick (entries_of ls current)
      → is_some o ≡ true → Each (λ e. old.now + 1 < e.1) old.delayed_list → ⊥
  some_now None e t later = cc
  some_now (Some n) e t later =
      let split = split_at tick n (entries_of ls current) e in
      let whole =
      h.delayed ∙ ap (λ (xs : List (ℕ × ℕ)). count_from base xs ++ count_from (base + 2 ^ 32) (entries_of ls overflow)) split.1 in
      let each : Each (λ e. old.now + 1 < e.1)
      ((n, base + tick) ∷ (count_from base split.0 ++ count_from (base + 2 ^ 32) (entries_of ls overflow))) =
      subst (Each (λ e. old.now + 1 < e.1)) whole later in
      let now = h.now in
      let here = each.0 in
      omega (arith, now, here)

pub none_now : (old new : Timeline) → Advances old new [] → Each (λ e. old.now + 1 < e.1) old.delayed_list
none_now old new a =
    subst (λ (n : ℕ). Each (λ e. n < e.1) old.delayed_list) a.now (subst (Each (λ e. new.now < e.1)) (sym a.delayed) a.later)
