-- What callers see of a clock: time without bound, and who sleeps until when.
use Rattle.std.specs.Prelude.{◌≡◌, ◌≢◌, ℕ, ◌+◌, ◌^◌, ◌<◌, ◌≤◌, ◌==◌, if◌then◌else◌, Bool, Option, Some, None, List, [], ◌∷◌, ◌++◌}
use Rattle.std.specs.Prelude.{map}
use Rattle.lists.specs.Lists.{Each, IsSorted, IsSound, entries_of, has_node}

pub record Timeline : Type 0 where
  -- the time
  pub now : ℕ
  -- the ticks since the clock is new, without those that are held
  pub age : ℕ
  -- the ticks that have come and wait to be applied (`xPendedTicks`)
  pub held : ℕ
  -- each sleeper with its wake time: the earliest first, and of one wake time the first to begin
  pub delayed_list : List (ℕ × ℕ)

-- The task sleeps.
abbrev pub is_asleep : Timeline → ℕ → Bool
is_asleep t task = has_node task t.delayed_list

-- these tasks, all until one time
abbrev pub all_until : ℕ → List ℕ → List (ℕ × ℕ)
all_until time tasks = map (λ task. (task, time)) tasks

-- the first entry's task, where its wake time is this one
abbrev pub first_at : ℕ → List (ℕ × ℕ) → Option ℕ
first_at time [] = None
first_at time (e ∷ entries) = if e.1 == time then Some e.0 else None

-- This many ticks pass; nobody is due before the last of them. The sleepers whose wake time has come then are due, in the order
-- in which they began, and the others sleep on. Held ticks stay held.
pub record Jumps (ticks : ℕ) (old new : Timeline) (due : List ℕ) : Type 0 where
  pub now : new.now ≡ old.now + ticks
  pub age : new.age ≡ old.age + ticks
  pub held : new.held ≡ old.held
  pub delayed : old.delayed_list ≡ all_until new.now due ++ new.delayed_list
  pub later : Each (λ e. new.now < e.1) new.delayed_list

-- One tick passes.
abbrev pub Advances : Timeline → Timeline → List ℕ → Type 0
Advances old new due = Jumps 1 old new due

-- the first wake time, where anybody sleeps
abbrev pub first_time : List (ℕ × ℕ) → Option ℕ
first_time [] = None
first_time (e ∷ entries) = Some e.1

-- the entries of a list, with their ticks counted from `base`
abbrev pub count_from : ℕ → List (ℕ × ℕ) → List (ℕ × ℕ)
count_from base entries = map (λ e. (e.0, base + e.1)) entries

-- The sleepers of a clock whose turn of the 32 bits began at `base`: those of the current list wake in this turn, and
-- those of the overflow list in the next.
abbrev pub delayed_list_of : List (List (ℕ × ℕ)) → ℕ → ℕ → ℕ → List (ℕ × ℕ)
delayed_list_of lists base current overflow =
    count_from base (entries_of lists current) ++ count_from (base + 2 ^ 32) (entries_of lists overflow)

abbrev pub timeline_of : List (List (ℕ × ℕ)) → ℕ → ℕ → ℕ → ℕ → ℕ → ℕ → Timeline
timeline_of lists age held base tick current overflow = record {
  now = base + tick;
  age = age;
  held = held;
  delayed_list = delayed_list_of lists base current overflow;
}

-- what is true of a clock between two calls: the ticks of the current list are still to come in this turn, both lists are
-- sorted, each of their ticks fits 32 bits, and the time at the start fitted them too
pub record IsClock (lists : List (List (ℕ × ℕ))) (age base tick current overflow : ℕ) : Type 0 where
  pub sound : IsSound 2 32 lists
  pub current_known : current < 2
  pub overflow_known : overflow < 2
  pub differ : current ≢ overflow
  pub young : base + tick ≤ age + 2 ^ 32
  pub countable : age ≤ 2 ^ 62 + 2 ^ 32
  pub ahead : Each (λ e. tick < e.1) (entries_of lists current)
  pub fits : Each (λ e. e.1 < 2 ^ 32) (entries_of lists current)
  pub overflow_fits : Each (λ e. e.1 < 2 ^ 32) (entries_of lists overflow)
  -- nobody sleeps for 2^32 ticks
  pub near : Each (λ e. e.1 < tick) (entries_of lists overflow)
  pub sorted : IsSorted (entries_of lists current)
  pub overflow_sorted : IsSorted (entries_of lists overflow)
