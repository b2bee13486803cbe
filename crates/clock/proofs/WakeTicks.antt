-- The tick that is shown when a task's sleep ends.
use Rattle.std.proofs.Common.{◌≡◌, ◌<◌, ◌+◌, ◌*◌, ◌^◌, inl, inr, ℕ, Bool, true, false, List, [], ◌∷◌, ◌++◌, Option, Some, None}
use Rattle.std.proofs.Common.{map, refl, ap, sym, ◌∙◌, arith}
use Rattle.std.specs.Prelude.{IsTrue, ◌==◌, ◌||◌}
use Rattle.std.specs.List.{filter, list_any}
use Rattle.std.specs.Option.{is_some, option_map}
use Rattle.std.proofs.lemmas.Bool.{cases_eq, eq-eqb, ne_eqb}
use Rattle.std.proofs.lemmas.List.{map-append}
use Rattle.std.proofs.lemmas.List.Elements.{filter-append}
use Rattle.std.proofs.lemmas.List.Folds.{list_any-append}
use Rattle.std.proofs.lemmas.Nat.{mod-mul-add}
use Rattle.model.specs.State.{State, printed, status_at, wake_time_of}
use Rattle.lists.specs.Lists.{Each, entries_of, has_node, value_of}
use Rattle.lists.proofs.Entries.{has_node-append, has_or_not}
use Rattle.task_lists.specs.Tasks.{tasks_in}
use Rattle.clock.specs.Timeline.{IsClock, Timeline, count_from, delayed_list_of}
use Rattle.clock.specs.StandsFor.{StandsFor, tasks_at}
use Rattle.clock.proofs.Standing.{among, asleep_same}
use Rattle.clock.proofs.Sleepers.{tasks_at-other, tasks_at-same}
use Rattle.clock.proofs.Nearest.{wakes_at}

or-true : (b : Bool) → (b || true) ≡ true
or-true true = refl
or-true false = refl

or-left : (a b : Bool) → a ≡ true → (a || b) ≡ true
or-left true b e = refl
or-left false b e = absurd (cc)

or-right : (a b : Bool) → b ≡ true → (a || b) ≡ true
or-right a true e = or-true a
or-right a false e = absurd (cc)

-- ---- an entry, by its value

value_below : (m i : ℕ) (xs : List (ℕ × ℕ)) → has_node i xs ≡ true → Each (λ e. e.1 < m) xs → value_of i xs < m
value_below m i [] h all = absurd (cc)
value_below m i (x ∷ xs) h all = elim (cases_eq x.0 i) [
  | inl same ↦ let t : (x.0 == i) ≡ true = eq-eqb x.0 i same in rw t all.0
  | inr apart ↦ let n : (x.0 == i) ≡ false = ne_eqb x.0 i apart in rw n (value_below m i xs (rw n at h) all.1)
]

has_node-counted : (n b : ℕ) (xs : List (ℕ × ℕ)) → has_node n (count_from b xs) ≡ has_node n xs
has_node-counted n b [] = refl
has_node-counted n b (x ∷ xs) = ap (λ (c : Bool). x.0 == n || c) (has_node-counted n b xs)

-- it sleeps until that tick, counted from the base
at_value : (b i v : ℕ) (xs : List (ℕ × ℕ)) → has_node i xs ≡ true
    → v ≡ value_of i xs → among i (tasks_at (b + v) (count_from b xs)) ≡ true
at_value b i v [] h e = absurd (cc)
at_value b i v (x ∷ xs) h e = elim (cases_eq x.0 i) [
  | inl same ↦
      let t : (x.0 == i) ≡ true = eq-eqb x.0 i same in
      let is : v ≡ x.1 = rw t at e in
      ap (among i) (tasks_at-same (b + v) (x.0, b + x.1) (count_from b xs) (omega (arith, is))) ∙ or-left (x.0 == i) _ t
  | inr apart ↦
      let n : (x.0 == i) ≡ false = ne_eqb x.0 i apart in
      let later : among i (tasks_at (b + v) (count_from b xs)) ≡ true = at_value b i v xs (rw n at h) (rw n at e) in
      elim (cases_eq (b + x.1) (b + v)) [
        | inl now ↦ ap (among i) (tasks_at-same (b + v) (x.0, b + x.1) (count_from b xs) now) ∙ or-right (x.0 == i) _ later
        | inr other_time ↦ ap (among i) (tasks_at-other (b + v) (x.0, b + x.1) (count_from b xs) other_time) ∙ later
      ]
]

among-append : (i m : ℕ) (xs ys : List (ℕ × ℕ))
    → among i (tasks_at m (xs ++ ys)) ≡ (among i (tasks_at m xs) || among i (tasks_at m ys))
among-append i m xs ys =
    let p : ℕ × ℕ → Bool = λ e. e.1 == m in
    ap (λ (es : List (ℕ × ℕ)). among i (tasks_in es)) (filter-append p xs ys)
    ∙ ap (among i) (map-append (λ (e : ℕ × ℕ). e.0) (filter p xs) (filter p ys))
    ∙ list_any-append (λ t. t == i) (tasks_at m xs) (tasks_at m ys)

-- ---- the two lists

-- A task sleeps until a time, whose last 32 bits are this tick.
abbrev pub SleepsUntil : List (ℕ × ℕ) → (task tick : ℕ) → Type 0
SleepsUntil delayed task tick = (time : ℕ) × (among task (tasks_at time delayed) ≡ true) × (printed time ≡ tick)

shown : (turns v : ℕ) → v < 4294967296 → printed (2 ^ 32 * turns + v) ≡ v
shown turns v l =
    let is : 2 ^ 32 * turns + v ≡ turns * 4294967296 + v = omega arith in
    ap printed is ∙ mod-mul-add turns 4294967296 v l

module _ {ls : List (List (ℕ × ℕ))} {age tick current overflow : ℕ} (turns : ℕ)
    (c : IsClock ls age (2 ^ 32 * turns) tick current overflow) where
  pub sleeps_until : (i v : ℕ) → has_node i (delayed_list_of ls (2 ^ 32 * turns) current overflow) ≡ true
      → ((l : ℕ) → IsTrue (has_node i (entries_of ls l)) → v ≡ value_of i (entries_of ls l))
      → SleepsUntil (delayed_list_of ls (2 ^ 32 * turns) current overflow) i v
  sleeps_until i v has value =
      let base : ℕ = 2 ^ 32 * turns in
      let xs = count_from base (entries_of ls current) in
      let ys = count_from (base + 2 ^ 32) (entries_of ls overflow) in
      elim (has_or_not i (entries_of ls current)) [
        | inl here ↦
            let is : v ≡ value_of i (entries_of ls current) = value current here in
            let m : ℕ = base + value_of i (entries_of ls current) in (
              m,
              among-append i m xs ys ∙ or-left _ (among i (tasks_at m ys)) (at_value base i _ (entries_of ls current) here refl),
              shown turns _ (value_below (2 ^ 32) i (entries_of ls current) here c.fits) ∙ sym is,
            )
        | inr none ↦
            let there : has_node i (entries_of ls overflow) ≡ true =
            sym (has_node-counted i (base + 2 ^ 32) (entries_of ls overflow))
            ∙ sym (has_node-append i xs ys (has_node-counted i base (entries_of ls current) ∙ none)) ∙ has in
            let is : v ≡ value_of i (entries_of ls overflow) = value overflow there in
            let m : ℕ = base + 2 ^ 32 + value_of i (entries_of ls overflow) in
            let time : m ≡ 2 ^ 32 * (turns + 1) + value_of i (entries_of ls overflow) = omega arith in (
              m,
              among-append i m xs ys
                  ∙ or-right (among i (tasks_at m xs)) _ (at_value (base + 2 ^ 32) i _ (entries_of ls overflow) there refl),
              ap printed time
                  ∙ shown (turns + 1) _ (value_below (2 ^ 32) i (entries_of ls overflow) there c.overflow_fits) ∙ sym is,
            )
      ]

-- ---- in the definitions

pub wakes_with : (t : Timeline) (s : State) (i v : ℕ) → StandsFor t s
    → SleepsUntil t.delayed_list i v → Some v ≡ option_map printed (wake_time_of (status_at s i))
wakes_with t s i v h until = ap Some (sym until.2) ∙ sym (ap (option_map printed) (wakes_at t s h i until.0 until.1))

no_time : (o : Option ℕ) → is_some o ≡ false → None ≡ option_map printed o
no_time None e = refl
no_time (Some w) e = absurd (cc)

pub wakes_not : (t : Timeline) (s : State) (i : ℕ) → StandsFor t s
    → has_node i t.delayed_list ≡ false → None ≡ option_map printed (wake_time_of (status_at s i))
wakes_not t s i h awake = no_time (wake_time_of (status_at s i)) (sym (asleep_same t s i h) ∙ awake)
