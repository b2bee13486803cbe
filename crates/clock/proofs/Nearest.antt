-- How many ticks it is until the first sleeper wakes: the least of those of the definitions.
use Rattle.std.proofs.Common.{◌≡◌, ◌≤◌, ◌+◌, ◌-◌, inl, inr, ℕ, Bool, zero, suc, true, false, eqb, get_or, min, fold}
use Rattle.std.proofs.Common.{filter_map, List, [], ◌∷◌, Option, Some, None, refl, ap, sym, subst, ◌∙◌, arith}
use Rattle.std.specs.Prelude.{◌||◌, nat_eq}
use Rattle.std.specs.List.{AllByRecursion, cons_option, list_any}
use Rattle.std.specs.Option.{is_some, option_eq, option_map}
use Rattle.model.specs.State.{State, Task, wake_time_of, status_at, no_task}
use Rattle.model.specs.Handlers.{ticks_to_wake}
use Rattle.model.specs.Run.{will_wake}
use Rattle.model.specs.Time.{delayed_key}
use Rattle.model.specs.Order.{list_by}
use Rattle.model.proofs.Sorting.{by_test}
use Rattle.model.proofs.Lists.{eqb-refl, eqb-same}
use Rattle.lists.specs.Lists.{Each}
use Rattle.clock.specs.Timeline.{Timeline, first_time, is_asleep}
use Rattle.clock.specs.StandsFor.{StandsFor, tasks_at}
use Rattle.clock.proofs.Standing.{among, asleep_same, due-until, node-at}
use Rattle.clock.proofs.Sleepers.{tasks_at-other, tasks_at-same}
use Rattle.std.proofs.lemmas.Bool.{cases_eq}

-- ---- the least of some numbers

lower : (b m : ℕ) (xs : List ℕ) → b ≤ m → AllByRecursion (λ x. m ≤ x) xs → AllByRecursion (λ x. b ≤ x) xs
lower b m [] l h = tt
lower b m (x ∷ xs) l h = (let k = h.0 in omega arith, lower b m xs l h.1)

least_already : (b : ℕ) (xs : List ℕ) → AllByRecursion (λ x. b ≤ x) xs → fold min b xs ≡ b
least_already b [] h = refl
least_already b (x ∷ xs) h =
    let l = h.0 in
    let e : min b x ≡ b = omega arith in
    ap (λ (n : ℕ). fold min n xs) e ∙ least_already b xs h.1

-- One of them is this, and none is less.
pub least_with : (m a : ℕ) (xs : List ℕ) → AllByRecursion (λ x. m ≤ x) xs
    → list_any (λ x. eqb x m) xs ≡ true → fold min a xs ≡ min a m
least_with m a [] h t = absurd (cc)
least_with m a (x ∷ xs) h t =
    let l = h.0 in
    by_test (eqb x m)
    (λ e.
    let same : x ≡ m = eqb-same x m e in
    ap (λ (n : ℕ). fold min (min a n) xs) same ∙ least_already (min a m) xs (lower (min a m) m xs (omega arith) h.1))
    (λ e.
    let less : min (min a x) m ≡ min a m = omega arith in
    least_with m (min a x) xs h.1 (rw e at t) ∙ less)

-- ---- who wakes when

abbrev ticks_from : ℕ → List Task → List ℕ
ticks_from now ts = filter_map (λ (t : Task). option_map (λ time. time - now) (wake_time_of t.status)) ts

abbrev is_at : ℕ → Option ℕ → Bool
is_at w o = option_eq nat_eq o (Some w)

at_time_only : (o : Option ℕ) (w : ℕ) → is_at w o ≡ true → o ≡ Some w
at_time_only None w t = absurd (cc)
at_time_only (Some v) w t = ap Some (eqb-same v w t)

none_first : (now : ℕ) (o : Option ℕ) (xs : List ℕ) → is_some o ≡ false
    → xs ≡ [] → cons_option (option_map (λ time. time - now) o) xs ≡ []
none_first now None xs e none = none
none_first now (Some w) xs e none = absurd (cc)

none_from : (now : ℕ) (ts : List Task)
    → ((i : ℕ) → is_some (wake_time_of (get_or ts i no_task).status) ≡ false) → ticks_from now ts ≡ []
none_from now [] h = refl
none_from now (t ∷ ts) h = none_first now (wake_time_of t.status) (ticks_from now ts) (h 0) (none_from now ts (λ i. h (suc i)))

all_first : (now n : ℕ) (o : Option ℕ) (xs : List ℕ) → ((w : ℕ) → o ≡ Some w → now + n ≤ w)
    → AllByRecursion (λ x. n ≤ x) xs → AllByRecursion (λ x. n ≤ x) (cons_option (option_map (λ time. time - now) o) xs)
all_first now n None xs k all = all
all_first now n (Some w) xs k all = (let l = k w refl in omega arith, all)

all_from : (now n : ℕ) (ts : List Task) → ((i w : ℕ) → wake_time_of (get_or ts i no_task).status ≡ Some w → now + n ≤ w)
    → AllByRecursion (λ x. n ≤ x) (ticks_from now ts)
all_from now n [] h = tt
all_from now n (t ∷ ts) h = all_first now n (wake_time_of t.status) (ticks_from now ts) (h 0) (all_from now n ts (λ i. h (suc i)))

or_later : (a b : Bool) → b ≡ true → a || b ≡ true
or_later true b t = refl
or_later false b t = t

one_behind : (now n : ℕ) (o : Option ℕ) (xs : List ℕ) → list_any (λ x. eqb x n) xs ≡ true
    → list_any (λ x. eqb x n) (cons_option (option_map (λ time. time - now) o) xs) ≡ true
one_behind now n None xs t = t
one_behind now n (Some v) xs t = or_later (eqb (v - now) n) (list_any (λ x. eqb x n) xs) t

one_from : (now w i : ℕ) (ts : List Task) → wake_time_of (get_or ts i no_task).status ≡ Some w
    → list_any (λ x. eqb x (w - now)) (ticks_from now ts) ≡ true
one_from now w i [] e = absurd (cc)
one_from now w zero (t ∷ ts) e =
    subst (λ (o : Option ℕ).
    list_any (λ x. eqb x (w - now)) (cons_option (option_map (λ time. time - now) o) (ticks_from now ts)) ≡ true)
    (sym e) (rw (eqb-refl (w - now)) refl)
one_from now w (suc i) (t ∷ ts) e = one_behind now (w - now) (wake_time_of t.status) (ticks_from now ts) (one_from now w i ts e)

none_here : (now : ℕ) (o : Option ℕ) (xs : List ℕ) (any : Bool)
    → cons_option (option_map (λ time. time - now) o) xs ≡ [] → (xs ≡ [] → any ≡ false) → is_some o || any ≡ false
none_here now None xs any e f = f e
none_here now (Some w) xs any e f = absurd (cc)

none_wake : (now : ℕ) (ts : List Task) → ticks_from now ts ≡ []
    → list_any (λ (t : Task). is_some (wake_time_of t.status)) ts ≡ false
none_wake now [] e = refl
none_wake now (t ∷ ts) e =
    none_here now (wake_time_of t.status) (ticks_from now ts)
    (list_any (λ (t : Task). is_some (wake_time_of t.status)) ts) e (λ f. none_wake now ts f)

-- ---- as the clock has it

-- an entry of a time is no sooner than all are
entry_from : (m i w : ℕ) (xs : List (ℕ × ℕ)) → Each (λ e. m ≤ e.1) xs → among i (tasks_at w xs) ≡ true → m ≤ w
entry_from m i w [] h t = absurd (cc)
entry_from m i w (x ∷ xs) h t = elim (cases_eq x.1 w) [
  | inl same ↦ (let l = h.0 in omega arith)
  | inr apart ↦ entry_from m i w xs h.1 (sym (ap (among i) (tasks_at-other w x xs apart)) ∙ t)
]

-- the first sleeper, of whom the clock speaks
pub first_sleeper : (t : Timeline) (n : ℕ) → Some n ≡ option_map (λ time. time - t.now) (first_time t.delayed_list)
    → (w : ℕ) × (first_time t.delayed_list ≡ Some w) × (n ≡ w - t.now)
first_sleeper t n e = by_time (first_time t.delayed_list) e where
  by_time : (o : Option ℕ) → Some n ≡ option_map (λ time. time - t.now) o → (w : ℕ) × (o ≡ Some w) × (n ≡ w - t.now)
  by_time None f = absurd (cc)
  by_time (Some w) f = (w, refl, (let same : n ≡ w - t.now = cc in same))

module _ (t : Timeline) (s : State) (h : StandsFor t s) where
  -- who is among those of a time wakes then
  pub wakes_at : (i w : ℕ) → among i (tasks_at w t.delayed_list) ≡ true → wake_time_of (status_at s i) ≡ Some w
  wakes_at i w a =
      at_time_only (wake_time_of (status_at s i)) w
      (due-until s.tasks i w (list_by delayed_key s.tasks) (sym (ap (among i) (h.delayed w)) ∙ a))

  -- and who wakes at a time is among those of it
  among_at : (i w : ℕ) → wake_time_of (status_at s i) ≡ Some w → among i (tasks_at w t.delayed_list) ≡ true
  among_at i w e =
      let asleep : is_asleep t i ≡ true = asleep_same t s i h ∙ ap (λ (o : Option ℕ). is_some o) e in
      let some = node-at i t.delayed_list asleep in
      let same : Some some.0 ≡ Some w = sym (wakes_at i some.0 some.1) ∙ e in
      let time : some.0 ≡ w = cc in
      subst (λ (m : ℕ). among i (tasks_at m t.delayed_list) ≡ true) time some.1

  -- Nobody sleeps.
  pub none_to_wake : t.delayed_list ≡ [] → ticks_to_wake s ≡ []
  none_to_wake none =
      none_from s.time s.tasks
      (λ i. sym (asleep_same t s i h) ∙ ap (λ (xs : List (ℕ × ℕ)). is_asleep (record t { delayed_list = xs }) i) none)

  pub none_wakes : t.delayed_list ≡ [] → will_wake s ≡ false
  none_wakes none = none_wake s.time s.tasks (none_to_wake none)

  -- The first sleeper wakes in this many ticks.
  pub least_to_wake : (n w a : ℕ) → first_time t.delayed_list ≡ Some w → n ≡ w - t.now
      → Each (λ e. t.now + n ≤ e.1) t.delayed_list → fold min a (ticks_to_wake s) ≡ min a n
  least_to_wake n w a first is all =
      let own = by_first t.delayed_list first in
      let now : t.now ≡ s.time = h.now in
      let later : (i v : ℕ) → wake_time_of (status_at s i) ≡ Some v → s.time + n ≤ v = λ i v e.
      (let l = entry_from (t.now + n) i v t.delayed_list all (among_at i v e) in omega arith) in
      let ticks : w - s.time ≡ n = omega arith in
      let some : list_any (λ x. eqb x (w - s.time)) (ticks_to_wake s) ≡ true =
      one_from s.time w own.0 s.tasks (wakes_at own.0 w own.1) in
      least_with n a (ticks_to_wake s) (all_from s.time n s.tasks later)
      (subst (λ (m : ℕ). list_any (λ x. eqb x m) (ticks_to_wake s) ≡ true) ticks some) where
        by_first : (xs : List (ℕ × ℕ)) → first_time xs ≡ Some w → (i : ℕ) × (among i (tasks_at w xs) ≡ true)
        by_first [] e = absurd (cc)
        by_first (x ∷ xs) e =
            let f : Some x.1 ≡ Some w = e in
            let same : x.1 ≡ w = cc in
            (x.0, ap (among x.0) (tasks_at-same w x xs same) ∙ rw (eqb-refl x.0) refl)
