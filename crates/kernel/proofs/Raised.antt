-- Handlers that are raised: when none comes, and what then doesn't happen.
use Rattle.std.proofs.Common.{◌≡◌, ◌≢◌, ◌<◌, ◌≤◌, ◌∙◌, ℕ, zero, suc, Bool, true, false, List, [], ◌∷◌, get_or, map}
use Rattle.std.proofs.Common.{Option, Some, None, append-nil, eqb, ap, arith, refl, sym, subst}
use Rattle.std.specs.List.{AllByRecursion, filter, list_any, range_with_len}
use Rattle.std.specs.Option.{is_some, option_map}
use Rattle.std.specs.Prelude.{◌-◌, ◌||◌, filter_map, fold, length, min, nat_eq, nat_lt}
use Rattle.model.specs.Application.{Application, Interrupt, interrupts_at}
use Rattle.model.specs.State.{State, Source, no_source, source_at, for_each}
use Rattle.model.specs.Handlers.{come, interrupt, is_raised_for, none_raised_now, raised_now, ticks_to_raised}
use Rattle.model.specs.Run.{is_interrupt_to_come}
use Rattle.model.proofs.Lists.{eqb-refl}
use Rattle.model.proofs.Sorting.{by_test}
use Rattle.clock.proofs.Nearest.{least_with}
use Rattle.lists.proofs.Compared.{same_option, same_number}
use Rattle.machine.specs.declared.machine.Machine.{Machine}
use Rattle.machine.specs.declared.arrivals.Arrival.{Arrival}
use Rattle.machine.specs.Arrivals.{arrival_in, soonest}
use Rattle.machine.specs.StandsFor.{Stands}
use Rattle.machine.proofs.Arriving.{IsFirst, first_is, lower_source}
use Rattle.machine.proofs.Either.{sources_are}

-- None comes by itself at this tick, or was to come.
abbrev pub AreNoneAt : ℕ → State → Type 0
AreNoneAt tick s = (i : ℕ) → is_raised_for tick (source_at s i) ≡ false

pub none_at : (k : Machine) (s : State) → Stands k s → (tick : ℕ)
    → ((source : ℕ) → (arrival_in k.sources.arrivals source).raised ≢ Some tick) → AreNoneAt tick s
none_at k s h tick none i = by_test (is_raised_for tick (source_at s i))
    (λ t.
    let is : (source_at s i).raised ≡ Some tick = same_option nat_eq same_number (source_at s i).raised (Some tick) t in
    absurd (none i (ap (λ (x : Source). x.raised) ((sources_are k s h).same i) ∙ is)))
    (λ t. t)

filter_none : (p : ℕ → Bool) (is : List ℕ) → ((i : ℕ) → p i ≡ false) → filter p is ≡ []
filter_none p [] none = refl
filter_none p (i ∷ is) none = rw (none i) (filter_none p is none)

lower_none : (tick : ℕ) (xs : List Source) → ((i : ℕ) → is_raised_for tick (get_or xs i no_source) ≡ false)
    → map (lower_source tick) xs ≡ xs
lower_none tick [] none = refl
lower_none tick (x ∷ xs) none = rw (none 0) (ap (λ (ys : List Source). x ∷ ys) (lower_none tick xs (λ i. none (suc i))))

pub nobody_now : (s : State) → AreNoneAt s.elapsed s → (raised_now s ≡ []) × (none_raised_now s ≡ s)
nobody_now s none = (
  filter_none (λ source. is_raised_for s.elapsed (source_at s source)) (range_with_len 0 (length s.sources)) none,
  ap (λ (xs : List Source). record s { sources = xs }) (lower_none s.elapsed s.sources none),
)

-- Then only the base interrupts come.
pub interrupt_alone : (app : Application) (s : State) → (raised_now s ≡ []) × (none_raised_now s ≡ s)
    → interrupt app s ≡ for_each (come app) (interrupts_at app s.elapsed) s
unfolding interrupt
interrupt_alone app s none =
    rw (none.0, none.1)
    (ap (λ (handlers : List ℕ). for_each (come app) handlers s) (append-nil (interrupts_at app s.elapsed)))

-- ---- the first tick at which one comes

-- If that is later, none comes now.
pub none_before : (each : List Arrival) (o : Option ℕ) (tick : ℕ) → o ≡ soonest each
    → ((first : ℕ) → o ≡ Some first → tick < first) → (source : ℕ) → (arrival_in each source).raised ≢ Some tick
none_before each o tick is later = by_first o (subst (IsFirst each) (sym is) (first_is each)) later where
  by_first : (o : Option ℕ) → IsFirst each o → ((first : ℕ) → o ≡ Some first → tick < first)
      → (source : ℕ) → (arrival_in each source).raised ≢ Some tick
  by_first None h later source e = (let f = sym (h source) ∙ e in absurd (cc))
  by_first (Some first) h later source e =
      (let l = h.0 source tick e in let m = later first refl in absurd (omega arith))

-- ---- those that are to come

no_ticks : (now : ℕ) (xs : List Source) → ((i : ℕ) → (get_or xs i no_source).raised ≡ None)
    → filter_map (λ (x : Source). option_map (λ tick. tick - now) x.raised) xs ≡ []
no_ticks now [] none = refl
no_ticks now (x ∷ xs) none = rw (none 0) (no_ticks now xs (λ i. none (suc i)))

nobody_to_come : (xs : List Source) → ((i : ℕ) → (get_or xs i no_source).raised ≡ None)
    → list_any (λ (x : Source). is_some x.raised) xs ≡ false
nobody_to_come [] none = refl
nobody_to_come (x ∷ xs) none = rw (none 0) (nobody_to_come xs (λ i. none (suc i)))

all_from : (now first : ℕ) (xs : List Source) → ((i tick : ℕ) → (get_or xs i no_source).raised ≡ Some tick → first ≤ tick)
    → AllByRecursion (λ n. first - now ≤ n) (filter_map (λ (x : Source). option_map (λ tick. tick - now) x.raised) xs)
all_from now first [] least = tt
all_from now first (x ∷ xs) least = by_raised x.raised refl (all_from now first xs (λ i tick e. least (suc i) tick e)) where
  by_raised : (o : Option ℕ) → x.raised ≡ o
      → AllByRecursion (λ n. first - now ≤ n) (filter_map (λ (y : Source). option_map (λ tick. tick - now) y.raised) xs)
      → AllByRecursion (λ n. first - now ≤ n) (filter_map (λ (y : Source). option_map (λ tick. tick - now) y.raised) (x ∷ xs))
  by_raised None e rest = rw e rest
  by_raised (Some tick) e rest = rw e ((let l = least 0 tick e in omega arith), rest)

or_later : (a b : Bool) → b ≡ true → a || b ≡ true
or_later true b t = refl
or_later false b t = t

here : (n : ℕ) (b : Bool) → eqb n n || b ≡ true
here n b = rw (eqb-refl n) refl

one_from : (now first : ℕ) (xs : List Source) (i : ℕ) → (get_or xs i no_source).raised ≡ Some first
    → list_any (λ n. eqb n (first - now)) (filter_map (λ (x : Source). option_map (λ tick. tick - now) x.raised) xs) ≡ true
one_from now first [] i e = absurd (cc)
one_from now first (x ∷ xs) zero e = rw e (here (first - now) _)
one_from now first (x ∷ xs) (suc i) e = by_raised x.raised refl (one_from now first xs i e) where
  by_raised : (o : Option ℕ) → x.raised ≡ o
      → list_any (λ n. eqb n (first - now)) (filter_map (λ (y : Source). option_map (λ tick. tick - now) y.raised) xs) ≡ true
      → list_any (λ n. eqb n (first - now)) (filter_map (λ (y : Source). option_map (λ tick. tick - now) y.raised) (x ∷ xs))
      ≡ true
  by_raised None o rest = rw o rest
  by_raised (Some tick) o rest = rw o (or_later (eqb (tick - now) (first - now)) _ rest)

one_to_come : (xs : List Source) (i first : ℕ) → (get_or xs i no_source).raised ≡ Some first
    → list_any (λ (x : Source). is_some x.raised) xs ≡ true
one_to_come [] i first e = absurd (cc)
one_to_come (x ∷ xs) zero first e = rw e refl
one_to_come (x ∷ xs) (suc i) first e = or_later (is_some x.raised) _ (one_to_come xs i first e)

module _ (k : Machine) (s : State) (h : Stands k s) where
  raised_same : (i : ℕ) → (arrival_in k.sources.arrivals i).raised ≡ (source_at s i).raised
  raised_same i = ap (λ (x : Source). x.raised) ((sources_are k s h).same i)

  -- Whether there are any.
  pub any_raised : is_some (soonest k.sources.arrivals) ≡ list_any (λ (x : Source). is_some x.raised) s.sources
  any_raised = by_first (soonest k.sources.arrivals) (first_is k.sources.arrivals) where
    by_first : (o : Option ℕ) → IsFirst k.sources.arrivals o
        → is_some o ≡ list_any (λ (x : Source). is_some x.raised) s.sources
    by_first None none = sym (nobody_to_come s.sources (λ i. sym (raised_same i) ∙ none i))
    by_first (Some first) one =
        let i = one.1.0 in
        sym (one_to_come s.sources i first (sym (raised_same i) ∙ one.1.1))

  -- If there are, an interrupt is to come.
  pub raised_comes : (app : Application) → soonest k.sources.arrivals ≢ None → is_interrupt_to_come app s ≡ true
  raised_comes app some =
      or_later (list_any (λ (i : Interrupt). nat_lt s.elapsed i.tick) app.interrupts) _
      (sym any_raised ∙ some_is (soonest k.sources.arrivals) some) where
        some_is : (o : Option ℕ) → o ≢ None → is_some o ≡ true
        some_is None none = absurd (none refl)
        some_is (Some tick) none = refl

  -- How many ticks it is until the first of them.
  pub none_later : None ≡ soonest k.sources.arrivals → ticks_to_raised s ≡ []
  none_later is =
      let none = subst (IsFirst k.sources.arrivals) (sym is) (first_is k.sources.arrivals) in
      no_ticks s.elapsed s.sources (λ i. sym (raised_same i) ∙ none i)

  pub least_to_raised : (first : ℕ) → Some first ≡ soonest k.sources.arrivals
      → (a : ℕ) → fold min a (ticks_to_raised s) ≡ min a (first - s.elapsed)
  least_to_raised first is a =
      let one = subst (IsFirst k.sources.arrivals) (sym is) (first_is k.sources.arrivals) in
      let i = one.1.0 in
      least_with (first - s.elapsed) a (ticks_to_raised s)
      (all_from s.elapsed first s.sources (λ j tick e. one.0 j tick (raised_same j ∙ e)))
      (one_from s.elapsed first s.sources i (sym (raised_same i) ∙ one.1.1))
