-- How many ticks it is until the next base interrupt comes: the least of those of the definitions.
use Rattle.std.proofs.Common.{◌≡◌, ◌≢◌, ◌<◌, ◌≤◌, ◌+◌, ◌-◌, ◌||◌, ℕ, Bool, true, false, eqb, ltb, map, min, fold, List, [], ◌∷◌}
use Rattle.std.proofs.Common.{refl, ap, arith}
use Rattle.std.specs.Prelude.{◌==◌, nat_lt}
use Rattle.std.specs.List.{AllByRecursion, filter, list_any}
use Rattle.std.proofs.lemmas.Bool.{ltb-false, ltb-true, lt-ltb}
use Rattle.model.specs.Application.{Application, Interrupt, interrupts_at}
use Rattle.model.specs.Scripts.{IsInterrupt, IsWellFormed}
use Rattle.model.specs.State.{State}
use Rattle.model.specs.Handlers.{ticks_to_interrupt}
use Rattle.model.proofs.Sorting.{by_test}
use Rattle.model.proofs.Lists.{eqb-refl, eqb-same}
use Rattle.clock.proofs.Nearest.{least_with}

-- how many ticks it is from this one until those of these interrupts that come later
abbrev ticks_from : ℕ → List Interrupt → List ℕ
ticks_from now is = map (λ (i : Interrupt). i.tick - now) (filter (λ (i : Interrupt). nat_lt now i.tick) is)

abbrev those_at : ℕ → List Interrupt → List Interrupt
those_at tick is = filter (λ (i : Interrupt). i.tick == tick) is

none_mapped : (is : List Interrupt) → map (λ (i : Interrupt). i.handler) is ≡ [] → is ≡ []
none_mapped [] none = refl
none_mapped (i ∷ is) none = absurd (cc)

tail_none : (tick : ℕ) (i : Interrupt) (is : List Interrupt) → those_at tick (i ∷ is) ≡ [] → those_at tick is ≡ []
tail_none tick i is e = by_test (eqb i.tick tick) (λ t. absurd (let f = rw t at e in cc)) (λ t. rw t at e)

head_not : (i : Interrupt) (is : List Interrupt) → those_at i.tick (i ∷ is) ≡ [] → ⊥
head_not i is e = let f = rw (eqb-refl i.tick) at e in absurd (cc)

-- none comes within this many ticks
all_later : (now n : ℕ) (is : List Interrupt) → ((tick : ℕ) → now < tick → tick ≤ now + n → those_at tick is ≡ [])
    → AllByRecursion (λ x. n + 1 ≤ x) (ticks_from now is)
all_later now n [] none = tt
all_later now n (i ∷ is) none =
    let rest = all_later now n is (λ tick more less. tail_none tick i is (none tick more less)) in
    by_test (ltb now i.tick)
    (λ t.
    let more = ltb-true now i.tick t in
    let late : now + n < i.tick =
    by_test (ltb (now + n) i.tick) (λ u. ltb-true (now + n) i.tick u)
    (λ u. absurd (head_not i is (none i.tick more (ltb-false (now + n) i.tick u)))) in
    rw t (omega arith, rest))
    (λ t. rw t rest)

-- one comes in this many
one_then : (now n : ℕ) (is : List Interrupt) → 0 < n → those_at (now + n) is ≢ []
    → list_any (λ x. eqb x n) (ticks_from now is) ≡ true
one_then now n [] some ne = absurd (ne refl)
one_then now n (i ∷ is) some ne = by_test (eqb i.tick (now + n))
    (λ t.
    let same : i.tick ≡ now + n = eqb-same i.tick (now + n) t in
    let more : ltb now i.tick ≡ true = lt-ltb now i.tick (omega arith) in
    let ticks : i.tick - now ≡ n = omega arith in
    let here : eqb (i.tick - now) n ≡ true = rw ticks (eqb-refl n) in
    rw more (rw here refl))
    (λ t.
    let rest = one_then now n is some (λ e. ne (rw t e)) in
    by_test (ltb now i.tick)
    (λ u. rw u (or_later (eqb (i.tick - now) n) (list_any (λ x. eqb x n) (ticks_from now is)) rest))
    (λ u. rw u rest)) where
      or_later : (a b : Bool) → b ≡ true → a || b ≡ true
      or_later true b t = refl
      or_later false b t = t

-- none comes at all, where all would come within this many
none_ever : (app : Application) (now n : ℕ) (is : List Interrupt) → AllByRecursion (IsInterrupt app) is
    → 1000000 ≤ now + n → ((tick : ℕ) → now < tick → tick ≤ now + n → those_at tick is ≡ []) → ticks_from now is ≡ []
none_ever app now n [] within far none = refl
none_ever app now n (i ∷ is) within far none =
    let rest = none_ever app now n is within.1 far (λ tick more less. tail_none tick i is (none tick more less)) in
    by_test (ltb now i.tick)
    (λ t. let low = within.0.last in absurd (head_not i is (none i.tick (ltb-true now i.tick t) (omega arith))))
    (λ t. rw t rest)

module _ (app : Application) (formed : IsWellFormed app) (s : State) (n : ℕ)
    (none : (tick : ℕ) → s.elapsed < tick → tick ≤ s.elapsed + n → interrupts_at app tick ≡ []) where
  none_of_them : (tick : ℕ) → s.elapsed < tick → tick ≤ s.elapsed + n → those_at tick app.interrupts ≡ []
  none_of_them tick more less = none_mapped (those_at tick app.interrupts) (none tick more less)

  pub none_comes_ever : 4294967295 ≤ n → ticks_to_interrupt app s ≡ []
  none_comes_ever far = none_ever app s.elapsed n app.interrupts formed.interrupts (omega arith) none_of_them

  pub least_to_interrupt : interrupts_at app (s.elapsed + (n + 1)) ≢ []
      → (a : ℕ) → fold min a (ticks_to_interrupt app s) ≡ min a (n + 1)
  least_to_interrupt next a =
      least_with (n + 1) a (ticks_to_interrupt app s) (all_later s.elapsed n app.interrupts none_of_them)
      (one_then s.elapsed (n + 1) app.interrupts (omega arith)
      (λ e. next (ap (λ (is : List Interrupt). map (λ (i : Interrupt). i.handler) is) e)))
