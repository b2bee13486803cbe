-- An application has one run with a plan, and a point one row.
use Rattle.std.proofs.Common.{◌≡◌, ◌<◌, ℕ, Bool, true, false, List, [], Some, refl, ap, sym, ◌∙◌, arith, inl, inr}
use Rattle.std.proofs.lemmas.Bool.{cases_lt, cases_eq}
use Rattle.model.specs.declared.event.Event.{Event}
use Rattle.model.specs.declared.event.End.{End}
use Rattle.model.specs.declared.plan.Injection.{Injection}
use Rattle.model.specs.Application.{Application, Limits}
use Rattle.model.specs.Run.{Run, IsRun, IsRow, is_reached, state_after, events_after, end_of}

-- runs by their parts
made : {a b : Run} → a.events ≡ b.events → a.steps ≡ b.steps → a.ticks ≡ b.ticks → a.end ≡ b.end → a ≡ b
made {a} {b} events steps ticks end =
    ap (λ (es : List Event). record a { events = es }) events
    ∙ ap (λ (n : ℕ). record a { events = b.events; steps = n }) steps
    ∙ ap (λ (n : ℕ). record a { events = b.events; steps = b.steps; ticks = n }) ticks
    ∙ ap (λ (e : End). record b { end = e }) end

module _ (app : Application) (plan : List Injection) (limits : Limits)
    (a b : Run) (h : IsRun app plan limits a) (k : IsRun app plan limits b) where
  -- no run ends before another
  not_less : a.steps < b.steps → a ≡ b
  not_less l = let none = k.goes_on a.steps l in let end = h.ends in absurd (cc)

  not_more : b.steps < a.steps → a ≡ b
  not_more l = let none = h.goes_on b.steps l in let end = k.ends in absurd (cc)

  same : a.steps ≡ b.steps → a ≡ b
  same e =
      let events : a.events ≡ b.events = h.trace ∙ ap (events_after app limits plan) e ∙ sym k.trace in
      let ticks : a.ticks ≡ b.ticks = h.elapsed ∙ ap (λ (n : ℕ). (state_after app limits plan n).elapsed) e ∙ sym k.elapsed in
      let ends : Some a.end ≡ Some b.end =
      sym h.ends ∙ ap (λ (n : ℕ). end_of app limits (state_after app limits plan n)) e ∙ k.ends in
      let end : a.end ≡ b.end = cc in
      made events e ticks end

  pub one_run : a ≡ b
  one_run = elim (cases_eq a.steps b.steps) [
    | inl e ↦ same e
    | inr apart ↦ elim (cases_lt a.steps b.steps) [ inl l ↦ not_less l | inr m ↦ not_more (omega arith) ]
  ]

-- ---- rows

module _ (app : Application) (limits : Limits) (point : List Injection) where
  -- The point isn't both reached and not.
  not_both : (base row : Run) → IsRun app [] limits base → is_reached app limits point base.steps ≡ true
      → IsRun app [] limits row → is_reached app limits point row.steps ≡ false → ⊥
  not_both base row h reached k missed =
      let same : base.steps ≡ row.steps = ap (λ (r : Run). r.steps) (one_run app [] limits base row h k) in
      let both : true ≡ false = sym reached ∙ ap (is_reached app limits point) same ∙ missed in
      absurd (cc)

  pub one_row : (here there : Bool) (a b : Run) → IsRow app limits point here a → IsRow app limits point there b
      → (here ≡ there) × (a ≡ b)
  one_row true true a b h k = (refl, one_run app point limits a b h.3 k.3)
  one_row true false a b h k = absurd (not_both h.0 b h.1 h.2 k.0 k.1)
  one_row false true a b h k = absurd (not_both k.0 a k.1 k.2 h.0 h.1)
  one_row false false a b h k = (refl, one_run app [] limits a b h.0 k.0)
