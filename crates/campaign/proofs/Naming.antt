-- The point of injections whose handlers have names.
use Rattle.std.proofs.Common.{◌≡◌, ◌≤◌, ◌<◌, ◌↔◌, ℕ, suc, true, List, [], ◌∷◌, length, map, Option, Some, None, option_map}
use Rattle.std.proofs.Common.{refl, sym, ap, subst}
use Rattle.std.proofs.Common.{arith}
use Rattle.std.specs.Prelude.{Err, IsSome, Result}
use Rattle.std.specs.List.{AllByRecursion}
use Rattle.model.specs.declared.plan.BadPoint.{BadPoint}
use Rattle.model.specs.declared.plan.BadPoint.TheVariants.{Empty, TooMany, Falling}
use Rattle.model.specs.declared.plan.Injection.{Injection}
use Rattle.model.specs.Application.{Application}
use Rattle.model.specs.Points.{AreInOrder, IsPoint, Rises, most_of_point}
use Rattle.model.specs.Words.{source_named}
use Rattle.grammar.specs.Points.{RawPair, injection_at}
use Rattle.requests.specs.Asked.{is_rising}
use Rattle.requests.proofs.Pointing.{rising}
use Rattle.campaign.specs.Named.{injection_named}

-- ---- one injection

same_step : (step : ℕ) (o : Option ℕ) (i : Injection) → option_map (injection_at step) o ≡ Some i → i.step ≡ step
same_step step None i e = absurd (cc e)
same_step step (Some handler) i e =
    let here : injection_at step handler ≡ i = cc in sym (ap (λ (j : Injection). j.step) here)

some_handler : (step : ℕ) (o : Option ℕ) (i : Injection) → option_map (injection_at step) o ≡ Some i → IsSome o
some_handler step None i e = absurd (cc e)
some_handler step (Some handler) i e = refl

-- Some handler has the name.
pub known : (app : Application) (p : RawPair) (i : Injection)
    → injection_named app p ≡ Some i → IsSome (source_named app p.handler)
known app p i e = some_handler p.step (source_named app p.handler) i e

-- ---- all of them

module _ (app : Application) where
  abbrev pub AreThese : List RawPair → List Injection → Type 0
  AreThese ps is = map (injection_named app) ps ≡ map Some is

  as_many : (ps : List RawPair) (is : List Injection) → AreThese ps is → length ps ≡ length is
  as_many [] [] e = refl
  as_many [] (i ∷ is) e = absurd (cc e)
  as_many (p ∷ ps) [] e = absurd (cc e)
  as_many (p ∷ ps) (i ∷ is) e =
      let rest : AreThese ps is = cc in
      ap suc (as_many ps is rest)

  from_there : (n : ℕ) (ps : List RawPair) (is : List Injection) → AreThese ps is
      → AllByRecursion (λ (p : RawPair). n ≤ p.step) ps → AllByRecursion (λ (i : Injection). n ≤ i.step) is
  from_there n [] [] e h = tt
  from_there n [] (i ∷ is) e h = absurd (cc e)
  from_there n (p ∷ ps) [] e h = absurd (cc e)
  from_there n (p ∷ ps) (i ∷ is) e h =
      let first : injection_named app p ≡ Some i = cc in
      let rest : AreThese ps is = cc in
      let same = same_step p.step (source_named app p.handler) i first in
      (subst (λ (m : ℕ). n ≤ m) (sym same) h.0, from_there n ps is rest h.1)

  in_order : (ps : List RawPair) (is : List Injection) → AreThese ps is → Rises (λ (p : RawPair). p.step) ps → AreInOrder is
  in_order [] [] e h = tt
  in_order [] (i ∷ is) e h = absurd (cc e)
  in_order (p ∷ ps) [] e h = absurd (cc e)
  in_order (p ∷ ps) (i ∷ is) e h =
      let first : injection_named app p ≡ Some i = cc in
      let rest : AreThese ps is = cc in
      let same = same_step p.step (source_named app p.handler) i first in (
        from_there i.step ps is rest
            (subst (λ (m : ℕ). AllByRecursion (λ (q : RawPair). m ≤ q.step) ps) (sym same) h.0),
        in_order ps is rest h.1,
      )

  -- One to three of them, in the order of their steps, are a point.
  pub is_point : (ps : List RawPair) (is : List Injection) → AreThese ps is → is_rising ps ≡ true → 1 ≤ length ps
      → length ps ≤ most_of_point → IsPoint is
  is_point ps is e up some few =
      let many = as_many ps is e in
      record {
        some = omega (arith, some, many);
        few = omega (arith, few, many);
        in_order = in_order ps is e (rising ps up);
      }

-- A point is not refused.
pub not_refused : (bad : BadPoint) (is : List Injection) (r : Result (List Injection) BadPoint) → r ≡ Err bad → IsPoint is
    → ((r ≡ Err Empty) ↔ (is ≡ [])) → ((r ≡ Err TooMany) ↔ (most_of_point < length is))
    → ((r ≡ Err Falling) ↔ ((1 ≤ length is) × (length is ≤ most_of_point) × (AreInOrder is → ⊥))) → ⊥
not_refused Empty is r bad h empty many falling =
    let none : is ≡ [] = empty.0 bad in
    let some : 1 ≤ length is = h.some in
    let no : length is ≡ 0 = rw none refl in
    omega (arith, some, no)
not_refused TooMany is r bad h empty many falling =
    let above : most_of_point < length is = many.0 bad in
    let few : length is ≤ most_of_point = h.few in
    omega (arith, above, few)
not_refused Falling is r bad h empty many falling = (falling.0 bad).2 h.in_order
