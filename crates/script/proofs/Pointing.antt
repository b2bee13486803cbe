-- The point of injections whose handlers are known.
use Rattle.std.proofs.Common.{◌≡◌, ◌≤◌, ◌<◌, ◌↔◌, List, [], length, Some, arith, refl, ap}
use Rattle.std.specs.Prelude.{Ok, Err, Result, IfOk}
use Rattle.std.specs.Result.{result_ok}
use Rattle.model.specs.declared.plan.Injection.{Injection}
use Rattle.model.specs.declared.plan.BadPoint.{BadPoint}
use Rattle.model.specs.declared.plan.BadPoint.TheVariants.{Empty, TooMany, Falling}
use Rattle.model.specs.Points.{AreInOrder, IsPoint, most_of_point}

-- Injections that are a point are made one.
pub made_point : (r : Result (List Injection) BadPoint) (is : List Injection) → IsPoint is → IfOk r (λ point. point ≡ is)
    → ((r ≡ Err Empty) ↔ (is ≡ [])) → ((r ≡ Err TooMany) ↔ (most_of_point < length is))
    → ((r ≡ Err Falling) ↔ ((1 ≤ length is) × (length is ≤ most_of_point) × (AreInOrder is → ⊥))) → result_ok r ≡ Some is
made_point (Ok point) is h same empty many falling = ap Some same
made_point (Err Empty) is h same empty many falling =
    let none : is ≡ [] = empty.0 refl in
    let some : 1 ≤ length is = h.some in
    let no : length is ≡ 0 = rw none refl in
    absurd (omega (arith, some, no))
made_point (Err TooMany) is h same empty many falling =
    let above : most_of_point < length is = many.0 refl in
    let few : length is ≤ most_of_point = h.few in
    absurd (omega (arith, above, few))
made_point (Err Falling) is h same empty many falling = absurd ((falling.0 refl).2 h.in_order)
