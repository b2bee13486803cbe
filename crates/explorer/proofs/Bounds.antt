-- How many plans there are at most.
use Rattle.std.proofs.Common.{◌≡◌, ◌≤◌, ◌+◌, ◌-◌, ◌*◌, ℕ, zero, suc, Bool, List, [], ◌∷◌, ◌++◌, length, map, Option, Some, None}
use Rattle.std.proofs.Common.{refl, ap}
use Rattle.std.proofs.Common.{sym, ◌∙◌, subst, arith, length-append}
use Rattle.std.specs.Prelude.{Contains}
use Rattle.std.specs.List.{AllByRecursion, filter, flat_map}
use Rattle.std.proofs.Math.Nat.{mul-le-mul_left}
use Rattle.model.specs.declared.event.End.{End}
use Rattle.model.specs.declared.plan.Injection.{Injection}
use Rattle.model.specs.Application.{Application, Limits}
use Rattle.model.specs.Run.{end_of, state_after}
use Rattle.model.specs.Placements.{before_this, begun, can_all_come, choices, ended, extensions, placed_at, possible}
use Rattle.model.specs.Placements.{sequences, unless_ended}
use Rattle.model.proofs.Sorting.{by_test}
use Rattle.model.proofs.Among.{all_if, all_weaker}
use Rattle.model.proofs.Placements.{IsBegun, all_begun, choices_are, length_these, sequences_are}
use Rattle.explorer.specs.Reordered.{IsReordered}
use Rattle.explorer.specs.Reordered.IsReordered.{Nothing, Kept, Swapped, Then}

abbrev pub total : {X : Type 0} → (X → ℕ) → List X → ℕ
total f [] = 0
total f (x ∷ xs) = f x + total f xs

-- ---- sums

module _ {X : Type 0} (f : X → ℕ) where
  pub total-append : (xs ys : List X) → total f (xs ++ ys) ≡ total f xs + total f ys
  total-append [] ys = omega arith
  total-append (x ∷ xs) ys = let rest = total-append xs ys in omega (arith, rest)

  pub total_reordered : (xs ys : List X) → IsReordered xs ys → total f xs ≡ total f ys
  total_reordered _ _ Nothing = refl
  total_reordered _ _ (Kept x {xs} {ys} h) = let rest = total_reordered xs ys h in omega (arith, rest)
  total_reordered _ _ (Swapped x y xs) = omega arith
  total_reordered _ _ (Then {xs} {ys} {zs} h k) = total_reordered xs ys h ∙ total_reordered ys zs k

  pub total_flat : {Y : Type 0} (g : Y → List X) (ys : List Y) → total f (flat_map g ys) ≡ total (λ y. total f (g y)) ys
  total_flat g [] = refl
  total_flat g (y ∷ ys) = let rest = total_flat g ys in omega (arith, total-append (g y) (flat_map g ys), rest)

  pub total_map : {Y : Type 0} (g : Y → X) (ys : List Y) → total f (map g ys) ≡ total (λ y. f (g y)) ys
  total_map g [] = refl
  total_map g (y ∷ ys) = let rest = total_map g ys in omega (arith, rest)

  pub total_most : (g : X → ℕ) (xs : List X) → AllByRecursion (λ x. f x ≤ g x) xs → total f xs ≤ total g xs
  total_most g [] h = omega arith
  total_most g (x ∷ xs) h =
      let one = h.0 in
      let rest = total_most g xs h.1 in
      omega (arith, one, rest)

  pub total_filter : (p : X → Bool) (xs : List X) → total f (filter p xs) ≤ total f xs
  total_filter p [] = omega arith
  total_filter p (x ∷ xs) =
      let rest = total_filter p xs in
      by_test (p x) (λ t. rw t (omega arith)) (λ t. rw t (omega arith))

  pub total_times : (m : ℕ) (g : X → ℕ) (xs : List X) → AllByRecursion (λ x. g x ≡ m * f x) xs → total g xs ≡ m * total f xs
  total_times m g [] h = omega arith
  total_times m g (x ∷ xs) h =
      let one = h.0 in
      let rest = total_times m g xs h.1 in
      omega (arith, one, rest)

  pub total_same : (m : ℕ) (xs : List X) → AllByRecursion (λ x. f x ≡ m) xs → total f xs ≡ length xs * m
  total_same m [] h = omega arith
  total_same m (x ∷ xs) h =
      let one = h.0 in
      let rest = total_same m xs h.1 in
      omega (arith, one, rest)

pub length_total : {X : Type 0} (xs : List X) → length xs ≡ total (λ x. 1) xs
length_total [] = refl
length_total (x ∷ xs) = let rest = length_total xs in omega (arith, rest)

-- ---- powers

abbrev pub power : ℕ → ℕ → ℕ
power x zero = 1
power x (suc n) = x * power x n

pub product_most : (a b c d : ℕ) → a ≤ b → c ≤ d → a * c ≤ b * d
product_most a b c d h k =
    let first : c * a ≤ c * b = mul-le-mul_left c h in
    let second : b * c ≤ b * d = mul-le-mul_left b k in
    omega (arith, first, second)

pub power_most : (x y n : ℕ) → x ≤ y → power x n ≤ power y n
power_most x y zero l = omega arith
power_most x y (suc n) l = product_most x y (power x n) (power y n) l (power_most x y n l)

pub power_some : (x n : ℕ) → 1 ≤ x → 1 ≤ power x n
power_some x zero l = omega arith
power_some x (suc n) l = product_most 1 x 1 (power x n) l (power_some x n l)

pub power_more : (x m n : ℕ) → 1 ≤ x → m ≤ n → power x m ≤ power x n
power_more x zero n some l = power_some x n some
power_more x (suc m) zero some l = absurd (omega (arith, l))
power_more x (suc m) (suc n) some l =
    product_most x x (power x m) (power x n) (omega arith) (power_more x m n some (omega (arith, l)))

-- ---- choices

length_sequences : (handlers : List ℕ) (n : ℕ) → length (sequences handlers n) ≡ power (length handlers) n
length_sequences handlers zero = refl
length_sequences handlers (suc n) =
    let each : total (λ (handler : ℕ). total (λ (now : List ℕ). 1)
    (map (λ (others : List ℕ). handler ∷ others) (sequences handlers n))) handlers
    ≡ length handlers * power (length handlers) n =
    total_same (λ (handler : ℕ). total (λ (now : List ℕ). 1) (map (λ (others : List ℕ). handler ∷ others) (sequences handlers n)))
    (power (length handlers) n) handlers
    (all_if (λ handler. total (λ (now : List ℕ). 1) (map (λ (others : List ℕ). handler ∷ others) (sequences handlers n))
    ≡ power (length handlers) n) handlers
    (λ handler is.
    total_map (λ (now : List ℕ). 1) (λ (others : List ℕ). handler ∷ others) (sequences handlers n)
    ∙ sym (length_total (sequences handlers n)) ∙ length_sequences handlers n)) in
    length_total (sequences handlers (suc n))
    ∙ total_flat (λ (now : List ℕ). 1) (λ (handler : ℕ). map (λ (others : List ℕ). handler ∷ others)
    (sequences handlers n)) handlers
    ∙ each

-- with so many ways for each injection that is left after these
pub choices_most : (handlers : List ℕ) (x m : ℕ)
    → total (λ now. power x (m - length now)) (choices handlers m) ≤ power (x + length handlers) m
choices_most handlers x zero = omega arith
choices_most handlers x (suc m) =
    let h = length handlers in
    let shorter : total (λ now. power x (suc m - length now)) (choices handlers m)
    ≡ x * total (λ now. power x (m - length now)) (choices handlers m) =
    total_times (λ now. power x (m - length now)) x (λ now. power x (suc m - length now)) (choices handlers m)
    (all_weaker (λ now. (length now ≤ m) × AllByRecursion (Contains handlers) now)
    (λ now. power x (suc m - length now) ≡ x * power x (m - length now))
    (λ now few.
    let number : suc m - length now ≡ suc (m - length now) = (let l = few.0 in omega (arith, l)) in
    ap (λ (n : ℕ). power x n) number)
    (choices handlers m) (choices_are handlers m)) in
    let longest : total (λ now. power x (suc m - length now)) (sequences handlers (suc m)) ≡ length
    (sequences handlers (suc m)) * 1 =
    total_same (λ now. power x (suc m - length now)) 1 (sequences handlers (suc m))
    (all_weaker (λ now. (length now ≡ suc m) × AllByRecursion (Contains handlers) now) (λ now. power x (suc m - length now) ≡ 1)
    (λ now long.
    let number : suc m - length now ≡ 0 = (let e = long.0 in omega (arith, e)) in ap (λ (n : ℕ). power x n) number)
    (sequences handlers (suc m)) (sequences_are handlers (suc m))) in
    let count : length (sequences handlers (suc m)) ≡ h * power h m = length_sequences handlers (suc m) in
    let before = choices_most handlers x m in
    let one : x * total (λ now. power x (m - length now)) (choices handlers m) ≤ x * power (x + h) m = mul-le-mul_left x before in
    let other : h * power h m ≤ h * power (x + h) m = mul-le-mul_left h (power_most h (x + h) m (omega arith)) in
    omega (
      arith,
      total-append (λ now. power x (suc m - length now)) (choices handlers m) (sequences handlers (suc m)),
      shorter,
      longest,
      count,
      one,
      other,
    )

-- how many choices
pub choices_number : (handlers : List ℕ) (m : ℕ) → length (choices handlers m) ≤ power (1 + length handlers) m
choices_number handlers m =
    let each : total (λ now. 1) (choices handlers m) ≤ total (λ now. power 1 (m - length now)) (choices handlers m) =
    total_most (λ now. 1) (λ now. power 1 (m - length now)) (choices handlers m)
    (all_if (λ now. 1 ≤ power 1 (m - length now)) (choices handlers m) (λ now is. power_some 1 (m - length now) (omega arith))) in
    omega (arith, length_total (choices handlers m), each, choices_most handlers 1 m)

-- ---- plans

module _ (app : Application) (limits : Limits) (handlers : List ℕ) (most : ℕ) where
  -- as many ways as a plan may go on in so many steps more
  abbrev ways_of : ℕ → List Injection → ℕ
  ways_of left plan = power (1 + length handlers * left) (most - length plan)

  one_plan : (n left : ℕ) (plan : List Injection) → IsBegun app limits handlers most n plan → (o : Option End)
      → total (ways_of left) (unless_ended o (extensions app limits handlers most n plan))
      + length (placed_at plan n (state_after app limits plan n) o) ≤ ways_of (suc left) plan
  one_plan n left plan h (Some end) = power_some (1 + length handlers * suc left) (most - length plan) (omega arith)
  one_plan n left plan h None =
      let x = 1 + length handlers * left in
      let m = most - length plan in
      let each : total (λ now. ways_of left (plan ++ before_this n now)) (choices handlers m)
      ≤ total (λ now. power x (m - length now)) (choices handlers m) =
      total_most (λ now. ways_of left (plan ++ before_this n now)) (λ now. power x (m - length now)) (choices handlers m)
      (all_if (λ now. ways_of left (plan ++ before_this n now) ≤ power x (m - length now)) (choices handlers m)
      (λ now is.
      let number : most - length (plan ++ before_this n now) ≡ m - length now =
      omega (arith, length-append plan (before_this n now), length_these n now) in
      subst (λ (k : ℕ). power x (most - length (plan ++ before_this n now)) ≤ power x k) number (omega arith))) in
      let all = possible app (state_after app limits plan n) (choices handlers m) in
      let sum : total (ways_of left) (extensions app limits handlers most n plan)
      ≡ total (λ now. ways_of left (plan ++ before_this n now)) all =
      total_map (ways_of left) (λ now. plan ++ before_this n now) all in
      let fewer : total (λ now. ways_of left (plan ++ before_this n now)) all
      ≤ total (λ now. ways_of left (plan ++ before_this n now)) (choices handlers m) =
      total_filter (λ now. ways_of left (plan ++ before_this n now))
      (λ now. can_all_come app now (state_after app limits plan n)) (choices handlers m) in
      let bound = choices_most handlers x m in
      let base : power (x + length handlers) m ≤ power (1 + length handlers * suc left) m =
      power_most (x + length handlers) (1 + length handlers * suc left) m (omega arith) in
      omega (arith, each, sum, fewer, bound, base)

  some_plans : (n left : ℕ) (plans : List (List Injection)) → AllByRecursion (IsBegun app limits handlers most n) plans
      → total (ways_of left) (flat_map (λ plan. unless_ended (end_of app limits (state_after app limits plan n))
      (extensions app limits handlers most n plan)) plans)
      + length (flat_map (λ plan. placed_at plan n (state_after app limits plan n)
      (end_of app limits (state_after app limits plan n))) plans)
      ≤ total (ways_of (suc left)) plans
  some_plans n left [] h = omega arith
  some_plans n left (plan ∷ plans) h =
      let one = one_plan n left plan h.0 (end_of app limits (state_after app limits plan n)) in
      let rest = some_plans n left plans h.1 in
      omega (
        arith,
        one,
        rest,
        total-append (ways_of left) (unless_ended (end_of app limits (state_after app limits plan n))
            (extensions app limits handlers most n plan))
            (flat_map (λ plan. unless_ended (end_of app limits (state_after app limits plan n))
            (extensions app limits handlers most n plan)) plans),
        length-append (placed_at plan n (state_after app limits plan n) (end_of app limits (state_after app limits plan n)))
            (flat_map (λ plan. placed_at plan n (state_after app limits plan n)
            (end_of app limits (state_after app limits plan n))) plans),
      )

  -- with so many steps in all
  pub all_plans : (n left : ℕ) → total (ways_of left) (begun app limits handlers most n) + length (ended app limits handlers most n)
      ≤ power (1 + length handlers * (left + n)) most
  all_plans zero left =
      let number : left ≡ left + 0 = omega arith in
      let whole : most - 0 ≡ most = omega arith in
      let same : power (1 + length handlers * left) (most - 0) ≡ power (1 + length handlers * (left + 0)) most =
      ap (λ (k : ℕ). power (1 + length handlers * left) k) whole ∙ ap (λ (k : ℕ). power (1 + length handlers * k) most) number in
      omega (arith, same)
  all_plans (suc n) left =
      let before = all_plans n (suc left) in
      let more = some_plans n left (begun app limits handlers most n) (all_begun app limits handlers most n) in
      let number : suc left + n ≡ left + suc n = omega arith in
      let same = ap (λ (k : ℕ). power (1 + length handlers * k) most) number in
      omega (
        arith,
        before,
        more,
        same,
        length-append (ended app limits handlers most n)
            (flat_map (λ plan. placed_at plan n (state_after app limits plan n) (end_of app limits (state_after app limits plan n)))
            (begun app limits handlers most n)),
      )
