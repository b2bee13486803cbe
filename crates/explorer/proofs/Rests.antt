-- The placements to which plans go on.
use Rattle.std.proofs.Common.{◌≡◌, ◌<◌, ◌≤◌, ◌+◌, ◌-◌, ◌⊎◌, ℕ, zero, suc, Bool, true, List, [], ◌∷◌, ◌++◌, length, map, Option}
use Rattle.std.proofs.Common.{Some, None}
use Rattle.std.proofs.Common.{refl, ap}
use Rattle.std.proofs.Common.{sym, ◌∙◌, arith, append-nil, length-append, inl, inr}
use Rattle.std.specs.Prelude.{Contains}
use Rattle.std.specs.List.{AllByRecursion, filter, flat_map}
use Rattle.std.proofs.lemmas.List.{append_assoc}
use Rattle.std.proofs.lemmas.List.Concat.{flat_map-append}
use Rattle.model.specs.declared.event.End.{End}
use Rattle.model.specs.declared.plan.Injection.{Injection}
use Rattle.model.specs.Application.{Application, Limits}
use Rattle.model.specs.Run.{end_of, state_after}
use Rattle.model.specs.Placements.{Placed, before_this, begun, can_all_come, choices, ended, extensions, placed_at}
use Rattle.model.specs.Placements.{possible, unless_ended}
use Rattle.model.specs.State.{State}
use Rattle.model.specs.Switching.{is_critical}
use Rattle.model.proofs.Sorting.{by_test}
use Rattle.model.proofs.Among.{among_filter, among_map, first_or_later, none_is}
use Rattle.model.proofs.Placements.{choices_have}
use Rattle.kernel.proofs.Running.{steps_under}
use Rattle.explorer.specs.Frontiers.{Plans, everything, placed_from, rests_of}
use Rattle.explorer.specs.Layers.{followed}
use Rattle.explorer.specs.Reordered.{IsReordered}
use Rattle.explorer.specs.Reordered.IsReordered.{Then}
use Rattle.explorer.specs.Tallies.{ending_in}
use Rattle.explorer.proofs.Reorderings.{behind_all, by_columns_if, flat_reordered, if_same, past}

flat_least : {X Y : Type 0} (g : X → List Y) (xs : List X) (x : X) → Contains xs x → length (g x) ≤ length (flat_map g xs)
flat_least g [] x h = none_is x h
flat_least g (y ∷ xs) x h = elim (first_or_later y xs x h) [
  | inl same ↦ (let here : length (g x) ≡ length (g y) = ap (λ z. length (g z)) same in omega (
    arith,
    here,
    length-append (g y)
        (flat_map g xs),
  ))
  | inr later ↦ (let rest = flat_least g xs x later in omega (arith, rest, length-append (g y) (flat_map g xs)))
]

-- a part of each, and what the rest of each comes to
flat_both : {X Y Z : Type 0} (f : X → List Z) (g : X → List Y) (h : Y → List Z) (xs : List X)
    → IsReordered (flat_map f xs ++ flat_map h (flat_map g xs)) (flat_map (λ x. f x ++ flat_map h (g x)) xs)
flat_both f g h [] = if_same [] [] refl
flat_both f g h (x ∷ xs) =
    let firsts = flat_map f xs in
    let lasts = flat_map h (flat_map g xs) in
    Then (if_same ((f x ++ firsts) ++ flat_map h (g x ++ flat_map g xs)) (f x ++ (firsts ++ (flat_map h (g x) ++ lasts)))
    (append_assoc (f x) firsts (flat_map h (g x ++ flat_map g xs))
    ∙ ap (λ ys. f x ++ (firsts ++ ys)) (flat_map-append h (g x) (flat_map g xs))))
    (Then (behind_all (f x) (firsts ++ (flat_map h (g x) ++ lasts)) (flat_map h (g x) ++ (firsts ++ lasts))
    (past firsts (flat_map h (g x)) lasts))
    (Then (if_same (f x ++ (flat_map h (g x) ++ (firsts ++ lasts))) ((f x ++ flat_map h (g x)) ++ (firsts ++ lasts))
    (sym (append_assoc (f x) (flat_map h (g x)) (firsts ++ lasts))))
    (behind_all (f x ++ flat_map h (g x)) (firsts ++ lasts) (flat_map (λ y. f y ++ flat_map h (g y)) xs)
    (flat_both f g h xs))))

-- That no handler comes can always be.
none_can : (app : Application) (s : State) → can_all_come app [] s ≡ true
none_can app s = by_test (is_critical s) (λ t. rw t refl) (λ t. rw t refl)

none_possible : (app : Application) (s : State) → possible app s ([] ∷ []) ≡ [] ∷ []
none_possible app s = rw (none_can app s) refl

module _ (app : Application) (limits : Limits) (handlers : List ℕ) (most : ℕ) where
  abbrev from : ℕ → ℕ → List Injection → List Placed
  from fuel n plan = placed_from app limits handlers most fuel n plan

  abbrev end_at : List Injection → ℕ → Option End
  end_at plan n = end_of app limits (state_after app limits plan n)

  -- ---- with so many steps at most

  from_going : (fuel n : ℕ) (plan : List Injection) → end_at plan n ≡ None
      → from (suc fuel) n plan ≡ flat_map (from fuel (suc n)) (extensions app limits handlers most n plan)
  from_going fuel n plan none =
      ap (λ (o : Option End). placed_at plan n (state_after app limits plan n) o
      ++ flat_map (from fuel (suc n)) (unless_ended o (extensions app limits handlers most n plan))) none

  from_ended : (fuel n : ℕ) (plan : List Injection) (end : End) → end_at plan n ≡ Some end
      → from (suc fuel) n plan
      ≡ record { injections = plan; steps = n; ticks = (state_after app limits plan n).elapsed; end = end } ∷ []
  from_ended fuel n plan end some =
      ap (λ (o : Option End). placed_at plan n (state_after app limits plan n) o
      ++ flat_map (from fuel (suc n)) (unless_ended o (extensions app limits handlers most n plan))) some

  from_full : (fuel n : ℕ) (plan : List Injection) → most ≤ length plan → end_at plan n ≡ None
      → from (suc fuel) n plan ≡ from fuel (suc n) plan
  from_full fuel n plan full none =
      let left : most - length plan ≡ 0 = omega (arith, full) in
      let s : State = state_after app limits plan n in
      from_going fuel n plan none
      ∙ ap (λ (k : ℕ). flat_map (from fuel (suc n)) (map (λ (now : List ℕ). plan ++ before_this n now)
      (possible app s (choices handlers k)))) left
      ∙ ap (λ (nows : List (List ℕ)). flat_map (from fuel (suc n)) (map (λ (now : List ℕ). plan ++ before_this n now) nows))
      (none_possible app s)
      ∙ append-nil (from fuel (suc n) (plan ++ []))
      ∙ ap (λ (p : List Injection). from fuel (suc n) p) (append-nil plan)

  from_far : (d fuel n : ℕ) (plan : List Injection) → most ≤ length plan → ((m : ℕ) → m < n + d → end_at plan m ≡ None)
      → from (d + fuel) n plan ≡ from fuel (n + d) plan
  from_far zero fuel n plan full goes =
      let none : zero + fuel ≡ fuel = omega arith in
      let number : n ≡ n + 0 = omega arith in
      ap (λ (k : ℕ). from k n plan) none ∙ ap (λ (m : ℕ). from fuel m plan) number
  from_far (suc d) fuel n plan full goes =
      let more : suc d + fuel ≡ suc (d + fuel) = omega arith in
      let number : suc n + d ≡ n + suc d = omega arith in
      ap (λ (k : ℕ). from k n plan) more
      ∙ from_full (d + fuel) n plan full (goes n (omega arith))
      ∙ from_far d fuel (suc n) plan full (λ m l. goes m (omega (arith, l)))
      ∙ ap (λ (m : ℕ). from fuel m plan) number

  -- Each goes on to some.
  from_some : (fuel n : ℕ) (plan : List Injection) → fuel + n ≡ limits.steps + 1 → 0 < fuel → 1 ≤ length (from fuel n plan)
  from_some zero n plan sum some = absurd (omega (arith, some))
  from_some (suc fuel) n plan sum some =
      by_end (λ left. from_some fuel (suc n) (plan ++ before_this n []) (omega (arith, sum)) left) (end_at plan n) refl where
        by_end : (0 < fuel → 1 ≤ length (from fuel (suc n) (plan ++ before_this n []))) → (o : Option End) → end_at plan n ≡ o
            → 1 ≤ length (from (suc fuel) n plan)
        by_end later (Some end) is =
            let number : length (from (suc fuel) n plan) ≡ 1 = ap (λ (ps : List Placed). length ps) (from_ended fuel n plan end is)
            in
            omega (arith, number)
        by_end later None is =
            let under = steps_under app plan limits n is in
            let none : List ℕ = [] in
            let rest = later (omega (arith, sum, under)) in
            let among : Contains (extensions app limits handlers most n plan) (plan ++ before_this n none) =
            among_map (λ (now : List ℕ). plan ++ before_this n now)
            (possible app (state_after app limits plan n) (choices handlers (most - length plan))) none
            (among_filter (λ now. can_all_come app now (state_after app limits plan n)) (choices handlers (most - length plan)) none
            (choices_have handlers none (most - length plan) tt (omega arith)) (none_can app (state_after app limits plan n))) in
            let least = flat_least (from fuel (suc n)) (extensions app limits handlers most n plan)
            (plan ++ before_this n none) among in
            let number : length (from (suc fuel) n plan) ≡ length (flat_map (from fuel (suc n))
            (extensions app limits handlers most n plan)) =
            ap (λ (ps : List Placed). length ps) (from_going fuel n plan is) in
            omega (arith, rest, least, number)

  -- All placements are those whose runs have fewer steps, and those to which the other plans go on.
  ended_from : (fuel n : ℕ) → IsReordered (ended app limits handlers most (fuel + n))
      (ended app limits handlers most n ++ flat_map (from fuel n) (begun app limits handlers most n))
  ended_from zero n =
      let plans = begun app limits handlers most n in
      if_same (ended app limits handlers most (0 + n)) (ended app limits handlers most n ++ flat_map (from 0 n) plans)
      (let number : 0 + n ≡ n = omega arith in
      ap (λ (m : ℕ). ended app limits handlers most m) number
      ∙ sym (append-nil (ended app limits handlers most n))
      ∙ ap (λ (ps : List Placed). ended app limits handlers most n ++ ps) (sym (nothing plans)))
    where
      nothing : (plans : Plans) → flat_map (from 0 n) plans ≡ []
      nothing [] = refl
      nothing (plan ∷ plans) = nothing plans
  ended_from (suc fuel) n =
      let plans = begun app limits handlers most n in
      let number : suc fuel + n ≡ fuel + suc n = omega arith in
      let here = λ (plan : List Injection). placed_at plan n (state_after app limits plan n) (end_at plan n) in
      let on = λ (plan : List Injection). unless_ended (end_at plan n) (extensions app limits handlers most n plan) in
      Then (if_same (ended app limits handlers most (suc fuel + n)) (ended app limits handlers most (fuel + suc n))
      (ap (λ (m : ℕ). ended app limits handlers most m) number))
      (Then (ended_from fuel (suc n))
      (Then (if_same ((ended app limits handlers most n ++ flat_map here plans) ++ flat_map (from fuel (suc n)) (flat_map on plans))
      (ended app limits handlers most n ++ (flat_map here plans ++ flat_map (from fuel (suc n)) (flat_map on plans)))
      (append_assoc (ended app limits handlers most n) (flat_map here plans) (flat_map (from fuel (suc n)) (flat_map on plans))))
      (behind_all (ended app limits handlers most n)
      (flat_map here plans ++ flat_map (from fuel (suc n)) (flat_map on plans)) (flat_map (from (suc fuel) n) plans)
      (flat_both here on (from fuel (suc n)) plans))))

  -- ---- up to the limit of steps

  abbrev rest : ℕ → List Injection → List Placed
  rest n plan = from (limits.steps + 1 - n) n plan

  at_most : (plan : List Injection) (n : ℕ) → ((m : ℕ) → m < n → end_at plan m ≡ None) → n ≤ limits.steps
  at_most plan zero goes = omega arith
  at_most plan (suc n) goes = let under = steps_under app plan limits n (goes n (omega arith)) in omega (arith, under)

  rest_going : (n : ℕ) (plan : List Injection) → end_at plan n ≡ None
      → rest n plan ≡ flat_map (rest (n + 1)) (extensions app limits handlers most n plan)
  rest_going n plan none =
      let under = steps_under app plan limits n none in
      let number : limits.steps + 1 - n ≡ suc (limits.steps + 1 - (n + 1)) = omega (arith, under) in
      let next : suc n ≡ n + 1 = omega arith in
      ap (λ (k : ℕ). from k n plan) number ∙ from_going (limits.steps + 1 - (n + 1)) n plan none
      ∙ ap (λ (m : ℕ). flat_map (from (limits.steps + 1 - (n + 1)) m) (extensions app limits handlers most n plan)) next

  rest_ended : (n : ℕ) (plan : List Injection) (end : End) → n ≤ limits.steps → end_at plan n ≡ Some end
      → rest n plan ≡ record { injections = plan; steps = n; ticks = (state_after app limits plan n).elapsed; end = end } ∷ []
  rest_ended n plan end under some =
      let number : limits.steps + 1 - n ≡ suc (limits.steps - n) = omega (arith, under) in
      ap (λ (k : ℕ). from k n plan) number ∙ from_ended (limits.steps - n) n plan end some

  rest_far : (n e : ℕ) (plan : List Injection) → most ≤ length plan → n ≤ e → ((m : ℕ) → m < e → end_at plan m ≡ None)
      → rest n plan ≡ rest e plan
  rest_far n e plan full on goes =
      let under = at_most plan e goes in
      let number : limits.steps + 1 - n ≡ e - n + (limits.steps + 1 - e) = omega (arith, on, under) in
      let here : n + (e - n) ≡ e = omega (arith, on) in
      ap (λ (k : ℕ). from k n plan) number
      ∙ from_far (e - n) (limits.steps + 1 - e) n plan full (λ m l. goes m (omega (arith, l, on)))
      ∙ ap (λ (m : ℕ). from (limits.steps + 1 - e) m plan) here

  rest_some : (n : ℕ) (plan : List Injection) → n ≤ limits.steps → 1 ≤ length (rest n plan)
  rest_some n plan under = from_some (limits.steps + 1 - n) n plan (omega (arith, under)) (omega (arith, under))

-- Its run has ended before step n as this placement has.
pub record IsOver (app : Application) (limits : Limits) (n : ℕ) (p : Placed) (plan : List Injection) : Type 0 where
  pub under : n ≤ limits.steps
  pub end : end_of app limits (state_after app limits plan n) ≡ Some p.end
  pub elapsed : (state_after app limits plan n).elapsed ≡ p.ticks

module _ (app : Application) (limits : Limits) (handlers : List ℕ) (levels : ℕ) where
  abbrev rests : ℕ → Plans → List Placed
  rests n plans = rests_of app limits handlers levels n plans

  pub ways_end : (plan : List Injection) (n : ℕ) → ((m : ℕ) → m < n → end_of app limits (state_after app limits plan m) ≡ None)
      → n ≤ limits.steps
  ways_end plan n goes = at_most app limits handlers (levels - 1) plan n goes

  pub rests_reordered : (n : ℕ) (ps qs : Plans) → IsReordered ps qs → IsReordered (rests n ps) (rests n qs)
  rests_reordered n ps qs h =
      flat_reordered (placed_from app limits handlers (levels - 1) (limits.steps + 1 - n) n) ps qs h

  -- They go on with each choice that can come there.
  pub all_going : (n long : ℕ) (plans : Plans) → AllByRecursion (λ plan. end_of app limits (state_after app limits plan n) ≡ None)
      plans
      → AllByRecursion (λ plan. length plan ≡ long) plans
      → IsReordered (rests n plans)
      (rests (n + 1) (flat_map (followed app limits n plans) (choices handlers (levels - 1 - long))))
  all_going n long plans going as_long =
      let f = placed_from app limits handlers (levels - 1) (limits.steps + 1 - (n + 1)) (n + 1) in
      let nows = choices handlers (levels - 1 - long) in
      Then (if_same (rests n plans) (flat_map f (flat_map (λ plan. row plan nows) plans)) (by_rows plans going as_long))
      (flat_reordered f (flat_map (λ plan. row plan nows) plans) (flat_map (followed app limits n plans) nows)
      (by_columns_if can (λ (plan : List Injection) (now : List ℕ). plan ++ before_this n now) plans nows))
    where
      can : List Injection → List ℕ → Bool
      can plan now = can_all_come app now (state_after app limits plan n)

      row : List Injection → List (List ℕ) → Plans
      row plan nows = map (λ (now : List ℕ). plan ++ before_this n now) (filter (λ now. can plan now) nows)

      by_rows : (ps : Plans) → AllByRecursion (λ plan. end_of app limits (state_after app limits plan n) ≡ None) ps
          → AllByRecursion (λ plan. length plan ≡ long) ps
          → rests n ps ≡ rests (n + 1) (flat_map (λ plan. row plan (choices handlers (levels - 1 - long))) ps)
      by_rows [] going as_long = refl
      by_rows (plan ∷ ps) going as_long =
          let f = placed_from app limits handlers (levels - 1) (limits.steps + 1 - (n + 1)) (n + 1) in
          let of = λ (l : ℕ). row plan (choices handlers (levels - 1 - l)) in
          ap (λ (qs : List Placed). qs ++ rests n ps) (rest_going app limits handlers (levels - 1) n plan going.0)
          ∙ ap (λ (l : ℕ). flat_map f (of l) ++ rests n ps) as_long.0
          ∙ ap (λ (qs : List Placed). flat_map f (of long) ++ qs) (by_rows ps going.1 as_long.1)
          ∙ sym (flat_map-append f (of long) (flat_map (λ p. row p (choices handlers (levels - 1 - long))) ps))

  -- They have ended.
  pub all_over : (n : ℕ) (p : Placed) → p.steps ≡ n → (plans : Plans) → AllByRecursion (IsOver app limits n p) plans
      → rests n plans ≡ ending_in p plans
  all_over n p is_steps [] over = refl
  all_over n p is_steps (plan ∷ plans) over =
      ap (λ (qs : List Placed). qs ++ rests n plans)
      (rest_ended app limits handlers (levels - 1) n plan p.end over.0.under over.0.end)
      ∙ ap (λ (m : ℕ). record { injections = plan; steps = n; ticks = m; end = p.end } ∷ rests n plans) over.0.elapsed
      ∙ ap (λ (m : ℕ). record { injections = plan; steps = m; ticks = p.ticks; end = p.end } ∷ rests n plans) (sym is_steps)
      ∙ ap (λ (ps : List Placed). record p { injections = plan } ∷ ps) (all_over n p is_steps plans over.1)

  -- They have no injection left, or get nowhere.
  pub all_far : (n e : ℕ) → n ≤ e → (plans : Plans) → (e ≡ n) ⊎ AllByRecursion (λ plan. levels - 1 ≤ length plan) plans
      → AllByRecursion (λ plan. (m : ℕ) → m < e → end_of app limits (state_after app limits plan m) ≡ None) plans
      → rests n plans ≡ rests e plans
  all_far n e on plans (inl here) goes = ap (λ (m : ℕ). rests m plans) (sym here)
  all_far n e on plans (inr full) goes = by_plans plans full goes where
    by_plans : (ps : Plans) → AllByRecursion (λ plan. levels - 1 ≤ length plan) ps
        → AllByRecursion (λ plan. (m : ℕ) → m < e → end_of app limits (state_after app limits plan m) ≡ None) ps
        → rests n ps ≡ rests e ps
    by_plans [] full goes = refl
    by_plans (plan ∷ ps) full goes =
        ap (λ (qs : List Placed). qs ++ rests n ps) (rest_far app limits handlers (levels - 1) n e plan full.0 on goes.0)
        ∙ ap (λ (qs : List Placed). placed_from app limits handlers (levels - 1) (limits.steps + 1 - e) e plan ++ qs)
        (by_plans ps full.1 goes.1)

  pub all_some : (n : ℕ) (plans : Plans) → AllByRecursion (λ plan. n ≤ limits.steps) plans → length plans ≤ length (rests n plans)
  all_some n [] under = omega arith
  all_some n (plan ∷ plans) under =
      let one = rest_some app limits handlers (levels - 1) n plan under.0 in
      let rest = all_some n plans under.1 in
      omega (
        arith,
        one,
        rest,
        length-append (placed_from app limits handlers (levels - 1) (limits.steps + 1 - n) n plan)
            (rests n plans),
      )

  -- All placements are those to which the plan of no injection goes on.
  pub all_from : IsReordered (everything app limits handlers levels) (rests 0 ([] ∷ []) ++ [])
  all_from =
      let number : limits.steps + 1 ≡ limits.steps + 1 - 0 + 0 = omega arith in
      Then (if_same (everything app limits handlers levels) (ended app limits handlers (levels - 1) (limits.steps + 1 - 0 + 0))
      (ap (λ (m : ℕ). ended app limits handlers (levels - 1) m) number))
      (Then (ended_from app limits handlers (levels - 1) (limits.steps + 1 - 0) 0)
      (if_same (rests 0 ([] ∷ [])) (rests 0 ([] ∷ []) ++ []) (sym (append-nil (rests 0 ([] ∷ []))))))
