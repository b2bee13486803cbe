-- The plans of a node, passed on to the next layer.
use Rattle.std.proofs.Common.{◌≡◌, ◌<◌, ◌≤◌, ◌+◌, ◌-◌, ◌*◌, ℕ, zero, suc, false, List, [], ◌∷◌, ◌++◌, length, take, drop, get_or}
use Rattle.std.proofs.Common.{Option, Some, None, refl, ap, sym, ◌∙◌, subst, arith, append-nil, length-append}
use Rattle.std.specs.Prelude.{Contains}
use Rattle.std.specs.List.{AllByRecursion, flat_map}
use Rattle.std.proofs.Math.Nat.{mul-le-mul_left}
use Rattle.std.proofs.lemmas.List.{append_assoc, get_or-drop, length-drop, length-take}
use Rattle.std.proofs.lemmas.List.Concat.{flat_map-append}
use Rattle.model.specs.declared.event.End.{End}
use Rattle.model.specs.declared.plan.Injection.{Injection}
use Rattle.model.specs.Application.{Application, Limits}
use Rattle.model.specs.State.{State}
use Rattle.model.specs.Run.{end_of, state_after}
use Rattle.model.specs.Placements.{Placed, choices, is_less, sequences}
use Rattle.model.proofs.Among.{all_of_both, all_weaker}
use Rattle.model.proofs.Placements.{sequences_are}
use Rattle.machine.specs.declared.machine.Machine.{Machine}
use Rattle.machine.specs.StandsFor.{Stands}
use Rattle.machine.specs.Can.{IsUnderWay}
use Rattle.explorer.specs.declared.frontier.Frontier.{Frontier}
use Rattle.explorer.specs.declared.layer.Node.{Node}
use Rattle.explorer.specs.Choosing.{AreLevels}
use Rattle.explorer.specs.Frontiers.{Holds, Passes, Plans, Settles, Takes, TakesBy, rests_of}
use Rattle.explorer.specs.Layers.{AreAt, AreOf, GoesOn, HasWay, followed, nows_of}
use Rattle.explorer.specs.Tallies.{TalliesMore, ending_in}
use Rattle.explorer.proofs.Choosing.{flat_more, read_level}
use Rattle.explorer.proofs.Holding.{holds_reordered, holds_same, kept_found, kept_live, kept_spent, under_limit}
use Rattle.explorer.proofs.Reorderings.{behind_all, flat_reordered, turned_round}
use Rattle.explorer.proofs.Rests.{IsOver, all_going, all_over}

-- ---- choice by choice

module _ (app : Application) (limits : Limits) (levels until : ℕ) (k : Machine) (count : ℕ)
    (least : List Injection) where
  pub takes_none : (f : Frontier) → TakesBy app limits levels until k count least [] f f
  takes_none f handlers n more total of h =
      holds_same app limits handlers levels (n + 1) until f total (total ++ []) (append-nil total) h

  pub takes_then : (first then : List (List ℕ)) (a b c : Frontier) → TakesBy app limits levels until k count least first a b
      → TakesBy app limits levels until k count least then b c → TakesBy app limits levels until k count least (first ++ then) a c
  takes_then first then a b c g e handlers n more total of h =
      let rests = rests_of app limits handlers levels (n + 1) in
      let of_first = flat_map (followed app limits n more) first in
      let of_then = flat_map (followed app limits n more) then in
      holds_same app limits handlers levels (n + 1) until c ((total ++ rests of_first) ++ rests of_then)
      (total ++ rests (flat_map (followed app limits n more) (first ++ then)))
      (ap (λ (plans : Plans). total ++ rests plans) (flat_map-append (followed app limits n more) first then)
      ∙ ap (λ (ps : List Placed). total ++ ps) (flat_map-append _ of_first of_then)
      ∙ sym (append_assoc total (rests of_first) (rests of_then)))
      (e handlers n more (total ++ rests of_first) of (g handlers n more total of h))

  pub takes_as : (nows others : List (List ℕ)) (a b : Frontier) → nows ≡ others
      → TakesBy app limits levels until k count least nows a b
      → TakesBy app limits levels until k count least others a b
  takes_as nows others a b e g = subst (λ (ns : List (List ℕ)). TakesBy app limits levels until k count least ns a b) e g

  -- in the other order
  pub takes_turned : (first then : List (List ℕ)) (a b : Frontier)
      → TakesBy app limits levels until k count least (first ++ then) a b
      → TakesBy app limits levels until k count least (then ++ first) a b
  takes_turned first then a b g handlers n more total of h =
      let rests = λ (nows : List (List ℕ)).
      rests_of app limits handlers levels (n + 1) (flat_map (followed app limits n more) nows) in
      holds_reordered app limits handlers levels (n + 1) until b (total ++ rests (first ++ then)) (total ++ rests (then ++ first))
      (behind_all total (rests (then ++ first)) (rests (first ++ then))
      (flat_reordered _ (flat_map (followed app limits n more) (then ++ first))
      (flat_map (followed app limits n more) (first ++ then))
      (flat_reordered (followed app limits n more) (then ++ first) (first ++ then) (turned_round then first))))
      (g handlers n more total of h)

  -- what comes of a kernel after one of them
  pub takes_next : (next : Machine) (longer : List Injection) (now : List ℕ) (old new : Frontier)
      → Takes app limits levels until next count longer old new
      → ((n : ℕ) (more : Plans) → AreAt app limits n k count least more → AreAt app limits (n + 1) next count longer
      (followed app limits n more now))
      → TakesBy app limits levels until k count least (now ∷ []) old new
  takes_next next longer now old new takes stepped handlers n more total of h =
      let plans = followed app limits n more now in
      let at = stepped n more of in
      let on : AreAt app limits (n + 1) next count longer plans → Holds app limits handlers levels (n + 1) until old total
      → Holds app limits handlers levels (n + 1) until new (total ++ rests_of app limits handlers levels (n + 1) plans) =
      subst (λ (m : ℕ). AreAt app limits m next count longer plans → Holds app limits handlers levels m until old total
      → Holds app limits handlers levels m until new (total ++ rests_of app limits handlers levels m plans)) at.here
      (takes handlers plans total) in
      holds_same app limits handlers levels (n + 1) until new (total ++ rests_of app limits handlers levels (n + 1) plans)
      (total ++ rests_of app limits handlers levels (n + 1) (plans ++ []))
      (ap (λ (ps : Plans). total ++ rests_of app limits handlers levels (n + 1) ps) (append-nil plans)) (on at h)

  -- nothing comes of it if they can't come
  pub takes_missed : (now : List ℕ) (f : Frontier)
      → ((n : ℕ) (more : Plans) → AreAt app limits n k count least more → followed app limits n more now ≡ [])
      → TakesBy app limits levels until k count least (now ∷ []) f f
  takes_missed now f none handlers n more total of h =
      let rests = rests_of app limits handlers levels (n + 1) in
      holds_same app limits handlers levels (n + 1) until f total (total ++ rests (followed app limits n more now ++ []))
      (ap (λ (ps : Plans). total ++ rests (ps ++ [])) (none n more of) ∙ append-nil total) h

-- those with injections left, and those without

module _ (app : Application) (limits : Limits) (levels until : ℕ) (k : Machine) (count : ℕ) (least : List Injection)
    (old new : Frontier) where
  pub takes_live : length least + 1 < levels
      → Settles app limits k.steps k count least old.live.nodes.items new.live.nodes.items old.findings.items new.findings.items
      → new.spent.nodes.items ≡ old.spent.nodes.items → Takes app limits levels until k count least old new
  takes_live few settles spent handlers more total at h =
      kept_live app limits handlers levels k.steps until old new more total h (settles h.plans more h.all at h.live h.tally) spent
      (all_weaker (λ plan. length plan ≡ length least) (λ plan. length plan ≤ levels - 1) (λ plan e. omega (arith, e, few)) more
      at.long)

  pub takes_spent : levels ≤ length least + 1
      → Settles app limits until k count least old.spent.nodes.items new.spent.nodes.items old.findings.items new.findings.items
      → new.live.nodes.items ≡ old.live.nodes.items → Takes app limits levels until k count least old new
  takes_spent full settles live handlers more total at h =
      kept_spent app limits handlers levels k.steps until k.steps old new more total h (settles h.full more h.all at h.spent
      h.tally) live
      (all_weaker (λ plan. length plan ≡ length least) (λ plan. levels - 1 ≤ length plan) (λ plan e. omega (arith, e, full)) more
      at.long)

-- ---- how many fit

-- some of them, and more
pub room_of : (some one all count base most : ℕ) → some + one ≤ all → base + all * count < most
    → base + some * count + one * count < most
room_of some one all count base most few room =
    let more : count * (some + one) ≤ count * all = mul-le-mul_left count few in omega (arith, more, room)

-- ---- level by level

abbrev flat : List (List (List ℕ)) → List (List ℕ)
flat levels = flat_map (λ level. level) levels

-- the first levels are the choices of fewer
pub levels_are : (handlers : List ℕ) (levels : List (List (List ℕ))) → AreLevels handlers levels
    → (n : ℕ) → n < length levels → flat (take (n + 1) levels) ≡ choices handlers n
levels_are handlers levels are zero l =
    flat_more (λ level. level) levels 0 [] l ∙ ap (λ (ls : List (List ℕ)). flat (take 0 levels) ++ ls) (are 0 l) ∙ none levels where
      none : (ls : List (List (List ℕ))) → flat (take 0 ls) ++ sequences handlers 0 ≡ sequences handlers 0
      none [] = refl
      none (x ∷ ls) = refl
levels_are handlers levels are (suc n) l =
    let here : suc n ≡ n + 1 = omega arith in
    flat_more (λ level. level) levels (suc n) [] l
    ∙ ap (λ (ls : List (List ℕ)). flat (take (suc n) levels) ++ ls) (are (suc n) l)
    ∙ ap (λ (m : ℕ). flat (take m levels) ++ sequences handlers (suc n)) here
    ∙ ap (λ (ls : List (List ℕ)). ls ++ sequences handlers (suc n)) (levels_are handlers levels are n (omega (arith, l)))

pub flat_few : (levels : List (List (List ℕ))) (i : ℕ) (d : List (List ℕ)) → i < length levels
    → length (flat (take i levels)) + length (get_or levels i d) ≤ length (flat levels)
flat_few [] i d l = absurd (omega (arith, l))
flat_few (x ∷ levels) zero d l = omega (arith, length-append x (flat levels))
flat_few (x ∷ levels) (suc i) d l =
    let rest = flat_few levels i d (omega (arith, l)) in
    omega (arith, length-append x (flat levels), length-append x (flat (take i levels)), rest)

-- with the next of them
pub level_on : (levels : List (List (List ℕ))) (i : ℕ) (level : List (List ℕ)) → i < length levels
    → flat (take (i + 1) levels) ≡ flat (take i levels) ++ get_or levels i level
level_on levels i level within = flat_more (λ ls. ls) levels i level within

pub level_fits : (levels : List (List (List ℕ))) (i : ℕ) (level : List (List ℕ)) → i < length levels
    → (now base count most : ℕ) → now ≤ base + length (flat (take i levels)) * count
    → base + length (flat levels) * count < most → now + length (get_or levels i level) * count < most
level_fits levels i level within now base count most e room =
    let sum = room_of (length (flat (take i levels))) (length (get_or levels i level)) (length (flat levels)) count base most
    (flat_few levels i level within) room in
    omega (arith, sum, e)

-- The kernel's run goes on where it isn't at its end.
pub goes_if : (app : Application) (limits : Limits) (k : Machine) (least : List Injection) → HasWay app limits k least →
    (o : Option End)
    → ((s : State) → Stands k s → o ≡ end_of app limits s) → o ≡ None → GoesOn app limits k
goes_if app limits k least way o ends none = record {
  plan = least;
  way = way.way;
  going = λ other under. sym (ends (state_after app limits other k.steps) under.stands) ∙ none;
}

-- ---- a node that is passed

module _ (app : Application) (limits : Limits) (handlers : List ℕ) (levels until : ℕ) (node : Node)
    (o : Option End) (ends : (s : State) → Stands node.kernel.value s → o ≡ end_of app limits s) where
  all_end : (n : ℕ) (more : Plans) → AreOf app limits n node more
      → AllByRecursion (λ plan. end_of app limits (state_after app limits plan n) ≡ o) more
  all_end n more of =
      all_weaker (λ plan. IsUnderWay app plan limits node.kernel.value) (λ plan. end_of app limits (state_after app limits plan n) ≡
      o)
      (λ plan way.
      sym (subst (λ (m : ℕ). o ≡ end_of app limits (state_after app limits plan m)) of.here
      (ends (state_after app limits plan node.kernel.value.steps) way.stands))) more of.way

  pub passes_going : o ≡ None → (old new : Frontier)
      → TakesBy app limits levels until node.kernel.value node.count node.least (nows_of handlers levels node.least) old new
      → Passes app limits handlers levels until node old new
  passes_going none old new takes n more total of h =
      let onward = flat_map (followed app limits n more) (nows_of handlers levels node.least) in
      holds_reordered app limits handlers levels (n + 1) until new (total ++ rests_of app limits handlers levels (n + 1) onward)
      (total ++ rests_of app limits handlers levels n more)
      (behind_all total (rests_of app limits handlers levels n more) (rests_of app limits handlers levels (n + 1) onward)
      (all_going app limits handlers levels n (length node.least) more
      (all_weaker (λ plan. end_of app limits (state_after app limits plan n) ≡ o)
      (λ plan. end_of app limits (state_after app limits plan n) ≡ None) (λ plan e. e ∙ none) more (all_end n more of)) of.long))
      (takes handlers n more total of h)

  pub passes_ended : (end : End) → o ≡ Some end → (old new : Frontier) (p : Placed) (count : ℕ)
      → count ≡ node.count → p.injections ≡ node.least → p.end ≡ end → p.steps ≡ node.kernel.value.steps
      → ((s : State) → Stands node.kernel.value s → p.ticks ≡ s.elapsed)
      → TalliesMore old.findings.items new.findings.items count p
      → new.live.nodes.items ≡ old.live.nodes.items → new.spent.nodes.items ≡ old.spent.nodes.items
      → Passes app limits handlers levels until node old new
  passes_ended end some old new p count is_count is_least is_end is_steps ticks tallies live spent n more total of h =
      let over : AllByRecursion (IsOver app limits n p) more =
      all_weaker (λ plan. (n ≤ limits.steps) × (IsUnderWay app plan limits node.kernel.value)) (IsOver app limits n p)
      (λ plan both. record {
        under = both.0;
        end =
            sym (subst (λ (m : ℕ). o ≡ end_of app limits (state_after app limits plan m)) of.here
            (ends (state_after app limits plan node.kernel.value.steps) both.1.stands))
            ∙ some ∙ ap (λ (d : End). Some d) (sym is_end);
        elapsed =
            sym (subst (λ (m : ℕ). p.ticks ≡ (state_after app limits plan m).elapsed) of.here
            (ticks (state_after app limits plan node.kernel.value.steps) both.1.stands));
      }) more
      (all_of_both (λ plan. n ≤ limits.steps) (λ plan. IsUnderWay app plan limits node.kernel.value) more
      (under_limit app limits n node more of) of.way) in
      kept_found app limits handlers levels (n + 1) until n old new more (ending_in p more) total h
      (tallies h.all more h.tally (is_count ∙ of.number)
      (subst (Contains more) (sym is_least) of.among)
      (subst (λ (l : List Injection). AllByRecursion (λ plan. is_less plan l ≡ false) more)
      (sym is_least) of.none_less))
      live spent (all_over app limits handlers levels n p (is_steps ∙ of.here) more over)

-- ---- lists by their places

pub all_get : {X : Type 0} (P : X → Type 0) (xs : List X) (i : ℕ) (d : X) → i < length xs → AllByRecursion P xs → P (get_or xs i d)
all_get P [] i d l h = absurd (omega (arith, l))
all_get P (x ∷ xs) zero d l h = h.0
all_get P (x ∷ xs) (suc i) d l h = all_get P xs i d (omega (arith, l)) h.1

pub take_whole : {X : Type 0} (xs : List X) (i : ℕ) → length xs ≤ i → take i xs ≡ xs
take_whole [] zero l = refl
take_whole [] (suc i) l = refl
take_whole (x ∷ xs) zero l = absurd (omega (arith, l))
take_whole (x ∷ xs) (suc i) l = ap (λ ys. x ∷ ys) (take_whole xs i (omega (arith, l)))

taken : (levels : List (List (List ℕ))) (n k : ℕ) → k < length (take n levels)
    → (get_or (take n levels) k [] ≡ get_or levels k []) × (k < length levels) × (k < n)
taken [] zero k l = absurd (omega (arith, l))
taken [] (suc n) k l = absurd (omega (arith, l))
taken (x ∷ levels) zero k l = absurd (omega (arith, l))
taken (x ∷ levels) (suc n) zero l = (refl, omega arith, omega arith)
taken (x ∷ levels) (suc n) (suc k) l =
    let rest = taken levels n k (omega (arith, l)) in
    let below = rest.1 in
    let less = rest.2 in
    (rest.0, omega (arith, below), omega (arith, less))

-- ---- the levels that are left

module _ (handlers : List ℕ) (levels : List (List (List ℕ))) (are : AreLevels handlers levels) (few : length levels ≤ 4)
    (least : List Injection) (left : length least < length levels) (part : List (List (List ℕ)))
    (is : part ≡ take (length levels - length least) levels) where
  pub part_flat : flat part ≡ nows_of handlers (length levels) least
  part_flat =
      let number : length levels - length least ≡ length levels - 1 - length least + 1 = omega (arith, left) in
      ap flat is ∙ ap (λ (n : ℕ). flat (take n levels)) number
      ∙ levels_are handlers levels are (length levels - 1 - length least) (omega (arith, left))

  module _ (i : ℕ) (level : List (List ℕ)) (within : i < length part) (level_is : level ≡ get_or part i level) where
    its_number : (level ≡ sequences handlers i) × (i < length levels - length least)
    its_number =
        let inside : i < length (take (length levels - length least) levels) =
        subst (λ (ls : List (List (List ℕ))). i < length ls) is within in
        let place = taken levels (length levels - length least) i inside in (
          read_level part i level within level_is ∙ ap (λ (ls : List (List (List ℕ))). get_or ls i []) is ∙ place.0 ∙ are i place.1,
          place.2,
        )

    pub level_few : AllByRecursion (λ now. length least + length now ≤ 3) level
    level_few =
        let number = its_number in
        let less = number.1 in
        subst (λ (ns : List (List ℕ)). AllByRecursion (λ now. length least + length now ≤ 3) ns) (sym number.0)
        (all_weaker (λ now. (length now ≡ i) × AllByRecursion (Contains handlers) now) (λ now. length least + length now ≤ 3)
        (λ now long. let e = long.0 in omega (arith, e, less, few, left)) (sequences handlers i) (sequences_are handlers i))

  first_of : (ls : List (List (List ℕ))) → 0 < length ls → get_or ls 0 [] ≡ sequences handlers 0
      → ls ≡ sequences handlers 0 ∷ drop 1 ls
  first_of [] l e = absurd (omega (arith, l))
  first_of (x ∷ ls) l e = ap (λ (y : List (List ℕ)). y ∷ ls) e

  begins : part ≡ sequences handlers 0 ∷ drop 1 part
  begins =
      let count = length levels - length least in
      let some : 0 < length (take count levels) = omega (arith, left, length-take count levels) in
      let place = taken levels count 0 some in
      first_of part (subst (λ (ls : List (List (List ℕ))). 0 < length ls) (sym is) some)
      (ap (λ (ls : List (List (List ℕ))). get_or ls 0 []) is ∙ place.0 ∙ are 0 place.1)

  -- That no handler comes, and then all others.
  pub first_flat : ([] ∷ []) ++ flat (drop 1 part) ≡ nows_of handlers (length levels) least
  first_flat = ap flat (sym begins) ∙ part_flat

  all_few : (n : ℕ) (ls : List (List (List ℕ)))
      → ((i : ℕ) (level : List (List ℕ)) → i < length ls → level ≡ get_or ls i level → level ≡ get_or part (n + i) level
      × (n + i < length part))
      → AllByRecursion (λ level. AllByRecursion (λ now. length least + length now ≤ 3) level) ls
  all_few n [] at = tt
  all_few n (x ∷ ls) at =
      let first = at 0 x (omega arith) refl in
      let here : n + 0 ≡ n = omega arith in (
        level_few (n + 0) x first.1 first.0,
        all_few (n + 1) ls (λ i level l e.
            let next = at (suc i) level (omega (arith, l)) e in
            let same : n + suc i ≡ n + 1 + i = omega arith in
            let less = next.1 in
            (next.0 ∙ ap (λ (m : ℕ). get_or part m level) same, omega (arith, less))),
      )

  pub others_few : AllByRecursion (λ level. AllByRecursion (λ now. length least + length now ≤ 3) level) (drop 1 part)
  others_few = all_few 1 (drop 1 part) (λ i level l e. (e ∙ get_or-drop 1 part i level, omega (arith, l, length-drop 1 part)))

  -- how many fit after them, and how many of them
  pub first_room : (now base count most : ℕ) → now ≤ base + length (flat (drop 1 part)) * count
      → base + length (nows_of handlers (length levels) least) * count < most → now + count < most
  first_room now base count most e room =
      let long = ap length first_flat in
      let all : 1 + length (flat (drop 1 part)) ≡ length (nows_of handlers (length levels) least) = omega (arith, long) in
      let sum = room_of (length (flat (drop 1 part))) 1 (length (nows_of handlers (length levels) least)) count base most
      (omega (arith, all)) room in
      omega (arith, sum, e)

  pub others_room : (base count most : ℕ) → base + length (nows_of handlers (length levels) least) * count < most
      → base + length (flat (drop 1 part)) * count < most
  others_room base count most room =
      let long = ap length first_flat in
      let all : 1 + length (flat (drop 1 part)) ≡ length (nows_of handlers (length levels) least) = omega (arith, long) in
      let sum = room_of (length (flat (drop 1 part))) 0 (length (nows_of handlers (length levels) least)) count base most
      (omega (arith, all)) room in
      omega (arith, sum)
