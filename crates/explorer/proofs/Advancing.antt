-- A layer is passed, node by node, from the last to the first.
use Rattle.std.proofs.Common.{◌≡◌, ◌<◌, ◌≤◌, ◌+◌, ◌-◌, ◌*◌, ◌^◌, ℕ, List, [], ◌∷◌, ◌++◌, length, refl, ap}
use Rattle.std.proofs.Common.{sym}
use Rattle.std.proofs.Common.{◌∙◌, subst, arith, append-nil, length-append}
use Rattle.std.specs.List.{AllByRecursion, AllZip}
use Rattle.std.proofs.lemmas.List.{append_assoc}
use Rattle.std.proofs.lemmas.List.Concat.{flat_map-append}
use Rattle.model.specs.declared.plan.Injection.{Injection}
use Rattle.model.specs.Application.{Application, Limits}
use Rattle.model.specs.Placements.{Placed}
use Rattle.model.proofs.Among.{all_after, all_among, all_before}
use Rattle.machine.specs.Can.{IsUnderWay}
use Rattle.explorer.specs.declared.frontier.Frontier.{Frontier}
use Rattle.explorer.specs.declared.layer.Node.{Node}
use Rattle.explorer.specs.Frontiers.{Holds, Plans, everything, number_in, rests_of}
use Rattle.explorer.specs.Layers.{AreOf, HasWay, nows_of}
use Rattle.explorer.specs.Reordered.{IsReordered}
use Rattle.explorer.specs.Reordered.IsReordered.{Then}
use Rattle.explorer.proofs.Bounds.{all_plans, choices_number, power, power_more, power_most, product_most, total}
use Rattle.explorer.proofs.Carrying.{together}
use Rattle.explorer.proofs.Holding.{holds_reordered, number_most, under_limit, with_live, with_spent, without_live}
use Rattle.explorer.proofs.Holding.{without_spent}
use Rattle.explorer.proofs.Reorderings.{all_reordered, behind_all, if_same, length_reordered, turned_round}
use Rattle.explorer.proofs.Rests.{all_some}

pub none_there : (nodes : List Node) → length nodes ≡ 0 → nodes ≡ []
none_there [] none = refl
none_there (node ∷ nodes) none = absurd (omega (arith, none))

-- ---- the last of some nodes

module _ (app : Application) (limits : Limits) (n : ℕ) where
  -- the groups of some nodes and of the last
  pub record AreLast (nodes : List Node) (node : Node) (groups : List Plans) : Type 0 where
    pub before : List Plans
    pub last : Plans
    pub is : groups ≡ before ++ last ∷ []
    pub each : AllZip (AreOf app limits n) nodes before
    pub of : AreOf app limits n node last

  pub zip_last : (nodes : List Node) (node : Node) (groups : List Plans)
      → AllZip (AreOf app limits n) (nodes ++ node ∷ []) groups → AreLast nodes node groups
  zip_last [] node [] each = absurd each
  zip_last [] node (g ∷ []) each = record { before = []; last = g; is = refl; each = tt; of = each.0 }
  zip_last [] node (g ∷ (h ∷ groups)) each = absurd each.1
  zip_last (m ∷ nodes) node [] each = absurd each
  zip_last (m ∷ nodes) node (g ∷ groups) each =
      let rest = zip_last nodes node groups each.1 in
      record {
        before = g ∷ rest.before;
        last = rest.last;
        is = ap (λ (gs : List Plans). g ∷ gs) rest.is;
        each = (each.0, rest.each);
        of = rest.of;
      }

  zip_none : (groups : List Plans) → AllZip (AreOf app limits n) [] groups → groups ≡ []
  zip_none [] each = refl
  zip_none (g ∷ groups) each = absurd each

  pub no_groups : (nodes : List Node) (groups : List Plans) → nodes ≡ [] → AllZip (AreOf app limits n) nodes groups → groups ≡ []
  no_groups nodes groups none each =
      zip_none groups (subst (λ (ms : List Node). AllZip (AreOf app limits n) ms groups) none each)

together_last : (groups : List Plans) (group : Plans) → together (groups ++ group ∷ []) ≡ together groups ++ group
together_last groups group =
    flat_map-append (λ ps. ps) groups (group ∷ []) ∙ ap (λ (ps : Plans). together groups ++ ps) (append-nil group)

-- ---- the nodes that are left to pass

module _ (app : Application) (limits : Limits) (handlers : List ℕ) (levels m n until : ℕ) (P : List Injection → Type 0) where
  abbrev rests : Plans → List Placed
  rests plans = rests_of app limits handlers levels m plans

  abbrev Has : Frontier → List Placed → Type 0
  Has f total = Holds app limits handlers levels n until f total

  -- These nodes have the placements that the frontier doesn't have yet.
  pub record AreLeft (nodes : List Node) (f : Frontier) (all : List Placed) : Type 0 where
    pub groups : List Plans
    pub each : AllZip (AreOf app limits m) nodes groups
    pub are : AllByRecursion P (together groups)
    pub base : List Placed
    pub holds : Has f base
    pub same : IsReordered all (base ++ rests (together groups))

  -- none is left
  pub all_passed : (nodes : List Node) (f : Frontier) (all : List Placed) → nodes ≡ [] → AreLeft nodes f all → Has f all
  all_passed nodes f all none left =
      let nothing : left.base ++ rests (together left.groups) ≡ left.base =
      ap (λ (groups : List Plans). left.base ++ rests (together groups)) (no_groups app limits m nodes left.groups none left.each)
      ∙ append-nil left.base in
      holds_reordered app limits handlers levels n until f left.base all
      (Then left.same (if_same (left.base ++ rests (together left.groups)) left.base nothing)) left.holds

  -- ---- the last of them is next

  module _ (nodes : List Node) (node : Node) (f : Frontier) (all : List Placed) (left : AreLeft (nodes ++ node ∷ []) f all) where
    its : AreLast app limits m nodes node left.groups
    its = zip_last app limits m nodes node left.groups left.each

    parts : together left.groups ≡ together its.before ++ its.last
    parts = ap together its.is ∙ together_last its.before its.last

    both : AllByRecursion P (together its.before ++ its.last)
    both = subst (AllByRecursion P) parts left.are

    abbrev of_before : List Placed
    of_before = rests (together its.before)

    abbrev of_last : List Placed
    of_last = rests its.last

    rests_are : rests (together left.groups) ≡ of_before ++ of_last
    rests_are = ap rests parts ∙ flat_map-append _ (together its.before) its.last

    pub its_way : HasWay app limits node.kernel.value node.least
    its_way = record {
      way = all_among (λ plan. IsUnderWay app plan limits node.kernel.value) its.last node.least its.of.way its.of.among;
      below =
          subst (λ (k : ℕ). AllByRecursion (λ (j : Injection). j.step < k) node.least) (sym its.of.here)
          (all_among (λ plan. AllByRecursion (λ (j : Injection). j.step < m) plan) its.last node.least its.of.below its.of.among);
    }

    pub its_step : node.kernel.value.steps ≡ m
    its_step = its.of.here

    pub its_least : P node.least
    its_least = all_among P its.last node.least (all_after P (together its.before) its.last both) its.of.among

    pub its_room : number_in f + node.count ≤ length all
    its_room =
        let most = number_most app limits handlers levels n until f left.base left.holds in
        let some = all_some app limits handlers levels m its.last (under_limit app limits m node its.last its.of) in
        let number = its.of.number in
        let whole = length_reordered all (left.base ++ rests (together left.groups)) left.same in
        let together_long : length (rests (together left.groups)) ≡ length of_before + length of_last =
        ap length rests_are ∙ length-append of_before of_last in
        omega (arith, most, some, number, whole, together_long, length-append left.base (rests (together left.groups)))

    pub its_passed : (new : Frontier)
        → ((more : Plans) (base : List Placed) → AllByRecursion P more → AreOf app limits m node more → Has f base
        → Has new (base ++ rests more))
        → AreLeft nodes new all
    its_passed new passes = record {
      groups = its.before;
      each = its.each;
      are = all_before P (together its.before) its.last both;
      base = left.base ++ of_last;
      holds = passes its.last left.base (all_after P (together its.before) its.last both) its.of left.holds;
      same =
          Then left.same
          (Then (if_same (left.base ++ rests (together left.groups)) (left.base ++ (of_before ++ of_last))
          (ap (λ (ps : List Placed). left.base ++ ps) rests_are))
          (Then (behind_all left.base (of_before ++ of_last) (of_last ++ of_before) (turned_round of_before of_last))
          (if_same (left.base ++ (of_last ++ of_before)) ((left.base ++ of_last) ++ of_before)
          (sym (append_assoc left.base of_last of_before)))));
    }

-- ---- how many fit

pub few_in_all : (app : Application) (limits : Limits) (handlers : List ℕ) (levels : ℕ) → length handlers ≤ 17 → levels ≤ 4
    → limits.steps ≤ 1000000 → length (everything app limits handlers levels) ≤ power 17000018 3
few_in_all app limits handlers levels few few_levels short =
    let n = limits.steps + 1 in
    let product : length handlers * (0 + n) ≤ 17 * 1000001 = product_most (length handlers) 17 (0 + n) 1000001 few
    (omega (arith, short)) in
    let base : power (1 + length handlers * (0 + n)) (levels - 1) ≤ power 17000018 (levels - 1) =
    power_most (1 + length handlers * (0 + n)) 17000018 (levels - 1) (omega (arith, product)) in
    let top : power 17000018 (levels - 1) ≤ power 17000018 3 = power_more 17000018 (levels - 1) 3 (omega arith)
    (omega (arith, few_levels)) in
    let all = all_plans app limits handlers (levels - 1) n 0 in
    omega (arith, base, top, all)

pub room_for_all : (handlers : List ℕ) (levels : ℕ) (least : List Injection) (number count : ℕ) → length handlers ≤ 17 → levels ≤ 4
    → number + count ≤ power 17000018 3 → number + length (nows_of handlers levels least) * count < 2 ^ 128
room_for_all handlers levels least number count few few_levels room =
    let left = levels - 1 - length least in
    let ways = choices_number handlers left in
    let base : power (1 + length handlers) left ≤ power 18 left = power_most (1 + length handlers) 18 left (omega (arith, few)) in
    let top : power 18 left ≤ power 18 3 = power_more 18 left 3 (omega arith) (omega (arith, few_levels)) in
    let each : length (nows_of handlers levels least) ≤ 5832 = omega (arith, ways, base, top) in
    let one : count ≤ power 17000018 3 = omega (arith, room) in
    let product = product_most (length (nows_of handlers levels least)) 5832 count (power 17000018 3) each one in
    omega (arith, room, product)

-- ---- all live nodes

module _ (app : Application) (limits : Limits) (handlers : List ℕ) (levels n until : ℕ) (old start : Frontier) (nodes : List Node)
    (all : List Placed) (h : Holds app limits handlers levels n until old all) (taken : nodes ≡ old.live.nodes.items)
    (none : start.live.nodes.items ≡ []) (spent : start.spent.nodes.items ≡ old.spent.nodes.items)
    (found : start.findings.items ≡ old.findings.items) where
  pub live_left : AreLeft app limits handlers levels n (n + 1) until (λ plan. length plan ≤ levels - 1) nodes start all
  live_left = record {
    groups = h.live.groups;
    each = subst (λ (ms : List Node). AllZip (AreOf app limits n) ms h.live.groups) (sym taken) h.live.each;
    are = all_reordered (λ plan. length plan ≤ levels - 1) h.plans (together h.live.groups) h.live.all h.few;
    base = h.all ++ rests_of app limits handlers levels until h.full;
    holds = without_live app limits handlers levels n until old start all h found (n + 1) none spent;
    same = with_live app limits handlers levels n until old start all h found;
  }

-- ---- all spent nodes

module _ (app : Application) (limits : Limits) (handlers : List ℕ) (levels n end until : ℕ) (old start : Frontier)
    (nodes : List Node)
    (all : List Placed) (h : Holds app limits handlers levels n end old all) (taken : nodes ≡ old.spent.nodes.items)
    (none : start.spent.nodes.items ≡ []) (live : start.live.nodes.items ≡ old.live.nodes.items)
    (found : start.findings.items ≡ old.findings.items) where
  pub spent_left : AreLeft app limits handlers levels end n until (λ plan. levels - 1 ≤ length plan) nodes start all
  spent_left = record {
    groups = h.spent.groups;
    each = subst (λ (ms : List Node). AllZip (AreOf app limits end) ms h.spent.groups) (sym taken) h.spent.each;
    are = all_reordered (λ plan. levels - 1 ≤ length plan) h.full (together h.spent.groups) h.spent.all h.none_left;
    base = h.all ++ rests_of app limits handlers levels n h.plans;
    holds = without_spent app limits handlers levels n end old start all h found until none live;
    same = with_spent app limits handlers levels n end old start all h found;
  }
