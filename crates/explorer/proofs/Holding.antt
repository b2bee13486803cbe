-- Frontiers, and the placements to which they go on.
use Rattle.std.proofs.Common.{◌≡◌, ◌<◌, ◌≤◌, ◌+◌, ◌-◌, ◌⊎◌, ℕ, List, [], ◌∷◌, ◌++◌, length, map, refl, ap, sym, ◌∙◌, subst}
use Rattle.std.proofs.Common.{arith}
use Rattle.std.proofs.Common.{append-nil, length-append, inl, inr}
use Rattle.std.specs.Prelude.{Contains}
use Rattle.std.specs.List.{AllByRecursion, AllZip}
use Rattle.std.proofs.lemmas.List.{append_assoc}
use Rattle.std.proofs.lemmas.List.Concat.{flat_map-append}
use Rattle.std.proofs.lemmas.List.Recursion.{is_sum_by}
use Rattle.std.proofs.lemmas.List.Sums.{sum_by-cons}
use Rattle.model.specs.declared.plan.Injection.{Injection}
use Rattle.model.specs.Application.{Application, Limits}
use Rattle.model.specs.Placements.{CountOf, Found, IsFound, Placed}
use Rattle.model.proofs.Among.{all_append, all_weaker, among_map}
use Rattle.machine.specs.Can.{IsUnderWay}
use Rattle.explorer.specs.declared.frontier.Frontier.{Frontier}
use Rattle.explorer.specs.declared.layer.Node.{Node}
use Rattle.explorer.specs.Frontiers.{Holds, PassesSpent, Plans, Settled, Settles, number_in, rests_of}
use Rattle.explorer.specs.Layers.{AreAt, AreOf, Carries, count_of}
use Rattle.explorer.specs.Reordered.{IsReordered}
use Rattle.explorer.specs.Reordered.IsReordered.{Nothing, Then}
use Rattle.explorer.specs.Tallies.{IsTally}
use Rattle.explorer.specs.Totals.{placements_in}
use Rattle.explorer.proofs.Bounds.{total}
use Rattle.explorer.proofs.Carrying.{together}
use Rattle.explorer.proofs.Reorderings.{all_reordered, before_all, behind_all, if_same, length_reordered, past, turned}
use Rattle.explorer.proofs.Reorderings.{turned_round}
use Rattle.explorer.proofs.Rests.{all_some, rests_reordered, ways_end}
use Rattle.explorer.proofs.Totals.{counted_once}

-- ---- three parts, to which others come

module _ {X : Type 0} where
  -- to the first, and behind the last
  pub more_last : (t a l s p k : List X) → IsReordered t (a ++ (l ++ s)) → IsReordered (t ++ (p ++ k)) ((a ++ p) ++ (l ++ (s ++ k)))
  more_last t a l s p k h =
      Then (before_all (p ++ k) t (a ++ (l ++ s)) h)
      (Then (if_same ((a ++ (l ++ s)) ++ (p ++ k)) (a ++ ((l ++ s) ++ (p ++ k))) (append_assoc a (l ++ s) (p ++ k)))
      (Then (behind_all a ((l ++ s) ++ (p ++ k)) (p ++ ((l ++ s) ++ k)) (past (l ++ s) p k))
      (if_same (a ++ (p ++ ((l ++ s) ++ k))) ((a ++ p) ++ (l ++ (s ++ k)))
      (sym (append_assoc a p ((l ++ s) ++ k)) ∙ ap (λ xs. (a ++ p) ++ xs) (append_assoc l s k)))))

  -- to the first, and behind the middle
  pub more_middle : (t a l s p k : List X) → IsReordered t (a ++ (l ++ s)) → IsReordered (t ++ (p ++ k))
      ((a ++ p) ++ ((l ++ k) ++ s))
  more_middle t a l s p k h =
      Then (more_last t a l s p k h)
      (Then (behind_all (a ++ p) (l ++ (s ++ k)) (l ++ (k ++ s)) (behind_all l (s ++ k) (k ++ s) (turned_round s k)))
      (if_same ((a ++ p) ++ (l ++ (k ++ s))) ((a ++ p) ++ ((l ++ k) ++ s))
      (ap (λ xs. (a ++ p) ++ xs) (sym (append_assoc l k s)))))

  pub either_all : (P : X → Type 0) (xs ys : List X) → (xs ≡ []) ⊎ (xs ≡ ys) → AllByRecursion P ys → AllByRecursion P xs
  either_all P xs ys (inl none) all = subst (AllByRecursion P) (sym none) tt
  either_all P xs ys (inr same) all = subst (AllByRecursion P) (sym same) all

-- ---- what is carried

pub all_carried : (app : Application) (limits : Limits) (n : ℕ) (P : List Injection → Type 0)
    → ((node : Node) (group : Plans) → AreOf app limits n node group → AllByRecursion P group)
    → (nodes : List Node) (plans : Plans) → Carries app limits n nodes plans → AllByRecursion P plans
all_carried app limits n P each nodes plans c =
    all_reordered P (together c.groups) plans (turned plans (together c.groups) c.all) (by_nodes nodes c.groups c.each) where
      by_nodes : (ms : List Node) (groups : List Plans) → AllZip (AreOf app limits n) ms groups → AllByRecursion P (together groups)
      by_nodes [] [] zip = tt
      by_nodes [] (g ∷ groups) zip = absurd zip
      by_nodes (m ∷ ms) [] zip = absurd zip
      by_nodes (m ∷ ms) (g ∷ groups) zip = all_append P g (together groups) (each m g zip.0) (by_nodes ms groups zip.1)

pub under_limit : (app : Application) (limits : Limits) (n : ℕ) (node : Node) (group : Plans) → AreOf app limits n node group
    → AllByRecursion (λ plan. n ≤ limits.steps) group
under_limit app limits n node group of =
    all_weaker (λ plan. IsUnderWay app plan limits node.kernel.value) (λ plan. n ≤ limits.steps)
    (λ plan way.
    let handlers : List ℕ = [] in
    let under = ways_end app limits handlers 0 plan node.kernel.value.steps way.goes_on in
    let here = of.here in
    omega (arith, under, here))
    group of.way

-- ---- how many are carried, and found

pub count_all : (app : Application) (limits : Limits) (n : ℕ) (nodes : List Node) (groups : List Plans)
    → AllZip (AreOf app limits n) nodes groups → total (λ (node : Node). node.count) nodes ≡ length (together groups)
count_all app limits n [] [] each = refl
count_all app limits n [] (g ∷ groups) each = absurd each
count_all app limits n (m ∷ nodes) [] each = absurd each
count_all app limits n (m ∷ nodes) (g ∷ groups) each =
    let rest = count_all app limits n nodes groups each.1 in
    let one = each.0.number in
    omega (arith, rest, one, length-append g (together groups))

pub count_carried : (app : Application) (limits : Limits) (n : ℕ) (nodes : List Node) (plans : Plans)
    → Carries app limits n nodes plans → count_of nodes ≡ length plans
count_carried app limits n nodes plans c =
    sym (is_sum_by (total (λ (node : Node). node.count)) (λ (node : Node). node.count) refl (λ x xs. refl) nodes)
    ∙ count_all app limits n nodes c.groups c.each ∙ sym (length_reordered plans (together c.groups) c.all)

pub tally_number : (all : List Placed) (found : List Found) → IsTally all found → placements_in found ≡ length all
tally_number all found tally =
    counted_once found all tally.apart (all_weaker (IsFound all) (λ (f : Found). CountOf f.least.end all f.number) (λ f h. h.number)
    found tally.each)
    (all_weaker (λ (p : Placed). (f : Found) × Contains found f × (f.least.end ≡ p.end))
    (λ (p : Placed). Contains (map (λ (f : Found). f.least.end) found) p.end)
    (λ p some.
    subst (Contains (map (λ (f : Found). f.least.end) found)) some.2
    (among_map (λ (f : Found). f.least.end) found some.0 some.1)) all tally.whole)

pub numbers_few : (found : List Found) (count most : ℕ) → placements_in found + count < most
    → AllByRecursion (λ (f : Found). f.number + count < most) found
numbers_few [] count most few = tt
numbers_few (f ∷ found) count most few =
    let sum : placements_in (f ∷ found) ≡ f.number + placements_in found = sum_by-cons (λ (g : Found). g.number) f found in
    (omega (arith, few, sum), numbers_few found count most (omega (arith, few, sum)))

-- ---- frontiers

module _ (app : Application) (limits : Limits) (handlers : List ℕ) (levels n until : ℕ) where
  abbrev Has : Frontier → List Placed → Type 0
  Has f total = Holds app limits handlers levels n until f total

  abbrev rests : ℕ → Plans → List Placed
  rests m plans = rests_of app limits handlers levels m plans

  pub holds_reordered : (f : Frontier) (total others : List Placed) → IsReordered others total → Has f total → Has f others
  holds_reordered f total others reordered h = record {
    plans = h.plans;
    full = h.full;
    all = h.all;
    live = h.live;
    few = h.few;
    spent = h.spent;
    none_left = h.none_left;
    tally = h.tally;
    same = Then reordered h.same;
  }

  pub holds_same : (f : Frontier) (total others : List Placed) → others ≡ total → Has f total → Has f others
  holds_same f total others same h = holds_reordered f total others (if_same others total same) h

  -- the same of a frontier with the same nodes
  pub holds_alike : (f g : Frontier) (total : List Placed) → g.live.nodes.items ≡ f.live.nodes.items
      → g.spent.nodes.items ≡ f.spent.nodes.items → g.findings.items ≡ f.findings.items → Has f total → Has g total
  holds_alike f g total live spent found h = record {
    plans = h.plans;
    full = h.full;
    all = h.all;
    live = subst (λ (nodes : List Node). Carries app limits n nodes h.plans) (sym live) h.live;
    few = h.few;
    spent = subst (λ (nodes : List Node). Carries app limits until nodes h.full) (sym spent) h.spent;
    none_left = h.none_left;
    tally = subst (IsTally h.all) (sym found) h.tally;
    same = h.same;
  }

  pub number_most : (f : Frontier) (total : List Placed) → Has f total → number_in f ≤ length total
  number_most f total h =
      let live = count_carried app limits n f.live.nodes.items h.plans h.live in
      let spent = count_carried app limits until f.spent.nodes.items h.full h.spent in
      let live_some = all_some app limits handlers levels n h.plans
      (all_carried app limits n (λ plan. n ≤ limits.steps) (under_limit app limits n) f.live.nodes.items h.plans h.live) in
      let spent_some = all_some app limits handlers levels until h.full
      (all_carried app limits until (λ plan. until ≤ limits.steps) (under_limit app limits until) f.spent.nodes.items h.full
      h.spent) in
      let found = tally_number h.all f.findings.items h.tally in
      let whole = length_reordered total (h.all ++ (rests n h.plans ++ rests until h.full)) h.same in
      omega (
        arith,
        live,
        spent,
        live_some,
        spent_some,
        found,
        whole,
        length-append h.all (rests n h.plans ++ rests until h.full),
        length-append (rests n h.plans) (rests until h.full),
      )

  -- ---- plans that come to it

  pub kept_live : (old new : Frontier) (more : Plans) (total : List Placed) (h : Has old total)
      → Settled app limits n n more old.live.nodes.items new.live.nodes.items old.findings.items new.findings.items h.plans h.all
      → new.spent.nodes.items ≡ old.spent.nodes.items → AllByRecursion (λ plan. length plan ≤ levels - 1) more
      → Has new (total ++ rests n more)
  kept_live old new more total h settled spent few =
      let on = rests n h.plans in
      let last = rests until h.full in
      let kept = rests n settled.kept in
      let plans : rests n (h.plans ++ settled.kept) ≡ on ++ kept = flat_map-append _ h.plans settled.kept in
      record {
        plans = h.plans ++ settled.kept;
        full = h.full;
        all = h.all ++ settled.placed;
        live = settled.carries;
        few =
            all_append (λ plan. length plan ≤ levels - 1) h.plans settled.kept h.few
            (either_all (λ plan. length plan ≤ levels - 1) settled.kept more settled.are few);
        spent = subst (λ (nodes : List Node). Carries app limits until nodes h.full) (sym spent) h.spent;
        none_left = h.none_left;
        tally = settled.tally;
        same =
            Then (if_same (total ++ rests n more) (total ++ (settled.placed ++ kept))
            (ap (λ (ps : List Placed). total ++ ps) (settled.rest handlers levels (inl refl))))
            (Then (more_middle total h.all on last settled.placed kept h.same)
            (if_same ((h.all ++ settled.placed) ++ ((on ++ kept) ++ last))
            ((h.all ++ settled.placed) ++ (rests n (h.plans ++ settled.kept) ++ last))
            (ap (λ (ps : List Placed). (h.all ++ settled.placed) ++ (ps ++ last)) (sym plans))));
      }

  pub kept_spent : (m : ℕ) (old new : Frontier) (more : Plans) (total : List Placed) (h : Has old total)
      → Settled app limits m until more old.spent.nodes.items new.spent.nodes.items old.findings.items new.findings.items h.full
      h.all
      → new.live.nodes.items ≡ old.live.nodes.items → AllByRecursion (λ plan. levels - 1 ≤ length plan) more
      → Has new (total ++ rests m more)
  kept_spent m old new more total h settled live full =
      let on = rests n h.plans in
      let last = rests until h.full in
      let kept = rests until settled.kept in
      let plans : rests until (h.full ++ settled.kept) ≡ last ++ kept = flat_map-append _ h.full settled.kept in
      record {
        plans = h.plans;
        full = h.full ++ settled.kept;
        all = h.all ++ settled.placed;
        live = subst (λ (nodes : List Node). Carries app limits n nodes h.plans) (sym live) h.live;
        few = h.few;
        spent = settled.carries;
        none_left =
            all_append (λ plan. levels - 1 ≤ length plan) h.full settled.kept h.none_left
            (either_all (λ plan. levels - 1 ≤ length plan) settled.kept more settled.are full);
        tally = settled.tally;
        same =
            Then (if_same (total ++ rests m more) (total ++ (settled.placed ++ kept))
            (ap (λ (ps : List Placed). total ++ ps) (settled.rest handlers levels (inr full))))
            (Then (more_last total h.all on last settled.placed kept h.same)
            (if_same ((h.all ++ settled.placed) ++ (on ++ (last ++ kept)))
            ((h.all ++ settled.placed) ++ (on ++ rests until (h.full ++ settled.kept)))
            (ap (λ (ps : List Placed). (h.all ++ settled.placed) ++ (on ++ ps)) (sym plans))));
      }

  -- what has ended
  pub kept_found : (m : ℕ) (old new : Frontier) (more : Plans) (placed total : List Placed) (h : Has old total)
      → IsTally (h.all ++ placed) new.findings.items → new.live.nodes.items ≡ old.live.nodes.items
      → new.spent.nodes.items ≡ old.spent.nodes.items → rests m more ≡ placed → Has new (total ++ rests m more)
  kept_found m old new more placed total h tally live spent is =
      let on = rests n h.plans in
      let last = rests until h.full in
      let none : List Placed = [] in
      record {
        plans = h.plans;
        full = h.full;
        all = h.all ++ placed;
        live = subst (λ (nodes : List Node). Carries app limits n nodes h.plans) (sym live) h.live;
        few = h.few;
        spent = subst (λ (nodes : List Node). Carries app limits until nodes h.full) (sym spent) h.spent;
        none_left = h.none_left;
        tally = tally;
        same =
            Then (if_same (total ++ rests m more) (total ++ (placed ++ none))
            (ap (λ (ps : List Placed). total ++ ps) (is ∙ sym (append-nil placed))))
            (Then (more_last total h.all on last placed none h.same)
            (if_same ((h.all ++ placed) ++ (on ++ (last ++ none))) ((h.all ++ placed) ++ (on ++ last))
            (ap (λ (ps : List Placed). (h.all ++ placed) ++ (on ++ ps)) (append-nil last))));
      }

-- a node of plans without an injection left
pub spent_passes : (app : Application) (limits : Limits) (until : ℕ) (node : Node) (old new : Frontier)
    → Settles app limits until node.kernel.value node.count node.least old.spent.nodes.items new.spent.nodes.items
    old.findings.items new.findings.items → new.live.nodes.items ≡ old.live.nodes.items → PassesSpent app limits until node old new
spent_passes app limits until node old new settles live handlers levels m n more total full of h =
    let at : AreAt app limits node.kernel.value.steps node.kernel.value node.count node.least more =
    subst (λ (k : ℕ). AreAt app limits k node.kernel.value node.count node.least more) (sym of.here) of in
    subst (λ (k : ℕ). Holds app limits handlers levels n until new (total ++ rests_of app limits handlers levels k more)) of.here
    (kept_spent app limits handlers levels n until node.kernel.value.steps old new more total h
    (settles h.full more h.all at h.spent h.tally) live full)

-- ---- where all that is live, or all that is spent, is taken away, and passed

module _ (app : Application) (limits : Limits) (handlers : List ℕ) (levels : ℕ) where
  none_carried : (n : ℕ) (nodes : List Node) → nodes ≡ [] → Carries app limits n nodes []
  none_carried n nodes none =
      subst (λ (ms : List Node). Carries app limits n ms []) (sym none) (record { groups = []; each = tt; all = Nothing })

  abbrev rests_at : ℕ → Plans → List Placed
  rests_at m plans = rests_of app limits handlers levels m plans

  module _ (n until : ℕ) (old new : Frontier) (total : List Placed) (h : Holds app limits handlers levels n until old total)
      (found : new.findings.items ≡ old.findings.items) where
    pub without_live : (next : ℕ) → new.live.nodes.items ≡ [] → new.spent.nodes.items ≡ old.spent.nodes.items
        → Holds app limits handlers levels next until new (h.all ++ rests_at until h.full)
    without_live next none spent = record {
      plans = [];
      full = h.full;
      all = h.all;
      live = none_carried next new.live.nodes.items none;
      few = tt;
      spent = subst (λ (nodes : List Node). Carries app limits until nodes h.full) (sym spent) h.spent;
      none_left = h.none_left;
      tally = subst (IsTally h.all) (sym found) h.tally;
      same = if_same (h.all ++ rests_at until h.full) (h.all ++ rests_at until h.full) refl;
    }

    pub with_live : IsReordered total ((h.all ++ rests_at until h.full) ++ rests_at n (together h.live.groups))
    with_live =
        let on = rests_at n h.plans in
        let last = rests_at until h.full in
        let of_groups = rests_at n (together h.live.groups) in
        Then h.same
        (Then (behind_all h.all (on ++ last) (last ++ of_groups)
        (Then (turned_round on last) (behind_all last on of_groups (rests_reordered app limits handlers levels n h.plans
        (together h.live.groups) h.live.all))))
        (if_same (h.all ++ (last ++ of_groups)) ((h.all ++ last) ++ of_groups) (sym (append_assoc h.all last of_groups))))

    pub without_spent : (next : ℕ) → new.spent.nodes.items ≡ [] → new.live.nodes.items ≡ old.live.nodes.items
        → Holds app limits handlers levels n next new (h.all ++ rests_at n h.plans)
    without_spent next none live = record {
      plans = h.plans;
      full = [];
      all = h.all;
      live = subst (λ (nodes : List Node). Carries app limits n nodes h.plans) (sym live) h.live;
      few = h.few;
      spent = none_carried next new.spent.nodes.items none;
      none_left = tt;
      tally = subst (IsTally h.all) (sym found) h.tally;
      same =
          if_same (h.all ++ rests_at n h.plans) (h.all ++ (rests_at n h.plans ++ []))
          (ap (λ (ps : List Placed). h.all ++ ps) (sym (append-nil (rests_at n h.plans))));
    }

    pub with_spent : IsReordered total ((h.all ++ rests_at n h.plans) ++ rests_at until (together h.spent.groups))
    with_spent =
        let on = rests_at n h.plans in
        let last = rests_at until h.full in
        let of_groups = rests_at until (together h.spent.groups) in
        Then h.same
        (Then (if_same (h.all ++ (on ++ last)) ((h.all ++ on) ++ last) (sym (append_assoc h.all on last)))
        (behind_all (h.all ++ on) last of_groups
        (rests_reordered app limits handlers levels until h.full (together h.spent.groups) h.spent.all)))
