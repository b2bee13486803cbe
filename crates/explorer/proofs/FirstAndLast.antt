-- How an exploration begins, and how it ends.
use Rattle.std.proofs.Common.{◌≡◌, ◌<◌, ◌≤◌, ◌+◌, ◌-◌, ℕ, List, [], ◌∷◌, ◌++◌, length, map, refl, ap, sym, ◌∙◌, subst, arith}
use Rattle.std.proofs.Common.{append-nil}
use Rattle.std.specs.List.{AllByRecursion, AllZip}
use Rattle.model.specs.Application.{Application, Limits}
use Rattle.model.specs.Placements.{AreDistinct, IsPlacement, Placed, begun}
use Rattle.model.proofs.Among.{first_is}
use Rattle.model.proofs.Placements.{IsBegun, all_begun, all_ended}
use Rattle.machine.specs.declared.machine.Machine.{Machine}
use Rattle.machine.specs.Can.{IsUnderWay}
use Rattle.kernel.proofs.Running.{steps_under}
use Rattle.explorer.specs.declared.frontier.Frontier.{Frontier}
use Rattle.explorer.specs.declared.layer.Node.{Node}
use Rattle.explorer.specs.Frontiers.{Holds, Plans, everything, rests_of}
use Rattle.explorer.specs.Layers.{AreOf, Carries, Gains}
use Rattle.explorer.specs.Reordered.{IsReordered}
use Rattle.explorer.specs.Reordered.IsReordered.{Nothing}
use Rattle.explorer.specs.Tallies.{AreTallied, IsTally}
use Rattle.explorer.proofs.Advancing.{few_in_all}
use Rattle.explorer.proofs.Carrying.{together}
use Rattle.explorer.proofs.Holding.{all_carried, under_limit}
use Rattle.explorer.proofs.Ordering.{less_itself}
use Rattle.explorer.proofs.Reorderings.{all_reordered, among_reordered, distinct_reordered, length_reordered}
use Rattle.explorer.proofs.Reorderings.{map_reordered}
use Rattle.explorer.proofs.Rests.{all_from}

module _ (app : Application) (limits : Limits) (handlers : List ℕ) (levels : ℕ) where
  -- ---- at first

  none_carried : (nodes : List Node) → nodes ≡ [] → Carries app limits 0 nodes []
  none_carried nodes none =
      subst (λ (ms : List Node). Carries app limits 0 ms []) (sym none) (record { groups = []; each = tt; all = Nothing })

  pub first_holds : (k : Machine) (old new : Frontier) → k.steps ≡ 0 → IsUnderWay app [] limits k
      → old.live.nodes.items ≡ [] → Gains old.live.nodes.items new.live.nodes.items k 1 []
      → new.spent.nodes.items ≡ [] → new.findings.items ≡ []
      → Holds app limits handlers levels 0 0 new (everything app limits handlers levels)
  first_holds k old new steps way none gains none_spent none_found = record {
    plans = [] ∷ [];
    full = [];
    all = [];
    live =
        gains app limits 0 [] ([] ∷ []) (none_carried old.live.nodes.items none) (record {
          way = (way, tt);
          below = (tt, tt);
          here = steps;
          number = refl;
          among = first_is [] [];
          none_less = (less_itself [], tt);
          long = (refl, tt);
        });
    few = (omega arith, tt);
    spent = none_carried new.spent.nodes.items none_spent;
    none_left = tt;
    tally = subst (IsTally []) (sym none_found) (record { each = tt; whole = tt; apart = tt });
    same = all_from app limits handlers levels;
  }

  -- ---- at last

  nothing : (plans : Plans) → length plans ≡ 0 → plans ≡ []
  nothing [] e = refl
  nothing (p ∷ plans) e = absurd (omega (arith, e))

  -- No run gets beyond the limit of steps.
  none_late : (n : ℕ) → limits.steps < n → begun app limits handlers (levels - 1) n ≡ []
  none_late n l = by (begun app limits handlers (levels - 1) n) (all_begun app limits handlers (levels - 1) n) where
    by : (plans : Plans) → AllByRecursion (IsBegun app limits handlers (levels - 1) n) plans → plans ≡ []
    by [] h = refl
    by (plan ∷ plans) h =
        let under = steps_under app plan limits limits.steps (h.0.goes_on limits.steps l) in absurd (omega (arith, under))

  no_plans : (n : ℕ) (groups : List Plans) → AllZip (AreOf app limits n) [] groups → together groups ≡ []
  no_plans n [] each = refl
  no_plans n (g ∷ groups) each = absurd each

  -- Where there are no nodes there are no plans.
  none_if_empty : (n : ℕ) (nodes : List Node) (plans : Plans) → nodes ≡ [] → Carries app limits n nodes plans → plans ≡ []
  none_if_empty n nodes plans none c =
      let each : AllZip (AreOf app limits n) [] c.groups =
      subst (λ (ns : List Node). AllZip (AreOf app limits n) ns c.groups) none c.each in
      nothing plans (length_reordered plans (together c.groups) c.all ∙ ap length (no_plans n c.groups each))

  none_if_late : (n : ℕ) (nodes : List Node) (plans : Plans) → limits.steps < n → Carries app limits n nodes plans → plans ≡ []
  none_if_late n nodes plans l c =
      by plans (all_carried app limits n (λ plan. n ≤ limits.steps) (under_limit app limits n) nodes plans c) where
        by : (ps : Plans) → AllByRecursion (λ plan. n ≤ limits.steps) ps → ps ≡ []
        by [] h = refl
        by (p ∷ ps) h = let under = h.0 in absurd (omega (arith, l, under))

  tallied : (n until : ℕ) (f : Frontier) → length handlers ≤ 17 → levels ≤ 4 → limits.steps ≤ 1000000 → AreDistinct handlers
      → (h : Holds app limits handlers levels n until f (everything app limits handlers levels)) → h.plans ≡ [] → h.full ≡ []
      → AreTallied app limits handlers (levels - 1) f.findings.items
  tallied n until f few few_levels short differ h none none_full =
      let last = limits.steps + 1 in
      let are = all_ended app limits handlers (levels - 1) differ last (none_late last (omega arith)) in
      let placed = everything app limits handlers levels in
      let rest : h.all ++ (rests_of app limits handlers levels n h.plans ++ rests_of app limits handlers levels until h.full) ≡
      h.all =
      ap (λ (plans : Plans). h.all ++ (rests_of app limits handlers levels n plans ++ rests_of app limits handlers levels until
      h.full))
      none
      ∙ ap (λ (plans : Plans). h.all ++ rests_of app limits handlers levels until plans) none_full
      ∙ append-nil h.all in
      let same : IsReordered placed h.all = subst (IsReordered placed) rest h.same in
      let most = few_in_all app limits handlers levels few few_levels short in
      let number = length_reordered placed h.all same in
      record {
        all = h.all;
        are_all = record {
          each = all_reordered (IsPlacement app limits handlers (levels - 1)) placed h.all same are.each;
          once =
              distinct_reordered (map (λ (p : Placed). p.injections) placed) (map (λ (p : Placed). p.injections) h.all)
              (map_reordered (λ (p : Placed). p.injections) placed h.all same) are.once;
          whole = λ p is. among_reordered p placed h.all same (are.whole p is);
        };
        tally = h.tally;
        few = omega (arith, most, number);
      }

  pub tallied_if_over : (n until : ℕ) (f : Frontier) → length handlers ≤ 17 → levels ≤ 4 → limits.steps ≤ 1000000 → AreDistinct
      handlers
      → f.live.nodes.items ≡ [] → f.spent.nodes.items ≡ []
      → Holds app limits handlers levels n until f (everything app limits handlers levels)
      → AreTallied app limits handlers (levels - 1) f.findings.items
  tallied_if_over n until f few few_levels short differ none none_spent h =
      tallied n until f few few_levels short differ h (none_if_empty n f.live.nodes.items h.plans none h.live)
      (none_if_empty until f.spent.nodes.items h.full none_spent h.spent)

  pub tallied_at_last : (n until : ℕ) (f : Frontier) → length handlers ≤ 17 → levels ≤ 4 → limits.steps ≤ 1000000 → AreDistinct
      handlers
      → limits.steps < n → n ≤ until → Holds app limits handlers levels n until f (everything app limits handlers levels)
      → AreTallied app limits handlers (levels - 1) f.findings.items
  tallied_at_last n until f few few_levels short differ late ahead h =
      tallied n until f few few_levels short differ h (none_if_late n f.live.nodes.items h.plans late h.live)
      (none_if_late until f.spent.nodes.items h.full (omega (arith, late, ahead)) h.spent)
