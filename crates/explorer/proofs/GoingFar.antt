-- Runs into which nothing is injected any more, up to a step or to their ends.
use Rattle.std.proofs.Common.{◌≡◌, ◌<◌, ◌≤◌, ◌-◌, ◌⊎◌, ℕ, false, List, [], ◌++◌, length, Option, Some, None, refl, ap}
use Rattle.std.proofs.Common.{sym}
use Rattle.std.proofs.Common.{◌∙◌, subst, arith, append-nil, inl, inr}
use Rattle.std.specs.Prelude.{Contains}
use Rattle.std.specs.List.{AllByRecursion}
use Rattle.model.specs.declared.event.End.{End}
use Rattle.model.specs.declared.plan.Injection.{Injection}
use Rattle.model.specs.Application.{Application, Limits}
use Rattle.model.specs.Run.{end_of, injected, state_after}
use Rattle.model.specs.Placements.{Found, Placed, is_less}
use Rattle.model.proofs.Among.{all_of_both, all_weaker}
use Rattle.model.proofs.Placements.{none_from}
use Rattle.machine.specs.declared.machine.Machine.{Machine}
use Rattle.machine.specs.Can.{IsUnderWay}
use Rattle.kernel.specs.declared.rests.RestEnding.{RestEnding}
use Rattle.kernel.specs.Leads.{IsPast}
use Rattle.explorer.specs.declared.layer.Node.{Node}
use Rattle.explorer.specs.Frontiers.{GoesFar, Plans, Settles, rests_of}
use Rattle.explorer.specs.Layers.{AreAt, Gains}
use Rattle.explorer.specs.Tallies.{IsTally, TalliesMore, ending_in}
use Rattle.explorer.proofs.Carrying.{carries_same}
use Rattle.explorer.proofs.Rests.{IsOver, all_far, all_over, ways_end}

-- Nothing is injected from there on.
pub none_more : (plan : List Injection) (n : ℕ) → AllByRecursion (λ (i : Injection). i.step < n) plan
    → (m : ℕ) → n ≤ m → injected plan m ≡ []
none_more plan n below m l = none_from n m plan below l

module _ (app : Application) (limits : Limits) (until : ℕ) (old new : Machine) (count : ℕ) (least : List Injection)
    (ending : Option RestEnding) (far : GoesFar app limits until old new ending) where
  all_past : (more : Plans) → AreAt app limits old.steps old count least more → AllByRecursion (IsPast app limits old) more
  all_past more at =
      all_weaker (λ plan. (IsUnderWay app plan limits old) × AllByRecursion (λ (i : Injection). i.step < old.steps) plan)
      (IsPast app limits old) (λ plan both. record { way = both.0; past = none_more plan old.steps both.1 }) more
      (all_of_both (λ plan. IsUnderWay app plan limits old) (λ plan. AllByRecursion (λ (i : Injection). i.step < old.steps) plan)
      more
      at.way at.below)

  all_there : (more : Plans) → AreAt app limits old.steps old count least more
      → AllByRecursion (λ plan. IsUnderWay app plan limits new) more
  all_there more at = all_weaker (IsPast app limits old) (λ plan. IsUnderWay app plan limits new) far.way more (all_past more at)

  -- They are there, or nowhere else than before.
  rests_there : (handlers : List ℕ) (levels : ℕ) (more : Plans) → AreAt app limits old.steps old count least more
      → (until ≡ old.steps) ⊎ AllByRecursion (λ plan. levels - 1 ≤ length plan) more
      → rests_of app limits handlers levels old.steps more ≡ rests_of app limits handlers levels new.steps more
  rests_there handlers levels more at which =
      all_far app limits handlers levels old.steps new.steps far.on more (which_of which)
      (all_weaker (λ plan. IsUnderWay app plan limits new)
      (λ plan. (m : ℕ) → m < new.steps → end_of app limits (state_after app limits plan m) ≡ None)
      (λ plan way. way.goes_on) more (all_there more at)) where
        which_of : (until ≡ old.steps) ⊎ AllByRecursion (λ plan. levels - 1 ≤ length plan) more
            → (new.steps ≡ old.steps) ⊎ AllByRecursion (λ plan. levels - 1 ≤ length plan) more
        which_of (inl here) =
            let on = far.on in
            let most = far.far in
            inl (omega (arith, on, most, here))
        which_of (inr full) = inr full

  pub settled_there : ending ≡ None → (nodes others : List Node) (found : List Found) → Gains nodes others new count least
      → Settles app limits until old count least nodes others found found
  settled_there none nodes others found gains plans more all at carries tally =
      let there = far.there none in
      record {
        kept = more;
        placed = [];
        carries =
            gains app limits until plans more carries (record {
              way = all_there more at;
              below =
                  all_weaker (λ plan. AllByRecursion (λ (i : Injection). i.step < old.steps) plan)
                  (λ plan. AllByRecursion (λ (i : Injection). i.step < until) plan)
                  (λ plan below.
                  all_weaker (λ (i : Injection). i.step < old.steps) (λ (i : Injection). i.step < until)
                  (λ i l. let on = far.on in omega (arith, l, on, there)) plan below) more at.below;
              here = there;
              number = at.number;
              among = at.among;
              none_less = at.none_less;
              long = at.long;
            });
        tally = subst (λ (ps : List Placed). IsTally ps found) (sym (append-nil all)) tally;
        are = inr refl;
        rest = λ handlers levels which.
            rests_there handlers levels more at which
            ∙ ap (λ (m : ℕ). rests_of app limits handlers levels m more) there;
      }

  pub settled_found : (e : RestEnding) → ending ≡ Some e → (nodes : List Node) (before after : List Found) (p : Placed)
      → p.injections ≡ least → p.steps ≡ e.steps → p.ticks ≡ e.ticks → p.end ≡ e.end → TalliesMore before after count p
      → Settles app limits until old count least nodes nodes before after
  settled_found e some nodes before after p is_least is_steps is_ticks is_end tallies plans more all at carries tally =
      let ended = far.end e some in
      let over : AllByRecursion (IsOver app limits new.steps p) more =
      all_weaker (λ plan. (IsPast app limits old plan) × (IsUnderWay app plan limits new)) (IsOver app limits new.steps p)
      (λ plan both.
      let run = ended.rest.of_each plan both.1 (λ n l. both.0.past n (let on = far.on in omega (arith, l, on))) in
      let none : List ℕ = [] in
      record {
        under = ways_end app limits none 0 plan new.steps both.1.goes_on;
        end =
            subst (λ (m : ℕ). end_of app limits (state_after app limits plan m) ≡ Some p.end) ended.here
            (run.ends ∙ ap (λ (d : End). Some d) (sym is_end));
        elapsed =
            subst (λ (m : ℕ). (state_after app limits plan m).elapsed ≡ p.ticks) ended.here (sym run.elapsed ∙ sym is_ticks);
      }) more
      (all_of_both (IsPast app limits old) (λ plan. IsUnderWay app plan limits new) more (all_past more at) (all_there more at)) in
      record {
        kept = [];
        placed = ending_in p more;
        carries = carries_same app limits until nodes plans (plans ++ []) (append-nil plans) carries;
        tally =
            tallies all more tally at.number (subst (Contains more) (sym is_least) at.among)
            (subst (λ (l : List Injection). AllByRecursion (λ plan. is_less plan l ≡ false) more) (sym is_least) at.none_less);
        are = inl refl;
        rest = λ handlers levels which.
            rests_there handlers levels more at which
            ∙ all_over app limits handlers levels new.steps p (is_steps ∙ ended.here) more over
            ∙ sym (append-nil (ending_in p more));
      }
