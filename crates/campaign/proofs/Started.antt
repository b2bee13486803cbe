-- The campaign of an application, from its shelf.
use Rattle.std.proofs.Common.{◌≡◌, ◌≤◌, ◌+◌, ◌-◌, ◌∙◌, ℕ, List, [], length, drop, slice_range, ap, arith, sym, subst}
use Rattle.std.proofs.lemmas.List.{length-drop, length-take-le}
use Rattle.model.specs.declared.plan.Injection.{Injection}
use Rattle.model.specs.Application.{Application, Limits}
use Rattle.model.specs.Scripts.{most_points}
use Rattle.model.specs.Run.{Run, IsRun}
use Rattle.model.specs.Campaign.{Row, AreRows, points_in}
use Rattle.campaign.specs.declared.points.ExpandFault.{ExpandFault}
use Rattle.campaign.specs.declared.points.ExpandFault.TheVariants.{TooManyPoints, Memory}
use Rattle.report.specs.Shards.{Shard, first_of, next_of, part_of}
use Rattle.report.specs.declared.view.View.{View}
use Rattle.campaign.specs.Faults.{IsCampaignFault, of_expanding}
use Rattle.campaign.specs.Shown.{IsShownOf}
use Rattle.rows.specs.Report.{Shown}
use Rattle.campaign.specs.Seen.{AreSeen}
use Rattle.campaign.proofs.Seeing.{rows_of_seen}
use Rattle.campaign.specs.Points.{IsExpandFault}
use Rattle.shelf.specs.Shelves.{Shelved, IsShelf}

-- a part of the points has no more of them than are left from its first one on
pub few_of_part : (shard : Shard) (points some : List (List Injection)) (many many' from to : ℕ)
    → many ≡ length points → many' ≡ length points → some ≡ points → from ≤ next_of shard many
    → to ≡ next_of shard many' → to ≤ many' → from + length (slice_range some from to) ≤ length points
few_of_part shard points some many many' from to long long' same before next within =
    let ends : to ≡ next_of shard many = next ∙ ap (next_of shard) (long' ∙ sym long) in
    let all = ap length same in
    let fits : to - from ≤ length (drop from some) = omega (arith, length-drop from some, all, within, long') in
    let part = length-take-le (to - from) (drop from some) fits in
    omega (arith, part, ends, before, all, within, long')

module _ (app : Application) (shelf : Shelved) (base : Run) (is : IsShelf app shelf)
    (own : shelf.limits ≡ app.limits) (same : base ≡ shelf.base) where
  its_run : IsRun app [] app.limits base
  its_run =
      subst (λ r. IsRun app [] app.limits r) (sym same) (subst (λ (limits : Limits). IsRun app [] limits shelf.base) own is.is_base)

  pub expand_fault : (fault : ExpandFault) → IsExpandFault app base.steps fault → IsCampaignFault app (of_expanding fault)
  expand_fault TooManyPoints many = record { base = base; is_base = its_run; many = many }
  expand_fault Memory few = tt

  pub app_rows : (view : View) (shard : Shard) (points some : List (List Injection)) (report : Shown)
      → points ≡ points_in app base.steps → length points ≤ most_points
      → some ≡ part_of shard points → report.view ≡ view → report.first ≡ first_of shard (length points)
      → AreSeen app shelf.limits view some report.rows → IsShownOf app view shard report
  app_rows view shard points some report its few part in_view first are =
      let of = rows_of_seen app shelf.limits view some report.rows are in
      record {
        rows = of.whole;
        runs = record {
          base = base;
          is_base = its_run;
          few = subst (λ (ps : List (List Injection)). length ps ≤ most_points) its few;
          are_rows =
              subst (λ (ps : List (List Injection)). AreRows app app.limits ps of.whole) (part ∙ ap (part_of shard) its)
              (subst (λ (limits : Limits). AreRows app limits some of.whole) own of.are_rows);
        };
        shown =
            same_shown report _ in_view (first ∙ ap (λ (ps : List (List Injection)). first_of shard (length ps)) its) of.as_seen;
      }
    where
      same_shown : (a b : Shown) → a.view ≡ b.view → a.first ≡ b.first → a.rows ≡ b.rows → a ≡ b
      same_shown a b v f r =
          ap (λ (x : View). record a { view = x }) v ∙ ap (λ (x : ℕ). record a { view = b.view; first = x }) f
          ∙ ap (λ (x : List Row). record b { rows = x }) r
