use Rattle.std.proofs.Common.{◌++◌, List, ap, sym, ◌∙◌}
use Rattle.model.specs.declared.plan.Injection.{Injection}
use Rattle.model.specs.Campaign.{points_of}
use Rattle.rows.proofs.Totalling.{flat_more}
use Rattle.campaign.proofs.points.points_from.Goals as goal

pub loop-entry-preserved : goal.loop-entry-preserved
loop-entry-preserved c =
    let entry = c.entry-item.result in
    let steps = c.args.steps in
    record {
      points =
          c.in_ok-push_entry.ensures
          ∙ ap (λ (ps : List (List Injection)). ps ++ points_of steps entry) c.loop-entry.invariant.points
          ∙ sym (flat_more (points_of steps) c.args.entries.now
          c.loop-entry.entry-index entry c.loop-entry-test.true c.entry-item.is);
    }
