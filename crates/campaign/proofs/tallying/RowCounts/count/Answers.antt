use Rattle.std.proofs.Common.{◌∙◌, refl}
use Rattle.campaign.proofs.Ends.{counts_reached, counts_missed}
use Rattle.campaign.proofs.tallying.RowCounts.count.Goals as goal

pub returns-then-not-reached : goal.returns-then-not-reached
returns-then-not-reached c row tally reached end = record {
  same = refl;
  rises = λ kind l.
      counts_missed row kind c.kind_of.result c.args.end l c.kind_of.ensures.kind end _ _ _
      (reached ∙ c.if-not-reached.true) (c.add.ensures kind) (c.add-then-not-reached.ensures kind);
}

pub returns-else-not-reached : goal.returns-else-not-reached
returns-else-not-reached c row tally reached end = record {
  same = refl;
  rises = λ kind l.
      counts_reached row kind c.kind_of.result c.args.end l c.kind_of.ensures.kind
      end _ _ (reached ∙ c.if-not-reached.false) (c.add.ensures kind);
}
