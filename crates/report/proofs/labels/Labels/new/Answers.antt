use Rattle.report.proofs.Fronts.{labels_at_first}
use Rattle.report.proofs.labels.Labels.new.Goals as goal

pub invariant_of-result : goal.invariant_of-result
invariant_of-result c =
    labels_at_first _ _ _ _ _ _ 32 1024 128 2 c.none.ensures c.none-2.ensures c.none-3.ensures c.none-4.ensures
    c.none-5.ensures
