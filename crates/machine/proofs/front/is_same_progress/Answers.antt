use Rattle.machine.proofs.Fronts.{is_same}
use Rattle.machine.proofs.front.is_same_progress.Goals as goal

pub returns-then-are_same : goal.returns-then-are_same
returns-then-are_same c = λ told blank.
    is_same c.args.other.now c.requires c.args.progress.now c.args.tasks c.told-progress
    (c.are_same.ensures c.if-are_same.true) (c.are_blank.ensures told) blank
