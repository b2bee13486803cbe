use Rattle.laws.proofs.Awaited.{alone_never}
use Rattle.laws.proofs.endless.endless_tasks_alone_never_pass.Goals as goal

pub returns : goal.returns
returns c = alone_never
