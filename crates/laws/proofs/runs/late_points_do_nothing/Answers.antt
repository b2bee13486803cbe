use Rattle.laws.proofs.LatePoints.{none_late}
use Rattle.laws.proofs.runs.late_points_do_nothing.Goals as goal

pub returns : goal.returns
returns c = none_late
