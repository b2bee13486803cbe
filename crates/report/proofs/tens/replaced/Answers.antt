use Rattle.report.proofs.Lanes.{replaced_lane}
use Rattle.report.proofs.tens.replaced.Goals as goal

pub returns : goal.returns
returns c = replaced_lane 16 c.args.at c.args.byte c.args.text.now c.told-text
