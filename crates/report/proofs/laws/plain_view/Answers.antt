use Rattle.report.proofs.Views.{plain_text}
use Rattle.report.proofs.laws.plain_view.Goals as goal

pub returns : goal.returns
returns c app rows = plain_text app rows
