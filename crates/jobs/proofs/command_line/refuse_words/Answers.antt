use Rattle.jobs.proofs.Putting.{tells_by_writes}
use Rattle.jobs.proofs.command_line.refuse_words.Goals as goal

pub returns-clause-tells : goal.returns-clause-tells
returns-clause-tells g c = tells_by_writes _ _ _ _ _ c.put_lines.ensures.failed c.put_lines.ensures.text
