use Rattle.laws.proofs.Blocks.{leaves, leaves_outer}
use Rattle.laws.proofs.branches.breaks_end_the_innermost_loop.Goals as goal

pub returns-clause-next : goal.returns-clause-next
returns-clause-next c = λ app task s branches rest l. leaves app task s l branches rest

pub returns-clause-outer : goal.returns-clause-outer
returns-clause-outer c = λ app task s innermost outer l. leaves_outer app task s l innermost outer
