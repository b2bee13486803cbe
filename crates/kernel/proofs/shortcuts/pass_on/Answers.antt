use Rattle.std.proofs.Common.{refl}
use Rattle.kernel.proofs.Along.{tells_nothing}
use Rattle.kernel.proofs.shortcuts.pass_on.Goals as goal
use Rattle.kernel.proofs.shortcuts.pass_on.Goals.{then-work-gt0, else-work-gt0}

pub returns-clause-along : goal.returns-clause-along
returns-clause-along c =
    elim c.if-work-gt0.branch [
      | then-work-gt0 w ↦ rw w.kernel-is w.pass_quiet_steps.ensures
      | else-work-gt0 w ↦ rw w.kernel-is (tells_nothing refl)
    ]
