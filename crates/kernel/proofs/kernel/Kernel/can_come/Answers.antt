use Rattle.std.proofs.Common.{subst, sym}
use Rattle.machine.specs.declared.machine.Machine.{Machine}
use Rattle.machine.specs.StandsFor.{Stands}
use Rattle.kernel.proofs.kernel.Kernel.can_come.Goals as goal

pub returns : goal.returns
returns c = λ s h. c.can_come.ensures s (subst (λ (k : Machine). Stands k s) (sym c.self.view_is) h)
