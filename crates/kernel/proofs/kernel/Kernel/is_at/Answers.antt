use Rattle.std.proofs.Common.{subst, sym}
use Rattle.machine.specs.declared.machine.Machine.{Machine}
use Rattle.machine.specs.StandsFor.{Stands}
use Rattle.kernel.proofs.kernel.Kernel.is_at.Goals as goal

pub returns-clause-stands : goal.returns-clause-stands
returns-clause-stands c = λ told s h.
    c.is_at.ensures.stands told c.self.invariant s (subst (λ (k : Machine). Stands k s) (sym c.self.view_is) h)
