use Rattle.std.proofs.Common.{arith, subst, sym}
use Rattle.std.proofs.Math.ListN.{get_or-eq_default}
use Rattle.model.specs.State.{no_progress}
use Rattle.machine.specs.declared.machine.Machine.{Machine}
use Rattle.machine.specs.StandsFor.{Stands}
use Rattle.kernel.proofs.Alike.{full_of}
use Rattle.kernel.proofs.kernel.Kernel.step.Goals as goal

pub returns-clause-stands : goal.returns-clause-stands
returns-clause-stands c = λ s h. c.step.ensures.stands s (subst (λ (k : Machine). Stands k s) (sym c.self.view_is) h)

pub returns-clause-log : goal.returns-clause-log
returns-clause-log c = λ s h. c.step.ensures.log s (subst (λ (k : Machine). Stands k s) (sym c.self.view_is) h)

pub invariant_of-self : goal.invariant_of-self
invariant_of-self c = λ task behind.
    let going = subst (λ (k : Machine). Stands k c.requires.going.state) (sym c.self.view_is) c.requires.going.stands in
    let full = full_of c.step.new.machine _ (c.step.ensures.stands c.requires.going.state going) in
    get_or-eq_default c.step.new.machine.progress no_progress (omega (arith, full, behind))

pub returns-clause-came : goal.returns-clause-came
returns-clause-came c = λ s h. c.step.ensures.came s (subst (λ (k : Machine). Stands k s) (sym c.self.view_is) h)
