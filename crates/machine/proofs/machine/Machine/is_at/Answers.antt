use Rattle.std.proofs.Common.{ℕ, subst}
use Rattle.groups.specs.StandsFor as groups
use Rattle.machine.specs.declared.machine.Machine.{Machine}
use Rattle.machine.specs.StandsFor.{AreSources}
use Rattle.machine.proofs.Alike.{with_others}
use Rattle.machine.proofs.Either.{released_is}
use Rattle.machine.proofs.machine.Machine.is_at.Goals as goal

pub returns-clause-stands : goal.returns-clause-stands
returns-clause-stands c = λ told blank s h.
    let same =
    c.is_same_but_groups.ensures.same c.if-not-is_same_but_groups.false blank in
    let sources = c.is_same_but_groups.ensures.sources c.if-not-is_same_but_groups.false s.sources in
    with_others c.args.self.now c.args.snapshot.now s same
    (λ here. subst (λ (m : Machine). groups.StandsFor m.groups s) c.snapshot.view_is (c.is_same.ensures told s here))
    (subst (λ (n : ℕ). AreSources n c.args.self.now.sources s.sources → AreSources n c.args.snapshot.now.sources s.sources)
    (released_is c.args.self.now s h) sources) h
