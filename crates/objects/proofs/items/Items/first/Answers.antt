use Rattle.std.proofs.Common.{sym, ap, arith}
use Rattle.std.specs.Prelude.{slice_get}
use Rattle.objects.proofs.Rings.{no_first, first_is, sound_is}
use Rattle.objects.proofs.items.Items.first.Goals as goal

pub returns-then-self-queue-eq0-clause-first : goal.returns-then-self-queue-eq0-clause-first
returns-then-self-queue-eq0-clause-first c =
    ap (λ xs. slice_get xs 0) (sym (no_first c.self.invariant c.self.view_is c.args.queue c.requires c.if-self-queue-eq0.true))

pub returns-then-self-queue-eq0-clause-sound : goal.returns-then-self-queue-eq0-clause-sound
returns-then-self-queue-eq0-clause-sound c = sound_is c.self.invariant c.self.view_is

pub returns-else-self-queue-eq0-clause-first : goal.returns-else-self-queue-eq0-clause-first
returns-else-self-queue-eq0-clause-first c =
    let some = c.if-self-queue-eq0.false in
    first_is c.self.invariant c.self.view_is c.args.queue c.requires (omega (arith, some))

pub returns-else-self-queue-eq0-clause-sound : goal.returns-else-self-queue-eq0-clause-sound
returns-else-self-queue-eq0-clause-sound c = sound_is c.self.invariant c.self.view_is
