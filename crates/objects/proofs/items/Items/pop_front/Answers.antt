use Rattle.std.proofs.Common.{sym, ap, arith}
use Rattle.std.specs.Prelude.{slice_get}
use Rattle.objects.proofs.Rings.{no_first, first_is, none_taken, sound_is, taken}
use Rattle.objects.proofs.items.Items.pop_front.Goals as goal

pub returns-then-self-queue-eq0-clause-first : goal.returns-then-self-queue-eq0-clause-first
returns-then-self-queue-eq0-clause-first c =
    ap (λ xs. slice_get xs 0) (sym (no_first c.self.invariant c.self.view_is c.args.queue c.requires c.if-self-queue-eq0.true))

pub returns-then-self-queue-eq0-clause-items : goal.returns-then-self-queue-eq0-clause-items
returns-then-self-queue-eq0-clause-items c =
    none_taken c.self.invariant c.self.view_is c.args.queue c.requires c.if-self-queue-eq0.true

pub returns-then-self-queue-eq0-clause-sound : goal.returns-then-self-queue-eq0-clause-sound
returns-then-self-queue-eq0-clause-sound c = sound_is c.self.invariant c.self.view_is

pub invariant_of-self : goal.invariant_of-self
invariant_of-self c =
    let some = c.if-self-queue-eq0.false in
    (taken c.self.invariant c.self.view_is c.args.queue c.wrapped.result
    c.requires (omega (arith, some)) c.wrapped.ensures.wrapped).is

pub returns-clause-first : goal.returns-clause-first
returns-clause-first c =
    let some = c.if-self-queue-eq0.false in
    first_is c.self.invariant c.self.view_is c.args.queue c.requires (omega (arith, some))

pub returns-clause-items : goal.returns-clause-items
returns-clause-items c =
    let some = c.if-self-queue-eq0.false in
    (taken c.self.invariant c.self.view_is c.args.queue c.wrapped.result
    c.requires (omega (arith, some)) c.wrapped.ensures.wrapped).items

pub returns-clause-sound : goal.returns-clause-sound
returns-clause-sound c =
    let some = c.if-self-queue-eq0.false in
    (taken c.self.invariant c.self.view_is c.args.queue c.wrapped.result
    c.requires (omega (arith, some)) c.wrapped.ensures.wrapped).sound
