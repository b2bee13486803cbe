use Rattle.std.proofs.Common.{Option, ℕ, ◌<◌, ◌∙◌, ap, length, subst, sym}
use Rattle.std.specs.Option.{IfSome}
use Rattle.model.specs.State.{Object}
use Rattle.objects.proofs.Together.{seen}
use Rattle.objects.proofs.objects.Objects.holder.Goals as goal

pub returns-clause-holder : goal.returns-clause-holder
returns-clause-holder c =
    c.holder.ensures.holder
    ∙ ap (λ (x : Object). x.holder)
    (seen c.self.inside c.args.self.now c.self.view_is c.object.inside.number c.args.object c.object.view_is c.object.invariant)

pub returns-clause-stands : goal.returns-clause-stands
returns-clause-stands c = λ s d h. returns-clause-holder c ∙ ap (λ (x : Object). x.holder) (h.objects c.args.object)

pub returns-clause-known : goal.returns-clause-known
returns-clause-known c = λ s d h.
    subst (λ (holder : Option ℕ). IfSome holder (λ task. task < length s.tasks))
    (sym (returns-clause-stands c s d h)) (h.waiters.table.holders c.args.object)
