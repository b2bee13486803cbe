use Rattle.std.proofs.Common.{◌≡◌, true, None, Some, ◌∙◌, ap, sym}
use Rattle.std.specs.Prelude.{not}
use Rattle.model.specs.State.{Object}
use Rattle.model.specs.Switching.{is_same}
use Rattle.model.proofs.Chosen.{same_eq}
use Rattle.objects.proofs.Carrying.{stands_freed, turned}
use Rattle.objects.proofs.Together.{holder_put, many_seen, seen}
use Rattle.objects.proofs.objects.Objects.give_mutex.Goals as goal

pub unlock-requires-clause-held : goal.unlock-requires-clause-held
unlock-requires-clause-held c =
    let same : is_same c.holder.result (Some c.args.task) ≡ true = turned c.ne.result _ c.ne.ensures ∙ ap not c.if-ne.false in
    ap (λ (x : Object). x.holder)
    (seen c.self.inside c.args.self.now c.self.view_is c.object.inside.number c.args.object c.object.view_is c.object.invariant)
    ∙ sym c.holder.ensures.holder ∙ same_eq c.holder.result (Some c.args.task) same

pub returns-clause-given : goal.returns-clause-given
returns-clause-given c =
    holder_put c.self.inside c.args.self.now c.self.view_is c.object.inside.number c.args.object
    c.object.view_is c.object.invariant c.unlock.new.self None c.unlock.ensures.free c.unlock.ensures.many

pub returns-clause-stands : goal.returns-clause-stands
returns-clause-stands c = λ s d h.
    let same : is_same c.holder.result (Some c.args.task) ≡ true = turned c.ne.result _ c.ne.ensures ∙ ap not c.if-ne.false in
    let held = sym (c.holder.ensures.stands s d h) ∙ same_eq c.holder.result (Some c.args.task) same in
    stands_freed c.args.self.now d s c.args.object h
    (many_seen c.self.inside c.args.self.now c.self.view_is
    c.object.inside.number c.args.object c.object.view_is c.object.invariant)
    _ c.args.task held (returns-clause-given c)
