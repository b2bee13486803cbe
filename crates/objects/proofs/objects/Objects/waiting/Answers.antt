use Rattle.std.proofs.Common.{◌∙◌, ap, length}
use Rattle.model.specs.State.{Object}
use Rattle.objects.proofs.Together.{seen}
use Rattle.objects.proofs.objects.Objects.waiting.Goals as goal

pub returns-clause-waiting : goal.returns-clause-waiting
returns-clause-waiting c =
    c.len.ensures.len
    ∙ ap (λ (x : Object). length x.items)
    (seen c.self.inside c.args.self.now c.self.view_is c.queue.inside.number c.args.queue c.queue.view_is c.queue.invariant)

pub returns-clause-stands : goal.returns-clause-stands
returns-clause-stands c = λ s d h. returns-clause-waiting c ∙ ap (λ (x : Object). length x.items) (h.objects c.args.queue)
