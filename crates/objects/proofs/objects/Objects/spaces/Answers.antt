use Rattle.std.proofs.Common.{◌≡◌, ◌-◌, ◌∙◌, ap, arith, length}
use Rattle.model.specs.State.{Object}
use Rattle.objects.specs.Items.{object_in}
use Rattle.objects.proofs.Together.{seen}
use Rattle.objects.proofs.objects.Objects.spaces.Goals as goal

pub returns-clause-spaces : goal.returns-clause-spaces
returns-clause-spaces c =
    let room = c.room.ensures.room in
    let queue : Object = object_in c.self.inside.items c.queue.inside.number in
    let left : c.room.result ≡ queue.size - length queue.items = omega (arith, room) in
    left
    ∙ ap (λ (x : Object). x.size - length x.items)
    (seen c.self.inside c.args.self.now c.self.view_is c.queue.inside.number c.args.queue c.queue.view_is c.queue.invariant)

pub returns-clause-stands : goal.returns-clause-stands
returns-clause-stands c = λ s d h. returns-clause-spaces c ∙ ap (λ (x : Object). x.size - length x.items) (h.objects c.args.queue)
