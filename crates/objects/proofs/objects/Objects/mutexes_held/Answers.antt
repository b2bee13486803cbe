use Rattle.std.proofs.Common.{refl, Some, ◌∙◌, ap, sym}
use Rattle.model.specs.State.{Object, no_object}
use Rattle.model.specs.Switching.{is_same}
use Rattle.objects.specs.Together.{held_of}
use Rattle.objects.specs.Objects.{Objects}
use Rattle.objects.proofs.Together.{count_alike, held_is}
use Rattle.objects.proofs.objects.Objects.mutexes_held.Goals as goal

pub returns-clause-held : goal.returns-clause-held
returns-clause-held c =
    let q = c.self.inside in
    c.held_by.ensures.held ∙ sym (held_is q.items q.semaphores q.mutexes c.args.task c.held_by.ensures.many)
    ∙ ap (λ (v : Objects). held_of v.objects c.args.task) c.self.view_is

pub returns-clause-stands : goal.returns-clause-stands
returns-clause-stands c = λ s d h.
    let held = λ (o : Object). is_same o.holder (Some c.args.task) in
    returns-clause-held c
    ∙ count_alike held held no_object no_object refl refl c.args.self.now.objects s.objects (λ i. ap held (h.objects i))
