use Rattle.std.proofs.Common.{Some, None, ◌∙◌, sym, subst}
use Rattle.objects.specs.Together.{objects_of_all}
use Rattle.objects.specs.Objects.{Objects, StandsFor}
use Rattle.objects.proofs.Free.{stands_placing, stands_waiting}
use Rattle.objects.proofs.objects.Objects.is_waiting.Goals as goal

pub returns-clause-stands : goal.returns-clause-stands
returns-clause-stands c = λ s h.
    let q = c.self.inside in
    let v : Objects =
    record { number = q.number; objects = objects_of_all q.items q.semaphores q.mutexes; waiting = q.waiting; lock = q.lock } in
    c.is_waiting.ensures.waiting
    ∙ stands_waiting v s c.args.task c.is_waiting.ensures.sound
    (subst (λ (v : Objects). StandsFor v None s) (sym c.self.view_is) h)

pub returns-clause-placing : goal.returns-clause-placing
returns-clause-placing c = λ s d h.
    let q = c.self.inside in
    let v : Objects =
    record { number = q.number; objects = objects_of_all q.items q.semaphores q.mutexes; waiting = q.waiting; lock = q.lock } in
    c.is_waiting.ensures.waiting
    ∙ stands_placing v s d c.args.task c.is_waiting.ensures.sound
    (subst (λ (v : Objects). StandsFor v (Some d) s) (sym c.self.view_is) h)
