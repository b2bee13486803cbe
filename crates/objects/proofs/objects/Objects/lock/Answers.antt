use Rattle.std.proofs.Common.{sym, subst}
use Rattle.objects.specs.Together.{objects_of_all}
use Rattle.objects.specs.Objects.{Objects, StandsFor}
use Rattle.objects.proofs.Locking.{stands_locked}
use Rattle.objects.proofs.objects.Objects.lock.Goals as goal

pub returns-clause-stands : goal.returns-clause-stands
returns-clause-stands c = λ s d h nobody.
    let q = c.self.inside in
    let v : Objects =
    record { number = q.number; objects = objects_of_all q.items q.semaphores q.mutexes; waiting = q.waiting; lock = q.lock } in
    stands_locked v d s c.args.object (subst (λ (v : Objects). StandsFor v d s) (sym c.self.view_is) h) nobody
