use Rattle.std.proofs.Common.{Some, sym, subst}
use Rattle.objects.specs.Together.{objects_of_all}
use Rattle.objects.specs.Objects.{Objects, StandsFor}
use Rattle.objects.proofs.objects.Objects.place.Goals as goal

pub returns-clause-stands : goal.returns-clause-stands
returns-clause-stands c = λ s h.
    let q = c.self.inside in
    let before : StandsFor
    (record { number = q.number; objects = objects_of_all q.items q.semaphores q.mutexes; waiting = q.waiting; lock = q.lock })
    (Some (record { task = c.args.task; list = c.args.list; priority = c.args.priority })) s =
    subst (λ (v : Objects). StandsFor v (Some (record { task = c.args.task; list = c.args.list; priority = c.args.priority })) s)
    (sym c.self.view_is) h in
    record {
      number = before.number;
      objects = before.objects;
      waiters = c.wait.ensures.places s before.waiters;
      locked = before.locked;
      counts = before.counts;
    }
