use Rattle.std.proofs.Common.{◌≡◌, Option, None, sym, ◌∙◌, ap, subst}
use Rattle.std.specs.Option.{IfSome}
use Rattle.model.specs.State.{Suspended, with_status}
use Rattle.model.specs.Switching.{make_ready}
use Rattle.objects.specs.Together.{objects_of_all}
use Rattle.objects.specs.declared.lock.Lock.{Lock}
use Rattle.objects.specs.Objects.{Counts, Objects, StandsFor}
use Rattle.objects.proofs.objects.Objects.drop_waiter.Goals as goal

pub returns-clause-suspended : goal.returns-clause-suspended
returns-clause-suspended c = λ s h free within.
    let q = c.self.inside in
    let before : StandsFor
    (record { number = q.number; objects = objects_of_all q.items q.semaphores q.mutexes; waiting = q.waiting; lock = q.lock })
    None s =
    subst (λ (v : Objects). StandsFor v None s) (sym c.self.view_is) h in
    let none : q.lock ≡ None = ap (λ (v : Objects). v.lock) c.self.view_is ∙ free in
    record {
      number = before.number;
      objects = before.objects;
      waiters = c.drop_waiter.ensures.suspended s before.waiters within;
      locked = before.locked;
      counts = subst (λ (o : Option Lock). IfSome o (Counts (with_status c.args.task Suspended s))) (sym none) tt;
    }

pub returns-clause-stands : goal.returns-clause-stands
returns-clause-stands c = λ s h free within.
    let q = c.self.inside in
    let before : StandsFor
    (record { number = q.number; objects = objects_of_all q.items q.semaphores q.mutexes; waiting = q.waiting; lock = q.lock })
    None s =
    subst (λ (v : Objects). StandsFor v None s) (sym c.self.view_is) h in
    let none : q.lock ≡ None = ap (λ (v : Objects). v.lock) c.self.view_is ∙ free in
    record {
      number = before.number;
      objects = before.objects;
      waiters = c.drop_waiter.ensures.readied s before.waiters within;
      locked = before.locked;
      counts = subst (λ (o : Option Lock). IfSome o (Counts (make_ready c.args.task s))) (sym none) tt;
    }
