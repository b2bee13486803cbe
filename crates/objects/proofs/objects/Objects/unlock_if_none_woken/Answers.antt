use Rattle.std.proofs.Common.{None, sym, subst}
use Rattle.objects.specs.Together.{objects_of_all}
use Rattle.objects.specs.Objects.{Objects, StandsFor}
use Rattle.objects.proofs.Locking.{stands_released, unlock_opens}
use Rattle.objects.proofs.objects.Objects.unlock_if_none_woken.Goals as goal

pub returns-in-Some-clause-stands : goal.returns-in-Some-clause-stands
returns-in-Some-clause-stands c = λ s t h.
    let q = c.self.inside in
    let v : Objects =
    record { number = q.number; objects = objects_of_all q.items q.semaphores q.mutexes; waiting = q.waiting; lock = q.lock } in
    let before = subst (λ (v : Objects). StandsFor v None s) (sym c.self.view_is) h in
    rw c.take.ensures.after (stands_released v s c.in-Some.lock before c.in-Some.is c.if-lock-eq0.true c.if-lock-eq0-2.true)

pub returns-in-Some-clause-woken : goal.returns-in-Some-clause-woken
returns-in-Some-clause-woken c = λ s t h.
    let q = c.self.inside in
    let v : Objects =
    record { number = q.number; objects = objects_of_all q.items q.semaphores q.mutexes; waiting = q.waiting; lock = q.lock } in
    let before = subst (λ (v : Objects). StandsFor v None s) (sym c.self.view_is) h in
    unlock_opens v s c.in-Some.lock before c.in-Some.is c.if-lock-eq0.true c.if-lock-eq0-2.true
