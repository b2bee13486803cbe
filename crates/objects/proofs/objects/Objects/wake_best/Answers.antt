use Rattle.std.proofs.Common.{◌≡◌, rules, false, Some, None, sym, ◌∙◌, ap, subst}
use Rattle.model.specs.Waiting.{is_locked}
use Rattle.objects.specs.Together.{objects_of_all}
use Rattle.objects.specs.Objects.{Objects, StandsFor, after_wake, counted_by, readied_by}
use Rattle.objects.proofs.Locking.{shut_by, stands_counted, stands_taken_best}
use Rattle.objects.proofs.objects.Objects.wake_best.Goals as goal

pub returns-in-Some-clause-stands : goal.returns-in-Some-clause-stands
returns-in-Some-clause-stands c = λ s d h at.
    let q = c.self.inside in
    let e : Some c.in-Some.lock ≡ counted_by c.args.list q.lock = search rules in
    stands_counted q.number (objects_of_all q.items q.semaphores q.mutexes) q.waiting q.lock c.in-Some.lock
    c.args.list d s e (subst (λ (v : Objects). StandsFor v d s) (sym c.self.view_is) h)

pub returns-in-None-clause-stands : goal.returns-in-None-clause-stands
returns-in-None-clause-stands c = λ s d h at.
    let q = c.self.inside in
    let e : None ≡ counted_by c.args.list q.lock = search rules in
    let before : StandsFor
    (record { number = q.number; objects = objects_of_all q.items q.semaphores q.mutexes; waiting = q.waiting; lock = q.lock })
    d s =
    subst (λ (v : Objects). StandsFor v d s) (sym c.self.view_is) h in
    let shut : is_locked s.locked c.args.list ≡ false = shut_by q.lock c.args.list s.locked e before.locked in
    stands_taken_best q.number (objects_of_all q.items q.semaphores q.mutexes) q.waiting c.take_best.new.self
    q.lock c.args.list d s before (c.take_best.ensures.wakes s d before.waiters at shut)
    (λ o receivers senders k. c.take_best.ensures.counts s d o receivers senders k at shut)

pub returns-in-Some-clause-woken : goal.returns-in-Some-clause-woken
returns-in-Some-clause-woken c =
    let q = c.self.inside in
    let v : Objects =
    record { number = q.number; objects = objects_of_all q.items q.semaphores q.mutexes; waiting = q.waiting; lock = q.lock } in
    let e : Some c.in-Some.lock ≡ counted_by c.args.list q.lock = search rules in
    subst (λ (w : Objects). record v { lock = Some c.in-Some.lock } ≡ after_wake (counted_by c.args.list w.lock) c.args.list w)
    c.self.view_is
    (ap (λ l. after_wake l c.args.list v) e)

pub returns-in-Some-clause-best : goal.returns-in-Some-clause-best
returns-in-Some-clause-best c =
    let q = c.self.inside in
    let v : Objects =
    record { number = q.number; objects = objects_of_all q.items q.semaphores q.mutexes; waiting = q.waiting; lock = q.lock } in
    let e : Some c.in-Some.lock ≡ counted_by c.args.list q.lock = search rules in
    subst (λ (w : Objects). None ≡ readied_by (counted_by c.args.list w.lock) c.args.list w) c.self.view_is
    (ap (λ l. readied_by l c.args.list v) e)

pub returns-in-None-clause-woken : goal.returns-in-None-clause-woken
returns-in-None-clause-woken c =
    let q = c.self.inside in
    let v : Objects =
    record { number = q.number; objects = objects_of_all q.items q.semaphores q.mutexes; waiting = q.waiting; lock = q.lock } in
    let e : None ≡ counted_by c.args.list q.lock = search rules in
    subst (λ (w : Objects). record v { waiting = c.take_best.new.self } ≡ after_wake (counted_by c.args.list w.lock) c.args.list w)
    c.self.view_is
    (ap (λ w. record v { waiting = w }) c.take_best.ensures.left ∙ ap (λ l. after_wake l c.args.list v) e)

pub returns-in-None-clause-best : goal.returns-in-None-clause-best
returns-in-None-clause-best c =
    let q = c.self.inside in
    let v : Objects =
    record { number = q.number; objects = objects_of_all q.items q.semaphores q.mutexes; waiting = q.waiting; lock = q.lock } in
    let e : None ≡ counted_by c.args.list q.lock = search rules in
    subst (λ (w : Objects). c.take_best.result ≡ readied_by (counted_by c.args.list w.lock) c.args.list w)
    c.self.view_is
    (c.take_best.ensures.best ∙ ap (λ l. readied_by l c.args.list v) e)
