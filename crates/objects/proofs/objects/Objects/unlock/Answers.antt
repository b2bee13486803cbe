use Rattle.std.proofs.Common.{◌≡◌, rules, Option, Some, None, sym, ◌∙◌, ap, subst}
use Rattle.std.specs.Option.{IfSome}
use Rattle.objects.specs.Together.{objects_of_all}
use Rattle.objects.specs.declared.lock.Lock.{Lock}
use Rattle.objects.specs.Objects.{AreCounted, Objects, StandsFor, after_unlock}
use Rattle.objects.proofs.Locking.{standing_locked, stands_unlocked, stands_unlocked_none}
use Rattle.objects.proofs.objects.Objects.unlock.Goals as goal

pub returns-in_err-lock-clause-stands : goal.returns-in_err-lock-clause-stands
returns-in_err-lock-clause-stands c = λ s h.
    let none : c.self.inside.lock ≡ None = search rules in
    stands_unlocked_none c.args.self.now s h (ap (λ (v : Objects). v.lock) (sym c.self.view_is) ∙ none)

pub returns-clause-stands : goal.returns-clause-stands
returns-clause-stands c = λ s h.
    let q = c.self.inside in
    let v : Objects =
    record { number = q.number; objects = objects_of_all q.items q.semaphores q.mutexes; waiting = q.waiting; lock = q.lock } in
    let is : q.lock ≡ Some c.in_ok-lock.lock = search rules in
    let before = subst (λ (v : Objects). StandsFor v None s) (sym c.self.view_is) h in
    stands_unlocked v c.unlock.new.self s c.in_ok-lock.lock before is
    (c.unlock.ensures.unlocks s (standing_locked v None s c.in_ok-lock.lock before is))

pub returns-clause-awakened : goal.returns-clause-awakened
returns-clause-awakened c = λ s h.
    let q = c.self.inside in
    let v : Objects =
    record { number = q.number; objects = objects_of_all q.items q.semaphores q.mutexes; waiting = q.waiting; lock = q.lock } in
    let is : q.lock ≡ Some c.in_ok-lock.lock = search rules in
    let before = subst (λ (v : Objects). StandsFor v None s) (sym c.self.view_is) h in
    let locked = standing_locked v None s c.in_ok-lock.lock before is in
    (c.in_ok-lock.lock.object, locked.locked, c.unlock.ensures.awakened s locked)

pub returns-clause-counted : goal.returns-clause-counted
returns-clause-counted c =
    let q = c.self.inside in
    let v : Objects =
    record { number = q.number; objects = objects_of_all q.items q.semaphores q.mutexes; waiting = q.waiting; lock = q.lock } in
    let is : q.lock ≡ Some c.in_ok-lock.lock = search rules in
    let counted = λ (w : Objects).
    λ (lock : Lock). AreCounted lock w c.unlock.result.to_receive.items c.unlock.result.to_send.items in
    subst (λ (w : Objects). IfSome w.lock (counted w)) c.self.view_is
    (subst (λ (l : Option Lock). IfSome l (counted v)) (sym is) (c.unlock.ensures.to_receive, c.unlock.ensures.to_send))

pub returns-in_err-lock-clause-left : goal.returns-in_err-lock-clause-left
returns-in_err-lock-clause-left c =
    let none : c.self.inside.lock ≡ None = search rules in
    sym (ap (λ l. after_unlock l c.args.self.now) (ap (λ (v : Objects). v.lock) (sym c.self.view_is) ∙ none))

pub returns-clause-left : goal.returns-clause-left
returns-clause-left c =
    let q = c.self.inside in
    let v : Objects =
    record { number = q.number; objects = objects_of_all q.items q.semaphores q.mutexes; waiting = q.waiting; lock = q.lock } in
    let is : q.lock ≡ Some c.in_ok-lock.lock = search rules in
    subst (λ (w : Objects). record v { lock = None; waiting = c.unlock.new.self } ≡ after_unlock w.lock w)
    c.self.view_is
    (ap (λ w. record v { lock = None; waiting = w }) c.unlock.ensures.left ∙ ap (λ l. after_unlock l v) (sym is))
