use Rattle.std.proofs.Common.{None, ◌≡◌, ℕ, List, sym, ◌∙◌, subst, ap}
use Rattle.model.specs.Notifications.{wait_for_notification}
use Rattle.lists.specs.Lists.{place_of}
use Rattle.groups.specs.EventGroups.{EventGroups}
use Rattle.groups.specs.StandsFor.{StandsFor}
use Rattle.groups.proofs.Placing.{stands_notice_begun, stands_notified}
use Rattle.groups.proofs.groups.Groups.place_for_notification.Goals as goal

pub returns-clause-stands : goal.returns-clause-stands
returns-clause-stands c = λ s h l.
    let q = c.self.inside in
    let i = c.args.task in
    let v : EventGroups = record { bits = q.bits; waiting = q.lists; wants = q.wants } in
    let h' : StandsFor v s = subst (λ (w : EventGroups). StandsFor w s) (sym c.self.view_is) h in
    let free : place_of q.lists i ≡ None = ap (λ (w : EventGroups). place_of w.waiting i) c.self.view_is ∙ c.requires.free in
    subst (λ (ls : List (List (ℕ × ℕ))). StandsFor (record v { waiting = ls }) (wait_for_notification i s))
    (sym c.push_back.ensures.put) (stands_notified v s h' i l c.self.invariant.0.sound free)

pub returns-clause-begins : goal.returns-clause-begins
returns-clause-begins c = λ s ticks h l.
    stands_notice_begun c.args.self.now s c.args.task ticks _ h l (returns-clause-stands c)
