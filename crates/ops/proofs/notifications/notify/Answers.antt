use Rattle.std.proofs.Common.{◌≡◌, refl, ap, sym, subst, ◌∙◌}
use Rattle.model.specs.declared.notification.Notification.{Notification}
use Rattle.model.specs.State.{notification_at, with_notification}
use Rattle.model.specs.Notifications as definitions
use Rattle.model.specs.Notifications.{notified, wake_notified}
use Rattle.machine.specs.declared.machine.Machine.{Machine}
use Rattle.machine.specs.Can.{Runs}
use Rattle.machine.specs.StandsFor.{At, AtAny}
use Rattle.machine.specs.StandsFor.Stands.{Placed}
use Rattle.ops.proofs.notifications.notify.Goals as goal

pub wake_notified-requires : goal.wake_notified-requires
wake_notified-requires c =
    let s = c.requires.0 in
    (_, (c.set_notification.ensures.any s.log s (record { stands = c.requires.1; log = refl })).stands)

pub returns-clause-does : goal.returns-clause-does
unfolding definitions.notify
returns-clause-does c = λ log s h.
    let i = c.args.task in
    let same : c.notified.result ≡ notified c.args.action (notification_at s i) =
    c.notified.ensures ∙ ap (notified c.args.action) (c.notification-notification.ensures.state s (Placed h.stands)) in
    subst (λ (n : Notification). At c.wake_notified.new.machine log (wake_notified i (with_notification i n s))) same
    (c.wake_notified.ensures.does log _ (c.set_notification.ensures.does log s h))

pub returns-clause-any : goal.returns-clause-any
unfolding definitions.notify
returns-clause-any c = λ log s h.
    let i = c.args.task in
    let same : c.notified.result ≡ notified c.args.action (notification_at s i) =
    c.notified.ensures ∙ ap (notified c.args.action) (c.notification-notification.ensures.state s h.stands) in
    subst (λ (n : Notification). AtAny c.wake_notified.new.machine log (wake_notified i (with_notification i n s))) same
    (c.wake_notified.ensures.any log _ (c.set_notification.ensures.any log s h))

pub returns-clause-runs : goal.returns-clause-runs
returns-clause-runs c = λ j r.
    c.wake_notified.ensures.runs j
    (subst (λ (k : Machine). Runs k j) (sym c.set_notification.ensures.rest)
    (record { current = r.current; ready = r.ready; op_index = r.op_index }))
