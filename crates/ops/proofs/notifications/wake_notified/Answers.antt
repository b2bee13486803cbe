use Rattle.std.proofs.Common.{true, false, refl, sym, ◌∙◌}
use Rattle.model.specs.State.{waits_for_notification}
use Rattle.machine.proofs.Either.{any, either}
use Rattle.ops.proofs.Notifying.{groups_are, notified_at, notified_before, notified_unsuspended, notified_within, unnotified_any}
use Rattle.ops.proofs.Notifying.{apart_from_placing, unnotified_at, unready_there}
use Rattle.ops.proofs.Waits.{still_runs}
use Rattle.ops.proofs.notifications.wake_notified.Goals as goal

pub wake-requires-then-waits_for_notification : goal.wake-requires-then-waits_for_notification
wake-requires-then-waits_for_notification c =
    let k = c.args.machine.now in
    let s = c.requires.0 in
    let waits =
    sym (c.waits_for_notification.ensures.stands s (groups_are k s c.requires.1)) ∙ c.if-waits_for_notification.true in
    record { free = unready_there k s c.args.task waits c.requires.1 }

pub returns-then-waits_for_notification-clause-does : goal.returns-then-waits_for_notification-clause-does
returns-then-waits_for_notification-clause-does c = λ log s h.
    let k = c.args.machine.now in
    let i = c.args.task in
    let waits = sym (c.waits_for_notification.ensures.stands s h.stands.rest.groups) ∙ c.if-waits_for_notification.true in
    let l = notified_within k s i waits in
    notified_at k s i waits log c.wake-then-waits_for_notification.new.self c.wake.new.self c.drop_waiter.new.self h
    (c.wake-then-waits_for_notification.ensures.stands s h.stands.sched l (notified_unsuspended k s i waits))
    (c.wake.ensures.stands s h.stands.rest.clock l) (c.drop_waiter.ensures.readied s h.stands.rest.groups l)

pub returns-then-waits_for_notification-clause-any : goal.returns-then-waits_for_notification-clause-any
returns-then-waits_for_notification-clause-any c = λ log s h.
    let k = c.args.machine.now in
    let i = c.args.task in
    let waits = sym (c.waits_for_notification.ensures.stands s (groups_are k s h.stands)) ∙ c.if-waits_for_notification.true in
    let l = notified_within k s i waits in
    either k log s h
    (λ a. any _ log _ (returns-then-waits_for_notification-clause-does c log s a))
    (λ task list b.
    let ne = apart_from_placing k s i waits task list b in
    notified_before k s i waits log c.wake-then-waits_for_notification.new.self c.wake.new.self c.drop_waiter.new.self
    task list b h.log
    (c.wake-then-waits_for_notification.ensures.placing s task b.sched ne l (notified_unsuspended k s i waits))
    (c.wake.ensures.placing s task _ b.clock ne l) (c.drop_waiter.ensures.readied s b.groups l))

pub returns-then-waits_for_notification-clause-runs : goal.returns-then-waits_for_notification-clause-runs
returns-then-waits_for_notification-clause-runs c = λ j r.
    let k = c.args.machine.now in
    let s = c.requires.0 in
    let waits =
    sym (c.waits_for_notification.ensures.stands s (groups_are k s c.requires.1)) ∙ c.if-waits_for_notification.true in
    still_runs k _ c.args.task j r (unready_there k s c.args.task waits c.requires.1)
    c.wake-then-waits_for_notification.ensures.schedule c.wake-then-waits_for_notification.ensures.current refl

pub returns-else-waits_for_notification-clause-does : goal.returns-else-waits_for_notification-clause-does
returns-else-waits_for_notification-clause-does c = λ log s h.
    unnotified_at c.args.machine.now log s c.args.task
    (sym (c.waits_for_notification.ensures.stands s h.stands.rest.groups) ∙ c.if-waits_for_notification.false) h

pub returns-else-waits_for_notification-clause-any : goal.returns-else-waits_for_notification-clause-any
returns-else-waits_for_notification-clause-any c = λ log s h.
    unnotified_any c.args.machine.now log s c.args.task
    (sym (c.waits_for_notification.ensures.stands s (groups_are c.args.machine.now s h.stands))
    ∙ c.if-waits_for_notification.false) h
