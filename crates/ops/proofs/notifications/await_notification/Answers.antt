use Rattle.std.proofs.Common.{◌≡◌, ◌||◌, eqb, false, Some, ap, refl, sym, subst, ◌∙◌, arith}
use Rattle.std.specs.Option.{option_eq}
use Rattle.model.specs.declared.call.Phase.TheVariants.{Start, Leave}
use Rattle.model.specs.declared.notification.Notification.{Notification}
use Rattle.model.specs.State.{Progress, notification_at, with_notification}
use Rattle.model.specs.Notifications.{check_notification, entered, is_there}
use Rattle.machine.specs.declared.machine.Machine.{Machine}
use Rattle.machine.specs.Can.{Runs}
use Rattle.machine.specs.StandsFor.{At, progress_in}
use Rattle.machine.specs.StandsFor.Stands.{Placed}
use Rattle.machine.proofs.Either.{does_any, does_more}
use Rattle.ops.specs.Can.{CanAwaitEvent}
use Rattle.ops.proofs.EventBits.{decides_at_last}
use Rattle.ops.proofs.Notifying.{notice_at_last, notice_in_phase}
use Rattle.ops.proofs.notifications.await_notification.Goals as goal

pub check_notification-requires-clause-can : goal.check_notification-requires-clause-can
check_notification-requires-clause-can g c =
    let i = c.args.task in
    let e = ap (λ (p : Progress). p.call.phase) (sym (c.behind-machine.view_is ∙ c.progress.ensures)) ∙ c.in-Start.is in
    let can = (subst (CanAwaitEvent c.args.machine.now i c.args.ticks) e c.requires.can).0 in
    let rest = c.set_notification.ensures.rest in
    record {
      runs = subst (λ (k : Machine). Runs k i) (sym rest)
          (record { current = can.runs.current; ready = can.runs.ready; op_index = can.runs.op_index });
      agrees = (
        _,
        (c.set_notification.ensures.does (can.agrees.0).log can.agrees.0 (record { stands = can.agrees.1; log = refl })).stands,
      );
      free = ap (λ (x : Machine). x.objects.lock) rest ∙ can.free;
      depth = ap (λ (x : Machine). x.sched.depth) rest ∙ can.depth;
    }

pub returns-in-Start-clause-does : goal.returns-in-Start-clause-does
returns-in-Start-clause-does g c =
    let i = c.args.task in
    let e = ap (λ (p : Progress). p.call.phase) (sym (c.behind-machine.view_is ∙ c.progress.ensures)) ∙ c.in-Start.is in
    let can = (subst (CanAwaitEvent c.args.machine.now i c.args.ticks) e c.requires.can).0 in
    let old = c.args.machine.now in
    let new = c.check_notification.new.machine in
    let log = g.L.Log.logged c.args.log.now in
    let after = g.L.Log.logged c.check_notification.new.log in
    notice_in_phase c.args.app.now old new log after i c.args.wait.now c.args.ticks Start e
    (does_more 1 2 old new log after _ (omega arith) (does_any 1 old new log after _ can.agrees (record {
      at = λ s h.
          let same : c.entered.result ≡ entered c.args.wait.now (notification_at s i) =
          c.entered.ensures ∙ ap (entered c.args.wait.now) (c.notification-notification.ensures.state s (Placed h.stands)) in
          subst (λ (n : Notification).
          At new after.told (check_notification c.args.app.now i c.args.wait.now c.args.ticks (with_notification i n s))) same
          (c.check_notification.ensures.does.at _ (c.set_notification.ensures.does _ s h));
      few = c.check_notification.ensures.does.few;
      before = c.check_notification.ensures.does.before;
    })))

pub leave_bits_wait-requires : goal.leave_bits_wait-requires
leave_bits_wait-requires g c =
    let e = ap (λ (p : Progress). p.call.phase) (sym (c.behind-machine.view_is ∙ c.progress.ensures)) ∙ c.in-Leave.is in
    record {
      room = omega (arith, c.requires.room);
      can = subst (CanAwaitEvent c.args.machine.now c.args.task c.args.ticks) e c.requires.can;
    }

pub returns-in-Leave-clause-does : goal.returns-in-Leave-clause-does
returns-in-Leave-clause-does g c =
    let e = ap (λ (p : Progress). p.call.phase) (sym (c.behind-machine.view_is ∙ c.progress.ensures)) ∙ c.in-Leave.is in
    let can = subst (CanAwaitEvent c.args.machine.now c.args.task c.args.ticks) e c.requires.can in
    let old = c.args.machine.now in
    let new = c.leave_bits_wait.new.machine in
    let log = g.L.Log.logged c.args.log.now in
    let after = g.L.Log.logged c.leave_bits_wait.new.log in
    notice_in_phase c.args.app.now old new log after c.args.task c.args.wait.now c.args.ticks Leave e
    (does_more 1 2 old new log after _ (omega arith) (does_any 1 old new log after _ can.call.agrees c.leave_bits_wait.ensures))

pub end_notification_wait-requires : goal.end_notification_wait-requires
end_notification_wait-requires g c =
    let e = ap (λ (p : Progress). p.call.phase) (sym (c.behind-machine.view_is ∙ c.progress.ensures)) in
    let can = subst (CanAwaitEvent c.args.machine.now c.args.task c.args.ticks) e c.requires.can in
    record {
      room = omega (arith, c.requires.room);
      runs = (decides_at_last c.args.machine.now c.args.task c.args.ticks _ c.in_default.not-Start c.in_default.not-Leave can).runs;
    }

pub returns-in_default-clause-does : goal.returns-in_default-clause-does
returns-in_default-clause-does g c =
    let e = ap (λ (p : Progress). p.call.phase) (sym (c.behind-machine.view_is ∙ c.progress.ensures)) in
    let can = subst (CanAwaitEvent c.args.machine.now c.args.task c.args.ticks) e c.requires.can in
    let agrees =
    (decides_at_last c.args.machine.now c.args.task c.args.ticks _ c.in_default.not-Start c.in_default.not-Leave can).agrees in
    let old = c.args.machine.now in
    let new = c.end_notification_wait.new.machine in
    let log = g.L.Log.logged c.args.log.now in
    let after = g.L.Log.logged c.end_notification_wait.new.log in
    notice_at_last c.args.app.now old new log after c.args.task c.args.wait.now c.args.ticks _ e
    c.in_default.not-Start c.in_default.not-Leave
    (does_more 1 2 old new log after _ (omega arith) (does_any 1 old new log after _ agrees c.end_notification_wait.ensures))

pub returns-in-Start-clause-takes : goal.returns-in-Start-clause-takes
returns-in-Start-clause-takes g c = λ waits.
    let i = c.args.task in
    let e = ap (λ (p : Progress). p.call.phase) (sym (c.behind-machine.view_is ∙ c.progress.ensures)) ∙ c.in-Start.is in
    let can = (subst (CanAwaitEvent c.args.machine.now i c.args.ticks) e c.requires.can).0 in
    let took = c.check_notification.ensures.takes waits in
    let rest = c.set_notification.ensures.rest in
    record {
      agrees = can.agrees;
      remains = record {
        current = took.remains.current ∙ ap (λ (k : Machine). k.sched.current) rest;
        op_index = took.remains.op_index ∙ ap (λ (k : Machine). (progress_in k.progress i).op_index) rest;
        suspensions = took.remains.suspensions ∙ ap (λ (k : Machine). k.sched.suspensions) rest;
      };
      held = took.held;
      reached = took.reached;
    }

pub returns-in-Start-clause-unmet : goal.returns-in-Start-clause-unmet
returns-in-Start-clause-unmet g c = λ waits s h.
    let i = c.args.task in
    let same : c.entered.result ≡ entered c.args.wait.now (notification_at s i) =
    c.entered.ensures ∙ ap (entered c.args.wait.now) (c.notification-notification.ensures.state s (Placed h)) in
    let there = (c.set_notification.ensures.does _ s (record { stands = h; log = refl })).stands in
    subst (λ (n : Notification).
    (is_there c.args.wait.now (notification_at (with_notification i n s) i) || option_eq eqb c.args.ticks (Some 0)) ≡ false) same
    (c.check_notification.ensures.unmet waits _ there)
