use Rattle.model.specs.declared.op.Op.TheVariants.{Value}
use Rattle.std.proofs.Common.{refl, subst}
use Rattle.model.specs.declared.op.Op.TheVariants.{Work, Delay, Yield, Time, End as EndLoop, If, Repeat}
use Rattle.model.specs.declared.op.Op.TheVariants.{Await, Do}
use Rattle.model.specs.declared.op.Op.TheVariants.{SetBits, WaitBits, Notify, AwaitNotification}
use Rattle.kernel.specs.Bits.Begins.{Sets, Waits, Notices}
use Rattle.kernel.specs.Can.{CanOp}
use Rattle.kernel.proofs.Acted.{all_within, any_by_form, does_by_form, one_within, room_for_one, room_for_two, two_within}
use Rattle.machine.proofs.Either.{moves_any}
use Rattle.kernel.proofs.Frequent.{seldom}
use Rattle.kernel.proofs.dispatch.act.Goals as goal

pub returns-in-Work-clause-does : goal.returns-in-Work-clause-does
returns-in-Work-clause-does g c =
    let can = subst (CanOp c.args.app.now c.args.machine.now c.args.task) c.in-Work.is c.requires.can in
    does_by_form c.args.app.now c.args.machine.now c.work.new.machine (g.L.Log.logged c.args.log.now)
    (g.L.Log.logged c.work.new.log) c.args.task c.args.op.now (Work c.in-Work.ticks) c.in-Work.is
    c.requires.awake (λ s. refl) refl 337 all_within can.tick.advance.agrees c.work.ensures.does

pub returns-in-Do-clause-does : goal.returns-in-Do-clause-does
returns-in-Do-clause-does g c =
    let can = subst (CanOp c.args.app.now c.args.machine.now c.args.task) c.in-Do.is c.requires.can in
    does_by_form c.args.app.now c.args.machine.now c.do_now.new.machine (g.L.Log.logged c.args.log.now)
    (g.L.Log.logged c.do_now.new.log) c.args.task c.args.op.now (Do c.in-Do.object c.in-Do.access)
    c.in-Do.is c.requires.awake (λ s. refl) refl 2 two_within can.tick.advance.agrees c.do_now.ensures

pub returns-in-End-clause-does : goal.returns-in-End-clause-does
returns-in-End-clause-does g c =
    let can = subst (CanOp c.args.app.now c.args.machine.now c.args.task) c.in-End.is c.requires.can in
    any_by_form c.args.app.now c.args.machine.now c.close_turn.new.machine (g.L.Log.logged c.args.log.now)
    (g.L.Log.logged c.args.log.now) c.args.task c.args.op.now EndLoop c.in-End.is c.requires.awake (λ s. refl) refl 337
    all_within (moves_any 337 c.args.machine.now c.close_turn.new.machine
    (g.L.Log.logged c.args.log.now) _ can.tick.advance.agrees c.close_turn.ensures.does)

pub returns-in-If-clause-does : goal.returns-in-If-clause-does
returns-in-If-clause-does g c =
    let can = subst (CanOp c.args.app.now c.args.machine.now c.args.task) c.in-If.is c.requires.can in
    any_by_form c.args.app.now c.args.machine.now c.branch-machine.new.machine (g.L.Log.logged c.args.log.now)
    (g.L.Log.logged c.args.log.now) c.args.task c.args.op.now (If c.in-If.condition) c.in-If.is c.requires.awake (λ s. refl)
    refl 337 all_within
    (moves_any 337 c.args.machine.now c.branch-machine.new.machine
    (g.L.Log.logged c.args.log.now) _ can.tick.advance.agrees c.branch-machine.ensures.does)

pub returns-in-Repeat-clause-does : goal.returns-in-Repeat-clause-does
returns-in-Repeat-clause-does g c =
    let can = subst (CanOp c.args.app.now c.args.machine.now c.args.task) c.in-Repeat.is c.requires.can in
    any_by_form c.args.app.now c.args.machine.now c.open_loop.new.machine (g.L.Log.logged c.args.log.now)
    (g.L.Log.logged c.args.log.now) c.args.task c.args.op.now (Repeat c.in-Repeat.turns) c.in-Repeat.is c.requires.awake
    (λ s. refl) refl 337 all_within
    (moves_any 337 c.args.machine.now c.open_loop.new.machine
    (g.L.Log.logged c.args.log.now) _ can.tick.advance.agrees c.open_loop.ensures.does)

pub returns-in-Await-clause-does : goal.returns-in-Await-clause-does
returns-in-Await-clause-does g c =
    any_by_form c.args.app.now c.args.machine.now c.go_on_by_value.new.machine
    (g.L.Log.logged c.args.log.now) (g.L.Log.logged c.go_on_by_value.new.log) c.args.task
    c.args.op.now (Await c.in-Await.object c.in-Await.access c.in-Await.ticks)
    c.in-Await.is c.requires.awake (λ s. refl) refl 2 two_within c.go_on_by_value.ensures

pub returns-in-SetBits-clause-does : goal.returns-in-SetBits-clause-does
returns-in-SetBits-clause-does g c =
    any_by_form c.args.app.now c.args.machine.now c.set_bits.new.machine (g.L.Log.logged c.args.log.now)
    (g.L.Log.logged c.set_bits.new.log) c.args.task c.args.op.now (SetBits c.in-SetBits.group c.in-SetBits.mask)
    c.in-SetBits.is c.requires.awake (λ s. refl) refl 2 two_within c.set_bits.ensures.does

pub returns-in-WaitBits-clause-does : goal.returns-in-WaitBits-clause-does
returns-in-WaitBits-clause-does g c =
    any_by_form c.args.app.now c.args.machine.now c.wait_bits.new.machine
    (g.L.Log.logged c.args.log.now) (g.L.Log.logged c.wait_bits.new.log) c.args.task
    c.args.op.now (WaitBits c.in-WaitBits.group c.in-WaitBits.condition c.in-WaitBits.ticks)
    c.in-WaitBits.is c.requires.awake (λ s. refl) refl 2 two_within c.wait_bits.ensures.does

pub returns-in-Notify-clause-does : goal.returns-in-Notify-clause-does
returns-in-Notify-clause-does g c =
    let can = subst (CanOp c.args.app.now c.args.machine.now c.args.task) c.in-Notify.is c.requires.can in
    does_by_form c.args.app.now c.args.machine.now c.call_notify.new.machine (g.L.Log.logged c.args.log.now)
    (g.L.Log.logged c.call_notify.new.log) c.args.task c.args.op.now (Notify c.in-Notify.other c.in-Notify.action)
    c.in-Notify.is c.requires.awake (λ s. refl) refl 2 two_within can.tick.advance.agrees c.call_notify.ensures

pub returns-in-AwaitNotification-clause-does : goal.returns-in-AwaitNotification-clause-does
returns-in-AwaitNotification-clause-does g c =
    any_by_form c.args.app.now c.args.machine.now c.await_notification.new.machine
    (g.L.Log.logged c.args.log.now) (g.L.Log.logged c.await_notification.new.log) c.args.task
    c.args.op.now (AwaitNotification c.in-AwaitNotification.wait c.in-AwaitNotification.ticks)
    c.in-AwaitNotification.is c.requires.awake (λ s. refl) refl 2 two_within c.await_notification.ensures.does

pub call_notify-requires : goal.call_notify-requires
call_notify-requires g c =
    record {
      room = room_for_two (g.L.Log.logged c.args.log.now).room c.requires.room;
      can = subst (CanOp c.args.app.now c.args.machine.now c.args.task) c.in-Notify.is c.requires.can;
    }

pub await_notification-requires : goal.await_notification-requires
await_notification-requires g c =
    record {
      room = room_for_two (g.L.Log.logged c.args.log.now).room c.requires.room;
      can = subst (CanOp c.args.app.now c.args.machine.now c.args.task) c.in-AwaitNotification.is c.requires.can;
    }

pub go_on_by_value-requires : goal.go_on_by_value-requires
go_on_by_value-requires g c =
    record {
      room = room_for_two (g.L.Log.logged c.args.log.now).room c.requires.room;
      can = subst (CanOp c.args.app.now c.args.machine.now c.args.task) c.in-Await.is c.requires.can;
    }

pub do_now-requires : goal.do_now-requires
do_now-requires g c =
    record {
      room = room_for_two (g.L.Log.logged c.args.log.now).room c.requires.room;
      can = subst (CanOp c.args.app.now c.args.machine.now c.args.task) c.in-Do.is c.requires.can;
    }

pub set_bits-requires : goal.set_bits-requires
set_bits-requires g c =
    record {
      room = room_for_two (g.L.Log.logged c.args.log.now).room c.requires.room;
      can = subst (CanOp c.args.app.now c.args.machine.now c.args.task) c.in-SetBits.is c.requires.can;
    }

pub wait_bits-requires : goal.wait_bits-requires
wait_bits-requires g c =
    record {
      room = room_for_two (g.L.Log.logged c.args.log.now).room c.requires.room;
      can = subst (CanOp c.args.app.now c.args.machine.now c.args.task) c.in-WaitBits.is c.requires.can;
    }

pub returns-in-SetBits-clause-letting : goal.returns-in-SetBits-clause-letting
returns-in-SetBits-clause-letting g c = λ e.
    let begun = c.letting_go_if.ensures.letting e in (
      record {
        begins = Sets c.in-SetBits.group c.in-SetBits.mask c.in-SetBits.is;
        start = c.set_bits.ensures.start begun;
        takes = c.set_bits.ensures.takes begun;
      },
      c.set_bits.ensures.silent begun,
    )

pub returns-in-WaitBits-clause-letting : goal.returns-in-WaitBits-clause-letting
returns-in-WaitBits-clause-letting g c = λ e.
    let begun = c.behind_wait.ensures.letting e in (
      record {
        begins =
            Waits c.in-WaitBits.group c.in-WaitBits.condition c.in-WaitBits.ticks c.in-WaitBits.is
            (c.wait_bits.ensures.unmet begun);
        start = c.wait_bits.ensures.start begun;
        takes = c.wait_bits.ensures.takes begun;
      },
      c.wait_bits.ensures.silent begun,
    )

pub returns-in-Value-clause-does : goal.returns-in-Value-clause-does
returns-in-Value-clause-does g c =
    let can = subst (CanOp c.args.app.now c.args.machine.now c.args.task) c.in-Value.is c.requires.can in
    does_by_form c.args.app.now c.args.machine.now c.calculate.new.machine (g.L.Log.logged c.args.log.now)
    (g.L.Log.logged c.calculate.new.log) c.args.task c.args.op.now (Value c.in-Value.op) c.in-Value.is
    c.requires.awake (λ s. refl) refl 1 one_within can.tick.advance.agrees c.calculate.ensures.does

pub calculate-requires : goal.calculate-requires
calculate-requires g c =
    let can = subst (CanOp c.args.app.now c.args.machine.now c.args.task) c.in-Value.is c.requires.can in
    record { room = room_for_one (g.L.Log.logged c.args.log.now).room c.requires.room; runs = can.runs }

pub returns-in-AwaitNotification-clause-letting : goal.returns-in-AwaitNotification-clause-letting
returns-in-AwaitNotification-clause-letting g c = λ e.
    let begun = c.letting_go_if-in-AwaitNotification.ensures.letting e in (
      record {
        begins =
            Notices c.in-AwaitNotification.wait c.in-AwaitNotification.ticks c.in-AwaitNotification.is
            (c.await_notification.ensures.unmet begun);
        start = c.await_notification.ensures.start begun;
        takes = c.await_notification.ensures.takes begun;
      },
      c.await_notification.ensures.silent begun,
    )

pub returns-in-Delay-clause-does : goal.returns-in-Delay-clause-does
returns-in-Delay-clause-does g c =
    let can = subst (CanOp c.args.app.now c.args.machine.now c.args.task) c.in-Delay.is c.requires.can in
    does_by_form c.args.app.now c.args.machine.now c.delay.new.machine (g.L.Log.logged c.args.log.now)
    (g.L.Log.logged c.delay.new.log) c.args.task c.args.op.now (Delay c.in-Delay.ticks) c.in-Delay.is
    c.requires.awake (λ s. refl) refl 2 two_within can.tick.advance.agrees c.delay.ensures

pub returns-in-Yield-clause-does : goal.returns-in-Yield-clause-does
returns-in-Yield-clause-does g c =
    let can = subst (CanOp c.args.app.now c.args.machine.now c.args.task) c.in-Yield.is c.requires.can in
    does_by_form c.args.app.now c.args.machine.now c.call_yield.new.machine (g.L.Log.logged c.args.log.now)
    (g.L.Log.logged c.call_yield.new.log) c.args.task c.args.op.now Yield c.in-Yield.is
    c.requires.awake (λ s. refl) refl 2 two_within can.tick.advance.agrees c.call_yield.ensures

pub delay-requires : goal.delay-requires
delay-requires g c =
    record {
      room = room_for_two (g.L.Log.logged c.args.log.now).room c.requires.room;
      can = subst (CanOp c.args.app.now c.args.machine.now c.args.task) c.in-Delay.is c.requires.can;
    }

pub call_yield-requires : goal.call_yield-requires
call_yield-requires g c =
    record {
      room = room_for_two (g.L.Log.logged c.args.log.now).room c.requires.room;
      can = subst (CanOp c.args.app.now c.args.machine.now c.args.task) c.in-Yield.is c.requires.can;
    }

pub returns-in-Time-clause-does : goal.returns-in-Time-clause-does
returns-in-Time-clause-does g c =
    let can = subst (CanOp c.args.app.now c.args.machine.now c.args.task) c.in-Time.is c.requires.can in
    does_by_form c.args.app.now c.args.machine.now c.time.new.machine (g.L.Log.logged c.args.log.now)
    (g.L.Log.logged c.time.new.log) c.args.task c.args.op.now Time c.in-Time.is c.requires.awake
    (λ s. refl) refl 1 one_within can.tick.advance.agrees c.time.ensures.does

pub time-requires : goal.time-requires
time-requires g c =
    let can = subst (CanOp c.args.app.now c.args.machine.now c.args.task) c.in-Time.is c.requires.can in
    record { room = room_for_one (g.L.Log.logged c.args.log.now).room c.requires.room; runs = can.runs }

pub act_seldom-requires-clause-seldom : goal.act_seldom-requires-clause-seldom
act_seldom-requires-clause-seldom g c =
    seldom c.args.op.now c.in_default.not-Work c.in_default.not-Delay c.in_default.not-Yield c.in_default.not-Time
    c.in_default.not-Await c.in_default.not-Do c.in_default.not-SetBits c.in_default.not-WaitBits c.in_default.not-Notify
    c.in_default.not-AwaitNotification c.in_default.not-End c.in_default.not-If c.in_default.not-Repeat
    c.in_default.not-Value
