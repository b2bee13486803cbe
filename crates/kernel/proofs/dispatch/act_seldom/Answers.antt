use Rattle.std.proofs.Common.{arith, refl, subst}
use Rattle.model.specs.declared.op.Op.TheVariants.{DelayUntil, Mark, Expect}
use Rattle.model.specs.declared.op.Op.TheVariants.{Else, EndIf, Break, Stamp, Since, MessagesWaiting, SpacesAvailable}
use Rattle.model.specs.declared.op.Op.TheVariants.{ClearBits, GetBits}
use Rattle.model.specs.declared.op.Op.TheVariants.{ClearNotification, Suspend, Resume, ResumeAll, NextCommand}
use Rattle.model.specs.declared.op.Op.TheVariants.{ExitCritical, Obey}
use Rattle.model.specs.declared.op.Op.TheVariants as op
use Rattle.model.specs.declared.event.Misuse.TheVariants.{NotSuspended, NotCritical}
use Rattle.kernel.specs.Can.{CanOp}
use Rattle.machine.specs.StandsFor.Stands.{Placed}
use Rattle.kernel.proofs.Held.{moves_up, misused_at, not_suspended, not_critical}
use Rattle.kernel.proofs.Acted.{all_within, any_by_form, does_by_form, one_within, room_for_one, room_for_two, two_within}
use Rattle.machine.proofs.Either.{does_any, does_more, moves_any, not_by_task}
use Rattle.kernel.proofs.dispatch.act_seldom.Goals as goal

pub returns-in-DelayUntil-clause-does : goal.returns-in-DelayUntil-clause-does
returns-in-DelayUntil-clause-does g c =
    let can = subst (CanOp c.args.app.now c.args.machine.now c.args.task) c.in-DelayUntil.is c.requires.can in
    does_by_form c.args.app.now c.args.machine.now c.delay_until.new.machine (g.L.Log.logged c.args.log.now)
    (g.L.Log.logged c.delay_until.new.log) c.args.task c.args.op.now (DelayUntil c.in-DelayUntil.ticks)
    c.in-DelayUntil.is c.requires.awake (λ s. refl) refl 1 one_within can.tick.advance.agrees c.delay_until.ensures

pub returns-in-Mark-clause-does : goal.returns-in-Mark-clause-does
returns-in-Mark-clause-does g c =
    let can = subst (CanOp c.args.app.now c.args.machine.now c.args.task) c.in-Mark.is c.requires.can in
    does_by_form c.args.app.now c.args.machine.now c.mark.new.machine (g.L.Log.logged c.args.log.now)
    (g.L.Log.logged c.mark.new.log) c.args.task c.args.op.now (Mark c.in-Mark.value) c.in-Mark.is
    c.requires.awake (λ s. refl) refl 1 one_within can.tick.advance.agrees c.mark.ensures.does

pub returns-in-Stamp-clause-does : goal.returns-in-Stamp-clause-does
returns-in-Stamp-clause-does g c =
    let can = subst (CanOp c.args.app.now c.args.machine.now c.args.task) c.in-Stamp.is c.requires.can in
    any_by_form c.args.app.now c.args.machine.now c.stamp.new.machine (g.L.Log.logged c.args.log.now)
    (g.L.Log.logged c.args.log.now) c.args.task c.args.op.now Stamp c.in-Stamp.is c.requires.awake (λ s. refl) refl 337
    all_within (moves_any 337 c.args.machine.now c.stamp.new.machine
    (g.L.Log.logged c.args.log.now) _ can.tick.advance.agrees c.stamp.ensures.does)

pub returns-in-Since-clause-does : goal.returns-in-Since-clause-does
returns-in-Since-clause-does g c =
    let can = subst (CanOp c.args.app.now c.args.machine.now c.args.task) c.in-Since.is c.requires.can in
    does_by_form c.args.app.now c.args.machine.now c.since.new.machine (g.L.Log.logged c.args.log.now)
    (g.L.Log.logged c.since.new.log) c.args.task c.args.op.now Since c.in-Since.is
    c.requires.awake (λ s. refl) refl 1 one_within can.tick.advance.agrees c.since.ensures.does

pub returns-in-MessagesWaiting-clause-does : goal.returns-in-MessagesWaiting-clause-does
returns-in-MessagesWaiting-clause-does g c =
    let can = subst (CanOp c.args.app.now c.args.machine.now c.args.task) c.in-MessagesWaiting.is c.requires.can in
    does_by_form c.args.app.now c.args.machine.now c.messages_waiting.new.machine (g.L.Log.logged c.args.log.now)
    (g.L.Log.logged c.messages_waiting.new.log) c.args.task c.args.op.now (MessagesWaiting c.in-MessagesWaiting.object)
    c.in-MessagesWaiting.is c.requires.awake (λ s. refl) refl 1 one_within can.tick.advance.agrees c.messages_waiting.ensures.does

pub returns-in-SpacesAvailable-clause-does : goal.returns-in-SpacesAvailable-clause-does
returns-in-SpacesAvailable-clause-does g c =
    let can = subst (CanOp c.args.app.now c.args.machine.now c.args.task) c.in-SpacesAvailable.is c.requires.can in
    does_by_form c.args.app.now c.args.machine.now c.spaces_available.new.machine (g.L.Log.logged c.args.log.now)
    (g.L.Log.logged c.spaces_available.new.log) c.args.task c.args.op.now (SpacesAvailable c.in-SpacesAvailable.object)
    c.in-SpacesAvailable.is c.requires.awake (λ s. refl) refl 1 one_within can.tick.advance.agrees c.spaces_available.ensures.does

pub returns-in-Expect-clause-does : goal.returns-in-Expect-clause-does
returns-in-Expect-clause-does g c =
    let can = subst (CanOp c.args.app.now c.args.machine.now c.args.task) c.in-Expect.is c.requires.can in
    any_by_form c.args.app.now c.args.machine.now c.expect.new.machine (g.L.Log.logged c.args.log.now)
    (g.L.Log.logged c.args.log.now) c.args.task c.args.op.now (Expect c.in-Expect.condition) c.in-Expect.is c.requires.awake
    (λ s. refl) refl 337 all_within
    (moves_any 337 c.args.machine.now c.expect.new.machine
    (g.L.Log.logged c.args.log.now) _ can.tick.advance.agrees c.expect.ensures.does)

pub returns-in-Else-clause-does : goal.returns-in-Else-clause-does
returns-in-Else-clause-does g c =
    let can = subst (CanOp c.args.app.now c.args.machine.now c.args.task) c.in-Else.is c.requires.can in
    any_by_form c.args.app.now c.args.machine.now c.skip_branch.new.machine (g.L.Log.logged c.args.log.now)
    (g.L.Log.logged c.args.log.now) c.args.task c.args.op.now Else c.in-Else.is c.requires.awake (λ s. refl) refl 337 all_within
    (moves_any 337 c.args.machine.now c.skip_branch.new.machine
    (g.L.Log.logged c.args.log.now) _ can.tick.advance.agrees c.skip_branch.ensures.does)

pub returns-in-EndIf-clause-does : goal.returns-in-EndIf-clause-does
returns-in-EndIf-clause-does g c =
    let can = subst (CanOp c.args.app.now c.args.machine.now c.args.task) c.in-EndIf.is c.requires.can in
    any_by_form c.args.app.now c.args.machine.now c.end_if.new.machine (g.L.Log.logged c.args.log.now)
    (g.L.Log.logged c.args.log.now) c.args.task c.args.op.now EndIf c.in-EndIf.is c.requires.awake (λ s. refl) refl 337
    all_within (moves_any 337 c.args.machine.now c.end_if.new.machine
    (g.L.Log.logged c.args.log.now) _ can.tick.advance.agrees c.end_if.ensures.does)

pub returns-in-Break-clause-does : goal.returns-in-Break-clause-does
returns-in-Break-clause-does g c =
    let can = subst (CanOp c.args.app.now c.args.machine.now c.args.task) c.in-Break.is c.requires.can in
    any_by_form c.args.app.now c.args.machine.now c.leave_loop.new.machine (g.L.Log.logged c.args.log.now)
    (g.L.Log.logged c.args.log.now) c.args.task c.args.op.now Break c.in-Break.is c.requires.awake (λ s. refl) refl 337
    all_within (moves_any 337 c.args.machine.now c.leave_loop.new.machine
    (g.L.Log.logged c.args.log.now) _ can.tick.advance.agrees c.leave_loop.ensures.does)

pub returns-in-GiveMutex-clause-does : goal.returns-in-GiveMutex-clause-does
returns-in-GiveMutex-clause-does g c =
    let can = rw c.in-GiveMutex.is at c.requires.can in
    rw c.in-GiveMutex.is (does_more 2 337 _ _ _ _ _ two_within (does_any 2 _ _ _ _ _ can.tick.advance.agrees c.give_mutex.ensures))

pub returns-in-ClearBits-clause-does : goal.returns-in-ClearBits-clause-does
returns-in-ClearBits-clause-does g c =
    let can = subst (CanOp c.args.app.now c.args.machine.now c.args.task) c.in-ClearBits.is c.requires.can in
    does_by_form c.args.app.now c.args.machine.now c.clear_bits.new.machine (g.L.Log.logged c.args.log.now)
    (g.L.Log.logged c.clear_bits.new.log) c.args.task c.args.op.now (ClearBits c.in-ClearBits.group c.in-ClearBits.mask)
    c.in-ClearBits.is c.requires.awake (λ s. refl) refl 1 one_within can.tick.advance.agrees c.clear_bits.ensures

pub returns-in-GetBits-clause-does : goal.returns-in-GetBits-clause-does
returns-in-GetBits-clause-does g c =
    let can = subst (CanOp c.args.app.now c.args.machine.now c.args.task) c.in-GetBits.is c.requires.can in
    does_by_form c.args.app.now c.args.machine.now c.get_bits.new.machine (g.L.Log.logged c.args.log.now)
    (g.L.Log.logged c.get_bits.new.log) c.args.task c.args.op.now (GetBits c.in-GetBits.group)
    c.in-GetBits.is c.requires.awake (λ s. refl) refl 1 one_within can.tick.advance.agrees c.get_bits.ensures.does

pub returns-in-ClearNotification-clause-does : goal.returns-in-ClearNotification-clause-does
returns-in-ClearNotification-clause-does g c =
    let can = subst (CanOp c.args.app.now c.args.machine.now c.args.task) c.in-ClearNotification.is c.requires.can in
    does_by_form c.args.app.now c.args.machine.now c.clear_notification.new.machine (g.L.Log.logged c.args.log.now)
    (g.L.Log.logged c.clear_notification.new.log) c.args.task c.args.op.now (ClearNotification c.in-ClearNotification.what)
    c.in-ClearNotification.is c.requires.awake (λ s. refl) refl 1 one_within can.tick.advance.agrees c.clear_notification.ensures

pub clear_notification-requires : goal.clear_notification-requires
clear_notification-requires g c =
    let can = subst (CanOp c.args.app.now c.args.machine.now c.args.task) c.in-ClearNotification.is c.requires.can in
    record { room = room_for_one (g.L.Log.logged c.args.log.now).room c.requires.room; runs = can.runs }

pub returns-in-Suspend-clause-does : goal.returns-in-Suspend-clause-does
returns-in-Suspend-clause-does g c =
    let can = subst (CanOp c.args.app.now c.args.machine.now c.args.task) c.in-Suspend.is c.requires.can in
    does_by_form c.args.app.now c.args.machine.now c.call_suspend.new.machine (g.L.Log.logged c.args.log.now)
    (g.L.Log.logged c.call_suspend.new.log) c.args.task c.args.op.now (Suspend c.in-Suspend.other)
    c.in-Suspend.is c.requires.awake (λ s. refl) refl 2 two_within can.tick.advance.agrees c.call_suspend.ensures

pub returns-in-Resume-clause-does : goal.returns-in-Resume-clause-does
returns-in-Resume-clause-does g c =
    let can = subst (CanOp c.args.app.now c.args.machine.now c.args.task) c.in-Resume.is c.requires.can in
    does_by_form c.args.app.now c.args.machine.now c.call_resume.new.machine (g.L.Log.logged c.args.log.now)
    (g.L.Log.logged c.call_resume.new.log) c.args.task c.args.op.now (Resume c.in-Resume.other) c.in-Resume.is
    c.requires.awake (λ s. refl) refl 2 two_within can.tick.advance.agrees c.call_resume.ensures

pub returns-in-SuspendAll-clause-does : goal.returns-in-SuspendAll-clause-does
returns-in-SuspendAll-clause-does g c =
    let can = rw c.in-SuspendAll.is at c.requires.can in
    rw c.in-SuspendAll.is
    (does_more 1 337 _ _ _ _ _ one_within (does_any 1 _ _ _ _ _ can.tick.advance.agrees c.call_suspend_all.ensures))

pub returns-in-ResumeAll-clause-does : goal.returns-in-ResumeAll-clause-does
returns-in-ResumeAll-clause-does g c =
    let can = rw c.in-ResumeAll.is at c.requires.can in
    rw c.in-ResumeAll.is (does_any 337 _ _ _ _ _ can.tick.advance.agrees (record {
      at = λ s h.
          misused_at c.args.app.now c.misuse.new.self _ s c.args.task ResumeAll NotSuspended
          (not_suspended s c.args.task (not_by_task c.args.machine.now s (Placed h.stands) c.requires.awake))
          (c.misuse.ensures _ s h);
      few = omega arith;
      before = refl;
    }))

pub returns-in-EnterCritical-clause-does : goal.returns-in-EnterCritical-clause-does
returns-in-EnterCritical-clause-does g c =
    let can = rw c.in-EnterCritical.is at c.requires.can in
    rw c.in-EnterCritical.is
    (moves_any 337 _ _ (g.L.Log.logged c.args.log.now) _ can.tick.advance.agrees c.call_enter_critical.ensures)

pub returns-in-ExitCritical-clause-does : goal.returns-in-ExitCritical-clause-does
returns-in-ExitCritical-clause-does g c =
    let can = rw c.in-ExitCritical.is at c.requires.can in
    rw c.in-ExitCritical.is (does_any 337 _ _ _ _ _ can.tick.advance.agrees (record {
      at = λ s h.
          misused_at c.args.app.now c.misuse-in-ExitCritical.new.self _ s c.args.task ExitCritical NotCritical
          (not_critical s c.args.task (not_by_task c.args.machine.now s (Placed h.stands) c.requires.awake))
          (c.misuse-in-ExitCritical.ensures _ s h);
      few = omega arith;
      before = refl;
    }))

pub returns-in-Source-clause-does : goal.returns-in-Source-clause-does
returns-in-Source-clause-does g c =
    let can = subst (CanOp c.args.app.now c.args.machine.now c.args.task) c.in-Source.is c.requires.can in
    does_by_form c.args.app.now c.args.machine.now c.control.new.machine (g.L.Log.logged c.args.log.now)
    (g.L.Log.logged c.args.log.now) c.args.task c.args.op.now (op.Source c.in-Source.handler c.in-Source.op) c.in-Source.is
    c.requires.awake (λ s. refl) refl 1 one_within can.tick.advance.agrees
    (moves_up 1 _ _ (g.L.Log.logged c.args.log.now) _ c.control.ensures)

pub control-requires : goal.control-requires
control-requires g c =
    let can = subst (CanOp c.args.app.now c.args.machine.now c.args.task) c.in-Source.is c.requires.can in can.runs

pub call_enter_critical-requires : goal.call_enter_critical-requires
call_enter_critical-requires g c = subst (CanOp c.args.app.now c.args.machine.now c.args.task) c.in-EnterCritical.is c.requires.can

pub delay_until-requires : goal.delay_until-requires
delay_until-requires g c =
    record {
      room = room_for_one (g.L.Log.logged c.args.log.now).room c.requires.room;
      can = subst (CanOp c.args.app.now c.args.machine.now c.args.task) c.in-DelayUntil.is c.requires.can;
    }

pub mark-requires : goal.mark-requires
mark-requires g c =
    let can = subst (CanOp c.args.app.now c.args.machine.now c.args.task) c.in-Mark.is c.requires.can in
    record { room = room_for_one (g.L.Log.logged c.args.log.now).room c.requires.room; runs = can.runs }

pub stamp-requires : goal.stamp-requires
stamp-requires g c =
    let can = subst (CanOp c.args.app.now c.args.machine.now c.args.task) c.in-Stamp.is c.requires.can in
    record { runs = can.runs }

pub since-requires : goal.since-requires
since-requires g c =
    let can = subst (CanOp c.args.app.now c.args.machine.now c.args.task) c.in-Since.is c.requires.can in
    record { room = room_for_one (g.L.Log.logged c.args.log.now).room c.requires.room; runs = can.runs; stamped = can.stamp }

pub give_mutex-requires : goal.give_mutex-requires
give_mutex-requires g c =
    record {
      room = room_for_two (g.L.Log.logged c.args.log.now).room c.requires.room;
      can = subst (CanOp c.args.app.now c.args.machine.now c.args.task) c.in-GiveMutex.is c.requires.can;
    }

pub messages_waiting-requires : goal.messages_waiting-requires
messages_waiting-requires g c =
    let can = subst (CanOp c.args.app.now c.args.machine.now c.args.task) c.in-MessagesWaiting.is c.requires.can in
    record { room = room_for_one (g.L.Log.logged c.args.log.now).room c.requires.room; runs = can.runs }

pub spaces_available-requires : goal.spaces_available-requires
spaces_available-requires g c =
    let can = subst (CanOp c.args.app.now c.args.machine.now c.args.task) c.in-SpacesAvailable.is c.requires.can in
    record { room = room_for_one (g.L.Log.logged c.args.log.now).room c.requires.room; runs = can.runs }

pub clear_bits-requires : goal.clear_bits-requires
clear_bits-requires g c =
    let can = subst (CanOp c.args.app.now c.args.machine.now c.args.task) c.in-ClearBits.is c.requires.can in
    record { room = room_for_one (g.L.Log.logged c.args.log.now).room c.requires.room; runs = can.runs }

pub get_bits-requires : goal.get_bits-requires
get_bits-requires g c =
    let can = subst (CanOp c.args.app.now c.args.machine.now c.args.task) c.in-GetBits.is c.requires.can in
    record { room = room_for_one (g.L.Log.logged c.args.log.now).room c.requires.room; runs = can.runs }

pub call_suspend-requires : goal.call_suspend-requires
call_suspend-requires g c =
    record {
      room = room_for_two (g.L.Log.logged c.args.log.now).room c.requires.room;
      can = subst (CanOp c.args.app.now c.args.machine.now c.args.task) c.in-Suspend.is c.requires.can;
    }

pub call_resume-requires : goal.call_resume-requires
call_resume-requires g c =
    record {
      room = room_for_two (g.L.Log.logged c.args.log.now).room c.requires.room;
      can = subst (CanOp c.args.app.now c.args.machine.now c.args.task) c.in-Resume.is c.requires.can;
    }

pub call_suspend_all-requires : goal.call_suspend_all-requires
call_suspend_all-requires g c =
    record {
      room = room_for_one (g.L.Log.logged c.args.log.now).room c.requires.room;
      can = subst (CanOp c.args.app.now c.args.machine.now c.args.task) c.in-SuspendAll.is c.requires.can;
    }

pub returns-in-NextCommand-clause-does : goal.returns-in-NextCommand-clause-does
returns-in-NextCommand-clause-does g c =
    any_by_form c.args.app.now c.args.machine.now c.next_command.new.machine (g.L.Log.logged c.args.log.now)
    (g.L.Log.logged c.next_command.new.log) c.args.task c.args.op.now (NextCommand c.in-NextCommand.queue)
    c.in-NextCommand.is c.requires.awake (λ s. refl) refl 2 two_within c.next_command.ensures

pub next_command-requires : goal.next_command-requires
next_command-requires g c =
    record {
      room = room_for_two (g.L.Log.logged c.args.log.now).room c.requires.room;
      can = subst (CanOp c.args.app.now c.args.machine.now c.args.task) c.in-NextCommand.is c.requires.can;
    }

pub returns-in-Obey-clause-does : goal.returns-in-Obey-clause-does
returns-in-Obey-clause-does g c =
    any_by_form c.args.app.now c.args.machine.now c.obey.new.machine (g.L.Log.logged c.args.log.now) (g.L.Log.logged c.obey.new.log)
    c.args.task c.args.op.now Obey c.in-Obey.is c.requires.awake (λ s. refl) refl 2 two_within c.obey.ensures

pub obey-requires : goal.obey-requires
obey-requires g c =
    record {
      room = room_for_two (g.L.Log.logged c.args.log.now).room c.requires.room;
      can = subst (CanOp c.args.app.now c.args.machine.now c.args.task) c.in-Obey.is c.requires.can;
    }
