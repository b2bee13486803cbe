use Rattle.std.proofs.Common.{arith}
use Rattle.kernel.proofs.Held.{does_up, moves_up, never_switches, no_other}
use Rattle.kernel.proofs.suspended.act_on.Goals as goal

pub returns-in-Work : goal.returns-in-Work
returns-in-Work g c = rw c.in-Work.is c.work_on.ensures

pub returns-in-Time : goal.returns-in-Time
returns-in-Time g c = rw c.in-Time.is (does_up 1 336 _ _ _ _ _ (omega arith) c.time.ensures.does)

pub returns-in-Mark : goal.returns-in-Mark
returns-in-Mark g c = rw c.in-Mark.is (does_up 1 336 _ _ _ _ _ (omega arith) c.mark.ensures.does)

pub returns-in-Value : goal.returns-in-Value
returns-in-Value g c = rw c.in-Value.is (does_up 1 336 _ _ _ _ _ (omega arith) c.calculate.ensures.does)

pub returns-in-Expect : goal.returns-in-Expect
returns-in-Expect g c = rw c.in-Expect.is (moves_up 336 _ _ (g.L.Log.logged c.args.log.now) _ c.expect.ensures.does)

pub returns-in-Repeat : goal.returns-in-Repeat
returns-in-Repeat g c = rw c.in-Repeat.is (moves_up 336 _ _ (g.L.Log.logged c.args.log.now) _ c.open_loop.ensures.does)

pub returns-in-End : goal.returns-in-End
returns-in-End g c = rw c.in-End.is (moves_up 336 _ _ (g.L.Log.logged c.args.log.now) _ c.close_turn.ensures.does)

pub returns-in-If : goal.returns-in-If
returns-in-If g c = rw c.in-If.is (moves_up 336 _ _ (g.L.Log.logged c.args.log.now) _ c.branch-machine.ensures.does)

pub returns-in-Else : goal.returns-in-Else
returns-in-Else g c = rw c.in-Else.is (moves_up 336 _ _ (g.L.Log.logged c.args.log.now) _ c.skip_branch.ensures.does)

pub returns-in-EndIf : goal.returns-in-EndIf
returns-in-EndIf g c = rw c.in-EndIf.is (moves_up 336 _ _ (g.L.Log.logged c.args.log.now) _ c.end_if.ensures.does)

pub returns-in-Break : goal.returns-in-Break
returns-in-Break g c = rw c.in-Break.is (moves_up 336 _ _ (g.L.Log.logged c.args.log.now) _ c.leave_loop.ensures.does)

pub returns-in-Stamp : goal.returns-in-Stamp
returns-in-Stamp g c = rw c.in-Stamp.is (moves_up 336 _ _ (g.L.Log.logged c.args.log.now) _ c.stamp.ensures.does)

pub returns-in-Since : goal.returns-in-Since
returns-in-Since g c = rw c.in-Since.is (does_up 1 336 _ _ _ _ _ (omega arith) c.since.ensures.does)

pub returns-in-MessagesWaiting : goal.returns-in-MessagesWaiting
returns-in-MessagesWaiting g c = rw c.in-MessagesWaiting.is (does_up 1 336 _ _ _ _ _ (omega arith) c.messages_waiting.ensures.does)

pub returns-in-SpacesAvailable : goal.returns-in-SpacesAvailable
returns-in-SpacesAvailable g c = rw c.in-SpacesAvailable.is (does_up 1 336 _ _ _ _ _ (omega arith) c.spaces_available.ensures.does)

pub returns-in-ClearBits : goal.returns-in-ClearBits
returns-in-ClearBits g c = rw c.in-ClearBits.is (does_up 1 336 _ _ _ _ _ (omega arith) c.clear_bits.ensures)

pub returns-in-GetBits : goal.returns-in-GetBits
returns-in-GetBits g c = rw c.in-GetBits.is (does_up 1 336 _ _ _ _ _ (omega arith) c.get_bits.ensures.does)

pub returns-in-ClearNotification : goal.returns-in-ClearNotification
returns-in-ClearNotification g c = rw c.in-ClearNotification.is (does_up 1 336 _ _ _ _ _ (omega arith) c.clear_notification.ensures)

pub returns-in-SuspendAll : goal.returns-in-SuspendAll
returns-in-SuspendAll g c = rw c.in-SuspendAll.is (does_up 1 336 _ _ _ _ _ (omega arith) c.suspend_all.ensures)

pub returns-in-EnterCritical : goal.returns-in-EnterCritical
returns-in-EnterCritical g c =
    rw c.in-EnterCritical.is (moves_up 336 _ _ (g.L.Log.logged c.args.log.now) _ c.enter_critical.ensures)

pub returns-in-ExitCritical : goal.returns-in-ExitCritical
returns-in-ExitCritical g c = rw c.in-ExitCritical.is (moves_up 336 _ _ (g.L.Log.logged c.args.log.now) _ c.exit_critical.ensures)

pub returns-in-Source : goal.returns-in-Source
returns-in-Source g c = rw c.in-Source.is (moves_up 336 _ _ (g.L.Log.logged c.args.log.now) _ c.control.ensures)

pub returns-in-ResumeAll : goal.returns-in-ResumeAll
returns-in-ResumeAll g c = rw c.in-ResumeAll.is (does_up 2 336 _ _ _ _ _ (omega arith) c.resume_all.ensures)

pub returns-in_default : goal.returns-in_default
returns-in_default g c =
    let not = c.in_default in
    no_other c.args.op.now (never_switches c.args.machine.now c.args.task c.args.op.now c.requires.can.agrees c.requires.some
    c.requires.fine)
    not.not-Work not.not-Time not.not-Mark not.not-Expect not.not-Repeat
    not.not-End not.not-If not.not-Else not.not-EndIf not.not-Break not.not-Stamp not.not-Since not.not-MessagesWaiting
    not.not-SpacesAvailable not.not-ClearBits not.not-GetBits not.not-SuspendAll not.not-ResumeAll not.not-EnterCritical
    not.not-ExitCritical not.not-Value not.not-ClearNotification not.not-Source
