use Rattle.kernel.proofs.Acted.{room_for_one, room_for_two}
use Rattle.kernel.proofs.LettingGo.{can_end_command, can_end_set, can_leave_wait, ends_command, ends_set}
use Rattle.kernel.proofs.LettingGo.{leaves_notice, leaves_wait, no_other}
use Rattle.kernel.proofs.bits.let_go.Goals as goal

pub leave_bits_wait-requires : goal.leave_bits_wait-requires
leave_bits_wait-requires g c =
    record {
      room = room_for_one (g.L.Log.logged c.args.log.now).room c.requires.room;
      can =
          can_leave_wait c.args.app.now c.args.machine.now c.args.task c.args.op.now c.requires.going
          c.requires.can c.in-WaitBits.field-0 c.in-WaitBits.field-1 c.in-WaitBits.field-2 c.in-WaitBits.is;
    }

pub end_set-requires : goal.end_set-requires
end_set-requires g c =
    let can =
    can_end_set c.args.app.now c.args.machine.now c.args.task c.args.op.now c.requires.going
    c.requires.can c.in-SetBits.field-0 c.in-SetBits.field-1 c.in-SetBits.is in
    record { room = room_for_two (g.L.Log.logged c.args.log.now).room c.requires.room; runs = can.0; can = can.1 }

pub end_set_by_daemon-requires : goal.end_set_by_daemon-requires
end_set_by_daemon-requires g c =
    let can =
    can_end_command c.args.app.now c.args.machine.now c.args.task c.args.op.now c.requires.going c.requires.can c.in-Obey.is in
    record { room = room_for_two (g.L.Log.logged c.args.log.now).room c.requires.room; runs = can.0; can = can.1 }

pub returns-in-Obey : goal.returns-in-Obey
returns-in-Obey g c = λ limits.
    ends_command c.args.app.now c.args.machine.now c.args.task c.args.op.now c.requires.going c.requires.can c.in-Obey.is limits
    c.end_set_by_daemon.new.machine _ _ c.command_of-group.result c.command_of-group.ensures c.end_set_by_daemon.ensures

pub returns-in-WaitBits : goal.returns-in-WaitBits
returns-in-WaitBits g c = λ limits.
    leaves_wait c.args.app.now c.args.machine.now c.args.task c.args.op.now c.requires.going
    c.requires.can c.in-WaitBits.field-0 c.in-WaitBits.field-1 c.in-WaitBits.field-2
    c.in-WaitBits.is limits c.leave_bits_wait.new.machine _ _ c.leave_bits_wait.ensures

pub returns-in-SetBits : goal.returns-in-SetBits
returns-in-SetBits g c = λ limits.
    ends_set c.args.app.now c.args.machine.now c.args.task c.args.op.now c.requires.going c.requires.can
    c.in-SetBits.field-0 c.in-SetBits.field-1 c.in-SetBits.is limits c.end_set.new.machine _ _ c.end_set.ensures

pub returns-in_default-op : goal.returns-in_default-op
returns-in_default-op g c =
    absurd (no_other c.args.op.now c.requires.going.event c.in_default-op.not-SetBits c.in_default.not-WaitBits
    c.in_default-op.not-AwaitNotification c.in_default-op.not-Obey)

pub returns-in-AwaitNotification : goal.returns-in-AwaitNotification
returns-in-AwaitNotification g c = λ limits.
    leaves_notice c.args.app.now c.args.machine.now c.args.task c.args.op.now c.requires.going
    c.requires.can c.in-AwaitNotification.field-0 c.in-AwaitNotification.field-1
    c.in-AwaitNotification.is limits c.leave_bits_wait-in-AwaitNotification.new.machine _ _
    c.leave_bits_wait-in-AwaitNotification.ensures
