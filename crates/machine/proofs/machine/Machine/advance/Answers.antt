use Rattle.std.proofs.Common.{[]}
use Rattle.machine.proofs.Waking.{sched-jumped, objects-jumped, groups-jumped, ticks_not_held, woken}
use Rattle.machine.proofs.machine.Machine.advance.Goals as goal

pub returns-then-not-advance_if_none_due-clause-does : goal.returns-then-not-advance_if_none_due-clause-does
returns-then-not-advance_if_none_due-clause-does c = λ log s h.
    c.wake_due.ensures.does log s (rw (c.advance_if_none_due.ensures.kept c.if-not-advance_if_none_due.true) h)

pub returns-else-not-advance_if_none_due-clause-does : goal.returns-else-not-advance_if_none_due-clause-does
returns-else-not-advance_if_none_due-clause-does c = λ log s h.
    let none = c.if-not-advance_if_none_due.false in
    let now = c.advance_if_none_due.ensures in
    woken c.args.self.now log s h [] c.args.self.now.sched c.args.self.now.objects c.advance_if_none_due.new.self
    c.args.self.now.groups (now.due s none h.stands.rest.clock) (sched-jumped c.args.self.now log s h 1)
    (objects-jumped c.args.self.now log s h 1) (groups-jumped c.args.self.now log s h 1)
    (now.woken s none h.stands.rest.clock (ticks_not_held c.args.self.now.sched s h.stands.sched c.requires.depth))
    (ticks_not_held c.args.self.now.sched s h.stands.sched c.requires.depth)
