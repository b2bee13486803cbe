use Rattle.std.proofs.Common.{[]}
use Rattle.machine.proofs.Waking.{sched-jumped, objects-jumped, groups-jumped, jumped}
use Rattle.machine.proofs.machine.Machine.jump_unslept.Goals as goal

pub returns-clause-does : goal.returns-clause-does
returns-clause-does c = λ log s h.
    jumped c.args.self.now log s h c.args.ticks [] c.args.self.now.sched c.args.self.now.objects c.jump_unslept.new.self
    c.args.self.now.groups (c.jump_unslept.ensures.due s h.stands.rest.clock) (sched-jumped c.args.self.now log s h c.args.ticks)
    (objects-jumped c.args.self.now log s h c.args.ticks) (groups-jumped c.args.self.now log s h c.args.ticks)
    (c.jump_unslept.ensures.woken s h.stands.rest.clock)
