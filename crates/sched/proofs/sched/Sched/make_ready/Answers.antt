use Rattle.std.proofs.Common.{sym, subst}
use Rattle.sched.specs.Schedule.{Schedule}
use Rattle.sched.specs.StandsFor.{StandsFor}
use Rattle.model.specs.Switching as switching
use Rattle.sched.proofs.Standing.{stands_made_ready}
use Rattle.sched.proofs.sched.Sched.make_ready.Goals as goal

pub returns-clause-stands : goal.returns-clause-stands
returns-clause-stands c = λ s h l awake.
    subst (λ (v : Schedule). StandsFor v (switching.make_ready c.args.task s)) (sym c.put_last.ensures.schedule)
    (stands_made_ready c.args.self.now s c.args.task (c.put_last.ensures.calm c.requires.calm) h l awake c.requires.free)
