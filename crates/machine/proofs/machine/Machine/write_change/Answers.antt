use Rattle.std.proofs.Common.{ap, sym, ◌∙◌, ◌++◌, append-nil}
use Rattle.machine.proofs.Switches.{change_told, change_none, not_true, not_false}
use Rattle.machine.proofs.machine.Machine.write_change.Goals as goal

pub returns-then-ne-clause-event : goal.returns-then-ne-clause-event
returns-then-ne-clause-event g c =
    c.write.ensures.event
    ∙ ap (λ l. (g.L.Log.logged c.args.log.now).told ++ l) (change_told c.args.self.now.steps
    c.args.self.now.clock.now c.args.before c.current-now.result c.args.self.now.sched.current
    c.current-now.ensures.current (not_true _ (sym c.ne.ensures ∙ c.if-ne.true)))

pub returns-else-ne-clause-event : goal.returns-else-ne-clause-event
returns-else-ne-clause-event g c =
    sym (append-nil _)
    ∙ ap (λ l. (g.L.Log.logged c.args.log.now).told ++ l) (sym (change_none c.args.self.now.steps
    c.args.self.now.clock.now c.args.before c.current-now.result c.args.self.now.sched.current
    c.current-now.ensures.current (not_false _ (sym c.ne.ensures ∙ c.if-ne.false))))
