use Rattle.std.proofs.Common.{sym, ◌∙◌}
use Rattle.ops.proofs.Suspending.{within_if, suspended_at, suspended_not}
use Rattle.ops.proofs.suspension.suspend.Goals as goal

pub returns-then-can_suspend-clause-does : goal.returns-then-can_suspend-clause-does
returns-then-can_suspend-clause-does c = λ log s h.
    let can = sym (c.can_suspend.ensures s h.stands) ∙ c.if-can_suspend.true in
    let l = within_if s c.args.task can in
    suspended_at c.args.machine.now log s h c.args.task can c.suspend.new.self
    c.wake.new.self c.drop_waiter.new.self c.drop_waiter-then-can_suspend.new.self
    (c.suspend.ensures.stands s h.stands.sched l) (c.wake.ensures.suspended s h.stands.rest.clock l)
    (c.drop_waiter.ensures.suspended s h.stands.rest.objects c.requires.free l)
    (c.drop_waiter-then-can_suspend.ensures.suspended s h.stands.rest.groups l)

pub returns-else-can_suspend-clause-does : goal.returns-else-can_suspend-clause-does
returns-else-can_suspend-clause-does c = λ log s h.
    suspended_not c.args.machine.now log s h c.args.task (sym (c.can_suspend.ensures s h.stands) ∙ c.if-can_suspend.false)
