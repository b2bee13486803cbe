use Rattle.std.proofs.Common.{◌∙◌, sym}
use Rattle.kernel.proofs.Ending.{not_passed}
use Rattle.kernel.proofs.Ended.{not_all_but}
use Rattle.kernel.proofs.Handling.{groups_stand}
use Rattle.kernel.proofs.Left.{bits_on, on_if_ready}
use Rattle.kernel.proofs.over.is_awaited.Goals as goal

pub returns-then-is_ready : goal.returns-then-is_ready
returns-then-is_ready c = λ s h t.
    not_passed c.args.app.now s (not_all_but c.args.app.now.tasks s.tasks c.args.task
    (sym c.is_endless.ensures ∙ c.if-is_endless.false)
    (on_if_ready c.args.machine.now s c.args.task h (sym c.is_ready.ensures.ready ∙ c.if-is_ready.true)))

pub returns : goal.returns
returns c = λ s h t.
    not_passed c.args.app.now s (not_all_but c.args.app.now.tasks s.tasks c.args.task
    (sym c.is_endless.ensures ∙ c.if-is_endless.false)
    (bits_on _ (sym (c.is_waiting.ensures.stands s (groups_stand c.args.machine.now s h)) ∙ t)))
