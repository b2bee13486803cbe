use Rattle.std.proofs.Common.{ap, ◌∙◌, arith}
use Rattle.model.specs.Application.{interrupts_at}
use Rattle.kernel.proofs.Handling.{guessed, guessed_any}
use Rattle.kernel.proofs.handlers.come_due.Goals as goal

pub come_each-requires-clause-due : goal.come_each-requires-clause-due
come_each-requires-clause-due g c =
    c.interrupts_at-next.ensures.due ∙ ap (interrupts_at c.args.app.now) c.elapsed.ensures.elapsed

pub overflow_cast-machine : goal.overflow_cast-machine
overflow_cast-machine g c =
    let few = c.interrupts_at-next.ensures.few in
    let most = c.well_formed-2.ensures.few_interrupts in
    omega arith

pub returns-clause-does : goal.returns-clause-does
returns-clause-does g c = record {
  at = λ s h. guessed c.come_each.new.machine _ _ _ (c.come_each.ensures.does.at s h);
  few = c.come_each.ensures.does.few;
  before = c.come_each.ensures.does.before;
}

pub returns-clause-any : goal.returns-clause-any
returns-clause-any g c = record {
  at = λ s h. guessed_any c.come_each.new.machine _ _ _ (c.come_each.ensures.any.at s h);
  few = c.come_each.ensures.any.few;
  before = c.come_each.ensures.any.before;
}
