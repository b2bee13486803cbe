use Rattle.std.proofs.Common.{◌<◌, ◌∙◌, ap, arith}
use Rattle.model.specs.State.{Progress}
use Rattle.machine.specs.StandsFor.{progress_in}
use Rattle.kernel.proofs.Acted.{can_tick_still}
use Rattle.kernel.proofs.dispatch.work.Goals as goal

pub tick_interrupt-requires-clause-can : goal.tick_interrupt-requires-clause-can
tick_interrupt-requires-clause-can g c =
    can_tick_still c.args.app.now c.args.machine.now c.use_up.new.machine c.requires.can.tick c.use_up.ensures.depth
    c.use_up.ensures.clock c.use_up.ensures.objects c.use_up.ensures.suspensions _ c.use_up.ensures.does

pub returns-clause-does : goal.returns-clause-does
returns-clause-does g c = record {
  at = λ s h. c.tick_interrupt.ensures.at _ (c.use_up.ensures.does _ s h);
  few = c.tick_interrupt.ensures.few;
  before = c.tick_interrupt.ensures.before;
}

pub overflow_sub-left : goal.overflow_sub-left
overflow_sub-left g c =
    let used : (progress_in c.args.machine.now.progress c.args.task).used < c.args.ticks = c.requires.can.used in
    let same = ap (λ (p : Progress). p.used) (c.behind-machine.view_is ∙ c.progress.ensures) in
    omega arith
