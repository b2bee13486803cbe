use Rattle.std.proofs.Common.{◌∙◌, [], arith}
use Rattle.model.specs.Handlers.{tick_interrupt}
use Rattle.machine.specs.StandsFor.Stands.{Placed}
use Rattle.machine.proofs.Acting.{agrees_after}
use Rattle.kernel.proofs.Handling.{room_after}
use Rattle.machine.proofs.Switches.{unheld_by, sliced_free}
use Rattle.kernel.proofs.handlers.tick_interrupt.Goals as goal

pub interrupt-requires-clause-stands : goal.interrupt-requires-clause-stands
interrupt-requires-clause-stands g c =
    let a =
    agrees_after c.args.machine.now c.advance.new.self [] []
    c.requires.can.advance.agrees _ (λ s h. c.advance.ensures.does [] s h) in
    (a.0, Placed a.1)

pub interrupt-requires-clause-objects : goal.interrupt-requires-clause-objects
interrupt-requires-clause-objects g c =
    room_after c.args.app.now c.args.machine.now c.advance.new.self c.requires.can.objects c.advance.ensures.leaves

pub slice-requires-clause-free : goal.slice-requires-clause-free
slice-requires-clause-free g c = c.interrupt.ensures.leaves.depth ∙ c.advance.ensures.leaves.depth ∙ c.requires.can.depth

pub returns : goal.returns
unfolding tick_interrupt
returns g c = record {
  at = λ s h.
      let told = c.interrupt.ensures.does.at _ (c.advance.ensures.does _ s h) in
      let free =
      unheld_by c.interrupt.new.machine.sched _ told.stands.sched
      (c.interrupt.ensures.leaves.depth ∙ c.advance.ensures.leaves.depth ∙ c.requires.can.depth) in
      sliced_free c.slice.new.self _ _ free (c.slice.ensures.at _ told);
  few = let a = c.interrupt.ensures.does.few in let b = c.slice.ensures.few in omega arith;
  before = c.slice.ensures.before ∙ c.interrupt.ensures.does.before;
}
