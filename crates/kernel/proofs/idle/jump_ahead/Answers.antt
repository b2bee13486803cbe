use Rattle.std.proofs.Common.{◌∙◌, [], arith}
use Rattle.machine.specs.StandsFor.Stands.{Placed}
use Rattle.machine.proofs.Acting.{agrees_after}
use Rattle.machine.proofs.Switches.{unheld_by, sliced_free}
use Rattle.kernel.proofs.Handling.{room_after}
use Rattle.kernel.proofs.idle.jump_ahead.Goals as goal

pub interrupt-requires-clause-stands : goal.interrupt-requires-clause-stands
interrupt-requires-clause-stands g c =
    let a =
    agrees_after c.args.machine.now c.pass_to_next.new.machine [] [] c.requires.can.tick.advance.agrees _
    (λ s h. c.pass_to_next.ensures.does [] s h) in
    (a.0, Placed a.1)

pub interrupt-requires-clause-objects : goal.interrupt-requires-clause-objects
interrupt-requires-clause-objects g c =
    room_after c.args.app.now c.args.machine.now c.pass_to_next.new.machine c.requires.can.tick.objects
    c.pass_to_next.ensures.leaves

pub slice-requires-clause-free : goal.slice-requires-clause-free
slice-requires-clause-free g c =
    c.interrupt.ensures.leaves.depth ∙ c.pass_to_next.ensures.leaves.depth ∙ c.requires.can.tick.depth

pub returns : goal.returns
returns g c = record {
  at = λ s h.
      let told = c.interrupt.ensures.does.at _ (c.pass_to_next.ensures.does _ s h) in
      let free =
      unheld_by c.interrupt.new.machine.sched _ told.stands.sched
      (c.interrupt.ensures.leaves.depth ∙ c.pass_to_next.ensures.leaves.depth ∙ c.requires.can.tick.depth) in
      sliced_free c.slice.new.self _ _ free (c.slice.ensures.at _ told);
  few = let a = c.interrupt.ensures.does.few in let b = c.slice.ensures.few in omega arith;
  before = c.slice.ensures.before ∙ c.interrupt.ensures.does.before;
}
