use Rattle.std.proofs.Common.{◌≡◌, ◌∙◌, false, ltb, sym, ap, arith}
use Rattle.std.proofs.lemmas.Bool.{le-ltb, ltb-false}
use Rattle.model.specs.State.{State}
use Rattle.model.specs.Switching.{is_critical}
use Rattle.machine.specs.declared.machine.Machine.{Machine}
use Rattle.machine.specs.StandsFor.{Stands}
use Rattle.machine.proofs.Either.{any, sections_are}
use Rattle.kernel.specs.Can.{CanCome}
use Rattle.model.specs.Application.{Application}
use Rattle.kernel.proofs.Bounds.{held_below, tick_at_rest}
use Rattle.kernel.proofs.Coming.{come_objects, come_stands, held_alone}
use Rattle.kernel.proofs.Ticking.{placed_by}
use Rattle.kernel.proofs.handlers.serve_tick.Goals as goal

-- No critical section is open in any state that the kernel represents.
none_open : (app : Application) (k : Machine) → CanCome app 1 k → (s : State) → Stands k s → is_critical s ≡ false
none_open app k c s h =
    let here = sections_are k c.state c.stands in
    let there = sections_are k s h in
    let none = ltb-false 0 c.state.sections c.closed in
    le-ltb 0 s.sections (omega arith)

pub held_tick_interrupt-requires-clause-stands : goal.held_tick_interrupt-requires-clause-stands
held_tick_interrupt-requires-clause-stands g c =
    come_stands c.args.app.now c.well_formed-2.ensures 1 c.args.machine.now c.requires.can

pub held_tick_interrupt-requires-clause-objects : goal.held_tick_interrupt-requires-clause-objects
held_tick_interrupt-requires-clause-objects g c =
    come_objects c.args.app.now c.well_formed-2.ensures 1 c.args.machine.now c.requires.can

pub held_tick_interrupt-requires-clause-held : goal.held_tick_interrupt-requires-clause-held
held_tick_interrupt-requires-clause-held g c = λ s h.
    held_alone s (none_open c.args.app.now c.args.machine.now c.requires.can s h) (sym (c.is_held.ensures.held s h)
    ∙ c.if-is_held.true)

pub held_tick_interrupt-requires-clause-few : goal.held_tick_interrupt-requires-clause-few
held_tick_interrupt-requires-clause-few g c =
    let can = c.requires.can in
    held_below c.args.app.now c.well_formed-2.ensures c.args.machine.now can.state can.sound can.stands
    (let l = can.early in omega arith)

-- nothing holds the scheduler
pub tick_interrupt-requires-clause-can : goal.tick_interrupt-requires-clause-can
tick_interrupt-requires-clause-can g c =
    let can = c.requires.can in
    tick_at_rest c.args.app.now c.well_formed-2.ensures c.args.machine.now can.state can.sound can.stands
    (let l = can.early in omega arith)
    (let most = ltb-false 0 c.args.machine.now.sched.depth (sym c.is_held.ensures.depth ∙ c.if-is_held.false) in omega arith)

pub returns-else-is_held : goal.returns-else-is_held
returns-else-is_held g c =
    let none : c.args.machine.now.sched.depth ≡ 0 =
    (let most = ltb-false 0 c.args.machine.now.sched.depth (sym c.is_held.ensures.depth ∙ c.if-is_held.false) in omega arith) in
    record {
      at = λ s h.
          any c.tick_interrupt.new.machine _ _
          (c.tick_interrupt.ensures.at s
          (record { stands = placed_by c.args.machine.now s none h.stands; log = h.log }));
      few = c.tick_interrupt.ensures.few;
      before = c.tick_interrupt.ensures.before;
    }
