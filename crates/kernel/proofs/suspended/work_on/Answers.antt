use Rattle.std.proofs.Common.{◌≡◌, [], ap, refl, sym, subst, arith}
use Rattle.clock.specs.Timeline.{Timeline}
use Rattle.objects.specs.Objects.{Objects, HasRoom}
use Rattle.machine.proofs.Acting.{agrees_after}
use Rattle.model.specs.State.{State}
use Rattle.model.specs.Ops.{use_up}
use Rattle.model.specs.Invariant.{Suspension}
use Rattle.soundness.proofs.Keeping.{keeps-use_up}
use Rattle.machine.specs.StandsFor.{At}
use Rattle.machine.specs.StandsFor.Stands.{Placed}
use Rattle.kernel.proofs.Held.{suspended_by}
use Rattle.kernel.proofs.suspended.work_on.Goals as goal

pub held_tick_interrupt-requires-clause-stands : goal.held_tick_interrupt-requires-clause-stands
held_tick_interrupt-requires-clause-stands g c =
    let a = agrees_after c.args.machine.now c.use_up.new.machine [] [] c.requires.can.agrees _
    (λ s h. c.use_up.ensures.does [] s h) in
    (a.0, Placed a.1)

pub held_tick_interrupt-requires-clause-objects : goal.held_tick_interrupt-requires-clause-objects
held_tick_interrupt-requires-clause-objects g c = λ o a fit.
    subst (λ (q : Objects). HasRoom q o a) (sym c.use_up.ensures.objects) (c.requires.can.objects o a fit)

pub held_tick_interrupt-requires-clause-held : goal.held_tick_interrupt-requires-clause-held
held_tick_interrupt-requires-clause-held g c = λ t stands.
    let s : State = c.requires.can.agrees.0 in
    let h = c.requires.can.agrees.1 in
    let done : At c.use_up.new.machine s.log (use_up c.args.app.now c.args.task c.args.ticks s) =
    c.use_up.ensures.does s.log s (record { stands = h; log = refl }) in
    let kept : (use_up c.args.app.now c.args.task c.args.ticks s).sections ≡ s.sections =
    ap (λ (x : Suspension). x.sections) (keeps-use_up c.args.app.now c.args.task c.args.ticks s).suspension in
    let now : c.use_up.new.machine.sections ≡ (use_up c.args.app.now c.args.task c.args.ticks s).sections =
    done.stands.rest.sections in
    let before : c.args.machine.now.sections ≡ s.sections = h.rest.sections in
    let shut = c.requires.closed in
    let e = c.use_up.ensures.suspensions in
    let l = c.requires.some in
    suspended_by c.use_up.new.machine t stands (omega arith)

pub held_tick_interrupt-requires-clause-few : goal.held_tick_interrupt-requires-clause-few
held_tick_interrupt-requires-clause-few g c =
    let e = ap (λ (t : Timeline). t.held) c.use_up.ensures.clock in
    let l = c.requires.can.held in
    omega arith

pub returns : goal.returns
returns g c = record {
  at = λ s h. c.held_tick_interrupt.ensures.does.at _ (c.use_up.ensures.does _ s h);
  few = c.held_tick_interrupt.ensures.does.few;
  before = c.held_tick_interrupt.ensures.does.before;
}
