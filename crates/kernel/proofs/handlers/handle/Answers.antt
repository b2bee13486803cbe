use Rattle.std.proofs.Common.{ℕ}
use Rattle.model.specs.State.{State}
use Rattle.machine.specs.declared.machine.Machine.{Machine}
use Rattle.machine.specs.StandsFor.{Stands}
use Rattle.machine.proofs.Either.{variables_are}
use Rattle.std.proofs.Common.{◌≡◌, ◌<◌, ◌≤◌, List, Some, get_or, length, arith, ap, refl, subst, sym, ◌∙◌}
use Rattle.std.specs.Option.{option_or}
use Rattle.model.specs.declared.event.End.TheVariants.{HandlerCheck}
use Rattle.model.specs.Handlers.{isr_jump}
use Rattle.machine.specs.Can.{Leaves}
use Rattle.model.specs.declared.op.IsrOp.{IsrOp}
use Rattle.ops.proofs.Calling.{leaves_both}
use Rattle.kernel.proofs.Handling.{behind_is, behind_short, handler_short, room_after, op_fits, amid_begins, amid_stands}
use Rattle.kernel.proofs.Handling.{amid_jumped, amid_did, amid_handled, amid_handled_any, amid_failed, amid_failed_any}
use Rattle.kernel.proofs.handlers.handle.Goals.{then-over-gt0, else-over-gt0+in-Source, else-over-gt0+in_default+else-is_failed}
use Rattle.kernel.proofs.handlers.handle.Goals as goal

-- the variables that are looked at are those of each state that the kernel represents
here : (k : Machine) (t : State) → Stands k t → {values : List ℕ} → values ≡ k.variables → t.variables ≡ values
here k t stands is = sym (variables_are k t stands) ∙ sym is

pub loop-op_index-init : goal.loop-op_index-init
loop-op_index-init g c =
    amid_begins c.args.app.now c.args.handler c.handler_ops-ops.result.now c.args.machine.now (g.L.Log.logged c.args.log.now)

pub isr-last-requires-clause-stands : goal.isr-last-requires-clause-stands
isr-last-requires-clause-stands g c =
    amid_stands c.args.app.now c.args.handler c.handler_ops-ops.result.now c.args.machine.now
    (g.L.Log.logged c.args.log.now) c.loop-op_index.op_index c.loop-op_index.over c.loop-op_index.last
    c.loop-op_index.machine (g.L.Log.logged c.loop-op_index.log) c.loop-op_index.invariant c.requires.stands

pub isr-last-requires-clause-object : goal.isr-last-requires-clause-object
isr-last-requires-clause-object g c =
    op_fits c.args.app.now c.well_formed-2.ensures c.loop-op_index.machine c.args.handler c.loop-op_index.op_index
    c.index-ops-op_index.result
    (room_after c.args.app.now c.args.machine.now c.loop-op_index.machine c.requires.objects c.loop-op_index.invariant.leaves)
    (subst (λ (xs : List IsrOp). c.loop-op_index.op_index < length xs) c.handler_ops-ops.ensures c.loop-op_index-test.true)
    (subst (λ (xs : List IsrOp). c.index-ops-op_index.result ≡ get_or xs c.loop-op_index.op_index c.index-ops-op_index.result)
    c.handler_ops-ops.ensures c.index-ops-op_index.is)

pub isr-last-requires-clause-room : goal.isr-last-requires-clause-room
isr-last-requires-clause-room g c =
    omega (
      arith,
      c.requires.room,
      c.loop-op_index.invariant.few,
      c.loop-op_index-test.true,
      handler_short c.args.app.now c.well_formed-2.ensures c.args.handler,
      ap (λ (ops : List IsrOp). length ops) c.handler_ops-ops.ensures,
    )

pub isr_jump-over-requires : goal.isr_jump-over-requires
isr_jump-over-requires g c =
    behind_short c.handler_ops-ops.result.now c.loop-op_index.op_index c.loop-op_index-test.true
    (subst (λ (ops : List IsrOp). length ops ≤ 16) (sym c.handler_ops-ops.ensures)
    (handler_short c.args.app.now c.well_formed-2.ensures c.args.handler))

pub overflow_cast-op_index-else-is_failed : goal.overflow_cast-op_index-else-is_failed
overflow_cast-op_index-else-is_failed g c =
    omega (
      arith,
      c.loop-op_index-test.true,
      handler_short c.args.app.now c.well_formed-2.ensures c.args.handler,
      ap (λ (ops : List IsrOp). length ops) c.handler_ops-ops.ensures,
    )

pub loop-op_index-preserved : goal.loop-op_index-preserved
loop-op_index-preserved g c = elim c.if-over-gt0.branch [
  | then-over-gt0 w ↦
      rw (w.machine-is, w.log-is, w.last-is, w.over-is)
      (amid_jumped c.args.app.now c.args.handler c.handler_ops-ops.result.now c.args.machine.now
      (g.L.Log.logged c.args.log.now) c.loop-op_index.op_index c.loop-op_index.over c.loop-op_index.last
      c.loop-op_index.machine (g.L.Log.logged c.loop-op_index.log) c.loop-op_index.invariant
      c.index-ops-op_index.result c.loop-op_index-test.true c.index-ops-op_index.is w.if-over-gt0.true)
  | else-over-gt0+in-Source w ↦
      let none : c.loop-op_index.over ≡ 0 = (let l = w.if-over-gt0.false in omega arith) in
      rw (w.machine-is, w.log-is, w.last-is, w.over-is)
      (amid_did c.args.app.now c.args.handler c.handler_ops-ops.result.now c.args.machine.now
      (g.L.Log.logged c.args.log.now) c.loop-op_index.op_index c.loop-op_index.over c.loop-op_index.last
      c.loop-op_index.machine (g.L.Log.logged c.loop-op_index.log) c.loop-op_index.invariant
      c.index-ops-op_index.result c.loop-op_index-test.true c.index-ops-op_index.is none
      (λ t stands. rw w.in-Source.is refl) w.do_to_source.new.self (g.L.Log.logged c.loop-op_index.log) c.loop-op_index.last
      c.loop-op_index.over
      (record {
        at = λ s h. rw w.in-Source.is (w.do_to_source.ensures.does _ s h);
        few = omega arith;
        before = refl;
      })
      (record {
        at = λ s h. rw w.in-Source.is (w.do_to_source.ensures.any _ s h);
        few = omega arith;
        before = refl;
      })
      (rw w.do_to_source.ensures.rest (record { depth = refl; objects = λ o a h. h }))
      (λ s h. rw w.in-Source.is refl)
      (λ s h. none ∙ rw w.in-Source.is refl))
  | else-over-gt0+in_default+else-is_failed w ↦
      let none : c.loop-op_index.over ≡ 0 = (let l = w.if-over-gt0.false in omega arith) in
      rw (w.machine-is, w.log-is, w.last-is, w.over-is)
      (amid_did c.args.app.now c.args.handler c.handler_ops-ops.result.now c.args.machine.now
      (g.L.Log.logged c.args.log.now) c.loop-op_index.op_index c.loop-op_index.over c.loop-op_index.last
      c.loop-op_index.machine (g.L.Log.logged c.loop-op_index.log) c.loop-op_index.invariant
      c.index-ops-op_index.result c.loop-op_index-test.true c.index-ops-op_index.is none
      (λ t stands. w.if-is_failed.ensures t (here c.loop-op_index.machine t stands w.values.ensures))
      w.isr-last.new.machine (g.L.Log.logged w.isr-last.new.log) w.isr-last.result w.isr_jump-over.result
      w.isr-last.ensures.does w.isr-last.ensures.any w.isr-last.ensures.leaves w.isr-last.ensures.answer
      (λ t stands.
      w.isr_jump-over.ensures t (here c.loop-op_index.machine t stands w.values-else-is_failed.ensures)
      ∙ ap (isr_jump t c.index-ops-op_index.result c.loop-op_index.last)
      (behind_is c.handler_ops-ops.result.now c.loop-op_index.op_index c.loop-op_index-test.true)))
]

pub returns-clause-does : goal.returns-clause-does
returns-clause-does g c =
    amid_handled c.args.app.now c.args.handler c.handler_ops-ops.result.now c.args.machine.now (g.L.Log.logged c.args.log.now)
    c.loop-op_index.op_index c.loop-op_index.over c.loop-op_index.last c.loop-op_index.machine
    (g.L.Log.logged c.loop-op_index.log) c.loop-op_index.invariant c.loop-op_index-test.false
    (omega (
      arith,
      c.loop-op_index.auto.op_index-end,
      (subst (λ (ops : List IsrOp). length ops ≤ 16) (sym c.handler_ops-ops.ensures)
          (handler_short c.args.app.now c.well_formed-2.ensures c.args.handler)),
    ))
    c.handler_ops-ops.ensures

pub returns-clause-any : goal.returns-clause-any
returns-clause-any g c =
    amid_handled_any c.args.app.now c.args.handler c.handler_ops-ops.result.now c.args.machine.now (g.L.Log.logged c.args.log.now)
    c.loop-op_index.op_index c.loop-op_index.over c.loop-op_index.last c.loop-op_index.machine
    (g.L.Log.logged c.loop-op_index.log) c.loop-op_index.invariant c.loop-op_index-test.false
    (omega (
      arith,
      c.loop-op_index.auto.op_index-end,
      (subst (λ (ops : List IsrOp). length ops ≤ 16) (sym c.handler_ops-ops.ensures)
          (handler_short c.args.app.now c.well_formed-2.ensures c.args.handler)),
    ))
    c.handler_ops-ops.ensures

pub returns-clause-leaves : goal.returns-clause-leaves
returns-clause-leaves g c = c.loop-op_index.invariant.leaves

pub returns-then-is_failed-clause-does : goal.returns-then-is_failed-clause-does
returns-then-is_failed-clause-does g c =
    amid_failed c.args.app.now c.args.handler c.handler_ops-ops.result.now c.args.machine.now (g.L.Log.logged c.args.log.now)
    c.loop-op_index.op_index c.loop-op_index.over c.loop-op_index.last c.loop-op_index.machine
    (g.L.Log.logged c.loop-op_index.log) c.loop-op_index.invariant c.index-ops-op_index.result c.loop-op_index-test.true
    c.index-ops-op_index.is (let l = c.if-over-gt0.false in omega arith)
    (λ t stands. c.if-is_failed.ensures t (here c.loop-op_index.machine t stands c.values.ensures)) c.handler_ops-ops.ensures
    (omega (
      arith,
      c.loop-op_index.auto.op_index-end,
      (subst (λ (ops : List IsrOp). length ops ≤ 16) (sym c.handler_ops-ops.ensures)
          (handler_short c.args.app.now c.well_formed-2.ensures c.args.handler)),
    ))
    c.fail.new.self c.fail.ensures.does

pub returns-then-is_failed-clause-any : goal.returns-then-is_failed-clause-any
returns-then-is_failed-clause-any g c =
    amid_failed_any c.args.app.now c.args.handler c.handler_ops-ops.result.now c.args.machine.now (g.L.Log.logged c.args.log.now)
    c.loop-op_index.op_index c.loop-op_index.over c.loop-op_index.last c.loop-op_index.machine
    (g.L.Log.logged c.loop-op_index.log) c.loop-op_index.invariant c.index-ops-op_index.result c.loop-op_index-test.true
    c.index-ops-op_index.is (let l = c.if-over-gt0.false in omega arith)
    (λ t stands. c.if-is_failed.ensures t (here c.loop-op_index.machine t stands c.values.ensures)) c.handler_ops-ops.ensures
    (omega (
      arith,
      c.loop-op_index.auto.op_index-end,
      (subst (λ (ops : List IsrOp). length ops ≤ 16) (sym c.handler_ops-ops.ensures)
          (handler_short c.args.app.now c.well_formed-2.ensures c.args.handler)),
    ))
    c.fail.new.self c.fail.ensures.any

pub returns-then-is_failed-clause-leaves : goal.returns-then-is_failed-clause-leaves
returns-then-is_failed-clause-leaves g c =
    let stays : Leaves c.loop-op_index.machine
    (record c.loop-op_index.machine {
      stopped = option_or c.loop-op_index.machine.stopped (Some (HandlerCheck c.args.handler c.loop-op_index.op_index));
    }) =
    record { depth = refl; objects = λ o a h. h } in
    leaves_both c.args.machine.now c.loop-op_index.machine c.fail.new.self c.loop-op_index.invariant.leaves
    (subst (Leaves c.loop-op_index.machine) (sym c.fail.ensures.new) stays)
