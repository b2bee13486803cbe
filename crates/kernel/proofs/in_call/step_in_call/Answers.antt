use Rattle.std.proofs.Common.{arith}
use Rattle.kernel.proofs.Bounds.{can_do, held_in_call}
use Rattle.kernel.proofs.Holds.{below_limits}
use Rattle.machine.proofs.Either.{steps_are}
use Rattle.kernel.proofs.InCall.{can_in_phase, holds_silently, not_over_after, past_silent, steps_held, still_in_call, stepped_held}
use Rattle.kernel.proofs.InCall.{told_nothing}
use Rattle.kernel.proofs.in_call.step_in_call.Goals as goal

pub go_on_silently-requires-clause-can : goal.go_on_silently-requires-clause-can
go_on_silently-requires-clause-can c =
    let call = c.requires.call in (
      call.ticks,
      can_in_phase c.args.app.now c.requires.going.0 c.args.machine.now c.args.task c.args.object c.args.access c.args.phase call
          (can_do c.args.app.now c.well_formed-2.ensures c.args.machine.now
          c.requires.going.1 c.args.task call.current call.awake call.op call.at),
    )

pub go_on_silently-requires-clause-held : goal.go_on_silently-requires-clause-held
go_on_silently-requires-clause-held c =
    let call = c.requires.call in
    λ later.
    held_in_call c.args.app.now c.well_formed-2.ensures c.args.machine.now c.requires.going.1 c.args.task
    call.current call.awake c.args.phase call.reached (holds_silently c.args.phase c.requires.silent later)

pub overflow_add-machine : goal.overflow_add-machine
overflow_add-machine c =
    let limits = c.requires.going.0 in
    let going = c.requires.going.1 in
    let held = c.go_on_silently.ensures.held in
    let still =
    steps_held c.args.app.now limits c.args.machine.now c.args.task c.args.object c.args.access c.args.phase
    c.requires.call (past_silent c.args.phase c.requires.silent) c.go_on_silently.new.machine
    (λ log s h. c.go_on_silently.ensures.does c.args.app.now c.requires.call.ticks log s h)
    c.requires.none (omega arith) going.state going.stands in
    let is = steps_are c.args.machine.now going.state going.stands in
    let low = below_limits c.args.app.now limits going.state going.goes_on in
    let few = low.1 in
    let most = going.are.3 in
    omega arith

pub returns-clause-stands : goal.returns-clause-stands
returns-clause-stands c = λ limits s h.
    let held = c.go_on_silently.ensures.held in
    stepped_held c.args.app.now limits c.args.machine.now c.args.task c.args.object c.args.access c.args.phase
    c.requires.call (past_silent c.args.phase c.requires.silent) c.go_on_silently.new.machine
    (λ log s h. c.go_on_silently.ensures.does c.args.app.now c.requires.call.ticks log s h) c.requires.none (omega arith) s h

pub returns-clause-silent : goal.returns-clause-silent
returns-clause-silent c = λ limits s h.
    let held = c.go_on_silently.ensures.held in
    told_nothing c.args.app.now limits c.args.machine.now c.args.task c.args.object c.args.access c.args.phase
    c.requires.call (past_silent c.args.phase c.requires.silent) c.go_on_silently.new.machine
    (λ log s h. c.go_on_silently.ensures.does c.args.app.now c.requires.call.ticks log s h) c.requires.none (omega arith) s h

pub returns-clause-on : goal.returns-clause-on
returns-clause-on c = λ limits s h.
    let held = c.go_on_silently.ensures.held in
    not_over_after c.args.app.now limits c.args.machine.now c.args.task c.args.object c.args.access
    c.args.phase c.requires.call (past_silent c.args.phase c.requires.silent) c.go_on_silently.new.machine
    (λ log s h. c.go_on_silently.ensures.does c.args.app.now c.requires.call.ticks log s h)
    c.requires.none (omega arith) s h c.requires.silent c.go_on_silently.ensures.remains.current

pub returns-clause-call : goal.returns-clause-call
returns-clause-call c = λ next e.
    let same = c.go_on_silently.ensures.remains in
    still_in_call c.args.app.now c.requires.going.0 c.args.machine.now
    c.args.task c.args.object c.args.access c.args.phase c.requires.call _
    (record { current = same.current; op_index = same.op_index; suspensions = same.suspensions }) next e
