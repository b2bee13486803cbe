use Rattle.std.proofs.Common.{◌≡◌, ◌∙◌, false, Option, ap, sym, arith}
use Rattle.std.specs.Option.{is_some}
use Rattle.model.specs.declared.event.End.{End}
use Rattle.model.specs.Run.{are_all_ended, is_stuck}
use Rattle.kernel.specs.Over.{is_at_tick_limit}
use Rattle.machine.proofs.Either.{current_is, stopped_is}
use Rattle.kernel.proofs.Ending.{alone_unheld, none_of, runs_on}
use Rattle.kernel.proofs.runs.op_if_going.Goals as goal

pub returns-then-depth-gt0-clause-going : goal.returns-then-depth-gt0-clause-going
returns-then-depth-gt0-clause-going c = λ s h is. sym (c.if-is_over-2.ensures s h)

pub returns-clause-going : goal.returns-clause-going
returns-clause-going c = λ s h is.
    let k = c.args.machine.now in
    let app = c.args.app.now in
    let limits = c.args.limits.now in
    let runs = sym c.current.ensures.current ∙ c.in-Some.is in
    let free : k.sched.depth ≡ 0 = (let e = c.depth.ensures.depth in let l = c.if-depth-gt0.false in omega arith) in
    let on : is_some s.stopped ≡ false = ap (λ (o : Option End). is_some o) (sym (stopped_is k s h)) ∙ sym c.if-is_some.ensures in
    let left : are_all_ended app s ≡ false =
    sym (alone_unheld app k s c.in-Some.task h is runs free) ∙ sym (c.if-is_left_alone.ensures s h) in
    none_of (is_some s.stopped) (are_all_ended app s) (is_at_tick_limit app limits s) (is_stuck app s) on left
    (sym (c.if-is_at_tick_limit.ensures s h)) (runs_on app s c.in-Some.task (sym (current_is k s h) ∙ runs))
