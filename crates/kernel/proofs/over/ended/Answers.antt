use Rattle.std.proofs.Common.{◌∙◌, ap, sym, arith}
use Rattle.model.specs.Application.{Limits}
use Rattle.machine.proofs.Either.{elapsed_is, steps_are, stopped_is}
use Rattle.kernel.proofs.Ending.{not_stopped, ends_pass, ends_ticks, ends_steps, ends_stuck, ends_not}
use Rattle.kernel.proofs.over.ended.Goals as goal

pub returns-then-are_all_ended : goal.returns-then-are_all_ended
returns-then-are_all_ended c = λ s h.
    ends_pass c.args.app.now c.args.limits.now s
    (sym (stopped_is _ s h) ∙ not_stopped _ (sym c.if-is_some.ensures)) (sym (c.if-are_all_ended.ensures s h))

pub returns-then-limits-elapsed : goal.returns-then-limits-elapsed
returns-then-limits-elapsed c = λ s h.
    let limit = ap (λ (l : Limits). l.ticks) c.limits.view_is in
    let age = c.elapsed.ensures.elapsed ∙ elapsed_is _ s h in
    let late = c.if-limits-elapsed.true in
    ends_ticks c.args.app.now c.args.limits.now s (sym (stopped_is _ s h) ∙ not_stopped _ (sym c.if-is_some.ensures))
    (sym (c.if-are_all_ended.ensures s h)) (omega arith)

pub returns-then-limits-machine : goal.returns-then-limits-machine
returns-then-limits-machine c = λ s h.
    let ticks = ap (λ (l : Limits). l.ticks) c.limits.view_is in
    let steps = ap (λ (l : Limits). l.steps) c.limits.view_is in
    let age = c.elapsed.ensures.elapsed ∙ elapsed_is _ s h in
    let early = c.if-limits-elapsed.false in
    let late = c.if-limits-machine.true in
    let done = steps_are _ s h in
    ends_steps c.args.app.now c.args.limits.now s (sym (stopped_is _ s h) ∙ not_stopped _ (sym c.if-is_some.ensures))
    (sym (c.if-are_all_ended.ensures s h)) (omega arith) (omega arith)

pub returns-then-is_stuck : goal.returns-then-is_stuck
returns-then-is_stuck c = λ s h.
    let ticks = ap (λ (l : Limits). l.ticks) c.limits.view_is in
    let steps = ap (λ (l : Limits). l.steps) c.limits.view_is in
    let age = c.elapsed.ensures.elapsed ∙ elapsed_is _ s h in
    let early = c.if-limits-elapsed.false in
    let few = c.if-limits-machine.false in
    let done = steps_are _ s h in
    ends_stuck c.args.app.now c.args.limits.now s (sym (stopped_is _ s h) ∙ not_stopped _ (sym c.if-is_some.ensures))
    (sym (c.if-are_all_ended.ensures s h)) (omega arith) (omega arith) (sym (c.if-is_stuck.ensures s h))

pub returns : goal.returns
returns c = λ s h.
    let ticks = ap (λ (l : Limits). l.ticks) c.limits.view_is in
    let steps = ap (λ (l : Limits). l.steps) c.limits.view_is in
    let age = c.elapsed.ensures.elapsed ∙ elapsed_is _ s h in
    let early = c.if-limits-elapsed.false in
    let few = c.if-limits-machine.false in
    let done = steps_are _ s h in
    ends_not c.args.app.now c.args.limits.now s (sym (stopped_is _ s h) ∙ not_stopped _ (sym c.if-is_some.ensures))
    (sym (c.if-are_all_ended.ensures s h)) (omega arith) (omega arith) (sym (c.if-is_stuck.ensures s h))
