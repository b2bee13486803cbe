use Rattle.std.proofs.Common.{◌≡◌, ◌∙◌, true, false, Option, ap, sym}
use Rattle.std.specs.Option.{is_some}
use Rattle.model.specs.declared.event.End.{End}
use Rattle.model.specs.Run.{are_all_ended, is_stuck}
use Rattle.kernel.specs.Over.{is_at_tick_limit}
use Rattle.machine.proofs.Either.{stopped_is}
use Rattle.kernel.proofs.Ending.{over_first, over_fourth, over_second, over_third}
use Rattle.kernel.proofs.over.is_over.Goals as goal

pub returns-then-is_some : goal.returns-then-is_some
returns-then-is_some c = λ s h.
    let stopped : is_some s.stopped ≡ true =
    ap (λ (o : Option End). is_some o) (sym (stopped_is _ s h)) ∙ sym c.if-is_some.ensures in
    over_first (is_some s.stopped) (are_all_ended c.args.app.now s)
    (is_at_tick_limit c.args.app.now c.args.limits.now s) (is_stuck c.args.app.now s) stopped

pub returns-then-are_all_ended : goal.returns-then-are_all_ended
returns-then-are_all_ended c = λ s h.
    let on : is_some s.stopped ≡ false = ap (λ (o : Option End). is_some o) (sym (stopped_is _ s h)) ∙ sym c.if-is_some.ensures in
    over_second (is_some s.stopped) (are_all_ended c.args.app.now s) (is_at_tick_limit c.args.app.now c.args.limits.now s)
    (is_stuck c.args.app.now s) on (sym (c.if-are_all_ended.ensures s h))

pub returns-then-is_at_tick_limit : goal.returns-then-is_at_tick_limit
returns-then-is_at_tick_limit c = λ s h.
    let app = c.args.app.now in
    let limits = c.args.limits.now in
    let on : is_some s.stopped ≡ false = ap (λ (o : Option End). is_some o) (sym (stopped_is _ s h)) ∙ sym c.if-is_some.ensures in
    over_third (is_some s.stopped) (are_all_ended app s) (is_at_tick_limit app limits s) (is_stuck app s)
    on (sym (c.if-are_all_ended.ensures s h)) (sym (c.if-is_at_tick_limit.ensures s h))

pub returns : goal.returns
returns c = λ s h.
    let app = c.args.app.now in
    let limits = c.args.limits.now in
    let on : is_some s.stopped ≡ false = ap (λ (o : Option End). is_some o) (sym (stopped_is _ s h)) ∙ sym c.if-is_some.ensures in
    c.is_stuck.ensures s h
    ∙ over_fourth (is_some s.stopped) (are_all_ended app s) (is_at_tick_limit app limits s) (is_stuck app s)
    on (sym (c.if-are_all_ended.ensures s h)) (sym (c.if-is_at_tick_limit.ensures s h))
