use Rattle.std.proofs.Common.{◌≡◌, List, [], ap, arith, length, subst}
use Rattle.model.specs.declared.plan.Injection.{Injection}
use Rattle.model.specs.Application.{Limits}
use Rattle.explorer.specs.Frontiers.{everything}
use Rattle.explorer.specs.Layers.{Gains}
use Rattle.explorer.proofs.Advancing.{few_in_all}
use Rattle.explorer.proofs.FirstAndLast.{first_holds, tallied_at_last, tallied_if_over}
use Rattle.explorer.proofs.exploring.all_found.Goals as goal

pub begin_block-requires : goal.begin_block-requires
begin_block-requires g c =
    let question = c.args.question.now in
    let app = question.app.now in
    let limits = question.limits.now in
    let handlers = question.choices.now.handlers.items in
    let levels = length question.choices.now.levels.items in
    let choices = c.requires.choices in
    let seen : c.limits.inside.steps ≡ limits.steps = ap (λ (l : Limits). l.steps) c.limits.view_is in
    let test = c.steps-test.true in
    let are = c.well_formed-3.ensures in
    let most = are.3 in
    let few = few_in_all app limits handlers levels choices.few choices.are.few (omega (arith, most)) in
    record {
      ready = record {
        handlers = handlers;
        levels = levels;
        n = c.steps.step;
        total = everything app limits handlers levels;
        holds = c.steps.invariant.holds;
        few = omega (arith, few);
      };
      early = omega (arith, seen, test, most);
      ahead = c.steps.invariant.ahead;
    }

pub advance-requires-clause-ready : goal.advance-requires-clause-ready
advance-requires-clause-ready g c =
    let question = c.args.question.now in
    let handlers = question.choices.now.handlers.items in
    let levels = length question.choices.now.levels.items in
    let are = c.well_formed-3.ensures in
    let most = are.3 in
    record {
      n = c.steps.step;
      holds =
          c.in_ok-until.ensures.through handlers levels c.steps.step
          (everything question.app.now question.limits.now handlers levels) c.steps.invariant.holds;
      some = c.requires.choices.some;
      ahead = c.in_ok-until.ensures.ahead;
      few = c.requires.choices.few;
      short = omega (arith, most);
    }

pub steps-init : goal.steps-init
steps-init g c =
    let question = c.args.question.now in
    let choices = question.choices.now in
    record {
      holds =
          first_holds question.app.now question.limits.now choices.handlers.items (length choices.levels.items)
          c.boot-first.result c.new-frontier.result _ c.boot-first.ensures.steps
          (c.boot-first.ensures.way [] question.limits.now) c.new-frontier.ensures.live
          (subst (λ (least : List Injection). Gains c.new-frontier.result.live.nodes.items c.add.new.self.nodes.items
          c.boot-first.result 1 least)
          c.none.ensures c.in_ok-add.ensures.gains)
          c.new-frontier.ensures.spent c.new-frontier.ensures.found;
      ahead = omega arith;
    }

pub steps-preserved : goal.steps-preserved
steps-preserved g c =
    let question = c.args.question.now in
    let handlers = question.choices.now.handlers.items in
    let levels = length question.choices.now.levels.items in
    let ahead = c.in_ok-until.ensures.ahead in
    record {
      holds =
          c.in_ok-advance.ensures c.steps.step
          (c.in_ok-until.ensures.through handlers levels c.steps.step
          (everything question.app.now question.limits.now handlers levels) c.steps.invariant.holds);
      ahead = omega (arith, ahead);
    }

pub returns-then-is_over : goal.returns-then-is_over
returns-then-is_over g c =
    let question = c.args.question.now in
    let choices = c.requires.choices in
    let are = c.well_formed-3.ensures in
    let most = are.3 in
    tallied_if_over question.app.now question.limits.now question.choices.now.handlers.items
    (length question.choices.now.levels.items) c.steps.step c.steps.until c.steps.frontier choices.few choices.are.few
    (omega (arith, most)) choices.once (c.is_over.ensures.live c.if-is_over.true)
    (c.is_over.ensures.spent c.if-is_over.true) c.steps.invariant.holds

pub returns : goal.returns
returns g c =
    let question = c.args.question.now in
    let choices = c.requires.choices in
    let seen : c.limits.inside.steps ≡ question.limits.now.steps = ap (λ (l : Limits). l.steps) c.limits.view_is in
    let test = c.steps-test.false in
    let are = c.well_formed-3.ensures in
    let most = are.3 in
    tallied_at_last question.app.now question.limits.now question.choices.now.handlers.items
    (length question.choices.now.levels.items) c.steps.step c.steps.until c.steps.frontier choices.few choices.are.few
    (omega (arith, most)) choices.once (omega (arith, seen, test)) c.steps.invariant.ahead c.steps.invariant.holds
