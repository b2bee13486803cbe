use Rattle.std.proofs.Common.{◌≡◌, List, ℕ, ◌∙◌, subst}
use Rattle.model.specs.declared.plan.Injection.{Injection}
use Rattle.model.specs.Run.{IsRun, state_after}
use Rattle.model.specs.EndStates.{end_state_of}
use Rattle.soundness.proofs.Reached.{reached_after}
use Rattle.machine.proofs.Either.{elapsed_is}
use Rattle.kernel.proofs.Running.{events_from_reset}
use Rattle.kernel.proofs.end_state.run_to_end_state.Goals as goal

pub end_state-end_state-requires : goal.end_state-end_state-requires
end_state-end_state-requires c =
    let e = c.in_ok-end.ensures in (
      state_after c.args.app.now c.args.limits c.injections-injections.result.now c.finish.new.kernel.steps,
      reached_after c.args.app.now c.well_formed-2.ensures c.args.limits
          c.injections-injections.result.now c.finish.new.kernel.steps,
      e.way.stands,
    )

pub returns-clause-run : goal.returns-clause-run
returns-clause-run c =
    let e = c.in_ok-end.ensures in
    let P : List Injection → Type 0 = λ injections.
    IsRun c.args.app.now injections c.args.limits (record {
      events = c.into_events.result.items;
      steps = c.finish.new.kernel.steps;
      ticks = c.elapsed-ticks.result;
      end = c.in_ok-end.end;
    }) in
    subst P c.injections-injections.ensures (record {
      goes_on = e.way.goes_on;
      ends = e.ended;
      trace =
          c.into_events.ensures ∙ e.events
          ∙ events_from_reset c.args.app.now c.args.limits c.injections-injections.result.now
          c.boot-kernel.result.steps c.finish.new.kernel.steps c.boot-kernel.ensures.steps
          c.new-trail.result c.new-trail.ensures.before c.new-trail.ensures.told;
      elapsed = c.elapsed-ticks.ensures.elapsed ∙ elapsed_is c.finish.new.kernel _ e.way.stands;
    })

pub returns-clause-end_state : goal.returns-clause-end_state
returns-clause-end_state c =
    let e = c.in_ok-end.ensures in
    let steps : ℕ = c.finish.new.kernel.steps in
    let P : List Injection → Type 0 = λ injections.
    c.end_state-end_state.result ≡ end_state_of (state_after c.args.app.now c.args.limits injections steps) in
    subst P c.injections-injections.ensures
    (c.end_state-end_state.ensures (state_after c.args.app.now c.args.limits c.injections-injections.result.now steps)
    (reached_after c.args.app.now c.well_formed-2.ensures c.args.limits c.injections-injections.result.now steps) e.way.stands)
