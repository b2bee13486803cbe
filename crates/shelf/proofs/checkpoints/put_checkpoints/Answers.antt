use Rattle.std.proofs.Common.{◌≡◌, ℕ, [], Option, None, length, refl, ap, sym, subst, ◌∙◌, arith}
use Rattle.std.specs.Prelude.{IfSome}
use Rattle.model.specs.Run.{end_of, events_after, state_after}
use Rattle.machine.specs.declared.machine.Machine.{Machine}
use Rattle.machine.specs.Logged.{all_of}
use Rattle.machine.specs.Can.{IsUnderWay}
use Rattle.kernel.specs.Leads.{IsEnd}
use Rattle.kernel.specs.declared.rests.RestEnding.{RestEnding}
use Rattle.kernel.proofs.Running.{steps_below}
use Rattle.shelf.proofs.Along.{one_more, put_more}
use Rattle.shelf.proofs.Joining.{all_join, all_on, base_is, put_behind, events_on}
use Rattle.shelf.proofs.checkpoints.put_checkpoints.Goals as goal

pub go_far-requires-clause-past : goal.go_far-requires-clause-past
go_far-requires-clause-past c = λ n from. refl

pub returns-in-Some-clause-base : goal.returns-in-Some-clause-base
returns-in-Some-clause-base c =
    let end =
    subst (λ (e : Option RestEnding). IfSome e (IsEnd c.args.app.now c.args.limits.now c.go_far.new.kernel))
    c.in-Some.is c.in_ok-ending.ensures.end in
    base_is c.args.app.now c.args.limits.now c.go_far.new.kernel c.in-Some.ending end
    (all_of c.go_far.new.trail) c.into_events.result.items c.into_events.ensures c.go_far.ensures.way
    (events_on c.args.app.now c.args.limits.now c.checkpoints.kernel c.go_far.new.kernel (all_of c.checkpoints.trail)
    (all_of c.go_far.new.trail) c.in_ok-ending.ensures.led c.checkpoints.invariant.way c.checkpoints.invariant.events)

pub returns-in-Some-clause-rests : goal.returns-in-Some-clause-rests
returns-in-Some-clause-rests c =
    let end =
    subst (λ (e : Option RestEnding). IfSome e (IsEnd c.args.app.now c.args.limits.now c.go_far.new.kernel))
    c.in-Some.is c.in_ok-ending.ensures.end in
    all_join c.args.app.now c.args.limits.now c.go_far.new.kernel c.in-Some.ending end
    (all_of c.go_far.new.trail) c.into_events.result.items c.into_events.ensures c.checkpoints.checkpoints.items
    (all_on c.args.app.now c.args.limits.now (all_of c.checkpoints.trail) (all_of c.go_far.new.trail) c.checkpoints.kernel
    c.go_far.new.kernel c.in_ok-ending.ensures.led c.checkpoints.checkpoints.items c.checkpoints.invariant.behind)

pub returns-in-Some-clause-enough : goal.returns-in-Some-clause-enough
returns-in-Some-clause-enough c =
    let end =
    subst (λ (e : Option RestEnding). IfSome e (IsEnd c.args.app.now c.args.limits.now c.go_far.new.kernel))
    c.in-Some.is c.in_ok-ending.ensures.end in
    let here = end.here in
    let far = c.go_far.ensures.far in
    let next = c.checkpoints.invariant.next in
    omega (arith, here, far, next)

pub checkpoints-smaller : goal.checkpoints-smaller
checkpoints-smaller c =
    let there = c.in_ok-ending.ensures.there c.in_default.is in
    let on : end_of c.args.app.now c.args.limits.now (state_after c.args.app.now c.args.limits.now [] c.go_far.new.kernel.steps)
    ≡ None =
    ap (λ n. end_of c.args.app.now c.args.limits.now (state_after c.args.app.now c.args.limits.now [] n)) there
    ∙ c.in_ok-ending.ensures.goes c.in_default.is in
    let way = c.go_far.ensures.way in
    let below =
    steps_below c.args.app.now c.well_formed-2.ensures [] c.args.limits.now c.well_formed-3.ensures c.go_far.new.kernel way on in
    let apart = c.requires.apart in
    omega (arith, below, there, apart)

pub checkpoints-preserved : goal.checkpoints-preserved
checkpoints-preserved c =
    let there = c.in_ok-ending.ensures.there c.in_default.is in
    let on : end_of c.args.app.now c.args.limits.now (state_after c.args.app.now c.args.limits.now [] c.go_far.new.kernel.steps)
    ≡ None =
    ap (λ n. end_of c.args.app.now c.args.limits.now (state_after c.args.app.now c.args.limits.now [] n)) there
    ∙ c.in_ok-ending.ensures.goes c.in_default.is in
    let way = c.go_far.ensures.way in
    let below =
    steps_below c.args.app.now c.well_formed-2.ensures [] c.args.limits.now c.well_formed-3.ensures c.go_far.new.kernel way on in
    let put = there ∙ c.checkpoints.invariant.next in
    let events =
    events_on c.args.app.now c.args.limits.now c.checkpoints.kernel c.go_far.new.kernel (all_of c.checkpoints.trail)
    (all_of c.go_far.new.trail) c.in_ok-ending.ensures.led c.checkpoints.invariant.way c.checkpoints.invariant.events in
    let metered = c.go_far.ensures.meter in
    let meter = c.checkpoints.invariant.meter in
    let low = c.checkpoints.invariant.low in
    record {
      way = way;
      far = omega (arith, there);
      events = events;
      checkpoints =
          one_more c.args.app.now c.args.limits.now c.args.stride c.checkpoints.checkpoints.items
          c.push.new.self.items _ c.checkpoints.invariant.checkpoints c.in_ok-push.ensures.items (record {
            way = subst (IsUnderWay c.args.app.now [] c.args.limits.now) (sym c.in_ok-snapshot.ensures) way;
            there = ap (λ (k : Machine). k.steps) c.in_ok-snapshot.ensures ∙ put;
            before =
                c.len.ensures ∙ ap length events ∙ ap (λ (n : ℕ). length (events_after c.args.app.now c.args.limits.now [] n)) put;
          });
      behind =
          put_behind c.args.app.now c.args.limits.now c.go_far.new.kernel (all_of c.go_far.new.trail)
          c.checkpoints.checkpoints.items c.push.new.self.items _ c.in_ok-push.ensures.items c.in_ok-snapshot.ensures c.len.ensures
          (all_on c.args.app.now c.args.limits.now (all_of c.checkpoints.trail) (all_of c.go_far.new.trail) c.checkpoints.kernel
          c.go_far.new.kernel c.in_ok-ending.ensures.led c.checkpoints.checkpoints.items c.checkpoints.invariant.behind);
      next =
          put_more c.checkpoints.checkpoints.items c.push.new.self.items _ c.args.stride
          c.checkpoints.next c.in_ok-push.ensures.items c.checkpoints.invariant.next;
      meter = omega (arith, metered, meter);
      low = omega (arith, below, there);
    }
