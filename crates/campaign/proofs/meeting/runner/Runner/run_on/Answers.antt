use Rattle.std.proofs.Common.{◌≡◌, ◌+◌, ◌∙◌, arith}
use Rattle.machine.specs.Logged.{all_of}
use Rattle.kernel.specs.Leads.{IsLed}
use Rattle.kernel.proofs.Leading.{led_then, past_on}
use Rattle.campaign.proofs.GoingOn.{behind_on}
use Rattle.campaign.proofs.meeting.runner.Runner.run_on.Goals as goal

pub returns-in-Some-clause-led : goal.returns-in-Some-clause-led
returns-in-Some-clause-led c =
    let app = c.args.setup.now.app.now in
    let limits = c.args.setup.now.shelf.now.limits in
    let step : IsLed app limits c.meeting_steps.self.simulation.kernel c.go_far.new.kernel
    (all_of c.meeting_steps.self.simulation.trail) (all_of c.go_far.new.trail) =
    rw c.limits-limits.ensures at c.in_ok-ending.ensures.led in
    led_then app limits c.args.self.now.simulation.kernel c.meeting_steps.self.simulation.kernel c.go_far.new.kernel _ _ _
    c.meeting_steps.invariant.led step

pub returns-in-Some-clause-passed : goal.returns-in-Some-clause-passed
returns-in-Some-clause-passed c =
    let app = c.args.setup.now.app.now in
    let limits = c.args.setup.now.shelf.now.limits in
    let step : IsLed app limits c.meeting_steps.self.simulation.kernel c.go_far.new.kernel
    (all_of c.meeting_steps.self.simulation.trail) (all_of c.go_far.new.trail) =
    rw c.limits-limits.ensures at c.in_ok-ending.ensures.led in
    behind_on app limits _ _ c.meeting_steps.self.simulation.kernel c.go_far.new.kernel step c.meeting_steps.self.passed.items
    c.meeting_steps.invariant.passed

pub returns-in-Some-known_rest-clause-led : goal.returns-in-Some-known_rest-clause-led
returns-in-Some-known_rest-clause-led c =
    let app = c.args.setup.now.app.now in
    let limits = c.args.setup.now.shelf.now.limits in
    let step : IsLed app limits c.meeting_steps.self.simulation.kernel c.go_far.new.kernel
    (all_of c.meeting_steps.self.simulation.trail) (all_of c.go_far.new.trail) =
    rw c.limits-limits.ensures at c.in_ok-ending.ensures.led in
    led_then app limits c.args.self.now.simulation.kernel c.meeting_steps.self.simulation.kernel c.go_far.new.kernel _ _ _
    c.meeting_steps.invariant.led step

pub returns-in-Some-known_rest-clause-passed : goal.returns-in-Some-known_rest-clause-passed
returns-in-Some-known_rest-clause-passed c =
    let app = c.args.setup.now.app.now in
    let limits = c.args.setup.now.shelf.now.limits in
    let step : IsLed app limits c.meeting_steps.self.simulation.kernel c.go_far.new.kernel
    (all_of c.meeting_steps.self.simulation.trail) (all_of c.go_far.new.trail) =
    rw c.limits-limits.ensures at c.in_ok-ending.ensures.led in
    behind_on app limits _ _ c.meeting_steps.self.simulation.kernel c.go_far.new.kernel step c.meeting_steps.self.passed.items
    c.meeting_steps.invariant.passed

pub meeting_steps-preserved : goal.meeting_steps-preserved
meeting_steps-preserved c =
    let app = c.args.setup.now.app.now in
    let limits = c.args.setup.now.shelf.now.limits in
    let old = c.meeting_steps.self.simulation.kernel in
    let new = c.go_far.new.kernel in
    let step : IsLed app limits old new (all_of c.meeting_steps.self.simulation.trail) (all_of c.go_far.new.trail) =
    rw c.limits-limits.ensures at c.in_ok-ending.ensures.led in
    let meter = c.meeting_steps.invariant.meter in
    let more : c.go_far.new.meter + old.steps ≡ c.meeting_steps.self.simulation.meter + new.steps = c.in_ok-ending.ensures.meter in
    let there = c.in_ok-ending.ensures.there c.in_default.is in
    let goes = rw c.limits-limits.ensures at (c.in_ok-ending.ensures.goes c.in_default.is) in
    let behind = behind_on app limits _ _ old new step c.meeting_steps.self.passed.items c.meeting_steps.invariant.passed in
    record {
      led =
          rw (c.note.ensures.kernel, c.note.ensures.trail)
          (led_then app limits c.args.self.now.simulation.kernel old new _ _ _ c.meeting_steps.invariant.led step);
      past = rw c.note.ensures.kernel (past_on app limits old new step.own step.leads c.args.injections.now
          c.meeting_steps.invariant.past);
      goes = rw (c.note.ensures.kernel, there) goes;
      passed = rw (c.note.ensures.kernel, c.note.ensures.trail) (c.note.ensures.passed app limits behind);
      table = c.note.ensures.table ∙ c.meeting_steps.invariant.table;
      legs = c.note.ensures.legs ∙ c.meeting_steps.invariant.legs;
      meter = rw (c.note.ensures.kernel, c.note.ensures.meter) (omega (arith, meter, more));
    }
