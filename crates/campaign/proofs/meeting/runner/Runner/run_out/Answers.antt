use Rattle.std.proofs.Common.{arith}
use Rattle.machine.specs.Logged.{all_of}
use Rattle.kernel.specs.Leads.{IsLed}
use Rattle.kernel.proofs.Running.{steps_low}
use Rattle.campaign.proofs.GoingOn.{behind_on}
use Rattle.campaign.proofs.meeting.runner.Runner.run_out.Goals as goal

pub go_far-requires-clause-ahead : goal.go_far-requires-clause-ahead
go_far-requires-clause-ahead c =
    let setup = c.args.setup.now in
    let formed = rw c.limits-limits.ensures at c.well_formed-2.ensures in
    let low =
    steps_low setup.app.now c.args.injections.now setup.shelf.now.limits formed c.args.self.now.simulation.kernel
    c.requires.past.way in
    omega (arith, low)

pub unreachable-requires : goal.unreachable-requires
unreachable-requires c =
    let formed = rw c.limits-limits.ensures at c.well_formed-2.ensures in
    let way = rw c.limits-limits.ensures at c.go_far.ensures.way in
    let there = c.in_ok-ending.ensures.there c.in-None.is in
    let setup = c.args.setup.now in
    let low = steps_low setup.app.now c.args.injections.now setup.shelf.now.limits formed c.go_far.new.kernel way in
    omega (arith, there, low)

pub returns-clause-passed : goal.returns-clause-passed
returns-clause-passed c =
    let app = c.args.setup.now.app.now in
    let limits = c.args.setup.now.shelf.now.limits in
    let led : IsLed app limits c.args.self.now.simulation.kernel c.go_far.new.kernel
    (all_of c.args.self.now.simulation.trail) (all_of c.go_far.new.trail) =
    rw c.limits-limits.ensures at c.in_ok-ending.ensures.led in
    behind_on app limits _ _ c.args.self.now.simulation.kernel c.go_far.new.kernel led c.args.self.now.passed.items
    c.requires.passed
