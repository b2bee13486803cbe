use Rattle.std.proofs.Common.{◌∙◌, [], ap, append-nil, sym}
use Rattle.kernel.specs.Leads.{IsLed}
use Rattle.rows.specs.Links.{Grows}
use Rattle.campaign.specs.Working.{store_in, IsRestIn}
use Rattle.campaign.proofs.GoingOn.{all_passed, led_rest, none_from, still_visited}
use Rattle.campaign.proofs.meeting.runner.Runner.rest.Goals as goal

pub run_from_meeting_step-requires-clause-past : goal.run_from_meeting_step-requires-clause-past
run_from_meeting_step-requires-clause-past c =
    rw (c.as_slice.ensures, c.injections-injections.ensures)
    (record {
      way = c.requires.way;
      past = none_from c.args.point.now c.well_formed-2.ensures c.args.self.now.simulation.kernel
          (c.requires.beyond c.in_default.is);
    })

pub returns-clause-rest : goal.returns-clause-rest
returns-clause-rest c =
    let app = c.args.setup.now.app.now in
    let view = c.args.setup.now.view.now in
    let shelf = c.args.setup.now.shelf.now in
    let old = store_in c.args.self.now in
    let new = store_in c.run_from_meeting_step.new.self in
    let now = c.run_from_meeting_step.new.self.simulation.kernel in
    let run = c.in_ok-rest.ensures in
    let led : IsLed app shelf.limits c.args.self.now.simulation.kernel now old.trail new.trail = run.led in
    let grown : Grows old new =
    record { own = led.own; trail = led.kept; more = []; legs = ap (λ v. v.items) run.legs ∙ sym (append-nil old.legs) } in
    let still =
    still_visited app shelf.limits view shelf.base old new c.requires.legs
    grown c.args.self.now.table.visited.items c.requires.visited in
    let ahead : IsRestIn app shelf.limits view shelf.base new now c.in_ok-rest.rest = run.rest view new still in
    led_rest app shelf.limits view shelf.base c.args.point.now c.args.self.now.simulation.kernel c.requires.way old
    new now c.in_ok-rest.rest c.well_formed-2.ensures (c.requires.beyond c.in_default.is) led ahead

pub returns-clause-passed : goal.returns-clause-passed
returns-clause-passed c =
    let app = c.args.setup.now.app.now in
    let view = c.args.setup.now.view.now in
    let shelf = c.args.setup.now.shelf.now in
    let old = store_in c.args.self.now in
    let new = store_in c.run_from_meeting_step.new.self in
    let now = c.run_from_meeting_step.new.self.simulation.kernel in
    let run = c.in_ok-rest.ensures in
    let led : IsLed app shelf.limits c.args.self.now.simulation.kernel now old.trail new.trail = run.led in
    let grown : Grows old new =
    record { own = led.own; trail = led.kept; more = []; legs = ap (λ v. v.items) run.legs ∙ sym (append-nil old.legs) } in
    let still =
    still_visited app shelf.limits view shelf.base old new c.requires.legs
    grown c.args.self.now.table.visited.items c.requires.visited in
    let ahead : IsRestIn app shelf.limits view shelf.base new now c.in_ok-rest.rest = run.rest view new still in
    all_passed app shelf.limits view shelf.base new now c.in_ok-rest.rest
    ahead c.run_from_meeting_step.new.self.passed.items run.passed
