use Rattle.std.proofs.Common.{subst, sym}
use Rattle.campaign.specs.Running.{HasLegs}
use Rattle.campaign.specs.declared.meeting.runner.Runner.{Runner}
use Rattle.campaign.specs.Working.{store_in}
use Rattle.campaign.proofs.Keeping.{kept_again}
use Rattle.campaign.proofs.worker.Worker.keep_row.Goals as goal

pub returns-in-Some-clause-row : goal.returns-in-Some-clause-row
returns-in-Some-clause-row c =
    let setup = c.args.setup.now in
    let shelf = setup.shelf.now in
    let own = c.args.self.now in
    kept_again setup.app.now shelf.limits setup.view.now shelf.base c.args.point.now (store_in own.runner.value)
    own.kept c.repeat.new.self c.in-Some.number c.requires.known.legs c.requires.known.rows
    c.in-Some.ensures c.in_ok-repeat.ensures c.at.result.now c.at.ensures c.of-outcome.result c.of-outcome.ensures

pub run-requires-clause-legs : goal.run-requires-clause-legs
run-requires-clause-legs c =
    subst (λ (runner : Runner). HasLegs c.args.setup.now runner) (sym c.deref_mut.ensures.value) c.requires.known.legs
