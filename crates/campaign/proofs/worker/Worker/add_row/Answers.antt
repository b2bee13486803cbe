use Rattle.std.proofs.Common.{◌∷◌, []}
use Rattle.rows.specs.Report.{row_of}
use Rattle.campaign.specs.Working.{counted, store_in}
use Rattle.campaign.proofs.Keeping.{gains_one}
use Rattle.campaign.proofs.GoingOn.{knows_more}
use Rattle.campaign.proofs.worker.Worker.add_row.Goals as goal

pub returns-clause-row : goal.returns-clause-row
returns-clause-row c =
    let setup = c.args.setup.now in
    let shelf = setup.shelf.now in
    let keeps = c.in_ok-outcome.ensures.row in
    let store = store_in c.keep_row.new.self.runner.value in
    gains_one setup.app.now shelf.limits setup.view.now shelf.base c.args.point.now c.args.self.now.kept c.keep_row.new.self.kept
    (store_in c.args.self.now.runner.value) store
    (counted setup.tally.now c.args.counts.now.kinds) (counted setup.tally.now c.count.new.self.kinds) keeps.row keeps.gains
    keeps.rows_are
    (c.count.ensures (row_of shelf.base store keeps.row) setup.tally.now
    keeps.reached keeps.ends)

pub returns-clause-known : goal.returns-clause-known
returns-clause-known c =
    let setup = c.args.setup.now in
    let shelf = setup.shelf.now in
    knows_more setup.app.now shelf.limits setup.view.now shelf.base (c.args.point.now ∷ [])
    _ _ _ _ _ _ _ _ c.requires.known (returns-clause-row c) c.in_ok-outcome.ensures.visited
