use Rattle.std.proofs.Common.{◌≡◌, ◌∙◌, false, arith, refl, sym}
use Rattle.model.specs.Run.{is_reached}
use Rattle.shelf.proofs.Whole.{missed_few}
use Rattle.shelf.proofs.shelf.Shelf.run_point.Goals as goal

pub returns-then-not-gets_to-clause-refused : goal.returns-then-not-gets_to-clause-refused
returns-then-not-gets_to-clause-refused c =
    let missed : is_reached c.args.app.now c.args.self.now.limits c.args.point c.args.self.now.base.steps ≡ false =
    rw (sym c.gets_to.ensures ∙ c.if-not-gets_to.true) refl in
    missed_few c.args.app.now c.args.self.now c.requires.shelf c.args.point c.args.meter.now c.args.meter.now missed
    (λ steps. omega arith) c.missed_row.result c.missed_row.ensures.memory
