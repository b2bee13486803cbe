use Rattle.std.proofs.Common.{◌^◌, arith, refl}
use Rattle.explorer.specs.Questions.{app_in, limits_in}
use Rattle.explorer.proofs.GoingFar.{settled_found, settled_there}
use Rattle.explorer.proofs.Holding.{numbers_few}
use Rattle.explorer.proofs.Results.{on_ok}
use Rattle.explorer.proofs.settling.settle.Goals as goal

pub count_end-requires : goal.count_end-requires
count_end-requires c =
    let room = c.requires.room in
    numbers_few c.args.findings.now.items c.args.batch.count (2 ^ 128) (omega (arith, room))

pub returns-in-Some-clause-settles : goal.returns-in-Some-clause-settles
returns-in-Some-clause-settles c = on_ok c.count_end.result
    (λ tallies.
    let block = c.args.block.now in
    let batch = c.args.batch in
    settled_found (app_in block) (limits_in block) block.until c.args.kernel.now c.go_on_far.new.kernel
    batch.count batch.least c.in_ok-ending.ending c.in_ok-ending.ensures.far c.in-Some.ending c.in-Some.is
    c.args.layer.now.nodes.items c.args.findings.now.items c.count_end.new.found.items _ refl refl refl refl tallies)
    c.count_end.ensures.tallies

pub returns-in-None-clause-settles : goal.returns-in-None-clause-settles
returns-in-None-clause-settles c = on_ok c.add.result
    (λ gains.
    let block = c.args.block.now in
    let batch = c.args.batch in
    settled_there (app_in block) (limits_in block) block.until c.args.kernel.now c.go_on_far.new.kernel
    batch.count batch.least c.in_ok-ending.ending c.in_ok-ending.ensures.far c.in-None.is
    c.args.layer.now.nodes.items c.add.new.self.nodes.items c.args.findings.now.items gains)
    c.add.ensures.gains
