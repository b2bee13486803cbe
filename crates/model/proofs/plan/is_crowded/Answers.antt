use Rattle.std.proofs.Common.{arith, ◌≡◌, true, false}
use Rattle.std.proofs.lemmas.Grind.{common_steps}
use Rattle.model.proofs.Plans.{fourth_found, crowded_at, few_at_once}
use Rattle.model.proofs.plan.is_crowded.Goals as goal

pub returns-then-fourth-injection-clause-crowded : goal.returns-then-fourth-injection-clause-crowded
returns-then-fourth-injection-clause-crowded c h =
    let found : fourth_found c.args.injections.now ≡ true = grind (arith, common_steps) in
    crowded_at c.args.injections.now c.requires found

pub returns-clause-few : goal.returns-clause-few
returns-clause-few c h n =
    let isnt : fourth_found c.args.injections.now ≡ false = grind (arith, common_steps) in
    few_at_once c.args.injections.now c.requires isnt n
