use Rattle.std.proofs.Common.{◌≡◌, sym, subst, arith}
use Rattle.std.proofs.lemmas.Grind.{common_steps}
use Rattle.model.specs.Plans.{IsPlan}
use Rattle.model.proofs.Plans.{point_is_plan}
use Rattle.model.proofs.plan.Plan.of.Goals as goal

pub invariant_of-result : goal.invariant_of-result
invariant_of-result c =
    let same : c.extend_from_slice.new.self.items ≡ c.args.point.now = grind (arith, common_steps) in
    subst IsPlan (sym same) (point_is_plan c.args.point.now c.well_formed-2.ensures)
