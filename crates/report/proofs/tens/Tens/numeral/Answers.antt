use Rattle.std.proofs.Common.{◌≡◌, ◌*◌, ◌/◌, ◌∙◌}
use Rattle.report.proofs.Numbers.{decimal_of_tens}
use Rattle.report.proofs.tens.Tens.numeral.Goals as goal

pub returns : goal.returns
returns c =
    let first : c.self.inside.first ≡ 10 * (c.args.number / 10) = c.self.view_is ∙ c.set.ensures in
    c.new.ensures ∙ decimal_of_tens c.args.number c.self.inside.first _ _ c.ranges.number.fits first c.self.invariant
