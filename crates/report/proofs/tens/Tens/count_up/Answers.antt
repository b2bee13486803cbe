use Rattle.std.proofs.Common.{◌<◌, ◌+◌, ◌^◌, ◌≡◌, length, arith}
use Rattle.report.proofs.Numbers.{counted_up}
use Rattle.report.proofs.tens.Tens.count_up.Goals as goal

pub invariant_of-self : goal.invariant_of-self
invariant_of-self c =
    let fits : c.self.inside.first + 10 < 2 ^ 32 = omega (arith, c.self.view_is, c.requires) in
    let size : length c.self.inside.text ≡ 16 = omega (arith, c.self.told) in
    rw c.replaced-text.ensures
    (counted_up c.self.inside.first c.self.inside.len c.self.inside.text fits
    (omega (arith, c.if-self-eq0.false)) size c.if-digit-ge-NINE.false c.self.invariant)
