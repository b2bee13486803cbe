use Rattle.std.proofs.Common.{sym, ◌∙◌}
use Rattle.kernel.proofs.quiet.ticks_to_idle.Goals as goal

pub returns : goal.returns
returns c = λ some. (c.goes_on_idle.ensures c.if-not-goes_on_idle.false, sym c.tickless.ensures ∙ c.if-tickless.false)
