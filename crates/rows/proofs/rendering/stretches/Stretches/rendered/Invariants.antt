use Rattle.std.proofs.Common.{◌≡◌}
use Rattle.machine.specs.Logged.{all_of}
use Rattle.rows.specs.Stretches.{AreOf}
use Rattle.rows.proofs.rendering.stretches.Stretches.rendered.Given as goal

abbrev pub invariant-loop-leg : goal.invariant-loop-leg
invariant-loop-leg l = record {
  are : AreOf l.app (all_of l.part.trail) l.stretches;
  renderer : l.renderer ≡ l.app;
}
