use Rattle.std.proofs.Common.{◌≡◌}
use Rattle.rtrb.specs.Ring.{sent, SameProducer}
use Rattle.rows.proofs.rendering.renderer.hand_on.Given as goal

abbrev pub invariant-loop : goal.invariant-loop
invariant-loop g l = record {
  ring : SameProducer l.fn.rendered l.rendered;
  sent : sent l.rendered ≡ sent l.fn.rendered;
  text : l.text ≡ l.fn.text;
}
