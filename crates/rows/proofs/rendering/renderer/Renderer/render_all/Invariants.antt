use Rattle.std.proofs.Common.{◌≡◌, []}
use Rattle.rtrb.specs.Ring.{SameProducer}
use Rattle.rows.specs.Pieces.{HasSent}
use Rattle.rows.proofs.rendering.renderer.Renderer.render_all.Given as goal

abbrev pub invariant-loop : goal.invariant-loop
invariant-loop g l = record {
  app : l.report.app ≡ l.rendering.app.now;
  empty : l.report.page ≡ [];
  ring : SameProducer l.fn.self.rendered l.self.rendered;
  sent : HasSent l.rendering l.fn.self → HasSent l.rendering l.self;
}
