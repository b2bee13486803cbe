use Rattle.std.proofs.Common.{◌≡◌, ◌≤◌, [], drop, false, length}
use Rattle.std.specs.List.{flat_map}
use Rattle.rtrb.specs.Ring.{SameProducer}
use Rattle.byte_io.specs.Bytes.{Sent}
use Rattle.rows.specs.Pieces.{text_of, GoOn, HasSent, HaveReceived}
use Rattle.rows.proofs.rendering.side_by_side.write_arriving.Given as goal

abbrev pub invariant-loop : goal.invariant-loop
invariant-loop g l = record {
  few : l.number ≤ length l.rendering.pieces.items;
  ring : SameProducer l.fn.own.rendered l.own.rendered;
  handed : HasSent l.rendering l.fn.own → HasSent l.rendering l.own;
  inboxes : GoOn l.fn.inboxes l.inboxes;
  app : l.report.app ≡ l.fn.report.app;
  empty : l.report.page ≡ [];
  sent : HaveReceived l.rendering l.inboxes → Sent (g.W.Sink.held l.fn.writer) (g.W.Sink.held l.writer)
      (flat_map (text_of l.rendering) l.rendering.pieces.items)
      (flat_map (text_of l.rendering) (drop l.number l.rendering.pieces.items));
  working : g.W.Sink.has_failed l.writer ≡ false;
}
