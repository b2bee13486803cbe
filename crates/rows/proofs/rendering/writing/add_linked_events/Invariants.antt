use Rattle.std.proofs.Common.{◌≡◌, ◌++◌, false}
use Rattle.std.specs.List.{flat_map}
use Rattle.byte_io.specs.Bytes.{Sent}
use Rattle.report.specs.Text.{event_text}
use Rattle.rows.specs.Links.{linked_events, height, IsLink}
use Rattle.rows.specs.Report.{store_of}
use Rattle.rows.proofs.rendering.writing.add_linked_events.Given as goal

-- of the text of all, that of the events that follow the link is left
abbrev pub invariant-legs : goal.invariant-legs
invariant-legs g l = record {
  app : l.text.app ≡ l.fn.text.app;
  there : IsLink l.events.base.now.events (store_of l.events.part.now) l.link;
  sent : Sent (g.W.Sink.held l.fn.writer) (g.W.Sink.held l.writer)
      (l.fn.text.page
      ++ flat_map (event_text l.fn.text.app) (linked_events l.events.base.now.events (store_of l.events.part.now) l.fn.first))
      (l.text.page
      ++ flat_map (event_text l.fn.text.app) (linked_events l.events.base.now.events (store_of l.events.part.now) l.link));
  working : g.W.Sink.has_failed l.writer ≡ false;
}

abbrev pub decreases-legs : goal.decreases-legs
decreases-legs g l = height l.link
