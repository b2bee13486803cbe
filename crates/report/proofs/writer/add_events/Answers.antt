use Rattle.std.proofs.Common.{◌∙◌}
use Rattle.std.specs.List.{flat_map}
use Rattle.report.specs.Text.{event_text}
use Rattle.byte_io.proofs.Sending.{Adds_failed}
use Rattle.report.proofs.Adding.{Sent_some, SentFront_some}
use Rattle.report.proofs.writer.add_events.Goals as goal

pub returns-in_err-make_room-clause-text : goal.returns-in_err-make_room-clause-text
returns-in_err-make_room-clause-text g c =
    Adds_failed _ _ c.args.page.now _ (flat_map (event_text c.args.lines.now) c.args.events.now) _ c.from_residual.ensures.0
    (SentFront_some (event_text c.args.lines.now) _ _ _ _ c.loop-rest.page
    c.loop-rest.rest.now c.loop-rest.invariant.sent c.in_err-make_room.ensures.sent)

pub loop-rest-preserved : goal.loop-rest-preserved
loop-rest-preserved g c =
    record {
      app = c.push_all.ensures.app ∙ c.loop-rest.invariant.app;
      sent =
          Sent_some (event_text c.args.lines.now) _ _ _ _ c.loop-rest.page _ _ c.loop-rest.rest.now
          c.split_at.result.0.now c.split_at.result.1.now c.split_at.ensures.by_index.0
          c.loop-rest.invariant.sent c.in_ok-make_room.ensures.sent (rw c.loop-rest.invariant.app at c.push_all.ensures.text);
      working = c.in_ok-make_room.ensures.failed;
    }
