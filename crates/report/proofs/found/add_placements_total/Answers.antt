use Rattle.std.proofs.Common.{◌++◌, sym, subst}
use Rattle.byte_io.specs.Bytes.{Sent}
use Rattle.byte_io.proofs.Sending.{Adds_unable, Sent_longer}
use Rattle.report.specs.Found.{placements_total_text}
use Rattle.report.proofs.found.add_placements_total.Goals as goal

pub returns-in_err-make_room-clause-text : goal.returns-in_err-make_room-clause-text
returns-in_err-make_room-clause-text g c = Adds_unable _ _ _ _ _ _ c.from_residual.ensures.0 c.in_err-make_room.ensures.sent

pub returns : goal.returns
returns g c =
    let text = placements_total_text c.args.number in
    let writer = g.W.Sink.held c.args.writer.now in
    let after = g.W.Sink.held c.make_room.new.writer in
    record {
      text =
          subst (Sent writer after (c.args.page.now ++ text)) (sym c.push_placements_total.ensures)
          (Sent_longer writer after c.args.page.now c.make_room.new.page text c.in_ok-make_room.ensures.sent);
      failed = c.in_ok-make_room.ensures.failed;
    }
