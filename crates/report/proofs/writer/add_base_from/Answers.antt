use Rattle.std.specs.List.{flat_map}
use Rattle.report.specs.Text.{event_text}
use Rattle.byte_io.proofs.Sending.{Adds_stopped, Adds_two}
use Rattle.report.proofs.writer.add_base_from.Goals as goal

pub returns-in_err-add_text-clause-text : goal.returns-in_err-add_text-clause-text
returns-in_err-add_text-clause-text g c =
    let f = event_text c.args.lines.now in
    let tail = c.tail-tail.result in
    rw (← (rw c.requires.app at c.tail-tail.ensures))
    (Adds_stopped _ _ _ tail.text.now (flat_map f tail.behind.now) _ _ c.from_residual.ensures.0 c.in_err-add_text.ensures.text)

pub returns-clause-text : goal.returns-clause-text
returns-clause-text g c =
    let f = event_text c.args.lines.now in
    let tail = c.tail-tail.result in
    rw (← (rw c.requires.app at c.tail-tail.ensures))
    (Adds_two _ _ _ _ tail.text.now _ (flat_map f tail.behind.now) _ _ c.in_ok-add_text.ensures.text c.add_events.ensures.text)
