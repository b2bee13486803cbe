use Rattle.std.proofs.Common.{◌-◌, take, drop}
use Rattle.std.specs.List.{flat_map}
use Rattle.report.specs.Text.{event_text}
use Rattle.byte_io.proofs.Sending.{Adds_stopped, Adds_two}
use Rattle.report.proofs.Rendering.{first_after}
use Rattle.report.proofs.writer.add_shared.Goals as goal

pub returns-in_err-add_text-clause-text : goal.returns-in_err-add_text-clause-text
returns-in_err-add_text-clause-text g c =
    let f = event_text c.args.lines.now in
    let count = c.front-count.result.1 in
    let events = c.args.base.now.events in
    let text = rw c.requires.app at c.front-count.ensures.text in
    rw (first_after f count c.args.shared events c.front-count.ensures.within)
    (Adds_stopped _ _ _ (flat_map f (take count events))
    (flat_map f (take (c.args.shared - count) (drop count events))) _ _ c.from_residual.ensures.0
    (rw text at c.in_err-add_text.ensures.text))

pub returns-clause-text : goal.returns-clause-text
returns-clause-text g c =
    let f = event_text c.args.lines.now in
    let count = c.front-count.result.1 in
    let events = c.args.base.now.events in
    let text = rw c.requires.app at c.front-count.ensures.text in
    rw (first_after f count c.args.shared events c.front-count.ensures.within)
    (Adds_two _ _ _ _ (flat_map f (take count events)) _ (flat_map f (take (c.args.shared - count) (drop count events))) _ _
    (rw text at c.in_ok-add_text.ensures.text) (rw c.events.ensures at c.add_events.ensures.text))
