use Rattle.std.specs.List.{flat_map}
use Rattle.std.proofs.Common.{◌++◌, take}
use Rattle.byte_io.proofs.Sending.{Adds_stopped, Adds_two}
use Rattle.report.specs.Text.{event_text, head_text}
use Rattle.report.specs.declared.title.Title.TheVariants as title
use Rattle.rows.specs.Links.{linked_events}
use Rattle.rows.specs.Report.{store_of}
use Rattle.rows.proofs.LegByLeg.{row_parts}
use Rattle.rows.proofs.rendering.writing.add_row.Goals as goal

pub returns-in_err-begin_row-clause-text : goal.returns-in_err-begin_row-clause-text
returns-in_err-begin_row-clause-text g c =
    let app = c.args.text.now.app in
    let f = event_text app in
    let row = c.args.row.now in
    let base = c.args.events.now.base.now in
    let linked = linked_events base.events (store_of c.args.events.now.part.now) row.link in
    let head =
    head_text app (title.Row c.args.number row.point row.reached) row.steps row.ticks row.end in
    let first = rw (c.title_of-title.ensures, c.ending_of.ensures, c.requires.events.base_is) at c.in_err-begin_row.ensures.text in
    rw (row_parts f head (take row.shared base.events) linked)
    (Adds_stopped _ _ _ (head ++ flat_map f (take row.shared base.events)) (flat_map f linked) _ _ c.from_residual.ensures.0 first)

pub returns-clause-text : goal.returns-clause-text
returns-clause-text g c =
    let app = c.args.text.now.app in
    let f = event_text app in
    let row = c.args.row.now in
    let base = c.args.events.now.base.now in
    let linked = linked_events base.events (store_of c.args.events.now.part.now) row.link in
    let head =
    head_text app (title.Row c.args.number row.point row.reached) row.steps row.ticks row.end in
    let first = rw (c.title_of-title.ensures, c.ending_of.ensures, c.requires.events.base_is) at c.in_ok-begin_row.ensures.text in
    let second = rw c.in_ok-begin_row.ensures.app at c.add_linked_events.ensures.text in
    rw (row_parts f head (take row.shared base.events) linked)
    (Adds_two _ _ _ _ (head ++ flat_map f (take row.shared base.events)) _ (flat_map f linked) _ _ first second)
