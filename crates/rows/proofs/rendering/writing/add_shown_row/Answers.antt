use Rattle.std.proofs.Common.{◌∙◌, ℕ, Bool, List, ap₂, subst, sym}
use Rattle.byte_io.specs.Bytes.{Adds}
use Rattle.report.specs.Views.{text_shown}
use Rattle.rows.specs.Events.{row_from}
use Rattle.rows.specs.Report.{store_of}
use Rattle.rows.proofs.rendering.writing.add_shown_row.Goals as goal

pub returns-then-view-clause-text : goal.returns-then-view-clause-text
returns-then-view-clause-text g c =
    let events = c.args.events.now in
    let row = row_from events c.args.row.now.kept.now in
    let shown = sym c.shows.ensures ∙ c.if-not-shows.false in
    let text = ap₂ (λ (s h : Bool). text_shown s h c.args.text.now.app c.args.number row) shown c.if-view.true in
    subst (λ (t : List ℕ).
    Adds (g.W.Sink.held c.args.writer.now) (g.W.Sink.held c.add_row_head.new.writer)
    c.args.text.now.page c.add_row_head.new.text.page c.add_row_head.result t)
    (sym text) (c.add_row_head.ensures.text events.base.now (store_of events.part.now))
