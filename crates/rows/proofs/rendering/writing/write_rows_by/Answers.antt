use Rattle.std.specs.List.{flat_map}
use Rattle.std.proofs.Common.{◌≡◌, ap, subst, ◌∙◌}
use Rattle.std.proofs.lemmas.Result.{MatchResult-from_err}
use Rattle.std.specs.Io.KnownBytes.{Appends}
use Rattle.byte_io.specs.Bytes.{SentFront}
use Rattle.report.specs.Views.{shown_rows}
use Rattle.rows.specs.Report.{whole}
use Rattle.rows.specs.Pieces.{text_of}
use Rattle.rows.proofs.Pieces.{text_of_all}
use Rattle.rows.proofs.Sending.{rows_and_totals, rows_of_report}
use Rattle.rows.proofs.rendering.writing.write_rows_by.Goals as goal

pub returns-in_err-write_side_by_side-clause-text :
    goal.returns-in_err-write_side_by_side-clause-text
returns-in_err-write_side_by_side-clause-text g c =
    let rendering = c.args.rendering.now in
    let rows = rendering.rows.now in
    let text : flat_map (text_of rendering) rendering.pieces.items
    ≡ shown_rows rendering.app.now rows.view rows.first (whole rows) =
    text_of_all rows rendering.texts.app rendering.pieces.items c.requires.pieces
    ∙ ap (λ app. shown_rows app rows.view rows.first (whole rows)) c.requires.rendering.app in
    MatchResult-from_err c.from_residual.result _ _ c.from_residual.ensures.0
    (λ y.
    rows_of_report rendering.app.now rows.view rows.first _ _ _
    (subst (SentFront _ _) text c.in_err-write_side_by_side.ensures.text))

pub returns-clause-text : goal.returns-clause-text
returns-clause-text g c =
    let rendering = c.args.rendering.now in
    let rows = rendering.rows.now in
    let text : flat_map (text_of rendering) rendering.pieces.items
    ≡ shown_rows rendering.app.now rows.view rows.first (whole rows) =
    text_of_all rows rendering.texts.app rendering.pieces.items c.requires.pieces
    ∙ ap (λ app. shown_rows app rows.view rows.first (whole rows)) c.requires.rendering.app in
    rows_and_totals rendering.app.now rows.view rows.first _ _ _ _ _
    (subst (Appends _ _) text c.in_ok-write_side_by_side.ensures.text) c.write_totals.ensures.text
