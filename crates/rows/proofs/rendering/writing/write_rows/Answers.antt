use Rattle.std.proofs.Common.{◌≡◌, ◌+◌, ap₂, arith, subst}
use Rattle.std.proofs.lemmas.Result.{MatchResult-from_err}
use Rattle.std.specs.Io.KnownBytes.{Appends}
use Rattle.byte_io.specs.Bytes.{SentFront}
use Rattle.report.specs.Views.{shown_rows}
use Rattle.rows.proofs.Sending.{rows_and_totals, rows_of_report}
use Rattle.rows.proofs.rendering.writing.write_rows.Goals as goal

pub returns-in_err-write_piece-clause-text : goal.returns-in_err-write_piece-clause-text
returns-in_err-write_piece-clause-text g c =
    let app = c.args.app.now in
    let rows = c.args.rows.now in
    let from : rows.first + c.all.result.from.number ≡ rows.first = omega (arith, c.all.ensures.from) in
    let text = ap₂ (shown_rows app rows.view) from c.all.ensures.rows in
    MatchResult-from_err c.from_residual.result _ _ c.from_residual.ensures.0
    (λ y.
    rows_of_report app rows.view rows.first _ _ _
    (subst (SentFront _ _) text (rw c.new-text.ensures.app at c.in_err-write_piece.ensures.text)))

pub returns-clause-text : goal.returns-clause-text
returns-clause-text g c =
    let app = c.args.app.now in
    let rows = c.args.rows.now in
    let from : rows.first + c.all.result.from.number ≡ rows.first = omega (arith, c.all.ensures.from) in
    let text = ap₂ (shown_rows app rows.view) from c.all.ensures.rows in
    rows_and_totals app rows.view rows.first _ _ _ _ _
    (subst (Appends _ _) text (rw c.new-text.ensures.app at c.in_ok-write_piece.ensures.text)) c.write_totals.ensures.text
