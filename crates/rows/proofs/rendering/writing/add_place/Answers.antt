use Rattle.std.proofs.Common.{◌≡◌, ◌∙◌, take, drop, slice_get, Some, subst, arith}
use Rattle.std.proofs.lemmas.Result.{MatchResult-from_err}
use Rattle.rows.specs.declared.campaign_report.Rows.{Rows}
use Rattle.rows.specs.Report.{row_of, store_of}
use Rattle.rows.proofs.LookedUp.{some_at, some_long}
use Rattle.rows.proofs.Sending.{row_sent, row_stopped}
use Rattle.rows.proofs.Totalling.{place_within, rows_there}
use Rattle.rows.proofs.rendering.writing.add_place.Goals as goal

pub returns-in_err-add_shown_row-clause-text : goal.returns-in_err-add_shown_row-clause-text
returns-in_err-add_shown_row-clause-text g c =
    let rows = c.args.rows.now in
    let place = c.args.place in
    let part = c.events-events.result.part.now in
    let e = c.events-events.ensures in
    let some = take place.count (drop place.first part.kept) in
    let there = subst (λ (rs : Rows). slice_get rs.parts.items place.part ≡ Some part) c.requires.rows e.part in
    let within = place_within rows.parts.items place c.requires.place part there in
    let long = some_long part.kept place.first place.count within in
    let on = c.loop-index-test.true in
    let is = some_at part.kept place.first place.count c.loop-index.index c.at.result.now on c.at.ensures in
    let text = rw (c.loop-index.invariant.app, e.base, c.requires.rows) at c.in_err-add_shown_row.ensures.text in
    let front = row_stopped (row_of rows.base (store_of part)) some c.loop-index.index c.at.result.now (omega arith) is
    c.args.text.now.app rows.view c.args.number _ _ _ c.args.text.now.page _ c.loop-index.invariant.sent text in
    MatchResult-from_err c.from_residual.result _ _ c.from_residual.ensures.0
    (λ y. rw (rows_there rows.base rows.parts.items place part there) front)

pub loop-index-preserved : goal.loop-index-preserved
loop-index-preserved g c =
    let rows = c.args.rows.now in
    let place = c.args.place in
    let part = c.events-events.result.part.now in
    let e = c.events-events.ensures in
    let some = take place.count (drop place.first part.kept) in
    let there = subst (λ (rs : Rows). slice_get rs.parts.items place.part ≡ Some part) c.requires.rows e.part in
    let within = place_within rows.parts.items place c.requires.place part there in
    let long = some_long part.kept place.first place.count within in
    let on = c.loop-index-test.true in
    let is = some_at part.kept place.first place.count c.loop-index.index c.at.result.now on c.at.ensures in
    let text = rw (c.loop-index.invariant.app, e.base, c.requires.rows) at c.in_ok-add_shown_row.ensures.text in
    record {
      app = c.in_ok-add_shown_row.ensures.app ∙ c.loop-index.invariant.app;
      sent = row_sent (row_of rows.base (store_of part)) some c.loop-index.index c.at.result.now (omega arith) is
          c.args.text.now.app rows.view c.args.number _ _ _ c.args.text.now.page _ c.loop-index.invariant.sent _ text;
      working = c.in_ok-add_shown_row.ensures.failed;
    }
