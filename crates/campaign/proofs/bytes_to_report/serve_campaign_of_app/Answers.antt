use Rattle.std.proofs.Common.{◌≡◌, ◌∙◌, ap, false, refl, rules, subst, Err}
use Rattle.byte_io.specs.Bytes.{SentFront}
use Rattle.std.specs.Io.KnownBytes.{Appends}
use Rattle.model.specs.Campaign.{totals_of}
use Rattle.report.specs.Views.{report_text}
use Rattle.campaign.specs.declared.file.ServeFault.TheVariants.{Write}
use Rattle.campaign.specs.Campaigns.{IsCampaignOf, first_number}
use Rattle.rows.specs.Report.{Shown}
use Rattle.campaign.proofs.Faulty.{campaign_serves_rows_fault, serves_front}
use Rattle.campaign.proofs.Seeing.{seen_text, seen_totals}
use Rattle.campaign.proofs.bytes_to_report.serve_campaign_of_app.Goals as goal

pub returns-in_err-report : goal.returns-in_err-report
returns-in_err-report g c input bytes known file =
    let outcome : c.from_residual.result ≡ Err c.in_err-report.field-0.0 = search rules in
    rw outcome
    (campaign_serves_rows_fault c.args.request.now.view c.args.request.now.shard input false
    (g.W.Sink.has_failed c.args.writer.now) (g.W.Sink.held c.args.writer.now) c.in_err-report.field-0.0
    c.args.app.now (bytes, known, file) c.in_err-report.ensures refl c.requires)

pub returns-in_err-write_report_in_threads : goal.returns-in_err-write_report_in_threads
returns-in_err-write_report_in_threads g c input bytes known file =
    let app = c.args.app.now in
    let view = c.args.request.now.view in
    let shown = c.in_ok-report.ensures in
    let first = first_number shown.runs in
    let whole : report_text app c.in_ok-report.report.view c.in_ok-report.report.first c.in_ok-report.report.rows
    ≡ report_text app view first shown.rows =
    ap (λ (r : Shown). report_text app r.view r.first r.rows) shown.shown ∙ seen_text view app first shown.rows in
    let is : IsCampaignOf view c.args.request.now.shard bytes (report_text app view first shown.rows) (totals_of shown.rows) =
    record { app = app; file = file; rows = shown.rows; runs = shown.runs; adds_up = refl; text = refl } in
    let sent =
    subst (SentFront (g.W.Sink.held c.args.writer.now) (g.W.Sink.held c.write_report_in_threads.new.writer))
    whole c.in_err-write_report_in_threads.ensures.text in
    let outcome : c.from_residual-in_err-write_report_in_threads.result ≡ Err Write = search rules in
    rw outcome
    (serves_front _ _ _ _ _ _ _ bytes _ _ known is sent refl c.in_err-write_report_in_threads.ensures.failed)

pub returns : goal.returns
returns g c input bytes known file =
    let app = c.args.app.now in
    let view = c.args.request.now.view in
    let shown = c.in_ok-report.ensures in
    let first = first_number shown.runs in
    let whole : report_text app c.in_ok-report.report.view c.in_ok-report.report.first c.in_ok-report.report.rows
    ≡ report_text app view first shown.rows =
    ap (λ (r : Shown). report_text app r.view r.first r.rows) shown.shown ∙ seen_text view app first shown.rows in
    let counted = c.totals-totals.ensures ∙ ap (λ (r : Shown). totals_of r.rows) shown.shown ∙ seen_totals view shown.rows in
    let is : IsCampaignOf view c.args.request.now.shard bytes (report_text app view first shown.rows) c.totals-totals.result =
    record { app = app; file = file; rows = shown.rows; runs = shown.runs; adds_up = counted; text = refl } in
    let sent =
    subst (Appends (g.W.Sink.held c.args.writer.now) (g.W.Sink.held c.write_report_in_threads.new.writer))
    whole c.in_ok-write_report_in_threads.ensures.text in
    record {
      answers = (bytes, known, report_text app view first shown.rows, is, sent);
      read = refl;
      write = c.in_ok-write_report_in_threads.ensures.failed;
    }
