use Rattle.std.proofs.Common.{◌≡◌, ◌∙◌, Bool, sym, subst, rules, Err}
use Rattle.model.specs.Application.{Application}
use Rattle.model.specs.declared.totals.Totals.{Totals}
use Rattle.campaign.specs.Campaigns.{ServesCampaign}
use Rattle.campaign.specs.Serving.{streams_of}
use Rattle.campaign.proofs.Faulty.{campaign_serves_file_fault, same_read, same_write}
use Rattle.campaign.proofs.bytes_to_report.serve.Goals as goal

pub returns-in_err-app : goal.returns-in_err-app
returns-in_err-app g c =
    let fault = c.in_err-app.field-0.0 in
    let outcome : c.from_residual.result ≡ Err fault = search rules in
    rw outcome
    (campaign_serves_file_fault c.args.view c.args.shard (g.R.Source.left c.args.reader.now) _ _ _
    fault c.in_err-app.ensures.app (c.in_err-app.ensures.read ∙ same_read Application Totals fault)
    (same_write Application Totals fault ∙ c.in_err-app.ensures.write) c.requires.writes)

pub returns : goal.returns
returns g c =
    let file = c.in_ok-app.ensures.app in
    let input = g.R.Source.left c.args.reader.now in
    subst (λ (failed : Bool).
    ServesCampaign c.args.view c.args.shard (streams_of input failed (g.W.Sink.held c.args.writer.now)
    (g.W.Sink.held c.serve_campaign_of_app.new.writer) (g.W.Sink.has_failed c.serve_campaign_of_app.new.writer))
    c.serve_campaign_of_app.result)
    (sym c.in_ok-app.ensures.read) (c.serve_campaign_of_app.ensures input file.0 file.1 file.2)
