use Rattle.std.proofs.Common.{◌≡◌, ◌∙◌, Some, sym, refl, rules, Err}
use Rattle.model.specs.Application.{Application}
use Rattle.model.specs.declared.totals.Totals.{Totals}
use Rattle.campaign.proofs.Faulty.{campaign_serves_file_fault, same_read, same_write}
use Rattle.campaign.proofs.bytes_to_report.serve_of.Goals as goal

pub returns-in_err-app : goal.returns-in_err-app
returns-in_err-app g c =
    let bytes = c.args.bytes.now in
    let fault = c.in_err-app.field-0.0 in
    let outcome : c.from_residual.result ≡ Err fault = search rules in
    rw outcome
    (campaign_serves_file_fault c.args.request.now.view c.args.request.now.shard (Some bytes) _ _ _ fault
    (bytes, refl, c.in_err-app.ensures.app) (sym c.in_err-app.ensures.read ∙ same_read Application Totals fault)
    (same_write Application Totals fault ∙ c.in_err-app.ensures.write) c.requires)

pub returns : goal.returns
returns g c = c.serve_campaign_of_app.ensures (Some c.args.bytes.now) c.args.bytes.now refl c.in_ok-app.ensures.app
