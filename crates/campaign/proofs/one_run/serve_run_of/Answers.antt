use Rattle.std.proofs.Common.{◌≡◌, ◌∙◌, Some, sym, refl, rules, Err}
use Rattle.model.specs.Application.{Application}
use Rattle.model.specs.declared.event.End.{End}
use Rattle.campaign.proofs.Faulty.{same_read, same_write, serves_file_fault}
use Rattle.campaign.proofs.one_run.serve_run_of.Goals as goal

pub returns-in_err-app : goal.returns-in_err-app
returns-in_err-app g c =
    let bytes = c.args.bytes.now in
    let fault = c.in_err-app.field-0.0 in
    let outcome : c.from_residual.result ≡ Err fault = search rules in
    rw outcome
    (serves_file_fault c.args.asked (Some bytes) _ _ _ fault (bytes, refl, c.in_err-app.ensures.app)
    (sym c.in_err-app.ensures.read ∙ same_read Application End fault)
    (same_write Application End fault ∙ c.in_err-app.ensures.write) c.requires)

pub returns : goal.returns
returns g c = c.serve_run_of_app.ensures (Some c.args.bytes.now) c.args.bytes.now refl c.in_ok-app.ensures.app
