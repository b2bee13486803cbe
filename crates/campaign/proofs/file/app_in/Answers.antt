use Rattle.std.proofs.Common.{◌≡◌, rules, Err}
use Rattle.toml.specs.Errors.{IsMemory}
use Rattle.toml.specs.View.{table_view}
use Rattle.campaign.specs.Faults.{of_loading}
use Rattle.campaign.specs.Serving.{IsDocument}
use Rattle.campaign.proofs.Faulty.{blank_or_some, loading_failed}
use Rattle.campaign.proofs.file.app_in.Goals as goal

pub returns-in-Err-clause-app : goal.returns-in-Err-clause-app
returns-in-Err-clause-app c =
    let memory : IsMemory c.in-Err.error = search rules in
    blank_or_some c.args.bytes.now (c.in-Err.ensures.memory memory)

pub returns-in_err-app-clause-app : goal.returns-in_err-app-clause-app
returns-in_err-app-clause-app c =
    let outcome : c.from_residual.result ≡ Err (of_loading c.in_err-app.field-0.0) = search rules in
    let is : IsDocument c.args.bytes.now (table_view c.in-Ok.document) =
    record { utf8 = c.in-Ok.ensures.ok.0; parsed = c.in-Ok.ensures.ok.1 } in
    rw outcome (loading_failed c.args.bytes.now (table_view c.in-Ok.document)
    c.in_err-app.field-0.0 is c.in_err-app.ensures)
