use Rattle.std.proofs.Common.{◌≡◌, ◌∙◌, Bool, Some, option_map, sym, refl, rules, Err}
use Rattle.model.specs.Application.{Application}
use Rattle.campaign.proofs.Faulty.{same_read, same_write}
use Rattle.jobs.proofs.Explorations.{exploration_file_fault}
use Rattle.jobs.proofs.exploring.serve_exploration.Goals as goal

pub returns-in_err-app : goal.returns-in_err-app
returns-in_err-app g c =
    let bytes = c.args.bytes.now in
    let fault = c.in_err-app.field-0.0 in
    let outcome : c.from_residual.result ≡ Err fault = search rules in
    rw outcome
    (exploration_file_fault c.args.most (option_map (λ list. list.now) c.args.list) (Some bytes) _ _ _ fault
    (bytes, refl, c.in_err-app.ensures.app) (sym c.in_err-app.ensures.read ∙ same_read Application Bool fault)
    (same_write Application Bool fault ∙ c.in_err-app.ensures.write) c.requires)

pub returns : goal.returns
returns g c = c.serve_exploration_of_app.ensures c.args.bytes.now c.in_ok-app.ensures.app
