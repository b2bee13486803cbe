use Rattle.std.proofs.Common.{◌≡◌, ◌∙◌, List, Some, false, ap, option_map, refl, rules, Err}
use Rattle.std.specs.List.{list_all}
use Rattle.model.specs.Campaign.{is_pass}
use Rattle.model.specs.Placements.{Found}
use Rattle.report.specs.Found.{exploration_text}
use Rattle.explorer.specs.Totals.{placements_in}
use Rattle.campaign.specs.declared.file.ServeFault.TheVariants.{Write}
use Rattle.campaign.proofs.Faulty.{serves_front}
use Rattle.jobs.proofs.Explorations.{exploration_fault, report_of}
use Rattle.jobs.proofs.exploring.serve_exploration_of_app.Goals as goal

pub returns-in_err-found : goal.returns-in_err-found
returns-in_err-found g c bytes file =
    let outcome : c.from_residual.result ≡ Err c.in_err-found.field-0.0 = search rules in
    rw outcome
    (exploration_fault c.args.most (option_map (λ list. list.now) c.args.list) (Some bytes) false
    (g.W.Sink.has_failed c.args.writer.now) (g.W.Sink.held c.args.writer.now)
    c.in_err-found.field-0.0 c.args.app.now (bytes, refl, file) c.in_err-found.ensures.found refl c.requires)

pub returns-in_err-write_found : goal.returns-in_err-write_found
returns-in_err-write_found g c bytes file =
    let found = c.in_ok-found.found.items in
    let is = report_of c.args.most (option_map (λ list. list.now) c.args.list) bytes c.args.app.now found file
    c.in_ok-found.ensures.found in
    let same : c.as_slice.result.now ≡ found = search rules in
    let outcome : c.from_residual-in_err-write_found.result ≡ Err Write = search rules in
    rw outcome
    (serves_front _ _ _ _ _ _ _ bytes _ _ refl is (rw same at c.in_err-write_found.ensures.text)
    refl c.in_err-write_found.ensures.failed)

pub returns : goal.returns
returns g c bytes file =
    let found = c.in_ok-found.found.items in
    let list = option_map (λ list. list.now) c.args.list in
    let same : c.as_slice.result.now ≡ found = search rules in
    let same-2 : c.as_slice-2.result.now ≡ found = search rules in
    let judged = c.all_pass.ensures ∙ ap (λ (fs : List Found). list_all (λ (f : Found). is_pass f.least.end) fs) same-2 in
    let is = report_of c.args.most list bytes c.args.app.now found file c.in_ok-found.ensures.found in
    let text = exploration_text c.args.app.now (placements_in found) found in
    record {
      answers = (bytes, refl, text, rw judged is, rw same at c.in_ok-write_found.ensures.text);
      read = refl;
      write = c.in_ok-write_found.ensures.failed;
    }
