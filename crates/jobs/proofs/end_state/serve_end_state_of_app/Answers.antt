use Rattle.std.proofs.Common.{◌≡◌, ◌++◌, Some, false, ap, sym, refl, rules, Err}
use Rattle.model.specs.Run.{Run}
use Rattle.report.specs.Text.{run_text}
use Rattle.report.specs.EndStates.{end_state_text}
use Rattle.campaign.specs.declared.file.ServeFault.TheVariants.{Write}
use Rattle.campaign.proofs.Faulty.{serves_front}
use Rattle.jobs.specs.EndStates.{IsEndStateReportOf}
use Rattle.jobs.proofs.EndStates.{end_state_run_fault}
use Rattle.jobs.proofs.end_state.serve_end_state_of_app.Goals as goal

pub returns-in_err-title : goal.returns-in_err-title
returns-in_err-title g c bytes file =
    let outcome : c.from_residual.result ≡ Err c.in_err-title.field-0.0 = search rules in
    rw outcome
    (end_state_run_fault c.args.asked (Some bytes) false (g.W.Sink.has_failed c.args.writer.now) (g.W.Sink.held c.args.writer.now)
    c.in_err-title.field-0.0 c.args.app.now (bytes, refl, file) c.in_err-title.ensures refl c.requires)

pub returns-in_err-write_run_and_end_state : goal.returns-in_err-write_run_and_end_state
returns-in_err-write_run_and_end_state g c bytes file =
    let app = c.args.app.now in
    let title = c.in_ok-title.title in
    let run = c.in_ok-title.run' in
    let is : IsEndStateReportOf c.args.asked bytes (run_text app title run ++ end_state_text app c.in_ok-title.end_state) run.end =
    record {
      app = app;
      file = file;
      title = title;
      run = run;
      runs = c.in_ok-title.ensures.0;
      ends = refl;
      text = ap (λ s. run_text app title run ++ end_state_text app s) c.in_ok-title.ensures.1;
    } in
    let outcome : c.from_residual-in_err-write_run_and_end_state.result ≡ Err Write = search rules in
    rw outcome
    (serves_front _ _ _ _ _ _ _ bytes _ _ refl is c.in_err-write_run_and_end_state.ensures.text
    refl c.in_err-write_run_and_end_state.ensures.failed)

pub returns : goal.returns
returns g c bytes file =
    let app = c.args.app.now in
    let title = c.in_ok-title.title in
    let run = c.in_ok-title.run' in
    let is : IsEndStateReportOf c.args.asked bytes
    (run_text app title run ++ end_state_text app c.in_ok-title.end_state) c.run.inside.end =
    record {
      app = app;
      file = file;
      title = title;
      run = run;
      runs = c.in_ok-title.ensures.0;
      ends = ap (λ (r : Run). r.end) (sym c.run.view_is);
      text = ap (λ s. run_text app title run ++ end_state_text app s) c.in_ok-title.ensures.1;
    } in
    record {
      answers = (
        bytes,
        refl,
        run_text app title run ++ end_state_text app c.in_ok-title.end_state,
        is,
        c.in_ok-write_run_and_end_state.ensures.text,
      );
      read = refl;
      write = c.in_ok-write_run_and_end_state.ensures.failed;
    }
