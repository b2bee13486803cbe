use Rattle.std.proofs.Common.{◌≡◌, false, ap, sym, refl, rules, Err}
use Rattle.model.specs.Run.{Run}
use Rattle.report.specs.Text.{run_text}
use Rattle.campaign.specs.declared.file.ServeFault.TheVariants.{Write}
use Rattle.campaign.specs.OneRun.{IsReportOf}
use Rattle.campaign.proofs.Faulty.{serves_front, serves_run_fault}
use Rattle.campaign.proofs.one_run.serve_run_of_app.Goals as goal

pub returns-in_err-title : goal.returns-in_err-title
returns-in_err-title g c input bytes known file =
    let outcome : c.from_residual.result ≡ Err c.in_err-title.field-0.0 = search rules in
    rw outcome
    (serves_run_fault c.args.asked input false (g.W.Sink.has_failed c.args.writer.now) (g.W.Sink.held c.args.writer.now)
    c.in_err-title.field-0.0 c.args.app.now (bytes, known, file) c.in_err-title.ensures refl c.requires)

pub returns-in_err-write_run : goal.returns-in_err-write_run
returns-in_err-write_run g c input bytes known file =
    let app = c.args.app.now in
    let title = c.in_ok-title.title in
    let run = c.in_ok-title.run' in
    let is : IsReportOf c.args.asked bytes (run_text app title run) run.end =
    record { app = app; file = file; title = title; run = run; runs = c.in_ok-title.ensures; ends = refl; text = refl } in
    let outcome : c.from_residual-in_err-write_run.result ≡ Err Write = search rules in
    rw outcome
    (serves_front _ _ _ _ _ _ _ bytes _ _ known is c.in_err-write_run.ensures.text refl c.in_err-write_run.ensures.failed)

pub returns : goal.returns
returns g c input bytes known file =
    let app = c.args.app.now in
    let title = c.in_ok-title.title in
    let run = c.in_ok-title.run' in
    let is : IsReportOf c.args.asked bytes (run_text app title run) c.run.inside.end =
    record {
      app = app;
      file = file;
      title = title;
      run = run;
      runs = c.in_ok-title.ensures;
      ends = ap (λ (r : Run). r.end) (sym c.run.view_is);
      text = refl;
    } in
    record {
      answers = (bytes, known, run_text app title run, is, c.in_ok-write_run.ensures.text);
      read = refl;
      write = c.in_ok-write_run.ensures.failed;
    }
