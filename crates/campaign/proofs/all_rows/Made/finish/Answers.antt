use Rattle.std.proofs.Common.{ap, sym, subst}
use Rattle.report.specs.declared.view.View.{View}
use Rattle.rows.specs.Report.{IsSound, Shown}
use Rattle.campaign.proofs.Whole.{sound_made, rows_made, rise_made}
use Rattle.campaign.proofs.all_rows.Made.finish.Goals as goal

pub new-report-requires : goal.new-report-requires
new-report-requires c =
    let given = c.requires.made in
    let is = given.3 in
    let made = c.args.self in
    subst (λ (v : View).
    IsSound
    (record {
      view = v;
      first = c.args.first;
      base = c.args.base;
      parts = made.parts;
      places = made.places;
      totals = made.totals;
    }))
    (sym is.same_view) (sound_made given.0 given.1 given.2 made is.is_made c.args.base is.same_base c.args.first is.few)

pub returns-clause-finished : goal.returns-clause-finished
returns-clause-finished c = λ work tally old is.
    let made = c.args.self in
    let report = c.new-report.result.rows in
    record {
      rows = rows_made work tally old made is.is_made c.args.base is.same_base c.args.first is.few report
          (ap (λ (r : Shown). r.rows) c.new-report.ensures);
      back = is.is_made.back;
      rise = rise_made work tally old made is.is_made c.args.base is.same_base c.args.first is.few report
          (ap (λ (r : Shown). r.rows) c.new-report.ensures);
    }
