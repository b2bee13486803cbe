use Rattle.std.proofs.Common.{◌≡◌, ◌<◌, ap, length, subst, sym}
use Rattle.std.specs.Prelude.{slice_get, Some}
use Rattle.rows.specs.declared.campaign_report.Rows.{Rows}
use Rattle.rows.specs.Report.{AreKept}
use Rattle.rows.specs.Texts.{Texts}
use Rattle.rows.proofs.Stretched.{of_part}
use Rattle.rows.proofs.Totalling.{got}
use Rattle.rows.proofs.rendering.row_texts.RowTexts.events.Goals as goal

pub returns-clause-part : goal.returns-clause-part
returns-clause-part c =
    let rows : c.self.inside.rows.now ≡ c.args.self.now.rows = ap (λ (t : Texts). t.rows) c.self.view_is in
    let number = c.args.part_number in
    let part = c.index.result.now in
    let within = subst (λ (rs : Rows). number < length rs.parts.items) (sym rows) c.requires.within in
    subst (λ (rs : Rows). slice_get rs.parts.items number ≡ Some part) rows
    (got c.self.inside.rows.now.parts.items number part within c.index.ensures)

pub returns-clause-events : goal.returns-clause-events
returns-clause-events c =
    let rows : c.self.inside.rows.now ≡ c.args.self.now.rows = ap (λ (t : Texts). t.rows) c.self.view_is in
    let part = c.index.result.now in
    let there = returns-clause-part c in
    let stretches = c.stretches-stretches in
    record {
      app_is = ap (λ (t : Texts). t.app) c.self.view_is;
      base_is = c.self.invariant.0;
      stretches = of_part (λ s. s.now) c.args.self.now.app c.args.self.now.rows c.args.part_number part there
          stretches.result stretches.ensures;
      legs = (subst (λ (rs : Rows). AreKept rs.base part) (sym rows) (c.requires.kept part there)).legs;
    }
