use Rattle.std.proofs.Common.{◌≡◌, ◌∙◌, ap, sym, subst, arith}
use Rattle.std.specs.Prelude.{slice_get, Some}
use Rattle.rows.specs.declared.campaign_report.Rows.{Rows}
use Rattle.rows.specs.Texts.{Texts}
use Rattle.rows.proofs.Totalling.{got, parts_kept}
use Rattle.rows.proofs.rendering.row_texts.RowTexts.add_parts.Goals as goal

pub add_part-requires-clause-part : goal.add_part-requires-clause-part
add_part-requires-clause-part c =
    let i = c.loop-number.invariant in
    let rows = c.self.inside.rows.now in
    let number = c.loop-number.number in
    let part = c.index.result.now in
    let there =
    got rows.parts.items number part
    (omega (arith, c.loop-number-test.true, c.len-number-end.ensures, rows.parts.ok.0)) c.index.ensures in
    let same = i.rows ∙ sym (ap (λ (t : Texts). t.rows) (c.begin_part.ensures ∙ i.same)) in
    subst (λ (rs : Rows). slice_get rs.parts.items number ≡ Some part) same there

pub add_part-requires-clause-kept : goal.add_part-requires-clause-kept
add_part-requires-clause-kept c =
    let i = c.loop-number.invariant in
    let part = c.index.result.now in
    let rows = c.begin_part.new.self.rows in
    let same = sym (ap (λ (t : Texts). t.rows) (c.begin_part.ensures ∙ i.same)) in
    parts_kept rows.base rows.parts.items c.loop-number.number part
    (add_part-requires-clause-part c) (rw same at c.requires.sound.kept)

pub add_part-requires-clause-app : goal.add_part-requires-clause-app
add_part-requires-clause-app c =
    let i = c.loop-number.invariant in
    ap (λ (t : Texts). t.app) (c.begin_part.ensures ∙ i.same) ∙ c.requires.app ∙ sym i.app
