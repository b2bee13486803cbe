use Rattle.std.proofs.Common.{◌≡◌, ◌-◌, ◌++◌, length, take, drop, arith, sym, ap, subst, ◌∙◌}
use Rattle.std.proofs.lemmas.List.{length-drop, take_all}
use Rattle.byte_io.specs.Bytes.{Adds}
use Rattle.report.proofs.Again.{row_apart, first_number}
use Rattle.report.specs.Again.{number_text, behind_number}
use Rattle.report.specs.Writing.{Report}
use Rattle.report.proofs.writer.ReportWriter.add_row_again.Goals as goal

pub returns-clause-text : goal.returns-clause-text
returns-clause-text g c row is =
    let app = c.args.self.now.app in
    let text = c.args.text.now in
    let all : take (length text - 5) (drop 5 text) ≡ drop 5 text =
    take_all (length text - 5) (drop 5 text) (omega (arith, length-drop 5 text)) in
    let behind : take (length text - 5) (drop 5 text) ≡ behind_number app row =
    all ∙ ap (drop 5) (is ∙ row_apart app 0 row ∙ ap (λ t. t ++ behind_number app row) first_number) in
    let page = ap (λ (r : Report). r.page) c.self.view_is in
    let old = g.W.Sink.held c.args.writer.now in
    let new = g.W.Sink.held c.add_numbered.new.writer in
    let whole = ap (λ t. number_text c.args.number ++ t) behind ∙ sym (row_apart app c.args.number row) in
    subst (λ t. Adds old new c.args.self.now.page c.add_numbered.new.page c.add_numbered.result t) whole
    (subst (λ p.
    Adds old new p c.add_numbered.new.page c.add_numbered.result
    (number_text c.args.number ++ take (length text - 5) (drop 5 text)))
    page
    c.add_numbered.ensures.text)
