use Rattle.std.proofs.Common.{◌≡◌, ◌++◌, ◌∙◌, ℕ, List, ap, append_assoc}
use Rattle.std.specs.Prelude.{codes, decimal}
use Rattle.report.proofs.Adding.{added}
use Rattle.report.proofs.text.push_totals.Goals as goal

-- Words and a number are.
counted : (start text page words number next : List ℕ) → page ≡ start ++ text → next ≡ (page ++ words) ++ number
    → next ≡ start ++ ((text ++ words) ++ number)
counted start text page words number next so_far put =
    put
    ∙ ap (λ (bytes : List ℕ). bytes ++ number) (ap (λ (bytes : List ℕ). bytes ++ words) so_far ∙ append_assoc start text words)
    ∙ append_assoc start (text ++ words) number

pub returns : goal.returns
returns c =
    let t = c.args.totals.now in
    let start = c.args.page.now in
    let rows = codes "total " ++ decimal t.rows in
    let to_rows = c.push_count.ensures.text ∙ append_assoc start (codes "total ") (decimal t.rows) in
    let pass = (rows ++ codes ": pass ") ++ decimal t.pass in
    let to_pass =
    counted start rows c.push_count.new.page (codes ": pass ") (decimal t.pass)
    c.push_count-2.new.page to_rows c.push_count-2.ensures.text in
    let check = (pass ++ codes ", check ") ++ decimal t.check in
    let to_check =
    counted start pass c.push_count-2.new.page (codes ", check ") (decimal t.check)
    c.push_count-3.new.page to_pass c.push_count-3.ensures.text in
    let misuse = (check ++ codes ", misuse ") ++ decimal t.misuse in
    let to_misuse =
    counted start check c.push_count-3.new.page (codes ", misuse ") (decimal t.misuse)
    c.push_count-4.new.page to_check c.push_count-4.ensures.text in
    let ticks = (misuse ++ codes ", ticks ") ++ decimal t.ticks in
    let to_ticks =
    counted start misuse c.push_count-4.new.page (codes ", ticks ") (decimal t.ticks)
    c.push_count-5.new.page to_misuse c.push_count-5.ensures.text in
    let steps = (ticks ++ codes ", steps ") ++ decimal t.steps in
    let to_steps =
    counted start ticks c.push_count-5.new.page (codes ", steps ") (decimal t.steps)
    c.push_count-6.new.page to_ticks c.push_count-6.ensures.text in
    let stuck = (steps ++ codes ", stuck ") ++ decimal t.stuck in
    let to_stuck =
    counted start steps c.push_count-6.new.page (codes ", stuck ") (decimal t.stuck)
    c.push_count-7.new.page to_steps c.push_count-7.ensures.text in
    let not_reached = (stuck ++ codes ", not reached ") ++ decimal t.not_reached in
    let to_not_reached =
    counted start stuck c.push_count-7.new.page (codes ", not reached ")
    (decimal t.not_reached) c.push_count-8.new.page to_stuck c.push_count-8.ensures.text in
    added start not_reached c.push_count-8.new.page (codes "\n") c.push_text.new.self to_not_reached c.push_text.ensures.text
