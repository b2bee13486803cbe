-- The ends of a campaign's totals add up to its rows.
use Rattle.std.proofs.Common.{◌≡◌, ◌≤◌, ◌+◌, suc, List, [], ◌∷◌, cond, length, refl, arith, ◌∙◌}
use Rattle.model.specs.declared.event.End.{End}
use Rattle.model.specs.declared.event.End.TheVariants.{Pass, Check, HandlerCheck, Misuse, Ticks, Steps, Stuck}
use Rattle.model.specs.declared.totals.Totals.{Totals}
use Rattle.model.specs.Campaign.{Row, ended, totals_of, is_pass, is_check, is_misuse, is_ticks, is_steps, is_stuck_end}
use Rattle.model.proofs.Counting.{passed_few}

-- A row more is counted by one end.
one_end : (end : End) (row : Row) (a b c d e f : List Row)
    → length (cond (is_pass end) (row ∷ a) a) + length (cond (is_check end) (row ∷ b) b) + length (cond (is_misuse end) (row ∷ c) c)
    + length (cond (is_ticks end) (row ∷ d) d) + length (cond (is_steps end) (row ∷ e) e)
    + length (cond (is_stuck_end end) (row ∷ f) f)
    ≡ suc (length a + length b + length c + length d + length e + length f)
one_end Pass row a b c d e f = omega arith
one_end (Check task op_index) row a b c d e f = omega arith
one_end (HandlerCheck handler op_index) row a b c d e f = omega arith
one_end (Misuse task op_index kind) row a b c d e f = omega arith
one_end Ticks row a b c d e f = omega arith
one_end Steps row a b c d e f = omega arith
one_end Stuck row a b c d e f = omega arith

sum_of_ends : (rows : List Row)
    → ended is_pass rows + ended is_check rows + ended is_misuse rows
    + ended is_ticks rows + ended is_steps rows + ended is_stuck_end rows
    ≡ length rows
sum_of_ends [] = refl
sum_of_ends (row ∷ rows) = one_end row.run.end row _ _ _ _ _ _ ∙ omega (arith, sum_of_ends rows)

pub ends_sum : (rows : List Row) (t : Totals) → t ≡ totals_of rows
    → t.pass + t.check + t.misuse + t.ticks + t.steps + t.stuck ≡ t.rows
ends_sum rows t is = rw is (sum_of_ends rows)

pub few_unreached : (rows : List Row) (t : Totals) → t ≡ totals_of rows → t.not_reached ≤ t.rows
few_unreached rows t is = rw is (passed_few _ rows)
