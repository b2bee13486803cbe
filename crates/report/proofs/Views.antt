-- What is written of rows in a view.
use Rattle.std.proofs.Common.{◌≡◌, ℕ, ◌+◌, Bool, true, false, List, [], ◌∷◌, ◌++◌, length, refl, sym, ap, ap₂, ◌∙◌, append_assoc}
use Rattle.std.proofs.Common.{arith}
use Rattle.model.specs.Application.{Application}
use Rattle.model.specs.Campaign.{Row, totals_of}
use Rattle.model.specs.declared.event.End.{End}
use Rattle.model.specs.declared.event.End.TheVariants.{Pass, Check, HandlerCheck, Misuse, Ticks, Steps, Stuck}
use Rattle.report.specs.Text.{rows_text, total_text, campaign_text}
use Rattle.report.specs.Views.{plain, report_text, shown_row, shown_rows, shows, text_shown}
use Rattle.report.specs.declared.view.View.{View}

-- ---- the plain view

shows_each : (end : End) → shows plain end ≡ true
shows_each Pass = refl
shows_each (Check task op_index) = refl
shows_each (HandlerCheck handler op_index) = refl
shows_each (Misuse task op_index kind) = refl
shows_each Ticks = refl
shows_each Steps = refl
shows_each Stuck = refl

pub plain_rows : (app : Application) (number : ℕ) (rows : List Row) → shown_rows app plain number rows ≡ rows_text app number rows
plain_rows app number [] = refl
plain_rows app number (row ∷ rows) =
    ap₂ (λ (t u : List ℕ). t ++ u) (ap (λ (s : Bool). text_shown s false app number row) (shows_each row.run.end))
    (plain_rows app (number + 1) rows)

pub plain_text : (app : Application) (rows : List Row) → report_text app plain 0 rows ≡ campaign_text app rows
plain_text app rows = ap (λ (t : List ℕ). t ++ total_text (totals_of rows)) (plain_rows app 0 rows)

-- ---- rows, and others behind them

pub shown-append : (app : Application) (view : View) (number : ℕ) (rows others : List Row)
    → shown_rows app view number (rows ++ others)
    ≡ shown_rows app view number rows ++ shown_rows app view (number + length rows) others
shown-append app view number [] others =
    ap (λ (n : ℕ). shown_rows app view n others) (let none : number ≡ number + length {A = Row} [] = omega arith in none)
shown-append app view number (row ∷ rows) others =
    let next : number + 1 + length rows ≡ number + length (row ∷ rows) = omega arith in
    ap (λ (t : List ℕ). shown_row app view number row ++ t) (shown-append app view (number + 1) rows others
    ∙ ap (λ (n : ℕ). shown_rows app view (number + 1) rows ++ shown_rows app view n others) next)
    ∙ sym (append_assoc (shown_row app view number row) (shown_rows app view (number + 1) rows)
    (shown_rows app view (number + length (row ∷ rows)) others))
