-- Views of a campaign's report: which rows are written, and what of them.
use Rattle.std.specs.Prelude.{ℕ, ◌+◌, Bool, true, false, not, ◌&&◌, List, [], ◌∷◌, ◌++◌}
use Rattle.model.specs.declared.event.End.{End}
use Rattle.model.specs.Application.{Application}
use Rattle.model.specs.Campaign.{Row, by_end, totals_of}
use Rattle.report.specs.Text.{head_text, row_text, total_text}
use Rattle.report.specs.declared.title.Title.TheVariants as title
use Rattle.report.specs.declared.view.Ends.{Ends}
use Rattle.report.specs.declared.view.View.{View}

-- rows that end in any way
abbrev pub every_end : Ends
every_end = record { pass = true; check = true; misuse = true; ticks = true; steps = true; stuck = true }

-- rows that don't pass
abbrev pub failing : Ends
failing = record every_end { pass = false }

-- The end is among these.
abbrev pub has_end : Ends → End → Bool
has_end ends end = by_end ends.pass ends.check ends.misuse ends.ticks ends.steps ends.stuck end

-- every row, with its events
abbrev pub plain : View
plain = record { ends = every_end; heads = false }

-- a row that ends in this way is written
abbrev pub shows : View → End → Bool
shows view end = has_end view.ends end

-- and its events are, too
abbrev pub shows_events : View → End → Bool
shows_events view end = shows view end && not view.heads

-- the head line of a row, which is the one of this number
abbrev pub row_head : Application → (number : ℕ) → Row → List ℕ
row_head app number row = head_text app (title.Row number row.point row.reached) row.run.steps row.run.ticks row.run.end

-- what is written of a row: nothing, its head line alone, or all of it
abbrev pub text_shown : (shown heads : Bool) → Application → (number : ℕ) → Row → List ℕ
text_shown false heads app number row = []
text_shown true true app number row = row_head app number row
text_shown true false app number row = row_text app number row

abbrev pub shown_row : Application → View → (number : ℕ) → Row → List ℕ
shown_row app view number row = text_shown (shows view row.run.end) view.heads app number row

-- what is written of rows; the first of them has this number
abbrev pub shown_rows : Application → View → (number : ℕ) → List Row → List ℕ
shown_rows app view number [] = []
shown_rows app view number (row ∷ rows) = shown_row app view number row ++ shown_rows app view (number + 1) rows

-- The report of rows; the first of them has this number. The line of the totals counts them all, written or not.
abbrev pub report_text : Application → View → (first : ℕ) → List Row → List ℕ
report_text app view first rows = shown_rows app view first rows ++ total_text (totals_of rows)
