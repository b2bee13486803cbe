-- The text of rows, in parts, and what a report of rows sends.
use Rattle.std.proofs.Common.{◌≡◌, ℕ, ◌+◌, List, [], ◌∷◌, ◌++◌, length, Option, ap, ◌∙◌, append_assoc, append-nil, arith, sym}
use Rattle.byte_io.specs.Bytes.{Sent, SentFront}
use Rattle.byte_io.proofs.Sending.{Sent_two, SentFront_two, SentFront_longer}
use Rattle.model.specs.Application.{Application}
use Rattle.model.specs.Campaign.{Row, totals_of}
use Rattle.report.specs.Text.{row_text, rows_text, total_text, campaign_text}

-- Some rows, and others after them.
pub rows_text-append : (app : Application) (number : ℕ) (rows others : List Row)
    → rows_text app number (rows ++ others) ≡ rows_text app number rows ++ rows_text app (number + length rows) others
rows_text-append app number [] others =
    ap (λ (n : ℕ). rows_text app n others) (let none : number ≡ number + length {A = Row} [] = omega arith in none)
rows_text-append app number (row ∷ rows) others =
    let next : number + 1 + length rows ≡ number + length (row ∷ rows) = omega arith in
    ap (λ t. row_text app number row ++ t)
    (rows_text-append app (number + 1) rows others ∙ ap (λ n. rows_text app (number + 1) rows ++ rows_text app n others) next)
    ∙ sym (append_assoc (row_text app number row) (rows_text app (number + 1) rows)
    (rows_text app (number + length (row ∷ rows)) others))

from_none : (rows : List Row) → 0 + length rows ≡ length rows
from_none rows = omega arith

-- Some rows, and one more.
pub rows_text-more : (app : Application) (number : ℕ) (rows : List Row) (row : Row)
    → rows_text app number (rows ++ row ∷ []) ≡ rows_text app number rows ++ row_text app (number + length rows) row
rows_text-more app number rows row =
    rows_text-append app number rows (row ∷ [])
    ∙ ap (λ t. rows_text app number rows ++ t) (append-nil (row_text app (number + length rows) row))

module _ (app : Application) (rows : List Row) (a b : Option (List ℕ)) where
  -- The report of the rows was added, and so is that of one more.
  pub Sent_row : (row : Row) (c : Option (List ℕ)) (page kept : List ℕ) → Sent a b (rows_text app 0 rows) page
      → Sent b c (page ++ row_text app (length rows) row) kept → Sent a c (rows_text app 0 (rows ++ row ∷ [])) kept
  Sent_row row c page kept first second =
      rw (rows_text-more app 0 rows row, from_none rows)
      (Sent_two a b c [] (rows_text app 0 rows) page (row_text app (length rows) row) kept first second)

  -- It was added in part.
  pub SentFront_row : (row : Row) (c : Option (List ℕ)) (page : List ℕ) → Sent a b (rows_text app 0 rows) page
      → SentFront b c (page ++ row_text app (length rows) row) → SentFront a c (rows_text app 0 (rows ++ row ∷ []))
  SentFront_row row c page first second =
      rw (rows_text-more app 0 rows row, from_none rows)
      (SentFront_two a b c [] (rows_text app 0 rows) page (row_text app (length rows) row) first second)

  -- The report of the rows was added, and so is the line of their totals.
  pub Sent_totals : (c : Option (List ℕ)) (page kept : List ℕ) → Sent a b (rows_text app 0 rows) page
      → Sent b c (page ++ total_text (totals_of rows)) kept → Sent a c (campaign_text app rows) kept
  Sent_totals c page kept first second =
      Sent_two a b c [] (rows_text app 0 rows) page (total_text (totals_of rows)) kept first second

  -- A beginning of the report of some rows is one of the report of a campaign that begins with them.
  pub SentFront_campaign : (others : List Row) → SentFront a b (rows_text app 0 rows)
      → SentFront a b (campaign_text app (rows ++ others))
  SentFront_campaign others front =
      rw (
        rows_text-append app 0 rows others,
        from_none rows,
        append_assoc (rows_text app 0 rows) (rows_text app (length rows) others) (total_text (totals_of (rows ++ others))),
      )
      (SentFront_longer a b (rows_text app 0 rows)
      (rows_text app (length rows) others ++ total_text (totals_of (rows ++ others))) front)
