-- Rows that are written one after the other.
use Rattle.std.specs.Prelude.{Result, Option}
use Rattle.std.proofs.Common.{◌≡◌, ◌<◌, ◌+◌, ℕ, List, [], ◌∷◌, ◌++◌, length, map, take, drop, slice_index_or, refl, sym, ap, subst}
use Rattle.std.proofs.Common.{◌∙◌, append-nil, append_assoc, arith}
use Rattle.std.proofs.lemmas.List.{length-map, length-take-le, map-append, take_more, take-append-drop}
use Rattle.std.specs.Io.KnownBytes.{Appends}
use Rattle.byte_io.specs.Bytes.{Sent, SentFront, Writes}
use Rattle.byte_io.proofs.Sending.{Sent_two, SentFront_two, SentFront_longer, Writes_then}
use Rattle.model.specs.Application.{Application}
use Rattle.model.specs.Campaign.{Row, totals_of}
use Rattle.report.proofs.Views.{shown-append}
use Rattle.report.specs.Text.{total_text}
use Rattle.report.specs.Views.{report_text, shown_row, shown_rows}
use Rattle.report.specs.declared.view.View.{View}

-- the rows before, a row, and those behind it
module _ (app : Application) (view : View) (number : ℕ) (rows : List Row) (a b c : Option (List ℕ))
    (page mid : List ℕ) (sent : Sent a b (page ++ shown_rows app view number rows) mid) where
  pub sent_more : (others : List Row) (kept : List ℕ) → Sent b c (mid ++ shown_rows app view (number + length rows) others) kept
      → Sent a c (page ++ shown_rows app view number (rows ++ others)) kept
  sent_more others kept second =
      subst (λ t. Sent a c (page ++ t) kept) (sym (shown-append app view number rows others))
      (Sent_two a b c page (shown_rows app view number rows) mid
      (shown_rows app view (number + length rows) others) kept sent second)

  pub front_more : (others behind : List Row) → SentFront b c (mid ++ shown_rows app view (number + length rows) others)
      → SentFront a c (page ++ shown_rows app view number ((rows ++ others) ++ behind))
  front_more others behind second =
      let first =
      SentFront_two a b c page (shown_rows app view number rows) mid
      (shown_rows app view (number + length rows) others) sent second in
      let both : shown_rows app view number ((rows ++ others) ++ behind)
      ≡ (shown_rows app view number rows ++ shown_rows app view (number + length rows) others)
      ++ shown_rows app view (number + length (rows ++ others)) behind =
      shown-append app view number (rows ++ others) behind
      ∙ ap (λ t. t ++ shown_rows app view (number + length (rows ++ others)) behind) (shown-append app view number rows others) in
      subst (λ t. SentFront a c t) (append_assoc page
      (shown_rows app view number rows ++ shown_rows app view (number + length rows) others)
      (shown_rows app view (number + length (rows ++ others)) behind)
      ∙ ap (λ t. page ++ t) (sym both))
      (SentFront_longer a c (page ++ (shown_rows app view number rows ++ shown_rows app view (number + length rows) others))
      (shown_rows app view (number + length (rows ++ others)) behind) first)

-- the text of one row alone
pub one_text : (app : Application) (view : View) (number : ℕ) (row : Row)
    → shown_rows app view number (row ∷ []) ≡ shown_row app view number row
one_text app view number row = append-nil (shown_row app view number row)

-- a beginning of the rows is one of the report
pub rows_of_report : (app : Application) (view : View) (first : ℕ) (rows : List Row) (a b : Option (List ℕ))
    → SentFront a b (shown_rows app view first rows) → SentFront a b (report_text app view first rows)
rows_of_report app view first rows a b front =
    SentFront_longer a b (shown_rows app view first rows) (total_text (totals_of rows)) front

-- the rows, and then the line of their totals
pub rows_and_totals : {T E : Type 0} (app : Application) (view : View)
    (first : ℕ) (rows : List Row) (a b c : Option (List ℕ)) (r : Result T E)
    → Appends a b (shown_rows app view first rows) → Writes b c r (total_text (totals_of rows))
    → Writes a c r (report_text app view first rows)
rows_and_totals app view first rows a b c r first_sent second =
    Writes_then a b c r (report_text app view first rows) (total_text (totals_of rows))
    (record { front = shown_rows app view first rows; whole = refl; appends = first_sent }) second

-- ---- the rows of a part

-- some rows and the next, which are some of all
module _ {X : Type 0} (f : X → Row) (xs : List X) (index : ℕ) (x : X)
    (l : index < length xs) (is : x ≡ slice_index_or xs index x) where
  pub next_rows : map f (take (index + 1) xs) ≡ map f (take index xs) ++ f x ∷ []
  next_rows =
      ap (map f) (take_more xs index x l ∙ ap (λ y. take index xs ++ y ∷ []) (sym is)) ∙ map-append f (take index xs) (x ∷ [])

  pub rows_behind : map f xs ≡ (map f (take index xs) ++ f x ∷ []) ++ map f (drop (index + 1) xs)
  rows_behind =
      ap (map f) (sym (take-append-drop (index + 1) xs)) ∙ map-append f (take (index + 1) xs) (drop (index + 1) xs)
      ∙ ap (λ rows. rows ++ map f (drop (index + 1) xs)) next_rows

  pub many_before : length (map f (take index xs)) ≡ index
  many_before = length-map (take index xs) f ∙ length-take-le index xs (omega arith)

  module _ (app : Application) (view : View) (number : ℕ) (a b c : Option (List ℕ)) (page mid : List ℕ)
      (sent : Sent a b (page ++ shown_rows app view number (map f (take index xs))) mid) where
    its_text : shown_rows app view (number + length (map f (take index xs))) (f x ∷ []) ≡ shown_row app view (number + index) (f x)
    its_text =
        one_text app view (number + length (map f (take index xs))) (f x)
        ∙ ap (λ n. shown_row app view (number + n) (f x)) many_before

    pub row_sent : (kept : List ℕ) → Sent b c (mid ++ shown_row app view (number + index) (f x)) kept
        → Sent a c (page ++ shown_rows app view number (map f (take (index + 1) xs))) kept
    row_sent kept second =
        subst (λ rs. Sent a c (page ++ shown_rows app view number rs) kept) (sym next_rows)
        (sent_more app view number (map f (take index xs)) a b c page mid sent (f x ∷ [])
        kept (subst (λ t. Sent b c (mid ++ t) kept) (sym its_text) second))

    pub row_stopped : SentFront b c (mid ++ shown_row app view (number + index) (f x))
        → SentFront a c (page ++ shown_rows app view number (map f xs))
    row_stopped second =
        subst (λ rs. SentFront a c (page ++ shown_rows app view number rs)) (sym rows_behind)
        (front_more app view number (map f (take index xs)) a b c page mid sent (f x ∷ [])
        (map f (drop (index + 1) xs)) (subst (λ t. SentFront b c (mid ++ t)) (sym its_text) second))
