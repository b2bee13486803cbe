-- What is known of the texts of rows.
use Rattle.std.specs.Prelude.{◌≡◌, ℕ, List, slice_get, Some}
use Rattle.byte_io.specs.Buffers.{bytes_of}
use Rattle.model.specs.Application.{Application}
use Rattle.report.specs.Text.{row_text}
use Rattle.rows.specs.declared.campaign_report.Rows.{Rows}
use Rattle.rows.specs.declared.rendering.row_texts.RowText.{RowText}
use Rattle.rows.specs.declared.rows.KeptRow.{KeptRow}
use Rattle.rows.specs.declared.rows.Part.{Part}
use Rattle.rows.specs.Report.{row_of, store_of}

-- what callers see of it: the application, and the rows
pub record Texts : Type 0 where
  pub app : Application
  pub rows : Rows

-- The text is that of the row of this number of this part, as it is under the number 0.
abbrev pub IsTextOf : Application → Rows → (part_number number : ℕ) → (text : List ℕ) → Type 0
IsTextOf app rows part_number number text = (part : Part) (row : KeptRow) → slice_get rows.parts.items part_number ≡ Some part
    → slice_get part.kept number ≡ Some row → text ≡ row_text app 0 (row_of rows.base (store_of part) row)

abbrev pub IsText : Application → Rows → RowText → Type 0
IsText app rows text = IsTextOf app rows text.part text.number (bytes_of text.buffer)
