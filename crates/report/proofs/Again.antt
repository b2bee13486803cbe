-- The text of a row is its number, and what comes behind that.
use Rattle.std.proofs.Common.{◌≡◌, ◌++◌, ℕ, List, [], ◌∷◌, ap, ◌∙◌, append_assoc, refl, arith}
use Rattle.std.specs.Prelude.{codes, decimal}
use Rattle.std.specs.List.{flat_map}
use Rattle.std.proofs.lemmas.Fmt.{decimal_digit}
use Rattle.model.specs.Application.{Application}
use Rattle.model.specs.Campaign.{Row}
use Rattle.report.specs.Again.{number_text, behind_number}
use Rattle.report.specs.Text.{event_text, point_text, reached_text, row_text, verdict_text}

-- texts, one behind the other
abbrev behind : List ℕ → List (List ℕ) → List ℕ
behind first [] = first
behind first (text ∷ texts) = behind (first ++ text) texts

behind_first : (number first : List ℕ) (texts : List (List ℕ)) → behind (number ++ first) texts ≡ number ++ behind first texts
behind_first number first [] = refl
behind_first number first (text ∷ texts) =
    ap (λ t. behind t texts) (append_assoc number first text) ∙ behind_first number (first ++ text) texts

pub row_apart : (app : Application) (number : ℕ) (row : Row) → row_text app number row ≡ number_text number ++ behind_number app row
row_apart app number row =
    behind_first (number_text number) (codes " at ")
    (point_text app row.point ∷ codes ": " ∷ reached_text row.reached ∷ verdict_text app row.run.end ∷ codes " in "
    ∷ decimal row.run.steps ∷ codes " steps, " ∷ decimal row.run.ticks
    ∷ codes " ticks\n" ∷ flat_map (event_text app) row.run.events ∷ [])

-- The number 0 is one digit.
pub first_number : number_text 0 ≡ codes "row 0"
first_number = ap (λ t. codes "row " ++ t) (decimal_digit 0 (omega arith))
