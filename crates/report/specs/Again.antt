-- The text of a row, after its number.
use Rattle.std.specs.Prelude.{ℕ, List, ◌++◌, codes, decimal}
use Rattle.std.specs.List.{flat_map}
use Rattle.model.specs.Application.{Application}
use Rattle.model.specs.Campaign as campaign
use Rattle.report.specs.Text.{event_text, point_text, reached_text, verdict_text}

-- the number of a row, with which its text begins
abbrev pub number_text : (number : ℕ) → List ℕ
number_text number = codes "row " ++ decimal number

-- what comes after it, which is the same whichever number the row has
abbrev pub behind_number : Application → campaign.Row → List ℕ
behind_number app row =
    codes " at " ++ point_text app row.point ++ codes ": " ++ reached_text row.reached
    ++ verdict_text app row.run.end ++ codes " in " ++ decimal row.run.steps ++ codes " steps, "
    ++ decimal row.run.ticks ++ codes " ticks\n" ++ flat_map (event_text app) row.run.events
