-- The text of what is found among all placements of an application.
use Rattle.std.specs.Prelude.{ℕ, ◌==◌, List, [], ◌∷◌, ◌++◌, codes, decimal, if◌then◌else◌}
use Rattle.std.specs.List.{flat_map}
use Rattle.model.specs.Application.{Application}
use Rattle.model.specs.Placements.{Found}
use Rattle.model.specs.declared.run.Ending.{Ending}
use Rattle.model.specs.declared.plan.Injection.{Injection}
use Rattle.report.specs.Text.{point_text, verdict_text}

-- the injections of a placement
abbrev pub placement_text : Application → List Injection → List ℕ
placement_text app [] = codes "none"
placement_text app (i ∷ is) = point_text app (i ∷ is)

-- how many placements
abbrev pub placements_text : ℕ → List ℕ
placements_text number = decimal number ++ (if number == 1 then codes " placement" else codes " placements")

-- the line of an end
abbrev pub found_text : Application → Found → List ℕ
found_text app f =
    verdict_text app f.least.end ++ codes ": " ++ placements_text f.number ++ codes ", least is "
    ++ placement_text app f.least.injections ++ codes " in " ++ decimal f.least.steps ++ codes " steps, "
    ++ decimal f.least.ticks ++ codes " ticks\n"

-- the last line, if there are this many placements in all
abbrev pub placements_total_text : ℕ → List ℕ
placements_total_text number = codes "total " ++ decimal number ++ codes "\n"

-- the report of this many placements, if this is found among them
abbrev pub exploration_text : Application → (number : ℕ) → List Found → List ℕ
exploration_text app number found = flat_map (found_text app) found ++ placements_total_text number

-- what is found of an end, from its parts
abbrev pub found_of : (number : ℕ) → (least : List Injection) → Ending → Found
found_of number least ending = record {
  number = number;
  least = record { injections = least; steps = ending.steps; ticks = ending.ticks; end = ending.end };
}
