-- How many placements are found in all.
use Rattle.std.specs.Prelude.{ℕ, List, sum_by}
use Rattle.model.specs.Placements.{Found}

abbrev pub placements_in : List Found → ℕ
placements_in found = sum_by (λ (f : Found). f.number) found
