-- Which points the campaign of a file has.
use Rattle.std.specs.Prelude.{ℕ, ◌≤◌, ◌<◌, length}
use Rattle.model.specs.Application.{Application}
use Rattle.model.specs.Scripts.{most_points}
use Rattle.model.specs.Campaign.{points_in}
use Rattle.campaign.specs.declared.points.ExpandFault.{ExpandFault}
use Rattle.campaign.specs.declared.points.ExpandFault.TheVariants.{TooManyPoints, Memory}

-- Why the points of a file are not listed, if the base run has this many steps: there are more than there may be (profile), or no
-- memory is left for them.
abbrev pub IsExpandFault : Application → (steps : ℕ) → ExpandFault → Type 0
IsExpandFault app steps TooManyPoints = most_points < length (points_in app steps)
IsExpandFault app steps Memory = (length (points_in app steps) ≤ most_points) × (0 < length (points_in app steps))
