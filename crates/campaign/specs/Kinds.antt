-- The kinds of rows that a tally counts: the six ends, in their order, and the points that are not reached.
use Rattle.std.specs.Prelude.{◌≡◌, ◌<◌, ℕ, ◌+◌, List, [], ◌∷◌, slice_index}
use Rattle.model.specs.declared.event.End.{End}
use Rattle.model.specs.declared.totals.Totals.{Totals}
use Rattle.model.specs.Campaign.{Row, by_end, totals_of}
use Rattle.deal.specs.Tallies.{Tallied, added_in}

-- which kind an end is
abbrev pub kind_of : End → ℕ
kind_of end = by_end 0 1 2 3 4 5 end

-- how many there are of each kind
abbrev pub kinds_of : Totals → List ℕ
kinds_of totals = totals.pass ∷ totals.check ∷ totals.misuse ∷ totals.ticks ∷ totals.steps ∷ totals.stuck ∷ totals.not_reached ∷ []

-- how many of these rows are of a kind
abbrev pub kind_in : List Row → ℕ → ℕ
kind_in rows kind = slice_index (kinds_of (totals_of rows)) kind

-- The seats together added the totals, kind by kind.
abbrev pub RiseBy : Totals → (old new : List Tallied) → Type 0
RiseBy totals old new = (kind : ℕ) → kind < 7 → added_in kind new ≡ added_in kind old + slice_index (kinds_of totals) kind
