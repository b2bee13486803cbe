-- What tallies and their seats represent, and what their calls promise, whatever other seats do at the same time.
use Rattle.std.specs.Prelude.{◌≡◌, ℕ, ◌+◌, ◌<◌, ◌≤◌, ◌==◌, List, length, All, slice_index, if◌then◌else◌}
use Rattle.atomic_table.specs.Seated.{TableId}
use Rattle.deal.specs.Totals.{total}
use Rattle.std.specs.List.{AllByRecursion}
use Rattle.deal.specs.Parts.{zeros}
use Rattle.deal.specs.declared.part.Part.{Part}

-- Which tally it is, and how many seats it has
pub record Sheet : Type 0 where
  pub table : TableId
  pub seats : ℕ

-- What a seat holds: its tally, what it added to each kind, and the most that it has seen of each
pub record Tallied : Type 0 where
  pub sheet : Sheet
  pub added : List ℕ
  pub seen : List ℕ

abbrev pub sheet : TableId → ℕ → Sheet
sheet z seats = record { table = z; seats = seats }

abbrev pub tallied : TableId → Part → Tallied
tallied z v = record { sheet = sheet z v.seats; added = v.added; seen = v.seen }

-- a seat that has added and seen nothing
abbrev pub fresh_seat : Sheet → Tallied
fresh_seat tally = record { sheet = tally; added = zeros; seen = zeros }

-- what was seen of this kind rose by n or more, and of no kind fell
abbrev pub RisesAt : ℕ → ℕ → List ℕ → List ℕ → Type 0
RisesAt kind n old new = (slice_index old kind + n ≤ slice_index new kind) × ((k : ℕ) → slice_index old k ≤ slice_index new k)

-- n more of this kind, and of no other
abbrev pub AddsAt : ℕ → ℕ → List ℕ → List ℕ → Type 0
AddsAt kind n old new = (k : ℕ) → slice_index new k ≡ slice_index old k + (if k == kind then n else 0)

-- the seat added n to a kind, and to no other, and saw the sum that it made
abbrev pub Adds : ℕ → ℕ → Tallied → Tallied → Type 0
Adds kind n old new = (new.sheet ≡ old.sheet) × AddsAt kind n old.added new.added × RisesAt kind n old.seen new.seen

-- of each kind at most
abbrev pub AtMost : List ℕ → List ℕ → Type 0
AtMost xs ys = (k : ℕ) → k < 7 → slice_index xs k ≤ slice_index ys k

-- the seat saw these counts, which are at least what it had seen, and added nothing
abbrev pub Reads : List ℕ → Tallied → Tallied → Type 0
Reads counts old new =
    (new.sheet ≡ old.sheet) × (new.added ≡ old.added) × AtMost old.seen counts
    × ((k : ℕ) → k < 7 → slice_index new.seen k ≡ slice_index counts k)

-- what all seats added of a kind
abbrev pub added_in : ℕ → List Tallied → ℕ
added_in k seats = total (λ (seat : Tallied). slice_index seat.added k) seats

-- no seat saw more
abbrev pub NoneSawMore : List ℕ → List Tallied → Type 0
NoneSawMore counts seats = AllByRecursion (λ (seat : Tallied). AtMost seat.seen counts) seats

-- the seats are of this tally
abbrev pub AreSeatsOf : Sheet → List Tallied → Type 0
AreSeatsOf tally seats = All (λ (seat : Tallied). seat.sheet ≡ tally) seats

-- the same, seat by seat
abbrev pub AreEachOf : Sheet → List Tallied → Type 0
AreEachOf tally seats = AllByRecursion (λ (seat : Tallied). seat.sheet ≡ tally) seats

-- the counts are what the seats added, and no seat saw more
abbrev pub AreCounts : List ℕ → List Tallied → Type 0
AreCounts counts seats =
    (length counts ≡ 7) × ((k : ℕ) → k < 7 → slice_index counts k ≡ added_in k seats) × NoneSawMore counts seats

-- the seat of a tally: it knows how many seats there are, represents none, and has added nothing
abbrev pub IsRest : ℕ → Part → Type 0
IsRest seats v = (v.seats ≡ seats) × (v.parts ≡ 0) × ((k : ℕ) → slice_index v.added k ≡ 0)

-- it took in another seat
abbrev pub HasTaken : Tallied → Part → Part → Type 0
HasTaken seat v w =
    (w.seats ≡ v.seats) × (w.parts ≡ v.parts + 1)
    × ((k : ℕ) → slice_index w.added k ≡ slice_index v.added k + slice_index seat.added k)
    × ((k : ℕ) → (slice_index v.seen k ≤ slice_index w.seen k) × (slice_index seat.seen k ≤ slice_index w.seen k))

-- it took in these seats, and knows how many there are
abbrev pub HasAll : List Tallied → ℕ → Part → Type 0
HasAll seats many v =
    (v.seats ≡ many) × (v.parts ≡ length seats)
    × ((k : ℕ) → slice_index v.added k ≡ added_in k seats)
    × ((counts : List ℕ) → AtMost v.seen counts → NoneSawMore counts seats)
