-- Counts that several seats add to.
use Rattle.std.specs.Prelude.{◌≡◌, ℕ, ◌+◌, ◌-◌, ◌*◌, ◌<◌, ◌≤◌, ◌^◌, max, List, [], ◌∷◌, length, slice_index, slice_set, replicate}
use mathlib.Core.Option.{some}
use lib.ListN.{get_elem?}
use Rattle.atomic_table.specs.Table.{State, Step, Me}
use Rattle.atomic_table.specs.Seated.{TableId}
use Rattle.atomic_table.specs.declared.shared.Seat.{Seat}
use Rattle.deal.specs.Totals.{total}
use Rattle.deal.specs.declared.part.Part.{Part}

abbrev pub part : ℕ → ℕ → List ℕ → List ℕ → Part
part seats parts added seen = record { seats = seats; parts = parts; added = added; seen = seen }

-- nothing of each kind
abbrev pub zeros : List ℕ
zeros = replicate 7 0

abbrev pub no_part : Part
no_part = part 0 0 zeros zeros

abbrev pub first_part : ℕ → Part
first_part seats = part seats seats zeros zeros

abbrev pub less_a_seat : Part → Part
less_a_seat v = part v.seats (v.parts - 1) v.added v.seen

abbrev pub seat_part : Part → Part
seat_part v = part v.seats 1 zeros zeros

-- the sums, and the greater ones, place by place
abbrev pub sums : List ℕ → List ℕ → List ℕ
sums [] ys = ys
sums (x ∷ xs) [] = x ∷ xs
sums (x ∷ xs) (y ∷ ys) = (x + y) ∷ sums xs ys

abbrev pub greater : List ℕ → List ℕ → List ℕ
greater [] ys = ys
greater (x ∷ xs) [] = x ∷ xs
greater (x ∷ xs) (y ∷ ys) = max x y ∷ greater xs ys

abbrev pub both_parts : Part → Part → Part
both_parts v w = part (max v.seats w.seats) (v.parts + w.parts) (sums v.added w.added) (greater v.seen w.seen)

-- A seat adds up to 2 ^ 40 of each kind for each seat that it represents, and has seen no more than the words. One that represents
-- a seat knows how many there are
abbrev pub FitsTally : ℕ → List ℕ → Part → Type 0
FitsTally seats words v =
    (length v.added ≡ 7) × (length v.seen ≡ 7)
    × ((k : ℕ) → (slice_index v.seen k ≤ slice_index words k) × (slice_index v.added k ≤ v.parts * 2 ^ 40))
    × (v.seats ≤ seats) × (0 < v.parts → v.seats ≡ seats)

-- Each word is the sum of what all seats added
abbrev pub IsSummed : ℕ → State (Unit {0}) Part → Type 0
IsSummed seats s =
    (length s.words ≡ 7) × (seats ≤ 65536)
    × ((k : ℕ) → slice_index s.words k ≡ total (λ (v : Part). slice_index v.added k) s.views)
    × (total (λ (v : Part). v.parts) s.views ≡ seats)
    × ((j : ℕ) (v : Part) → get_elem? s.views j ≡ some v → FitsTally seats s.words v)

-- the seat added to the word, and has seen it
abbrev pub Adding : Step (Unit {0}) → Me (Unit {0}) Part → ℕ → Me (Unit {0}) Part → Type 0
Adding s me n me' =
    (me'.0
    ≡ part me.0.seats me.0.parts (slice_set me.0.added s.word (slice_index me.0.added s.word + s.first))
    (slice_set me.0.seen s.word (n + s.first)))
    × (me'.1 ≡ me.1) × (slice_index me.0.seen s.word ≤ n) × (length me.0.seen ≡ 7)

-- The seat saw the word. If it represents every seat, the word is what it added
abbrev pub Seeing : Step (Unit {0}) → Me (Unit {0}) Part → ℕ → Me (Unit {0}) Part → Type 0
Seeing s me n me' =
    (me'.0 ≡ part me.0.seats me.0.parts me.0.added (slice_set me.0.seen s.word n))
    × (me'.1 ≡ me.1) × (slice_index me.0.seen s.word ≤ n) × (length me.0.seen ≡ 7)
    × (0 < me.0.parts → me.0.parts ≤ me.0.seats)
    × (0 < me.0.parts → me.0.parts ≡ me.0.seats → n ≡ slice_index me.0.added s.word)

-- the seat is of this table, and holds no slot
abbrev pub IsSeatOf : TableId → Seat (Unit {0}) Part → Type 0
IsSeatOf z p = (p.table_id ≡ z) × (p.me.1 ≡ []) × (z.words ≡ 7)
