-- The count of the blocks handed out, and whose each block is.
use Rattle.std.specs.Prelude.{◌≡◌, ℕ, ◌+◌, ◌-◌, ◌<◌, ◌≤◌, max, List, [], ◌∷◌, ◌++◌, length, slice_index}
use mathlib.Core.Option.{some}
use lib.ListN.{get_elem?}
use Rattle.atomic_table.specs.Table.{State, Step, Me}
use Rattle.atomic_table.specs.Seated.{TableId}
use Rattle.atomic_table.specs.declared.shared.Seat.{Seat}
use Rattle.deal.specs.Totals.{total, range, in_turn}
use Rattle.deal.specs.declared.count.Mark.{Mark}
use Rattle.deal.specs.declared.count.Size.{Size}
use Rattle.deal.specs.declared.count.Ticket.{Ticket}

abbrev pub mark : ℕ → ℕ → ℕ → ℕ → ℕ → List ℕ → Mark
mark all lanes parts counted seen blocks =
    record { all = all; lanes = lanes; parts = parts; counted = counted; seen = seen; blocks = blocks }

abbrev pub no_mark : Mark
no_mark = mark 0 0 0 0 0 []

-- at the start one seat represents all lanes, and has every block, in the order in which they are dealt
abbrev pub first_mark : Size → Mark
first_mark k = mark k.blocks k.lanes k.lanes 0 0 (in_turn k.rising k.blocks)

abbrev pub both_marks : Mark → Mark → Mark
both_marks v w =
    mark (max v.all w.all) (max v.lanes w.lanes) (v.parts + w.parts)
    (v.counted + w.counted) (max v.seen w.seen) (v.blocks ++ w.blocks)

-- the first block, and the others
abbrev pub first_of : List ℕ → List ℕ
first_of [] = []
first_of (x ∷ xs) = x ∷ []

abbrev pub others_of : List ℕ → List ℕ
others_of [] = []
others_of (x ∷ xs) = xs

abbrev pub without_first : Mark → Mark
without_first v = mark v.all v.lanes v.parts v.counted v.seen (others_of v.blocks)

abbrev pub ticket_mark : Mark → Mark
ticket_mark v = mark 0 0 0 0 0 (first_of v.blocks)

abbrev pub less_a_lane : Mark → Mark
less_a_lane v = mark v.all v.lanes (v.parts - 1) v.counted v.seen v.blocks

abbrev pub lane_mark : Mark → Mark
lane_mark v = mark v.all v.lanes 1 0 0 []

-- A seat has counted no more than the blocks that it has, and seen no more than the count. One that represents a lane knows how
-- many blocks and lanes there are, and one that represents none has counted nothing
abbrev pub FitsCount : Size → ℕ → Mark → Type 0
FitsCount k word v =
    (v.counted ≤ length v.blocks) × (v.seen ≤ word)
    × (v.parts ≡ 0 → v.counted ≡ 0)
    × (v.all ≤ k.blocks) × (v.lanes ≤ k.lanes)
    × (0 < v.parts → (v.all ≡ k.blocks) × (v.lanes ≡ k.lanes))

-- The count is the sum of what all seats counted. Each block is in one view, and once
abbrev pub IsCounted : Size → State (Unit {0}) Mark → Type 0
IsCounted k s =
    (0 < length s.words)
    × (slice_index s.words 0 ≡ total (λ (v : Mark). v.counted) s.views)
    × (total (λ (v : Mark). v.parts) s.views ≡ k.lanes)
    × ((h : ℕ → ℕ) → total (λ (v : Mark). total h v.blocks) s.views ≡ total h (range 0 k.blocks))
    × ((j : ℕ) (v : Mark) → get_elem? s.views j ≡ some v → FitsCount k (slice_index s.words 0) v)

-- these are among the numbers below n, each once
abbrev pub IsAmong : ℕ → List ℕ → Type 0
IsAmong n xs = (h : ℕ → ℕ) → total h xs ≤ total h (range 0 n)

-- the seat counted one block more
abbrev pub Counting : Step (Unit {0}) → Me (Unit {0}) Mark → ℕ → Me (Unit {0}) Mark → Type 0
Counting s me n me' =
    (me'.0 ≡ mark me.0.all me.0.lanes me.0.parts (me.0.counted + 1) (n + 1) me.0.blocks) × (me'.1 ≡ me.1)
    × (me.0.seen ≤ n) × (n < me.0.all) × (me.0.counted ≤ n) × IsAmong me.0.all me.0.blocks

-- The seat saw the count. If it represents every lane, the count is its own
abbrev pub Looking : Step (Unit {0}) → Me (Unit {0}) Mark → ℕ → Me (Unit {0}) Mark → Type 0
Looking s me n me' =
    (me'.0 ≡ mark me.0.all me.0.lanes me.0.parts me.0.counted n me.0.blocks) × (me'.1 ≡ me.1)
    × (me.0.seen ≤ n) × (me.0.parts ≡ me.0.lanes → n ≡ me.0.counted)
    × IsAmong me.0.all me.0.blocks × (me.0.parts ≤ me.0.lanes)

-- the seat is of this table, and holds no slot
abbrev pub IsShareOf : TableId → Seat (Unit {0}) Mark → Type 0
IsShareOf z p = (p.table_id ≡ z) × (p.me.1 ≡ []) × (z.words ≡ 1)

-- the ticket is of this table, and its block is its own
abbrev pub IsTicketOf : TableId → Ticket → Type 0
IsTicketOf z t = (t.badge.table_id ≡ z) × (t.badge.views ≡ mark 0 0 0 0 0 (t.number ∷ []) ∷ [])
