-- What a lane knows between its calls.
use Rattle.std.specs.Prelude.{◌≡◌, ℕ, ◌+◌, ◌<◌, ◌≤◌, ◌^◌, List, [], ◌++◌, length}
use Rattle.atomic_table.specs.Seated.{TableId}
use Rattle.atomic_table.specs.declared.shared.Seat.{Seat}
use Rattle.deal.specs.Totals.{total, in_turn}
use Rattle.std.specs.List.{AllByRecursion}
use Rattle.deal.specs.Marks.{mark, IsAmong, IsTicketOf, IsShareOf}
use Rattle.deal.specs.Logs.{HasTicketsOf}
use Rattle.deal.specs.Dealing.{IsHand}
use Rattle.deal.specs.Divisions.{AreStarts}
use Rattle.deal.specs.declared.hand.Hand.{Hand}
use Rattle.deal.specs.Sharing.{Game, Sight}
use Rattle.deal.specs.declared.count.Mark.{Mark}
use Rattle.deal.specs.declared.count.Size.{Size}
use Rattle.deal.specs.declared.count.Ticket.{Ticket}
use Rattle.deal.specs.declared.log.Log.{Log}

-- a lane may take from these deques
abbrev pub MayTake : TableId → Log → List Log → Type 0
MayTake z own others = (0 < own.parts) × HasTicketsOf z own × AllByRecursion (HasTicketsOf z) others

-- how much of h the passes have taken
abbrev pub taken_by : (ℕ → ℕ) → Log → List Log → ℕ
taken_by h own others = total h own.got + total (λ (v : Log). total h v.got) others

-- the passes took this ticket, and no other
abbrev pub Took : TableId → Log → List Log → Log → List Log → Ticket → Type 0
Took z own others own' others' t =
    IsTicketOf z t
    × ((h : ℕ → ℕ) → taken_by h own' others' ≡ taken_by h own others + h t.number)
    × (own'.parts ≡ own.parts) × (own'.dealt ≡ own.dealt) × (length others' ≡ length others)
    × MayTake z own' others'

abbrev pub game : TableId → Size → List ℕ → Game
game table size lengths = record { table = table; lanes = size.lanes; rising = size.rising; lengths = lengths }

abbrev pub sight : Game → Mark → Log → List ℕ → Sight
sight g m own got = record { game = g; dealt = own.dealt; answered = got; seen = m.seen }

-- The lane counted just the blocks that were returned to it, which are those that its passes took. A lane alone has every block
-- in its deque
abbrev pub IsLane : Size → List ℕ → Seat (Unit {0}) Mark → Log → List Log → List ℕ → TableId → Type 0
IsLane size lengths share own others got z =
    IsShareOf z share
    × (size.blocks ≡ length lengths) × (length lengths < 2 ^ 64)
    × (share.me.0.parts ≡ 1) × (share.me.0.all ≡ size.blocks) × (share.me.0.lanes ≡ size.lanes)
    × (share.me.0.counted ≡ length got) × (share.me.0.blocks ≡ got)
    × MayTake z own others
    × ((h : ℕ → ℕ) → total h got ≡ taken_by h own others)
    × (size.lanes ≡ 1 → (own.parts ≡ 8192) × (others ≡ []) × (own.dealt ≡ in_turn size.rising (length lengths)))

-- the seat of a deal: it knows how many blocks and lanes there are, and represents the lanes that are not made yet
abbrev pub IsDealer : Size → TableId → ℕ → Seat (Unit {0}) Mark → Type 0
IsDealer size z left share = IsShareOf z share × (share.me.0 ≡ mark size.blocks size.lanes left 0 0 [])

-- The seat takes in a lane's. It then has the blocks that were returned to the lane, and has seen as much. With all lanes in, it
-- has counted all
abbrev pub Collects : Sight → Mark → Mark → Type 0
Collects lane v w =
    (w.all ≡ v.all) × (w.lanes ≡ v.lanes) × (w.parts ≡ v.parts + 1)
    × (w.counted ≡ v.counted + length lane.answered) × (w.blocks ≡ v.blocks ++ lane.answered)
    × (v.seen ≤ w.seen) × (lane.seen ≤ w.seen)
    × IsAmong w.all w.blocks × (w.parts ≤ w.lanes)
    × (w.parts ≡ w.lanes → w.seen ≡ w.counted)

-- what lanes share: the count knows how many blocks there are, and the first point of each is right
abbrev pub IsShared : Size → List ℕ → List ℕ → Type 0
IsShared size lengths starts =
    (size.blocks ≡ length lengths) × (length lengths < 2 ^ 64) × (0 < size.lanes) × AreStarts lengths starts

-- the hand is that of some lane
abbrev pub IsSomeHand : TableId → Size → List ℕ → Hand → Type 0
IsSomeHand z size lengths hand =
    (k : ℕ) × (k < size.lanes) × IsHand z size.lanes (in_turn size.rising (length lengths)) 4096 k hand

-- a lane that has not been called, and what was dealt to it
abbrev pub opened : Game → List ℕ → Sight
opened g dealt = record { game = g; dealt = dealt; answered = []; seen = 0 }
