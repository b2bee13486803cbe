-- What lanes and deals represent, and what their calls promise, whatever other lanes do at the same time.
--
-- A schedule is the order in which the atomic steps of all threads come: a push, a pop, a steal, and a load or an add of one word.
-- No promise names one. Each speaks of the values before and after a call of its own thread,
-- and the steps of other threads may come between any two of its own.
use Rattle.std.specs.Prelude.{◌≡◌, Bool, ℕ, ◌%◌, ◌<◌, ◌≤◌, List, [], ◌∷◌, ◌++◌, length, map, All, ◌==◌, ◌⊎◌, if◌then◌else◌}
use Rattle.atomic_table.specs.Seated.{TableId}
use Rattle.deal.specs.Totals.{times, range, in_turn}
use Rattle.deal.specs.Divisions.{IsBlock}
use Rattle.deal.specs.declared.next.Next.{Next}
use Rattle.deal.specs.declared.next.Next.TheVariants.{Block, Again, Empty}

-- Which deal it is: the table of its count, how many lanes it has, whether its blocks are dealt in rising order or in falling
-- order, and their lengths
pub record Game : Type 0 where
  pub table : TableId
  pub lanes : ℕ
  pub rising : Bool
  pub lengths : List ℕ

-- What a lane has seen: its deal; the blocks that were dealt to it, and those that were returned to it, both in order; and the
-- highest number of blocks handed out that it saw
pub record Sight : Type 0 where
  pub game : Game
  pub dealt : List ℕ
  pub answered : List ℕ
  pub seen : ℕ

-- the lane saw that every block has been handed out
abbrev pub HasSeenAll : Sight → Type 0
HasSeenAll lane = lane.seen ≡ length lane.game.lengths

-- a call leaves the lane's deal and what was dealt to it, and the lane forgets nothing of the count
abbrev pub Goes : Sight → Sight → Type 0
Goes old new = (new.game ≡ old.game) × (new.dealt ≡ old.dealt) × (old.seen ≤ new.seen)

-- A block is one of the division, and new to the lane. It may be asked to call again only among several lanes. Empty is returned
-- only if every block has been handed out
abbrev pub MatchNext : Next → Sight → Sight → Type 0
MatchNext (Block number first len) old new =
    IsBlock new.game.lengths number first len × (times number old.answered ≡ 0) × (new.answered ≡ old.answered ++ number ∷ [])
MatchNext Again old new = (new.answered ≡ old.answered) × (1 < new.game.lanes) × (HasSeenAll new → ⊥)
MatchNext Empty old new = (new.answered ≡ old.answered) × HasSeenAll new

-- the result is the block of this number
abbrev pub IsTheBlock : List ℕ → ℕ → Next → Type 0
IsTheBlock lengths number (Block i first len) = (i ≡ number) × IsBlock lengths number first len
IsTheBlock lengths number Again = ⊥
IsTheBlock lengths number Empty = ⊥

-- those of these blocks that are dealt to a lane: lane i mod lanes gets block i
abbrev pub dealt_to : ℕ → ℕ → List ℕ → List ℕ
dealt_to lanes lane [] = []
dealt_to lanes lane (n ∷ ns) = (if n % lanes == lane then n ∷ [] else []) ++ dealt_to lanes lane ns

-- a lane that has not been called
abbrev pub fresh : Game → ℕ → Sight
fresh game number = record {
  game = game;
  dealt = dealt_to game.lanes number (in_turn game.rising (length game.lengths));
  answered = [];
  seen = 0;
}

-- the lanes of a deal that was just made, in order of their numbers
abbrev pub fresh_lanes : Game → List Sight
fresh_lanes game = map (fresh game) (range 0 game.lanes)

-- what was returned to each lane
abbrev pub lists_of : List Sight → List (List ℕ)
lists_of lanes = map (λ (lane : Sight). lane.answered) lanes

-- the lanes are of this deal
abbrev pub AreLanesOf : Game → List Sight → Type 0
AreLanesOf game lanes = All (λ (lane : Sight). lane.game ≡ game) lanes

-- one of the lanes saw that every block has been handed out
abbrev pub SomeHasSeenAll : List Sight → Type 0
SomeHasSeenAll [] = ⊥
SomeHasSeenAll (lane ∷ lanes) = HasSeenAll lane ⊎ SomeHasSeenAll lanes
