-- The deques while they are dealt, and before there are lanes.
use Rattle.std.specs.Prelude.{◌≡◌, Bool, true, false, ℕ, ◌+◌, ◌-◌, ◌≤◌, List, [], ◌++◌}
use mathlib.Core.Option.{some}
use lib.ListN.{get_elem?}
use Rattle.atomic_table.specs.Seated.{TableId}
use Rattle.crossbeam_deque.specs.Handles.{worker_flavor, worker_view}
use Rattle.deal.specs.Totals.{total}
use Rattle.std.specs.List.{AllByRecursion}
use Rattle.deal.specs.Logs.{HasTicketsOf}
use Rattle.deal.specs.Sharing.{dealt_to}
use Rattle.deal.specs.declared.hand.Hand.{Hand}
use Rattle.deal.specs.declared.log.Log.{Log}

-- a fact of each value, by its place
abbrev pub AtEach : {V : Type 0} → (ℕ → V → Type 0) → List V → Type 0
AtEach {V} P vs = (k : ℕ) (v : V) → get_elem? vs k ≡ some v → P k v

-- the block that is dealt at this turn, of n blocks
abbrev pub number_at : Bool → ℕ → ℕ → ℕ
number_at true n turn = turn
number_at false n turn = n - 1 - turn

-- lane k's deque when some of these blocks are left: with its own of them it has all its blocks
abbrev pub IsDealtHand : TableId → ℕ → List ℕ → List ℕ → ℕ → Hand → Type 0
IsDealtHand z workers n left k hand =
    (worker_flavor hand.own ≡ 0) × ((worker_view hand.own).parts ≡ 8192)
    × ((worker_view hand.own).dealt ++ dealt_to workers k left ≡ dealt_to workers k n) × ((worker_view hand.own).got ≡ [])
    × HasTicketsOf z (worker_view hand.own) × (hand.others.items ≡ [])

abbrev pub AreDealt : TableId → ℕ → List ℕ → List ℕ → List Hand → Type 0
AreDealt z workers n left hands = AtEach (IsDealtHand z workers n left) hands

-- lane k's deque when all these blocks are dealt and this many passes were cut off at most,
-- and the ways to the others' that the lane has
abbrev pub IsHand : TableId → ℕ → List ℕ → ℕ → ℕ → Hand → Type 0
IsHand z workers n cut k hand =
    (worker_flavor hand.own ≡ 0) × (8192 ≤ (worker_view hand.own).parts + cut)
    × ((worker_view hand.own).dealt ≡ dealt_to workers k n) × ((worker_view hand.own).got ≡ [])
    × HasTicketsOf z (worker_view hand.own) × AllByRecursion (HasTicketsOf z) hand.others.items
    × ((h : ℕ → ℕ) → total (λ (v : Log). total h v.got) hand.others.items ≡ 0)
    × (workers ≡ 1 → ((worker_view hand.own).parts ≡ 8192) × (hand.others.items ≡ []))

abbrev pub AreHands : TableId → ℕ → List ℕ → ℕ → List Hand → Type 0
AreHands z workers n cut hands = AtEach (IsHand z workers n cut) hands

-- these are hands, of whichever table
abbrev pub HasHands : ℕ → ℕ → List Hand → Type 0
HasHands workers cut hands = (z : TableId) × (n : List ℕ) × AreHands z workers n cut hands

-- and they stay hands of it
abbrev pub KeepsHands : ℕ → ℕ → ℕ → List Hand → List Hand → Type 0
KeepsHands workers cut cut' old new = (z : TableId) (n : List ℕ) → AreHands z workers n cut old → AreHands z workers n cut' new
