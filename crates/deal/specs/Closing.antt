-- Which blocks are in the lists of the lanes.
use Rattle.std.specs.Prelude.{◌≡◌, ℕ, zero, suc, ◌<◌, Bool, false, List, [], ◌∷◌, ◌++◌, length, map, Vec, ◌≤◌, nat_lt}
use Rattle.std.specs.Prelude.{slice_index_or, if◌then◌else◌}
use Rattle.std.specs.declared.alloc.Global.{Global}
use Rattle.std.specs.List.{concat, AllByRecursion}
use Rattle.atomic_table.specs.Seated.{TableId}
use Rattle.deal.specs.Totals.{times}
use Rattle.deal.specs.Marks.{IsAmong}
use Rattle.deal.specs.Sharing.{Sight, SomeHasSeenAll, lists_of}
use Rattle.deal.specs.declared.count.Mark.{Mark}

-- the marks say which numbers are in the list
abbrev pub IsMarked : List ℕ → List Bool → Type 0
IsMarked xs marks = (x : ℕ) → x < length marks → slice_index_or marks x false ≡ nat_lt 0 (times x xs)

-- the marks gain those of a list
abbrev pub Marks : List ℕ → List Bool → List Bool → Type 0
Marks list old new = (length new ≡ length old) × ((xs : List ℕ) → IsMarked xs old → IsMarked (xs ++ list) new)

-- the numbers below n without a mark, rising
abbrev pub unmarked : ℕ → List Bool → List ℕ
unmarked zero marks = []
unmarked (suc n) marks = unmarked n marks ++ (if slice_index_or marks n false then [] else n ∷ [])

-- what each vector holds
abbrev pub items_of : List (Vec ℕ Global) → List (List ℕ)
items_of vs = map (λ (v : Vec ℕ Global). v.items) vs

-- the lanes are of the deal whose seat this is
abbrev pub AreBackTo : TableId → Mark → List Sight → Type 0
AreBackTo z m lanes =
    AllByRecursion
    (λ (lane : Sight). (lane.game.table ≡ z) × (length lane.game.lengths ≡ m.all) × (lane.game.lanes ≡ m.lanes)) lanes

-- a deal's seat when some lanes came back to it
abbrev pub HasBack : Mark → List Sight → Mark → Type 0
HasBack old lanes new =
    (new.all ≡ old.all) × (new.lanes ≡ old.lanes) × (new.parts ≡ length lanes)
    × (new.blocks ≡ concat (lists_of lanes)) × (new.counted ≡ length new.blocks)
    × IsAmong old.all new.blocks
    × (0 < length lanes → (length lanes ≤ old.lanes) × (new.parts ≡ new.lanes → new.seen ≡ new.counted))
    × (SomeHasSeenAll lanes → old.all ≤ new.seen)
