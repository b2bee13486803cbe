-- What callers see of a table: for each list its entries in order, each a node and its value.
use Rattle.std.specs.Prelude.{◌≡◌, ◌≢◌, ℕ, ◌<◌, ◌≤◌, IsTrue, Bool, not, ◌==◌, ◌||◌, nat_lt, if◌then◌else◌, false, Option, Some}
use Rattle.std.specs.Prelude.{None, List, [], ◌∷◌, ◌++◌, slice_index_or, filter, position, length}

-- P holds of each element
abbrev pub Each : {X : Type 0} → (X → Type 0) → List X → Type 0
Each P [] = Unit {0}
Each P (x ∷ xs) = P x × Each P xs

-- the entries of a list
abbrev pub entries_of : List (List (ℕ × ℕ)) → ℕ → List (ℕ × ℕ)
entries_of lists list = slice_index_or lists list []

-- the first entry's node
abbrev pub first_of : List (ℕ × ℕ) → Option ℕ
first_of [] = None
first_of (e ∷ entries) = Some e.0

-- the second entry's node
abbrev pub second_of : List (ℕ × ℕ) → Option ℕ
second_of [] = None
second_of (e ∷ entries) = first_of entries

-- the entries with the first one put last
abbrev pub rotated : List (ℕ × ℕ) → List (ℕ × ℕ)
rotated [] = []
rotated (e ∷ entries) = entries ++ e ∷ []

-- whether the node is among the entries
abbrev pub has_node : ℕ → List (ℕ × ℕ) → Bool
has_node node [] = false
has_node node (e ∷ entries) = e.0 == node || has_node node entries

-- the list that the node is in
abbrev pub place_of : List (List (ℕ × ℕ)) → ℕ → Option ℕ
place_of lists node = position (has_node node) lists

-- the node after this one
abbrev pub next_of : ℕ → List (ℕ × ℕ) → Option ℕ
next_of node [] = None
next_of node (e ∷ entries) = if e.0 == node then first_of entries else next_of node entries

-- the value of this node
abbrev pub value_of : ℕ → List (ℕ × ℕ) → ℕ
value_of node [] = 0
value_of node (e ∷ entries) = if e.0 == node then e.1 else value_of node entries

-- the entries without that of this node
abbrev pub without : ℕ → List (ℕ × ℕ) → List (ℕ × ℕ)
without node entries = filter (λ e. not (e.0 == node)) entries

-- the entries with one more, put before the first one of a greater value, or last
abbrev pub insert_sorted : ℕ × ℕ → List (ℕ × ℕ) → List (ℕ × ℕ)
insert_sorted e [] = e ∷ []
insert_sorted e (x ∷ xs) = if nat_lt e.1 x.1 then e ∷ x ∷ xs else x ∷ insert_sorted e xs

-- along the entries, values do not fall
abbrev pub IsSorted : List (ℕ × ℕ) → Type 0
IsSorted [] = Unit {0}
IsSorted (e ∷ entries) = Each (λ f. e.1 ≤ f.1) entries × IsSorted entries

-- no entry has the node that is named, if one is
abbrev pub Apart : Option ℕ → List (ℕ × ℕ) → Type 0
Apart node entries = Each (λ e. node ≢ Some e.0) entries

-- no node comes twice
abbrev pub EachOnce : List (ℕ × ℕ) → Type 0
EachOnce [] = Unit {0}
EachOnce (e ∷ entries) = Apart (Some e.0) entries × EachOnce entries

-- what is true of the L lists of every table of N nodes: a node is in one list at most, and there once
pub record IsSound (L N : ℕ) (lists : List (List (ℕ × ℕ))) : Type 0 where
  pub as_many : length lists ≡ L
  pub one_place : (node list : ℕ) → IsTrue (has_node node (entries_of lists list)) → place_of lists node ≡ Some list
  pub distinct : (list : ℕ) → EachOnce (entries_of lists list)
  pub nodes : (list : ℕ) → Each (λ e. e.0 < N) (entries_of lists list)
  pub few : (list : ℕ) → length (entries_of lists list) ≤ N
