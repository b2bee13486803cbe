-- How the arrays of a table spell its lists.
use Rattle.std.specs.Prelude.{◌≡◌, ◌⊎◌, ℕ, zero, suc, ◌+◌, ◌<◌, ◌≤◌, nat_lt, ◌==◌, if◌then◌else◌, Option, Some, None, List, [], ◌∷◌}
use Rattle.std.specs.Prelude.{◌++◌, get_or, set, length, map, take, drop}
use Rattle.lists.specs.Lists.{Each, Apart, EachOnce, first_of}

-- which list the number in a link means: 65535 means none
abbrev pub led_to : ℕ → Option ℕ
led_to number = if number == 65535 then None else Some number

-- and back
abbrev pub number_of : Option ℕ → ℕ
number_of None = 65535
number_of (Some number) = number

-- the entries from `start` on: each node with its value, at most `fuel` of them
abbrev pub walk : List (Option ℕ) → List ℕ → ℕ → Option ℕ → List (ℕ × ℕ)
walk next values zero start = []
walk next values (suc fuel) None = []
walk next values (suc fuel) (Some n) = (n, get_or values n 0) ∷ walk next values fuel (get_or next n None)

-- the entries of each list
unfoldable pub lists_of : ℕ → List (Option ℕ) → List ℕ → List (Option ℕ) → List (List (ℕ × ℕ))
lists_of fuel next values firsts = map (walk next values fuel) firsts

-- A link is a node, or `None` for the end of its list, which is before the first node and after
-- the last. Here is what it leads to: the end leads to `end`, and a node to what `links` says
abbrev pub at_link : List (Option ℕ) → Option ℕ → Option ℕ → Option ℕ
at_link links end None = end
at_link links end (Some n) = get_or links n None

-- the links of the nodes, and those of the ends, after a write at a link of a list
abbrev pub put_link : List (Option ℕ) → Option ℕ → Option ℕ → List (Option ℕ)
put_link links None x = links
put_link links (Some n) x = set links n x

abbrev pub put_end : List (Option ℕ) → ℕ → Option ℕ → Option ℕ → List (Option ℕ)
put_end ends list None x = set ends list x
put_end ends list (Some n) x = ends

-- from `a` on, through these entries, to the end: `next` leads forth, and `prev` leads back
abbrev pub Linked : (Option ℕ → Option ℕ) → (Option ℕ → Option ℕ) → Option ℕ → List (ℕ × ℕ) → Type 0
Linked next prev a [] = (next a ≡ None) × (prev None ≡ a)
Linked next prev a (e ∷ xs) = (next a ≡ Some e.0) × (prev (Some e.0) ≡ a) × Linked next prev (Some e.0) xs

-- an entry of list l: its node is in the table, is in that list, and has that value
pub record IsStored (N : ℕ) (place : List (Option ℕ)) (values : List ℕ) (l : ℕ) (e : ℕ × ℕ) : Type 0 where
  pub known : e.0 < N
  pub placed : get_or place e.0 None ≡ Some l
  pub valued : get_or values e.0 0 ≡ e.1

-- the arrays of a table of L lists and N nodes spell these lists
pub record Spells (L N : ℕ) (next prev place : List (Option ℕ)) (values : List ℕ)
    (firsts lasts : List (Option ℕ)) (ls : List (List (ℕ × ℕ))) : Type 0 where
  pub next_length : length next ≡ N
  pub prev_length : length prev ≡ N
  pub place_length : length place ≡ N
  pub values_length : length values ≡ N
  pub firsts_length : length firsts ≡ L
  pub lasts_length : length lasts ≡ L
  pub as_many : length ls ≡ L
  pub linked : (l : ℕ) → l < L
      → Linked (at_link next (get_or firsts l None)) (at_link prev (get_or lasts l None)) None (get_or ls l [])
  pub stored : (l : ℕ) → l < L → Each (IsStored N place values l) (get_or ls l [])
  pub distinct : (l : ℕ) → l < L → EachOnce (get_or ls l [])
  pub listed : (n l : ℕ) → get_or place n None ≡ Some l → (l < L) × (Apart (Some n) (get_or ls l []) → ⊥)

-- the node at a link of a table of N nodes: from N on, a link leads to the end of a list
abbrev pub node_at : ℕ → ℕ → Option ℕ
node_at N link = if nat_lt link N then Some link else None

-- the links of the nodes, and those of the lists' ends, which come after them
unfoldable pub links_of : ℕ → List ℕ → List (Option ℕ)
links_of N links = map (node_at N) (take N links)

unfoldable pub ends_of : ℕ → List ℕ → List (Option ℕ)
ends_of N links = map (node_at N) (drop N links)

-- a node of list l, or its end
abbrev pub IsIn : ℕ → List (Option ℕ) → ℕ → ℕ → Type 0
IsIn N place l at = ((at < N) × (get_or place at None ≡ Some l)) ⊎ (at ≡ N + l)

-- from a node of a list, or from its end, a link that leads to an end leads to that of this list
abbrev pub StaysIn : ℕ → ℕ → List (Option ℕ) → List ℕ → Type 0
StaysIn L N place links = (at l : ℕ) → l < L → IsIn N place l at → N ≤ get_or links at 0 → get_or links at 0 ≡ N + l

-- the arrays of a table of L lists, which are rings, and N nodes spell these lists
pub record SpellsRings (L N M : ℕ) (next prev : List ℕ) (place : List (Option ℕ))
    (values : List ℕ) (ls : List (List (ℕ × ℕ))) : Type 0 where
  pub as_many : M ≡ N + L
  pub next_length : length next ≡ M
  pub prev_length : length prev ≡ M
  pub spells : Spells L N (links_of N next) (links_of N prev) place values (ends_of N next) (ends_of N prev) ls
  pub forth : StaysIn L N place next
  pub back : StaysIn L N place prev

-- the arrays of a table of L lists, which are rings, and N nodes
pub record IsRingTable (L N M : ℕ) (next prev : List ℕ) (place : List (Option ℕ)) (values : List ℕ) : Type 0 where
  pub lists_fit : L ≤ 4096
  pub nodes_fit : N ≤ 4096
  pub rings : SpellsRings L N M next prev place values (lists_of N (links_of N next) values (ends_of N next))

-- the entries from the first of a greater value on
abbrev pub upper : ℕ → List (ℕ × ℕ) → List (ℕ × ℕ)
upper value [] = []
upper value (x ∷ xs) = if nat_lt value x.1 then x ∷ xs else upper value xs

-- the entries are some before `after` and a rest from there on
pub record SplitsBefore (entries : List (ℕ × ℕ)) (after : Option ℕ) : Type 0 where
  pub before : List (ℕ × ℕ)
  pub rest : List (ℕ × ℕ)
  pub whole : entries ≡ before ++ rest
  pub here : after ≡ first_of rest

-- four nodes from this one on are nodes of the table, and in no list
pub record AreFree (place : List (Option ℕ)) (node N : ℕ) : Type 0 where
  pub known : node + 4 ≤ N
  pub first : get_or place node None ≡ None
  pub second : get_or place (node + 1) None ≡ None
  pub third : get_or place (node + 2) None ≡ None
  pub fourth : get_or place (node + 3) None ≡ None
