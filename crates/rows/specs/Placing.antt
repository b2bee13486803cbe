-- Where the rows of each block are.
use Rattle.std.specs.Prelude.{ℕ, ◌+◌, ◌<◌, List, [], ◌∷◌, map, slice_set}
use Rattle.std.specs.List.{AllByRecursion, flat_map}
use Rattle.rows.specs.declared.rows.KeptBlock.{KeptBlock}
use Rattle.rows.specs.declared.rows.Part.{Part}
use Rattle.rows.specs.declared.rows.Place.{Place}

abbrev pub place_of : (part : ℕ) → KeptBlock → Place
place_of part block = record { part = part; first = block.first; count = block.count }

-- each block of this part is put at its number
abbrev pub placed : (part : ℕ) → List KeptBlock → List Place → List Place
placed part [] places = places
placed part (block ∷ blocks) places = placed part blocks (slice_set places block.number (place_of part block))

-- the same of each of these parts, which are numbered from here on
abbrev pub all_placed : (first : ℕ) → List Part → List Place → List Place
all_placed first [] places = places
all_placed first (part ∷ parts) places = all_placed (first + 1) parts (placed first part.blocks.items places)

-- each block's number is below this one
abbrev pub AreBelow : ℕ → List Part → Type 0
AreBelow count parts =
    AllByRecursion (λ (part : Part). AllByRecursion (λ (block : KeptBlock). block.number < count) part.blocks.items) parts

-- the numbers of the blocks
abbrev pub numbers_of : List KeptBlock → List ℕ
numbers_of blocks = map (λ (block : KeptBlock). block.number) blocks

-- the blocks of the parts, one part after the other
abbrev pub all_numbers : List Part → List ℕ
all_numbers parts = flat_map (λ (part : Part). numbers_of part.blocks.items) parts
