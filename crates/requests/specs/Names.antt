-- Lists of names, joined by commas.
use Rattle.std.specs.Prelude.{ℕ, suc, zero, ◌==◌, ◌&&◌, not, Bool, true, List, [], ◌∷◌}
use Rattle.std.specs.List.{list_any, slice_split}
use Rattle.std.specs.Str.{bytes_eq}
use Rattle.clap.specs.Words.{Text}
use Rattle.grammar.specs.Names.{is_name}

-- the texts between the commas of a list
abbrev pub names_of : Text → List Text
names_of list = slice_split (λ b. b == 44) list

-- It is one of these.
abbrev pub is_among : Text → List Text → Bool
is_among name names = list_any (λ other. bytes_eq name other) names

-- Each is a name, and none is there twice.
abbrev pub are_names : List Text → Bool
are_names [] = true
are_names (name ∷ names) = is_name name && (not (is_among name names) && are_names names)

-- the one in this place; empty if there is none
abbrev pub name_at : ℕ → List Text → Text
name_at place [] = []
name_at zero (name ∷ names) = name
name_at (suc place) (name ∷ names) = name_at place names
