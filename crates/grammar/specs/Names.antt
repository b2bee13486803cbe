-- Names of a file.
use Rattle.std.specs.Prelude.{ℕ, Bool, false, ◌&&◌, ◌||◌, ◌==◌, nat_le, List, [], ◌∷◌, length, Option}
use Rattle.std.specs.List.{list_all, position_from}
use Rattle.std.specs.Char.{is_ascii_alphabetic, is_ascii_alphanumeric}
use Rattle.std.specs.Str.{bytes_eq}
use Rattle.model.specs.Scripts.{most_name_bytes}

-- a letter, a digit or an underscore (profile)
abbrev pub is_name_byte : ℕ → Bool
is_name_byte b = is_ascii_alphanumeric b || b == 95

-- at least one of these and not too many, the first of them a letter (profile)
abbrev pub is_name : List ℕ → Bool
is_name [] = false
is_name (b ∷ bs) =
    nat_le (length (b ∷ bs)) most_name_bytes && (is_ascii_alphabetic b && list_all is_name_byte (b ∷ bs))

-- the index of the first of some names that is this one
abbrev pub index_of : List ℕ → List (List ℕ) → Option ℕ
index_of w names = position_from (λ name. bytes_eq name w) 0 names
