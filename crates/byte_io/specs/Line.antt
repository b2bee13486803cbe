-- A line of text.
use Rattle.std.specs.Prelude.{ℕ, List, [], ◌∷◌, ◌++◌, codes, decimal}
use Rattle.std.specs.List.{flat_map}
use Rattle.byte_io.specs.declared.line.Piece.{Piece}
use Rattle.byte_io.specs.declared.line.Piece.TheVariants.{Text, Name, Label, Number}
use Rattle.byte_io.specs.Shown.{shown_name}

-- the text of a piece
abbrev pub piece_text : Piece → List ℕ
piece_text (Text text) = text.now
piece_text (Name name) = shown_name name.now
piece_text (Label name) = shown_name name.now ++ codes ":"
piece_text (Number number) = decimal number

-- a space and the text
abbrev pub spaced_text : List ℕ → List ℕ
spaced_text text = codes " " ++ text

-- these texts with single spaces between them, and the line's end
abbrev pub joined_line : List (List ℕ) → List ℕ
joined_line [] = codes "\n"
joined_line (first ∷ others) = first ++ flat_map spaced_text others ++ codes "\n"
