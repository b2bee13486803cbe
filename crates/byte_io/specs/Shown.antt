-- Texts as they are shown to a reader: no control character reaches the terminal.
use Rattle.std.specs.Prelude.{ℕ, Bool, true, false, ◌/◌, ◌%◌, ◌==◌, ◌&&◌, ◌||◌, not, if◌then◌else◌, List, ◌∷◌, ◌++◌, codes}
use Rattle.std.specs.Char.{digit_char, encode_utf8, is_control}
use Rattle.std.specs.List.{flat_map}
use Rattle.std.specs.Str.{chars}

-- an escape: \u{HH}, of two hexadecimal digits
abbrev pub escape : ℕ → List ℕ
escape c = codes "\\u{" ++ digit_char (c / 16) ∷ digit_char (c % 16) ∷ codes "}"

-- whether a character is shown as it is: any but a control character, and of a text of lines the line feed too
abbrev pub is_plain : (lines : Bool) → ℕ → Bool
is_plain lines c = not (is_control c) || (lines && c == 10)

abbrev pub shown_char : (lines : Bool) → ℕ → List ℕ
shown_char lines c = if is_plain lines c then encode_utf8 c else escape c

abbrev pub shown : (lines : Bool) → List ℕ → List ℕ
shown lines text = flat_map (shown_char lines) (chars text)

-- a name: each control character is escaped
abbrev pub shown_name : List ℕ → List ℕ
shown_name = shown false

-- a text of lines: each control character but the line feed is escaped
abbrev pub shown_lines : List ℕ → List ℕ
shown_lines = shown true
