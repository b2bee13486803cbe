-- How many workers `auto` means, and which words have it.
use Rattle.std.specs.Prelude.{◌&&◌, if◌then◌else◌, ℕ, List, [], ◌∷◌, ◌++◌, codes, decimal, min, Option, Some, None}
use Rattle.std.specs.Str.{bytes_eq}

-- how many workers `auto` means, by how many processors the program may use; `None`: the system doesn't say
abbrev pub workers_for : (processors : Option ℕ) → ℕ
workers_for None = 1
workers_for (Some processors) = min processors 64

-- what a word means, after the one before it: `auto` is a number of workers if it is the value of `--workers`
abbrev pub word_meant : (workers before word : List ℕ) → List ℕ
word_meant workers before word =
    if bytes_eq before (codes "--workers") && bytes_eq word (codes "auto") then workers
    else (if bytes_eq word (codes "--workers=auto") then codes "--workers=" ++ workers else word)

-- What the words mean that follow one; from `--` on they mean themselves.
unfoldable pub meant_after : (workers before : List ℕ) → (words : List (List ℕ)) → List (List ℕ)
meant_after workers before [] = []
meant_after workers before (word ∷ words) =
    if bytes_eq word (codes "--") then word ∷ words else word_meant workers before word ∷ meant_after workers word words

-- what all words mean; the first is the program's name
abbrev pub all_meant : (workers : List ℕ) → (words : List (List ℕ)) → List (List ℕ)
all_meant workers [] = []
all_meant workers (program ∷ words) = program ∷ meant_after workers [] words

-- what the words mean if the program may use this many processors
abbrev pub meant : (processors : Option ℕ) → (words : List (List ℕ)) → List (List ℕ)
meant processors words = all_meant (decimal (workers_for processors)) words
