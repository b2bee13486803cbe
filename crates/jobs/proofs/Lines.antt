-- The pieces of a line.
use Rattle.std.proofs.Common.{◌≡◌, ℕ, Bool, ◌<◌, ◌+◌, List, [], ◌∷◌, ◌++◌, length, map, drop, get_or, filter_map, Option, Some}
use Rattle.std.proofs.Common.{None, Result, Ok, Err, refl, ap, ◌∙◌, append_assoc, drop-cons, arith}
use Rattle.std.proofs.lemmas.Grind.{common_steps}
use Rattle.std.specs.List.{cons_option}
use Rattle.std.specs.Result.{is_err}
use Rattle.byte_io.specs.Bytes.{Writes}
use Rattle.byte_io.specs.Line.{piece_text, joined_line}
use Rattle.byte_io.specs.declared.line.Piece.{Piece}
use Rattle.jobs.specs.Acting.{Tells}

cons_option-append : {X : Type 0} (o : Option X) (rest : List X) → cons_option o [] ++ rest ≡ cons_option o rest
cons_option-append None rest = refl
cons_option-append (Some x) rest = refl

-- the words so far, and those that are left
pub words_left : {X Y : Type 0} (h : X → Option Y) (xs : List X) (i : ℕ) (d : X) (before after : List Y)
    → i < length xs → after ≡ before ++ cons_option (h (get_or xs i d)) []
    → after ++ filter_map h (drop (i + 1) xs) ≡ before ++ filter_map h (drop i xs)
words_left h xs i d before after within is =
    let first : drop i xs ≡ get_or xs i d ∷ drop (i + 1) xs = grind (arith, drop-cons, common_steps) in
    rw (is, first) (append_assoc before (cons_option (h (get_or xs i d)) []) (filter_map h (drop (i + 1) xs))
    ∙ ap (λ l. before ++ l) (cons_option-append (h (get_or xs i d)) (filter_map h (drop (i + 1) xs))))

-- Pieces with these texts were written.
pub tells_by_writes : {T E : Type 0} (old new : Option (List ℕ)) (failed : Bool)
    (r : Result T E) (written pieces : List Piece) (texts : List (List ℕ))
    → written ≡ pieces → map piece_text pieces ≡ texts → failed ≡ is_err r
    → Writes old new r (joined_line (map piece_text written)) → Tells old new failed (joined_line texts)
tells_by_writes old new failed (Ok x) written pieces texts same is kind writes = rw (kind, ← is, ← same) writes
tells_by_writes old new failed (Err e) written pieces texts same is kind writes = rw (kind, ← is, ← same) writes
