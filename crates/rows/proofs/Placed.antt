-- Where blocks are put.
use Rattle.std.proofs.Common.{◌≡◌, ◌<◌, ℕ, zero, suc, List, [], ◌∷◌, length, slice_index_or, set, refl, sym, subst}
use Rattle.std.proofs.Common.{◌∙◌, arith}
use Rattle.std.specs.List.{AllByRecursion}
use Rattle.std.proofs.lemmas.List.{length-set}
use Rattle.rows.specs.declared.rows.KeptBlock.{KeptBlock}
use Rattle.rows.specs.declared.rows.Place.{Place}
use Rattle.rows.specs.Placing.{place_of, placed}

pub length-placed : (part : ℕ) (blocks : List KeptBlock) (places : List Place) → length (placed part blocks places) ≡ length places
length-placed part [] places = refl
length-placed part (block ∷ blocks) places =
    length-placed part blocks (set places block.number (place_of part block)) ∙ length-set places block.number (place_of part block)

-- a fact of each
pub each_at : {X : Type 0} (P : X → Type 0) (xs : List X) (index : ℕ) (x : X)
    → AllByRecursion P xs → index < length xs → x ≡ slice_index_or xs index x → P x
each_at P [] index x all l is = absurd (omega arith)
each_at P (y ∷ xs) zero x all l is = subst P (sym is) all.0
each_at P (y ∷ xs) (suc index) x all l is = each_at P xs index x all.1 (omega arith) is
