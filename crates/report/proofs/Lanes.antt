-- One of some lanes is replaced.
use Rattle.std.proofs.Common.{◌≡◌, ℕ, ◌+◌, ◌<◌, ◌≢◌, List, [], ◌∷◌, length, zero, suc, refl, ap, subst, ◌∙◌, arith, replicate}
use Rattle.std.proofs.Math.ListN.{set}
use Rattle.std.proofs.Math.Dec.{eqb}
use Rattle.std.proofs.lemmas.Bool.{eq-eqb, ne_eqb}
use Rattle.std.proofs.lemmas.Simd.{tops_compared}
use Rattle.std.specs.List.{range_with_len}
use Rattle.std.specs.Simd.Lanes.{zip2, sel_l, top}
use mathlib.Core.List.{map}
use mathlib.Core.Bool.{cond}
use mir.Syntax.{w8}

-- past the lane that is replaced
past : (k at byte : ℕ) (text : List ℕ) → at < k
    → sel_l (zip2 eqb (range_with_len k (length text)) (replicate (length text) at)) (replicate (length text) byte) text ≡ text
past k at byte [] h = refl
past k at byte (x ∷ xs) h =
    let other : k ≢ at = omega (arith, h) in
    rw (ne_eqb k at other, past (k + 1) at byte xs (omega (arith, h))) refl

from : (k j at byte : ℕ) (text : List ℕ) → at ≡ k + j
    → sel_l (zip2 eqb (range_with_len k (length text)) (replicate (length text) at)) (replicate (length text) byte) text
    ≡ set text j byte
from k j at byte [] is = refl
from k zero at byte (x ∷ xs) is =
    let same : k ≡ at = omega (arith, is) in
    rw (eq-eqb k at same, past (k + 1) at byte xs (omega (arith, is))) refl
from k (suc j) at byte (x ∷ xs) is =
    let other : k ≢ at = omega (arith, is) in
    rw (ne_eqb k at other, from (k + 1) j at byte xs (omega (arith, is))) refl

pub replaced_lane : (n at byte : ℕ) (text : List ℕ) → length text ≡ n
    → sel_l (map (top 7) (zip2 (λ a b. cond (eqb a b) 255 0) (range_with_len 0 n) (replicate n at))) (replicate n byte) text
    ≡ set text at byte
replaced_lane n at byte text size =
    let P : ℕ → Type 0 = λ m. sel_l (zip2 eqb (range_with_len 0 m) (replicate m at)) (replicate m byte) text ≡ set text at byte in
    ap (λ ms. sel_l ms (replicate n byte) text) (tops_compared w8 eqb (range_with_len 0 n) (replicate n at))
    ∙ subst P size (from 0 at at byte text (omega arith))
