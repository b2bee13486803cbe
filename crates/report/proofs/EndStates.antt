-- The lines of one task or variable after the other.
use Rattle.std.proofs.Common.{◌≡◌, ◌<◌, ◌+◌, ℕ, zero, suc, List, [], ◌∷◌, ◌++◌, length, take, get_or, ap, sym, ◌∙◌, arith}
use Rattle.std.proofs.Common.{append_assoc, append-nil}
use Rattle.std.specs.Prelude.{Err, Ok, Option, Result}
use Rattle.std.specs.Io.KnownBytes.{Appends}
use Rattle.std.specs.Result.{IsErr}
use Rattle.std.proofs.lemmas.Bool.{false≢true}
use Rattle.byte_io.specs.Bytes.{SentFront, Writes}
use Rattle.byte_io.proofs.Sending.{SentFront_longer, Sent_all, Sent_longer, Writes_then}
use Rattle.report.specs.EndStates.{numbered_lines}

module _ {X : Type 0} (line : ℕ → X → List ℕ) where
  lines_more : (number i : ℕ) (xs : List X) (d : X) → i < length xs → numbered_lines line number (take (suc i) xs)
      ≡ numbered_lines line number (take i xs) ++ line (number + i) (get_or xs i d)
  lines_more number i [] d l = absurd (omega arith)
  lines_more number zero (x ∷ xs) d l =
      append-nil (line number x) ∙ ap (λ (n : ℕ). line n x) (let same : number ≡ number + 0 = omega arith in same)
  lines_more number (suc i) (x ∷ xs) d l =
      let next : number + 1 + i ≡ number + suc i = omega arith in
      ap (λ (t : List ℕ). line number x ++ t) (lines_more (number + 1) i xs d (omega arith))
      ∙ sym (append_assoc (line number x) (numbered_lines line (number + 1) (take i xs)) (line (number + 1 + i) (get_or xs i d)))
      ∙ ap (λ (n : ℕ). (line number x ++ numbered_lines line (number + 1) (take i xs)) ++ line n (get_or xs i d)) next

  -- one line more
  pub one_more : (i : ℕ) (xs : List X) (x d : X) → i < length xs → x ≡ get_or xs i d → (page before after : List ℕ)
      → before ≡ page ++ numbered_lines line 0 (take i xs) → after ≡ before ++ line i x
      → after ≡ page ++ numbered_lines line 0 (take (i + 1) xs)
  one_more i xs x d l is page before after b a =
      a
      ∙ ap (λ (t : List ℕ). t ++ line i x) b
      ∙ append_assoc page (numbered_lines line 0 (take i xs)) (line i x)
      ∙ ap (λ (y : X). page ++ (numbered_lines line 0 (take i xs) ++ line i y)) is
      ∙ ap (λ (n : ℕ). page ++ (numbered_lines line 0 (take i xs) ++ line n (get_or xs i d)))
      (let same : i ≡ 0 + i = omega arith in same)
      ∙ ap (λ (t : List ℕ). page ++ t) (sym (lines_more 0 i xs d l))
      ∙ ap (λ (n : ℕ). page ++ numbered_lines line 0 (take n xs)) (let same : suc i ≡ i + 1 = omega arith in same)

-- ---- the lines go out behind the report of the run

pub Writes_stopped : {T E : Type 0} (a b : Option (List ℕ)) (text more : List ℕ) (r : Result T E)
    → IsErr r → SentFront a b text → Writes a b r (text ++ more)
Writes_stopped a b text more (Ok v) err front = absurd (false≢true err)
Writes_stopped a b text more (Err e) err front = SentFront_longer a b text more front

pub Writes_behind : {T E : Type 0} (a b c : Option (List ℕ)) (text more : List ℕ) (r : Result T E)
    → Appends a b text → Writes b c r more → Writes a c r (text ++ more)
Writes_behind a b c text more r first second =
    Writes_then a b c r (text ++ more) more (Sent_longer a b text [] more (Sent_all a b text first)) second
