-- What calls on sources and sinks say of their bytes.
use Rattle.std.specs.Prelude.{◌≡◌, ℕ, Bool, true, ◌==◌, ◌&&◌, nat_lt, List, ◌++◌, length, Option, Result, Ok, Err, MatchResult}
use Rattle.std.specs.Io.KnownBytes.{Appends}

-- whether `put` has failed: an error, or none of some bytes was taken
abbrev pub failed_after : {E : Type 0} → Result ℕ E → List ℕ → Bool
failed_after (Ok n) bytes = (n == 0) && nat_lt 0 (length bytes)
failed_after (Err e) bytes = true

-- Of the text a front went out, and this rest has not.
pub record Sent (old new : Option (List ℕ)) (text rest : List ℕ) : Type 0 where
  pub front : List ℕ
  pub whole : text ≡ front ++ rest
  pub appends : Appends old new front

-- some beginning of the text went out
abbrev pub SentFront : (old new : Option (List ℕ)) → List ℕ → Type 0
SentFront old new text = (rest : List ℕ) × Sent old new text rest

-- a writing call: all of the text at `Ok`, a beginning of it at `Err`
abbrev pub Writes : {T E : Type 0} → (old new : Option (List ℕ)) → Result T E → List ℕ → Type 0
Writes old new r text = MatchResult r (λ _. Appends old new text) (λ _. SentFront old new text)

-- Adding a text to a page before a sink: a front of the page's bytes and the text goes to the sink, and the page keeps the
-- rest. At `Err` the sink has a beginning.
abbrev pub Adds : {T E : Type 0} → (old new : Option (List ℕ)) → (page kept : List ℕ)
    → Result T E → (text : List ℕ) → Type 0
Adds old new page kept r text = MatchResult r
    (λ _. Sent old new (page ++ text) kept)
    (λ _. SentFront old new (page ++ text))
