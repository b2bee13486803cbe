-- What is left to mean on the way through the words.
use Rattle.std.proofs.Common.{◌≡◌, ◌∙◌, ◌||◌, ◌∷◌, ◌++◌, [], List, ℕ, Bool, true, false, ap, codes, refl, sym, if◌then◌else◌}
use Rattle.std.proofs.lemmas.List.{append_assoc, append-nil}
use Rattle.std.specs.Str.{bytes_eq}
use Rattle.requests.specs.Processors.{meant_after, word_meant}

-- what the words mean that follow this one, and follow `--` or not
pub meant_from : (is_verbatim : Bool) (workers before : List ℕ) (words : List (List ℕ)) → List (List ℕ)
meant_from true workers before words = words
meant_from false workers before words = meant_after workers before words

pub meant_all : (workers before : List ℕ) (words : List (List ℕ))
    → meant_from false workers before words ≡ meant_after workers before words
unfolding meant_from
meant_all workers before words = refl

meant_none : (v : Bool) (workers before : List ℕ) → meant_from v workers before [] ≡ []
unfolding meant_from meant_after
meant_none true workers before = refl
meant_none false workers before = refl

step : (b : Bool) (workers before word : List ℕ) (words : List (List ℕ))
    → (if b then word ∷ words else word_meant workers before word ∷ meant_after workers word words)
    ≡ (if b then word else word_meant workers before word) ∷ meant_from b workers word words
unfolding meant_from
step true workers before word words = refl
step false workers before word words = refl

meant_one : (v ends : Bool) (workers before word : List ℕ) (words : List (List ℕ)) → ends ≡ bytes_eq word (codes "--")
    → meant_from v workers before (word ∷ words)
    ≡ (if v || ends then word else word_meant workers before word) ∷ meant_from (v || ends) workers word words
unfolding meant_from meant_after
meant_one true ends workers before word words same = refl
meant_one false ends workers before word words same = rw same (step (bytes_eq word (codes "--")) workers before word words)

-- One more word is looked at, and what it means is appended.
pub meant_next : (v ends : Bool) (workers before word text : List ℕ) (meant rest words whole : List (List ℕ))
    → ends ≡ bytes_eq word (codes "--")
    → rest ≡ word ∷ words → text ≡ (if v || ends then word else word_meant workers before word)
    → meant ++ meant_from v workers before rest ≡ whole → (meant ++ text ∷ []) ++ meant_from (v || ends) workers word words ≡ whole
meant_next v ends workers before word text meant rest words whole same left is so_far =
    let later = meant_from (v || ends) workers word words in
    append_assoc meant (text ∷ []) later
    ∙ ap (λ (texts : List (List ℕ)). meant ++ texts)
    (sym (ap (meant_from v workers before) left ∙ meant_one v ends workers before word words same
    ∙ ap (λ (t : List ℕ). t ∷ later) (sym is)))
    ∙ so_far

-- No word is left.
pub meant_end : (v : Bool) (workers before : List ℕ) (meant rest whole : List (List ℕ)) → rest ≡ []
    → meant ++ meant_from v workers before rest ≡ whole → meant ≡ whole
meant_end v workers before meant rest whole left so_far =
    sym (ap (λ (texts : List (List ℕ)). meant ++ texts) (ap (meant_from v workers before) left ∙ meant_none v workers before)
    ∙ append-nil meant)
    ∙ so_far
