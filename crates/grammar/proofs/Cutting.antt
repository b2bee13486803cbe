-- A text's first word, and the others.
use Rattle.std.proofs.Common.{◌≡◌, ◌⊎◌, ◌<◌, ℕ, Bool, true, false, List, [], ◌∷◌, take, drop, length, filter, refl, sym, ap, subst}
use Rattle.std.proofs.Common.{suc, inl, inr, arith, ◌∙◌}
use Rattle.std.specs.Prelude.{◌==◌, not}
use Rattle.std.specs.List.{slice_split, onto_first, position_or_len}
use Rattle.std.proofs.lemmas.List.Folds.{length-prefix_len}
use Rattle.std.proofs.lemmas.List.Splits.{slice_split-cons_yes}
use Rattle.grammar.specs.Grammar.{Word, is_word, words_of}

abbrev is_space : ℕ → Bool
is_space b = b == 32

-- A text is cut where its first space is, and what is left has the other words.
abbrev CutAt : List ℕ → ℕ → Type 0
CutAt text n = (others : List Word) × (slice_split is_space text ≡ take n text ∷ others)
    × (filter is_word others ≡ words_of (drop n text))

abbrev Cut : List ℕ → Type 0
Cut text = CutAt text (position_or_len is_space text)

one_more : (b : ℕ) (bs : List ℕ) → is_space b ≡ false
    → suc (position_or_len is_space bs) ≡ position_or_len is_space (b ∷ bs)
one_more b bs e = rw e (omega arith)

cut-cons : (t : Bool) (b : ℕ) (bs : List ℕ) → is_space b ≡ t → Cut bs → Cut (b ∷ bs)
cut-cons true b bs e c =
    let none : 0 ≡ position_or_len is_space (b ∷ bs) = rw e refl in
    let same = slice_split-cons_yes is_space b bs e in
    subst (CutAt (b ∷ bs)) none (slice_split is_space bs, same, sym (ap (filter is_word) same))
cut-cons false b bs e c =
    let w : Word = b ∷ take (position_or_len is_space bs) bs in
    let first : slice_split is_space (b ∷ bs) ≡ w ∷ c.0 = rw e (ap (onto_first b) c.1) in
    subst (CutAt (b ∷ bs)) (one_more b bs e) (c.0, first, c.2)

cut : (text : List ℕ) → Cut text
cut [] = ([], refl, refl)
cut (b ∷ bs) = cut-cons (is_space b) b bs refl (cut bs)

kept : (w : Word) (ws : List Word) → 0 < length w → filter is_word (w ∷ ws) ≡ w ∷ filter is_word ws
kept [] ws some = absurd (omega arith)
kept (b ∷ bs) ws some = refl

-- where a word comes first
pub first_word : (text : List ℕ) → 0 < position_or_len is_space text
    → words_of text
    ≡ take (position_or_len is_space text) text ∷ words_of (drop (position_or_len is_space text) text)
first_word text some =
    let f = cut text in
    let w : Word = take (position_or_len is_space text) text in
    let long : 0 < length w = omega (arith, length-prefix_len (λ b. not (is_space b)) text) in
    ap (filter is_word) f.1 ∙ (kept w f.0 long ∙ ap (λ ws. w ∷ ws) f.2)

-- where a word comes first, or nothing
pub no_words : (text : List ℕ) → (text ≡ []) ⊎ (0 < position_or_len is_space text)
    → words_of text ≡ [] → text ≡ []
no_words text (inl none) e = none
no_words text (inr some) e = let first = first_word text some in cc
