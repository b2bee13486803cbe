-- Adding the texts of several items at a time, and those of a row's parts.
use Rattle.std.proofs.Common.{◌≡◌, ◌∙◌, ℕ, List, ◌++◌, Option, ap, sym, append_assoc}
use Rattle.std.proofs.lemmas.Grind.{flat_map-append}
use Rattle.std.specs.List.{flat_map}
use Rattle.byte_io.specs.Bytes.{Sent, SentFront}
use Rattle.byte_io.proofs.Sending.{Sent_then, Sent_longer, SentFront_then, SentFront_longer}

-- A part of the page went out, and the texts of some items were added to it.
pub Sent_some : {A : Type 0} (f : A → List ℕ) (a b c : Option (List ℕ)) (text page mid kept : List ℕ) (rest some others : List A)
    → rest ≡ some ++ others
    → Sent a b text (page ++ flat_map f rest) → Sent b c page mid
    → kept ≡ mid ++ flat_map f some → Sent a c text (kept ++ flat_map f others)
Sent_some f a b c text page mid kept rest some others is sent more put =
    let parts : mid ++ flat_map f rest ≡ kept ++ flat_map f others =
    rw (is, flat_map-append f some others, put) (sym (append_assoc mid (flat_map f some) (flat_map f others))) in
    Sent_then a b c text (page ++ flat_map f rest) (kept ++ flat_map f others) sent
    (rw (← parts) (Sent_longer b c page mid (flat_map f rest) more))

-- The page went out in part.
pub SentFront_some : {A : Type 0} (f : A → List ℕ) (a b c : Option (List ℕ)) (text page : List ℕ) (rest : List A)
    → Sent a b text (page ++ flat_map f rest) → SentFront b c page → SentFront a c text
SentFront_some f a b c text page rest sent more =
    SentFront_then a b c text (page ++ flat_map f rest) sent (SentFront_longer b c page (flat_map f rest) more)

-- Words are added to a text.
pub added : (start text page words next : List ℕ) → page ≡ start ++ text → next ≡ page ++ words → next ≡ start ++ (text ++ words)
added start text page words next so_far put =
    put ∙ ap (λ (bytes : List ℕ). bytes ++ words) so_far ∙ append_assoc start text words
