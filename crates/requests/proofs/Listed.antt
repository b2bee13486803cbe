-- Lists of ends and shards, as they are read.
use Rattle.std.proofs.Common.{◌≡◌, ◌||◌, ℕ, Bool, true, false, List, [], ◌∷◌}
use Rattle.std.proofs.Common.{Option, Some, None, option_map, refl, sym, ap, ◌∙◌}
use Rattle.std.specs.Option.{option_and_then}
use Rattle.report.specs.declared.view.Ends.{Ends}
use Rattle.requests.specs.Shown.{either, ends_listed, ends_named}

-- ---- ends

or_assoc : (a b c : Bool) → ((a || b) || c) ≡ (a || (b || c))
or_assoc true b c = refl
or_assoc false b c = refl

pub either_assoc : (a b c : Ends) → either (either a b) c ≡ either a (either b c)
either_assoc a b c =
    rw (
      or_assoc a.pass b.pass c.pass,
      or_assoc a.check b.check c.check,
      or_assoc a.misuse b.misuse c.misuse,
      or_assoc a.ticks b.ticks c.ticks,
      or_assoc a.steps b.steps c.steps,
      or_assoc a.stuck b.stuck c.stuck,
    ) refl

-- the ends so far, and those of the words that are left
pub with_more : (so_far : Ends) (word : List ℕ) (words : List (List ℕ)) (named : Ends)
    → ends_named word ≡ Some named → (next : List ℕ) (others : List (List ℕ)) → words ≡ next ∷ others
    → option_map (either so_far) (ends_listed (word ∷ words)) ≡ option_map (either (either so_far named)) (ends_listed words)
with_more so_far word words named is next others some = rw some (in_turn (ends_listed (next ∷ others)))
  where
    mapped : (o : Option Ends)
        → option_map (either so_far) (option_map (either named) o) ≡ option_map (either (either so_far named)) o
    mapped None = refl
    mapped (Some ends) = ap Some (sym (either_assoc so_far named ends))

    in_turn : (o : Option Ends)
        → option_map (either so_far) (option_and_then (λ ends. option_map (either ends) o) (ends_named word))
        ≡ option_map (either (either so_far named)) o
    in_turn o =
        ap (λ (w : Option Ends). option_map (either so_far) (option_and_then (λ ends. option_map (either ends) o) w)) is ∙ mapped o

pub with_none : (so_far : Ends) (word : List ℕ) (words : List (List ℕ))
    → ends_named word ≡ None → option_map (either so_far) (ends_listed (word ∷ words)) ≡ None
with_none so_far word [] is = ap (option_map (either so_far)) is
with_none so_far word (next ∷ others) is =
    ap (λ (w : Option Ends).
    option_map (either so_far) (option_and_then (λ ends. option_map (either ends) (ends_listed (next ∷ others))) w))
    is
