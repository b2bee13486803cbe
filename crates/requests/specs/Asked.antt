-- Injections that are asked for.
use Rattle.std.specs.Prelude.{Bool, not, List, [], ◌∷◌, map, Option, Some, None}
use Rattle.clap.specs.Words.{Text}
use Rattle.grammar.specs.Grammar.{words_of}
use Rattle.grammar.specs.Points.{RawEntry, RawEach, RawOne, RawPair, falls_from, raw_of}
use Rattle.requests.specs.declared.at.At.{At}
use Rattle.requests.specs.declared.at.NamedInjections.{NamedInjections}
use Rattle.requests.specs.declared.at.NamedInjections.TheVariants.{One, Two, Three}

-- a step, and the name of a handler
abbrev pub pair_at : At → RawPair
pair_at at = record { step = at.step; handler = at.handler.now }

abbrev pub pairs_in : NamedInjections → List RawPair
pairs_in (One a) = pair_at a ∷ []
pairs_in (Two a b) = pair_at a ∷ pair_at b ∷ []
pairs_in (Three a b c) = pair_at a ∷ pair_at b ∷ pair_at c ∷ []

-- They are in the order of their steps.
abbrev pub is_rising : List RawPair → Bool
is_rising pairs = not (falls_from 0 pairs)

-- the names of their handlers
abbrev pub names_in : List RawPair → List Text
names_in pairs = map (λ (p : RawPair). p.handler) pairs

abbrev pub pairs_of_entry : Option RawEntry → Option (List RawPair)
pairs_of_entry None = None
pairs_of_entry (Some (RawOne pairs)) = Some pairs
pairs_of_entry (Some (RawEach span)) = None

-- the injections of the point that a text spells, as a file has it
abbrev pub pairs_spelled : Text → Option (List RawPair)
pairs_spelled text = pairs_of_entry (raw_of (words_of text))
