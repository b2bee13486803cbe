use Rattle.std.proofs.Common.{◌∙◌, ℕ, List, Result}
use Rattle.std.specs.declared.num.ParseIntError.{ParseIntError}
use Rattle.std.specs.Str.Parse.{ParsesUnsigned, ExplainsUnsignedError, HasUnsignedDigitsIfOk}
use Rattle.clap.specs.Words.{found_of}
use Rattle.clap.proofs.WalkLemmas.{one_text-rows}
use Rattle.requests.proofs.Matches.{number_read}
use Rattle.requests.proofs.words.number.Goals as goal

-- what reading a number of 32 bits gives
abbrev Gives : List ℕ → Result ℕ ParseIntError → Type 0
Gives bs r = ParsesUnsigned 32 10 bs r × ExplainsUnsignedError 10 bs r × HasUnsignedDigitsIfOk bs r

pub returns : goal.returns
returns c =
    let text = one_text-rows (found_of c.args.matches.now) c.args.id.now in
    number_read Gives _ c.try_get_one.result (λ t q h. h.0)
    (λ none. c.try_get_one.ensures.none (text ∙ none)) (λ t some. c.try_get_one.ensures.value t (text ∙ some))
