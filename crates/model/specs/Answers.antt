-- What a script asks of the last answer.
use Rattle.std.specs.Prelude.{ℕ, Bool, false, not, List, Option, Some, None, is_none, nat_lt, nat_eq}
use Rattle.std.specs.Option.{option_eq}
use Rattle.model.specs.declared.answer.AnswerCondition.{AnswerCondition}
use Rattle.model.specs.declared.answer.AnswerCondition.TheVariants.{Is, IsNot, Below, Above}
use Rattle.model.specs.declared.value.Value.{Value}
use Rattle.model.specs.Values.{number_of, value_of}

-- The answer is this value; `None` is the answer `none`.
abbrev pub equals : (variables : List ℕ) → (answer : Option ℕ) → Option Value → Bool
equals variables answer None = is_none answer
equals variables answer (Some value) = option_eq nat_eq answer (value_of variables answer value)

-- The condition holds of this answer; `none` is neither below nor above a number (profile).
abbrev pub holds : (variables : List ℕ) → AnswerCondition → Option ℕ → Bool
holds variables (Is wanted) answer = equals variables answer wanted
holds variables (IsNot other) answer = not (equals variables answer other)
holds variables (Below bound) (Some n) = nat_lt n (number_of variables (Some n) bound)
holds variables (Above bound) (Some n) = nat_lt (number_of variables (Some n) bound) n
holds variables (Below bound) None = false
holds variables (Above bound) None = false
