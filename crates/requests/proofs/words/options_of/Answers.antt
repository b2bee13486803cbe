use Rattle.std.proofs.Common.{◌∙◌}
use Rattle.clap.specs.Words.{found_of, rows_of}
use Rattle.requests.proofs.Matches.{out_of_range}
use Rattle.requests.proofs.words.options_of.Goals as goal

pub returns-clause-none : goal.returns-clause-none
returns-clause-none c = λ none.
    out_of_range (rows_of (found_of c.args.matches.now)) c.in-Ok-Some.workers
    c.in-Ok-Some-number.stride c.in-Ok-Some-number-2.block c.new.result
    (c.in-Ok-Some.ensures ∙ c.in-Ok-Some.field-0-is) (c.in-Ok-Some-number.ensures ∙ c.in-Ok-Some-number.field-0-is)
    (c.in-Ok-Some-number-2.ensures ∙ c.in-Ok-Some-number-2.field-0-is) c.new.ensures (rw (← c.ok.ensures.value) none)
