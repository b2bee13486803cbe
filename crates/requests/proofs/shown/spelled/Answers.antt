use Rattle.std.proofs.Common.{◌∙◌, sym, arith}
use Rattle.requests.proofs.Splitting.{parsed_none, parsed_some}
use Rattle.requests.proofs.shown.spelled.Goals as goal

pub returns-clause-some : goal.returns-clause-some
returns-clause-some c =
    let plain = sym (c.starts_with.ensures.byte (omega arith) (omega arith) (λ w o h. h)) ∙ c.if-starts_with.false in
    rw c.ok.ensures.value (parsed_some c.args.text.now c.parse.result plain c.parse.ensures.value.0)

pub returns-clause-none : goal.returns-clause-none
returns-clause-none c none =
    let plain = sym (c.starts_with.ensures.byte (omega arith) (omega arith) (λ w o h. h)) ∙ c.if-starts_with.false in
    parsed_none c.args.text.now c.parse.result plain c.parse.ensures.value.0 (rw (← c.ok.ensures.value) none)
