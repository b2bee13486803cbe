use Rattle.std.proofs.Common.{◌≡◌, ◌∙◌, ℕ, Option, None, ap₂, refl, sym, rules}
use Rattle.requests.specs.Shown.{shard_of}
use Rattle.requests.proofs.Splitting.{at_stroke, new_shard, no_count, no_number, without_stroke}
use Rattle.requests.proofs.shown.shard_named.Goals as goal

pub returns-in_err-number : goal.returns-in_err-number
returns-in_err-number c =
    let outcome : c.from_residual.result ≡ None = search rules in
    outcome ∙ sym (without_stroke c.args.text.now c.in_err-number.ensures.cases)

pub returns-in_err-spelled : goal.returns-in_err-spelled
returns-in_err-spelled c =
    let outcome : c.from_residual-in_err-spelled.result ≡ None = search rules in
    outcome
    ∙ sym (at_stroke c.args.text.now (c.in_ok-number.number, c.in_ok-number.count) c.in_ok-number.ensures.cases
    ∙ no_number _ _ (c.in_err-spelled.ensures.none refl))

pub returns-in_err-spelled-2 : goal.returns-in_err-spelled-2
returns-in_err-spelled-2 c =
    let outcome : c.from_residual-in_err-spelled-2.result ≡ None = search rules in
    outcome
    ∙ sym (at_stroke c.args.text.now (c.in_ok-number.number, c.in_ok-number.count) c.in_ok-number.ensures.cases
    ∙ no_count _ _ (c.in_err-spelled-2.ensures.none refl))

pub returns : goal.returns
returns c =
    new_shard c.in_ok-spelled.field-0 c.in_ok-spelled-2.field-0 c.new.result c.new.ensures.known c.new.ensures.value
    ∙ sym (at_stroke c.args.text.now (c.in_ok-number.number, c.in_ok-number.count) c.in_ok-number.ensures.cases
    ∙ ap₂ (λ (a b : Option ℕ). shard_of a b) c.in_ok-spelled.ensures.some c.in_ok-spelled-2.ensures.some)
