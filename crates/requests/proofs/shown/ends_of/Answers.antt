use Rattle.std.specs.Prelude.{◌==◌}
use Rattle.std.proofs.Common.{◌≡◌, ◌∙◌, [], List, ℕ, Some, None, ap, sym, arith, rules, option_map}
use Rattle.std.specs.List.{slice_split}
use Rattle.requests.specs.Shown.{either, ends_listed, ends_named}
use Rattle.requests.proofs.Listed.{with_more, with_none}
use Rattle.requests.proofs.Splitting.{cut_parts, some_part}
use Rattle.requests.proofs.shown.ends_of.Goals as goal

pub returns-in_err-ends_named : goal.returns-in_err-ends_named
returns-in_err-ends_named c =
    let parts = cut_parts 44 c.loop-word.rest.now (Some (c.in-Some.word, c.in-Some.others)) c.in-Some.ensures.cases (omega arith) in
    let is : ends_named c.in-Some.word.now ≡ None = search rules in
    let outcome : c.from_residual.result ≡ None = search rules in
    outcome ∙ sym (with_none c.loop-word.ends c.in-Some.word.now (slice_split (λ b. b == 44) c.in-Some.others.now) is)
    ∙ ap (λ (ps : List (List ℕ)). option_map (either c.loop-word.ends) (ends_listed ps)) (sym parts) ∙ c.loop-word.invariant.so_far

pub loop-word-preserved : goal.loop-word-preserved
loop-word-preserved c =
    let parts = cut_parts 44 c.loop-word.rest.now (Some (c.in-Some.word, c.in-Some.others)) c.in-Some.ensures.cases (omega arith) in
    let is : ends_named c.in-Some.word.now ≡ Some c.in_ok-ends_named.field-0 = search rules in
    let others = some_part 44 c.in-Some.others.now in
    record {
      is_text = search rules;
      so_far = rw c.either-ends.ensures
          (sym (with_more c.loop-word.ends c.in-Some.word.now (slice_split (λ b. b == 44) c.in-Some.others.now)
          c.in_ok-ends_named.field-0 is others.0 others.1 others.2)
          ∙ ap (λ (ps : List (List ℕ)). option_map (either c.loop-word.ends) (ends_listed ps)) (sym parts)
          ∙ c.loop-word.invariant.so_far);
    }

pub returns-in_err-ends_named-2 : goal.returns-in_err-ends_named-2
returns-in_err-ends_named-2 c =
    let parts = cut_parts 44 c.loop-word.rest.now None c.in_default.ensures.cases (omega arith) in
    let is : ends_named c.loop-word.rest.now ≡ None = search rules in
    let outcome : c.from_residual-in_err-ends_named-2.result ≡ None = search rules in
    outcome ∙ sym (with_none c.loop-word.ends c.loop-word.rest.now [] is)
    ∙ ap (λ (ps : List (List ℕ)). option_map (either c.loop-word.ends) (ends_listed ps)) (sym parts) ∙ c.loop-word.invariant.so_far

pub returns : goal.returns
returns c =
    let parts = cut_parts 44 c.loop-word.rest.now None c.in_default.ensures.cases (omega arith) in
    let is : ends_named c.loop-word.rest.now ≡ Some c.in_ok-ends_named-2.field-0 = search rules in
    ap Some c.either.ensures ∙ sym (ap (option_map (either c.loop-word.ends)) is)
    ∙ ap (λ (ps : List (List ℕ)). option_map (either c.loop-word.ends) (ends_listed ps)) (sym parts) ∙ c.loop-word.invariant.so_far
