use Rattle.std.proofs.Common.{◌≡◌, ◌∙◌, ◌++◌, [], ℕ, List, Some, None, ap, arith, map, rules, sym, Err}
use Rattle.model.specs.Words.{source_named}
use Rattle.requests.specs.Names.{names_of}
use Rattle.requests.proofs.Splitting.{cut_parts}
use Rattle.jobs.proofs.Explorations.{named_more, naming_fault}
use Rattle.jobs.proofs.exploring.handlers_named.Goals as goal

pub returns-in_err-add_handler : goal.returns-in_err-add_handler
returns-in_err-add_handler c =
    let parts = cut_parts 44 c.loop-name.rest.now (Some (c.in-Some.name, c.in-Some.others)) c.in-Some.ensures.cases (omega arith) in
    let app = c.args.app.now in
    let known = c.loop-name.invariant.known
    ∙ ap (λ (names : List (List ℕ)). map Some c.loop-name.handlers.items ++ map (source_named app) names) parts in
    let outcome : c.from_residual.result ≡ Err c.in_err-add_handler.field-0.0 = search rules in
    rw outcome
    (naming_fault c.args.list.now app c.loop-name.handlers.items c.in-Some.name.now (names_of c.in-Some.others.now) _ known
    c.in_err-add_handler.ensures.fault)

pub loop-name-preserved : goal.loop-name-preserved
loop-name-preserved c =
    let parts = cut_parts 44 c.loop-name.rest.now (Some (c.in-Some.name, c.in-Some.others)) c.in-Some.ensures.cases (omega arith) in
    let app = c.args.app.now in
    let known = c.loop-name.invariant.known
    ∙ ap (λ (names : List (List ℕ)). map Some c.loop-name.handlers.items ++ map (source_named app) names) parts in
    record {
      is_text = search rules;
      known = named_more _ _ _ _ _ known c.in_ok-add_handler.ensures.named;
    }

pub returns-in_err-add_handler-2 : goal.returns-in_err-add_handler-2
returns-in_err-add_handler-2 c =
    let parts = cut_parts 44 c.loop-name.rest.now None c.in_default.ensures.cases (omega arith) in
    let app = c.args.app.now in
    let known = c.loop-name.invariant.known
    ∙ ap (λ (names : List (List ℕ)). map Some c.loop-name.handlers.items ++ map (source_named app) names) parts in
    let outcome : c.from_residual-in_err-add_handler-2.result ≡ Err c.in_err-add_handler-2.field-0.0 = search rules in
    rw outcome
    (naming_fault c.args.list.now app c.loop-name.handlers.items c.loop-name.rest.now [] _ known
    c.in_err-add_handler-2.ensures.fault)

pub returns : goal.returns
returns c =
    let parts = cut_parts 44 c.loop-name.rest.now None c.in_default.ensures.cases (omega arith) in
    let app = c.args.app.now in
    c.loop-name.invariant.known
    ∙ ap (λ (names : List (List ℕ)). map Some c.loop-name.handlers.items ++ map (source_named app) names) parts
    ∙ sym c.in_ok-add_handler-2.ensures.named
