use Rattle.std.proofs.Common.{◌≡◌, ◌∙◌, true, false, Some, None, ap, sym, arith, rules}
use Rattle.grammar.specs.Names.{is_name}
use Rattle.requests.specs.Names.{are_names, is_among, names_of}
use Rattle.requests.proofs.Naming.{name_alone, no_name, one_name, there_twice}
use Rattle.requests.proofs.Splitting.{cut_parts}
use Rattle.requests.proofs.names.are_names.Goals as goal

pub returns-then-not-is_name : goal.returns-then-not-is_name
returns-then-not-is_name c =
    let parts = cut_parts 44 c.loop-name.rest.now (Some (c.in-Some.name, c.in-Some.others)) c.in-Some.ensures.cases (omega arith) in
    let isnt : is_name c.in-Some.name.now ≡ false = search rules in
    sym (no_name c.in-Some.name.now (names_of c.in-Some.others.now) isnt) ∙ ap are_names (sym parts) ∙ c.loop-name.invariant.so_far

pub returns-then-is_among : goal.returns-then-is_among
returns-then-is_among c =
    let parts = cut_parts 44 c.loop-name.rest.now (Some (c.in-Some.name, c.in-Some.others)) c.in-Some.ensures.cases (omega arith) in
    let twice : is_among c.in-Some.name.now (names_of c.in-Some.others.now) ≡ true = sym c.is_among.ensures ∙ c.if-is_among.true in
    sym (there_twice c.in-Some.name.now (names_of c.in-Some.others.now) twice) ∙ ap are_names (sym parts)
    ∙ c.loop-name.invariant.so_far

pub loop-name-preserved : goal.loop-name-preserved
loop-name-preserved c =
    let parts = cut_parts 44 c.loop-name.rest.now (Some (c.in-Some.name, c.in-Some.others)) c.in-Some.ensures.cases (omega arith) in
    let is : is_name c.in-Some.name.now ≡ true = search rules in
    let once : is_among c.in-Some.name.now (names_of c.in-Some.others.now) ≡ false = sym c.is_among.ensures ∙ c.if-is_among.false in
    record {
      is_text = search rules;
      so_far =
          sym (one_name c.in-Some.name.now (names_of c.in-Some.others.now) is once) ∙ ap are_names (sym parts)
          ∙ c.loop-name.invariant.so_far;
    }

pub returns : goal.returns
returns c =
    let parts = cut_parts 44 c.loop-name.rest.now None c.in_default.ensures.cases (omega arith) in
    let is : c.is_name-2.result ≡ is_name c.loop-name.rest.now = search rules in
    is ∙ sym (name_alone c.loop-name.rest.now) ∙ ap are_names (sym parts) ∙ c.loop-name.invariant.so_far
