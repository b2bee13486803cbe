use Rattle.std.proofs.Common.{◌∙◌, Some, None, ap, sym, arith, rules}
use Rattle.requests.specs.Names.{is_among, names_of}
use Rattle.requests.proofs.Naming.{among_first, among_later, among_last}
use Rattle.requests.proofs.Splitting.{cut_parts}
use Rattle.requests.proofs.names.is_among.Goals as goal

pub returns-then-eq : goal.returns-then-eq
returns-then-eq c =
    let parts =
    cut_parts 44 c.loop-other.rest.now (Some (c.in-Some.other, c.in-Some.others)) c.in-Some.ensures.cases (omega arith) in
    let found = sym c.eq.ensures ∙ c.if-eq.true in
    sym (among_first c.args.name.now c.in-Some.other.now (names_of c.in-Some.others.now) found)
    ∙ ap (is_among c.args.name.now) (sym parts) ∙ c.loop-other.invariant.so_far

pub loop-other-preserved : goal.loop-other-preserved
loop-other-preserved c =
    let parts =
    cut_parts 44 c.loop-other.rest.now (Some (c.in-Some.other, c.in-Some.others)) c.in-Some.ensures.cases (omega arith) in
    let isnt = sym c.eq.ensures ∙ c.if-eq.false in
    record {
      is_text = search rules;
      so_far =
          sym (among_later c.args.name.now c.in-Some.other.now (names_of c.in-Some.others.now) isnt)
          ∙ ap (is_among c.args.name.now) (sym parts) ∙ c.loop-other.invariant.so_far;
    }

pub returns : goal.returns
returns c =
    let parts = cut_parts 44 c.loop-other.rest.now None c.in_default.ensures.cases (omega arith) in
    c.eq-2.ensures ∙ sym (among_last c.args.name.now c.loop-other.rest.now)
    ∙ ap (is_among c.args.name.now) (sym parts) ∙ c.loop-other.invariant.so_far
