use Rattle.std.proofs.Common.{◌∙◌, ◌-◌, Some, None, ap, sym, arith, rules}
use Rattle.requests.specs.Names.{name_at, names_of}
use Rattle.requests.proofs.Naming.{first_name, later_name, last_name, past_name}
use Rattle.requests.proofs.Splitting.{cut_parts}
use Rattle.requests.proofs.names.name_at.Goals as goal

pub returns-then-left-eq0 : goal.returns-then-left-eq0
returns-then-left-eq0 c =
    let parts = cut_parts 44 c.loop-name.rest.now (Some (c.in-Some.name, c.in-Some.others)) c.in-Some.ensures.cases (omega arith) in
    sym (first_name c.loop-name.left c.in-Some.name.now (names_of c.in-Some.others.now) c.if-left-eq0.true)
    ∙ ap (name_at c.loop-name.left) (sym parts) ∙ c.loop-name.invariant.so_far

pub loop-name-preserved : goal.loop-name-preserved
loop-name-preserved c =
    let parts = cut_parts 44 c.loop-name.rest.now (Some (c.in-Some.name, c.in-Some.others)) c.in-Some.ensures.cases (omega arith) in
    let some = c.if-left-eq0.false in
    record {
      is_text = search rules;
      so_far =
          sym (later_name c.loop-name.left (c.loop-name.left - 1) c.in-Some.name.now (names_of c.in-Some.others.now)
          (omega (arith, some)))
          ∙ ap (name_at c.loop-name.left) (sym parts) ∙ c.loop-name.invariant.so_far;
    }

pub returns-then-left-eq0-2 : goal.returns-then-left-eq0-2
returns-then-left-eq0-2 c =
    let parts = cut_parts 44 c.loop-name.rest.now None c.in_default.ensures.cases (omega arith) in
    sym (last_name c.loop-name.left c.loop-name.rest.now c.if-left-eq0-2.true)
    ∙ ap (name_at c.loop-name.left) (sym parts) ∙ c.loop-name.invariant.so_far

pub returns-else-left-eq0-2 : goal.returns-else-left-eq0-2
returns-else-left-eq0-2 c =
    let parts = cut_parts 44 c.loop-name.rest.now None c.in_default.ensures.cases (omega arith) in
    sym (past_name c.loop-name.left c.loop-name.rest.now c.if-left-eq0-2.false)
    ∙ ap (name_at c.loop-name.left) (sym parts) ∙ c.loop-name.invariant.so_far
