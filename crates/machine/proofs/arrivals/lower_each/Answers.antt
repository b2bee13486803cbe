use Rattle.std.proofs.Common.{◌≡◌, ◌<◌, ◌∙◌, ℕ, true, false, ltb, ltb-false, List, length, Option, ap, arith}
use Rattle.std.proofs.Common.{sym}
use Rattle.std.proofs.Common.{take}
use Rattle.std.proofs.Math.ListN.{length-set}
use Rattle.std.proofs.lemmas.Bool.{ltb-true}
use Rattle.std.proofs.lemmas.List.{get_or-set_other}
use Rattle.model.proofs.Sorting.{by_test}
use Rattle.machine.specs.declared.arrivals.Arrival.{Arrival}
use Rattle.machine.specs.Arrivals.{arrival_in, at_any_time, is_due, lowered, sooner, soonest}
use Rattle.machine.proofs.Arriving.{is_there, made_to, soonest_more, soonest_of_used}
use Rattle.machine.proofs.arrivals.lower_each.Goals as goal

pub loop-source-preserved : goal.loop-source-preserved
loop-source-preserved c =
    let n : ℕ = c.loop-source.source in
    let now : List Arrival = c.loop-source.arrivals in
    let l : n < c.args.used = c.loop-source-test.true in
    let few = c.requires.few in
    let full = c.loop-source.invariant.full in
    let many = c.loop-source.invariant.many in
    let here = is_there now n _ at_any_time (omega arith) ∙ c.loop-source.invariant.rest n (omega arith) in
    record {
      due = made_to c.loop-source.due n c.is_due.result false
          (λ i b. b ≡ is_due c.args.tick (arrival_in c.args.arrivals.now i)) (omega arith) c.loop-source.invariant.due
          (c.is_due.ensures ∙ ap (is_due c.args.tick) here);
      low = made_to now n c.lowered-left.result at_any_time
          (λ i a. a ≡ lowered c.args.tick (arrival_in c.args.arrivals.now i)) (omega arith) c.loop-source.invariant.low
          (c.lowered-left.ensures ∙ ap (lowered c.args.tick) here);
      rest = λ i le.
          get_or-set_other now n i c.lowered-left.result at_any_time (λ e. absurd (omega (arith, e, le)))
          ∙ c.loop-source.invariant.rest i (omega arith);
      full = length-set now n c.lowered-left.result ∙ full;
      many = length-set c.loop-source.due n c.is_due.result ∙ many;
      undue = λ i le.
          get_or-set_other c.loop-source.due n i c.is_due.result false (λ e. absurd (omega (arith, e, le)))
          ∙ c.loop-source.invariant.undue i (omega arith);
      first =
          c.sooner-first.ensures
          ∙ ap (λ (o : Option ℕ). sooner o c.lowered-left.result.raised) c.loop-source.invariant.first
          ∙ soonest_more now n c.lowered-left.result (omega arith);
    }

pub returns-clause-due : goal.returns-clause-due
returns-clause-due c = λ source. by_test (ltb source c.args.used)
    (λ t. let l = ltb-true source c.args.used t in
    c.loop-source.invariant.due source (let m = c.loop-source-test.false in omega arith))
    (λ t. let le = ltb-false source c.args.used t in
    c.loop-source.invariant.undue source (let m = c.loop-source.auto.source-end in omega arith)
    ∙ sym (ap (is_due c.args.tick) (c.requires.past source (omega arith))))

pub returns-clause-lowered : goal.returns-clause-lowered
returns-clause-lowered c = λ source. by_test (ltb source c.args.used)
    (λ t. let l = ltb-true source c.args.used t in
    c.loop-source.invariant.low source (let m = c.loop-source-test.false in omega arith))
    (λ t. let le = ltb-false source c.args.used t in
    c.loop-source.invariant.rest source (let m = c.loop-source.auto.source-end in omega arith)
    ∙ c.requires.past source (omega arith)
    ∙ sym (ap (lowered c.args.tick) (c.requires.past source (omega arith))))

pub returns-clause-first : goal.returns-clause-first
returns-clause-first c =
    c.loop-source.invariant.first
    ∙ ap (λ (n : ℕ). soonest (take n c.loop-source.arrivals))
    (let less = c.loop-source-test.false in let most = c.loop-source.auto.source-end in omega (arith, less, most))
    ∙ soonest_of_used c.args.used c.loop-source.arrivals
    (λ i le.
    c.loop-source.invariant.rest i (let most = c.loop-source.auto.source-end in omega (arith, most, le))
    ∙ c.requires.past i le)
