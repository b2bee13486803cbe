use Rattle.std.proofs.Common.{◌≡◌, ◌<◌, ◌∙◌, ℕ, false, None, List, get_or, sym, ltb, ltb-false, arith}
use Rattle.std.proofs.Math.ListN.{length-set}
use Rattle.std.proofs.lemmas.Bool.{ltb-true}
use Rattle.std.proofs.lemmas.List.{get_or-set_other}
use Rattle.model.proofs.Sorting.{by_test}
use Rattle.machine.specs.declared.arrivals.Arrival.{Arrival}
use Rattle.machine.specs.Arrivals.{arrival_in, at_any_time}
use Rattle.machine.proofs.Arriving.{is_there, made_to, same_each}
use Rattle.machine.proofs.arrivals.copy_used.Goals as goal

pub loop-source-preserved : goal.loop-source-preserved
loop-source-preserved c =
    let n : ℕ = c.loop-source.source in
    let now : List Arrival = c.loop-source.arrivals in
    let full = c.loop-source.invariant.full in
    let l : n < c.args.used = c.loop-source-test.true in
    let few = c.requires.few in
    let others : List Arrival = c.args.others.now in
    let long = c.told-others in
    let none : Arrival = record { armed = false; free_from = 0; raised = None } in
    let it : Arrival = get_or others n none in
    record {
      copied = made_to now n it at_any_time (λ i a. a ≡ arrival_in others i) (omega arith) c.loop-source.invariant.copied
          (is_there others n none at_any_time (omega arith));
      rest = λ i le.
          get_or-set_other now n i it at_any_time (λ e. absurd (omega (arith, e, le)))
          ∙ c.loop-source.invariant.rest i (omega arith);
      full = length-set now n it ∙ full;
    }

pub returns : goal.returns
returns c =
    same_each c.loop-source.arrivals c.args.others.now at_any_time (c.loop-source.invariant.full ∙ sym c.told-others)
    (λ i l. by_test (ltb i c.args.used)
    (λ t. let k = ltb-true i c.args.used t in
    c.loop-source.invariant.copied i (let m = c.loop-source-test.false in omega arith))
    (λ t. let k = ltb-false i c.args.used t in
    c.loop-source.invariant.rest i (let m = c.loop-source.auto.source-end in omega arith) ∙ c.requires.past i k))
