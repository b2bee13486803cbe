use Rattle.std.proofs.Common.{◌∙◌, ◌<◌, ℕ, List, Option, length, ap, sym, arith}
use Rattle.machine.specs.declared.arrivals.Arrival.{Arrival}
use Rattle.machine.specs.Arrivals.{at_any_time, sooner}
use Rattle.machine.proofs.Arriving.{is_there, soonest_with_one}
use Rattle.machine.proofs.arrivals.put.Goals as goal

pub returns-in-None-clause-first : goal.returns-in-None-clause-first
returns-in-None-clause-first c =
    let each : List Arrival = c.args.arrivals.now in
    let i : ℕ = c.source.inside.number in
    let full = c.told-arrivals in
    let few = c.requires.few in
    let below : i < c.args.used = rw c.source.view_is c.requires.below in
    let there : i < length each = omega (arith, full, few, below) in
    c.sooner.ensures
    ∙ ap (λ (o : Option ℕ). sooner o c.args.arrival.raised) c.requires.first
    ∙ sym (soonest_with_one each i c.args.arrival there
    (ap (λ (a : Arrival). a.raised) (is_there each i at_any_time _ there) ∙ c.in-None.is))
