use Rattle.std.proofs.Common.{◌∙◌, ap, set, subst}
use Rattle.machine.specs.declared.arrivals.Arrival.{Arrival}
use Rattle.machine.specs.Sources.{is_pending, source_from, source_of}
use Rattle.machine.specs.StandsFor.{At, AtAny, released_ticks}
use Rattle.machine.specs.StandsFor.Stands.{Placed}
use Rattle.machine.proofs.Beside.{sourced_at, sourced_any}
use Rattle.machine.proofs.Either.{elapsed_is, sources_are}
use Rattle.machine.proofs.Arriving.{are_arrived, done_to}
use Rattle.machine.proofs.machine.Machine.do_to_source.Goals as goal

pub returns-clause-does : goal.returns-clause-does
returns-clause-does c = λ log s h.
    let pending = is_pending c.args.self.now.sources c.args.source in
    let done =
    done_to (released_ticks s) c.args.op s c.args.source pending c.arrival-arrival.result c.elapsed-now.result
    (ap (λ (a : Arrival). source_from (released_ticks s) (source_of pending a)) c.arrival-arrival.ensures
    ∙ (sources_are c.args.self.now s (Placed h.stands)).same c.args.source)
    (c.elapsed-now.ensures.elapsed ∙ elapsed_is c.args.self.now s (Placed h.stands)) in
    subst (At _ log) done.2
    (sourced_at c.args.self.now log s c.set_arrival.new.self (set s.sources c.args.source done.0)
    (λ are. are_arrived (released_ticks s) c.args.self.now.sources c.set_arrival.new.self s.sources c.args.source
    c.after.result done.0 are
    (ap (λ (a : Arrival). source_from (released_ticks s) (source_of pending a)) c.after.ensures ∙ done.1)
    c.set_arrival.ensures.set c.set_arrival.ensures.past) h)

pub returns-clause-any : goal.returns-clause-any
returns-clause-any c = λ log s h.
    let pending = is_pending c.args.self.now.sources c.args.source in
    let done =
    done_to (released_ticks s) c.args.op s c.args.source pending c.arrival-arrival.result c.elapsed-now.result
    (ap (λ (a : Arrival). source_from (released_ticks s) (source_of pending a)) c.arrival-arrival.ensures
    ∙ (sources_are c.args.self.now s h.stands).same c.args.source)
    (c.elapsed-now.ensures.elapsed ∙ elapsed_is c.args.self.now s h.stands) in
    subst (AtAny _ log) done.2
    (sourced_any c.args.self.now log s c.set_arrival.new.self (set s.sources c.args.source done.0)
    (λ are. are_arrived (released_ticks s) c.args.self.now.sources c.set_arrival.new.self s.sources c.args.source
    c.after.result done.0 are
    (ap (λ (a : Arrival). source_from (released_ticks s) (source_of pending a)) c.after.ensures ∙ done.1)
    c.set_arrival.ensures.set c.set_arrival.ensures.past) h)
