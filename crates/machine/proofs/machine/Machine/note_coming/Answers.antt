use Rattle.std.proofs.Common.{◌≡◌, ◌∙◌, ap, arith, set, subst, sym}
use Rattle.machine.specs.Sources.{is_pending, source_from, source_of}
use Rattle.machine.specs.StandsFor.{At, AtAny, released_ticks}
use Rattle.machine.specs.StandsFor.Stands.{Placed}
use Rattle.machine.proofs.Beside.{sourced_at, sourced_any}
use Rattle.machine.proofs.Either.{elapsed_is, sources_are}
use Rattle.machine.proofs.Arriving.{are_arrived, noted, not_noted}
use Rattle.machine.specs.declared.arrivals.Arrival.{Arrival}
use Rattle.machine.proofs.machine.Machine.note_coming.Goals as goal

pub returns-then-apart-gt0-clause-does : goal.returns-then-apart-gt0-clause-does
returns-then-apart-gt0-clause-does c = λ app same log s h.
    let pending = is_pending c.args.self.now.sources c.args.handler in
    let note =
    noted (released_ticks s) app s c.args.handler c.args.apart pending c.arrival-arrival.result c.elapsed.result
    (ap (λ (a : Arrival). source_from (released_ticks s) (source_of pending a)) c.arrival-arrival.ensures
    ∙ (sources_are c.args.self.now s (Placed h.stands)).same c.args.handler)
    (c.elapsed.ensures.elapsed ∙ elapsed_is c.args.self.now s (Placed h.stands)) c.if-apart-gt0.true same in
    subst (At _ log) note.2
    (sourced_at c.args.self.now log s c.set_arrival.new.self (set s.sources c.args.handler note.0)
    (λ are. are_arrived (released_ticks s) c.args.self.now.sources c.set_arrival.new.self s.sources c.args.handler
    c.free_again.result note.0 are
    (ap (λ (a : Arrival). source_from (released_ticks s) (source_of pending a)) c.free_again.ensures ∙ note.1)
    c.set_arrival.ensures.set c.set_arrival.ensures.past) h)

pub returns-then-apart-gt0-clause-any : goal.returns-then-apart-gt0-clause-any
returns-then-apart-gt0-clause-any c = λ app same log s h.
    let pending = is_pending c.args.self.now.sources c.args.handler in
    let note =
    noted (released_ticks s) app s c.args.handler c.args.apart pending c.arrival-arrival.result c.elapsed.result
    (ap (λ (a : Arrival). source_from (released_ticks s) (source_of pending a)) c.arrival-arrival.ensures
    ∙ (sources_are c.args.self.now s h.stands).same c.args.handler)
    (c.elapsed.ensures.elapsed ∙ elapsed_is c.args.self.now s h.stands) c.if-apart-gt0.true same in
    subst (AtAny _ log) note.2
    (sourced_any c.args.self.now log s c.set_arrival.new.self (set s.sources c.args.handler note.0)
    (λ are. are_arrived (released_ticks s) c.args.self.now.sources c.set_arrival.new.self s.sources c.args.handler
    c.free_again.result note.0 are
    (ap (λ (a : Arrival). source_from (released_ticks s) (source_of pending a)) c.free_again.ensures ∙ note.1)
    c.set_arrival.ensures.set c.set_arrival.ensures.past) h)

pub returns-else-apart-gt0-clause-does : goal.returns-else-apart-gt0-clause-does
returns-else-apart-gt0-clause-does c = λ app same log s h.
    let none : 0 ≡ c.args.apart = (let l = c.if-apart-gt0.false in omega arith) in
    subst (At c.args.self.now log) (sym (not_noted app s c.args.handler (none ∙ same))) h

pub returns-else-apart-gt0-clause-any : goal.returns-else-apart-gt0-clause-any
returns-else-apart-gt0-clause-any c = λ app same log s h.
    let none : 0 ≡ c.args.apart = (let l = c.if-apart-gt0.false in omega arith) in
    subst (AtAny c.args.self.now log) (sym (not_noted app s c.args.handler (none ∙ same))) h
