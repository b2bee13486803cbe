use Rattle.std.proofs.Common.{◌≡◌, ◌∙◌, true, false, set, sym}
use Rattle.model.specs.State.{Source, source_at, with_source}
use Rattle.model.specs.Handlers.{can_come, note_coming, pend}
use Rattle.machine.specs.StandsFor.{released_ticks}
use Rattle.machine.proofs.Beside.{sourced_any}
use Rattle.machine.proofs.Pending.{are_pended}
use Rattle.machine.proofs.machine.Machine.pend.Goals as goal

pub returns-then-can_come-clause-does : goal.returns-then-can_come-clause-does
returns-then-can_come-clause-does c = λ app same log s h.
    let i = c.args.source in
    let x : Source = record (source_at s i) { pending = true } in
    let can : can_come s i ≡ true = sym (c.can_come.ensures s h.stands) ∙ c.if-can_come.true in
    rw can (c.note_coming.ensures.any app same log (with_source i x s)
    (sourced_any c.args.self.now log s c.pend.new.self (set s.sources i x)
    (λ are. are_pended (released_ticks s) c.args.self.now.sources c.pend.new.self s.sources i are
    c.pend.ensures.pends c.pend.ensures.past) h))

pub returns-else-can_come-clause-does : goal.returns-else-can_come-clause-does
returns-else-can_come-clause-does c = λ app same log s h.
    let cannot : can_come s c.args.source ≡ false = sym (c.can_come.ensures s h.stands) ∙ c.if-can_come.false in
    rw cannot h
