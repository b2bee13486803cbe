use Rattle.std.proofs.Common.{◌≡◌, false, map, subst, sym}
use Rattle.model.specs.State.{Source}
use Rattle.model.specs.Handlers.{pending_of}
use Rattle.std.specs.List.{filter, range_with_len}
use Rattle.machine.specs.Sources.{Sources, is_pending}
use Rattle.machine.specs.StandsFor.{released_ticks}
use Rattle.machine.proofs.Beside.{sourced_any}
use Rattle.machine.proofs.Pending.{are_cleared, pending_are}
use Rattle.machine.proofs.machine.Machine.take_pending.Goals as goal

pub returns-clause-does : goal.returns-clause-does
returns-clause-does c = λ log s h.
    sourced_any c.args.self.now log s c.clear.new.self (map (λ (x : Source). record x { pending = false }) s.sources)
    (λ are. are_cleared (released_ticks s) c.args.self.now.sources c.clear.new.self s.sources are
    c.clear.ensures.rest c.clear.ensures.none
    c.clear.ensures.full) h

pub returns-clause-were : goal.returns-clause-were
returns-clause-were c = λ s h.
    subst (λ (v : Sources). pending_of s ≡ filter (λ source. is_pending v source) (range_with_len 0 17))
    (sym c.copy-pending.ensures) (pending_are c.args.self.now s h)
