use Rattle.std.proofs.Common.{refl, subst, sym, arith, ◌∙◌}
use Rattle.soundness.proofs.Pending.{served_none}
use Rattle.machine.specs.StandsFor.{AtAny}
use Rattle.machine.proofs.Pending.{none_by, none_of_any}
use Rattle.kernel.proofs.handlers.serve_pending.Goals as goal

pub returns-else-any_pending-clause-does : goal.returns-else-any_pending-clause-does
returns-else-any_pending-clause-does g c = record {
  at = λ s h.
      subst (AtAny c.args.machine.now (g.L.Log.logged c.args.log.now).told)
      (sym (served_none c.args.app.now s
      (none_by c.args.machine.now s
      (none_of_any c.args.machine.now.sources.pending (sym c.any_pending.ensures ∙ c.if-any_pending.false)) h.stands))) h;
  few = omega arith;
  before = refl;
}

pub returns-else-any_pending-clause-can : goal.returns-else-any_pending-clause-can
returns-else-any_pending-clause-can g c =
    let can = c.requires.can in
    record {
      state = can.state;
      stands = can.stands;
      sound = can.sound;
      closed = can.closed;
      early = let l = can.early in omega arith;
    }
