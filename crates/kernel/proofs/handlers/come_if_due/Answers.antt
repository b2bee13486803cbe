use Rattle.std.proofs.Common.{◌≡◌, ℕ, [], List, ap, arith, refl, subst, sym}
use Rattle.model.specs.Application.{interrupts_at}
use Rattle.model.specs.State.{for_each}
use Rattle.model.specs.Handlers.{come}
use Rattle.machine.specs.StandsFor.{At, AtAny}
use Rattle.machine.specs.StandsFor.Stands.{Placed}
use Rattle.kernel.proofs.handlers.come_if_due.Goals as goal

pub returns-then-is_none_due-clause-does : goal.returns-then-is_none_due-clause-does
returns-then-is_none_due-clause-does g c = record {
  at = λ s h.
      let app = c.args.app.now in
      let none : interrupts_at app s.elapsed ≡ [] = c.is_none_due.ensures s (Placed h.stands) c.if-is_none_due.true in
      subst (At c.args.machine.now (g.L.Log.logged c.args.log.now).told)
      (sym (ap (λ (handlers : List ℕ). for_each (come app) handlers s) none)) h;
  few = omega arith;
  before = refl;
}

pub returns-then-is_none_due-clause-any : goal.returns-then-is_none_due-clause-any
returns-then-is_none_due-clause-any g c = record {
  at = λ s h.
      let app = c.args.app.now in
      let none : interrupts_at app s.elapsed ≡ [] = c.is_none_due.ensures s h.stands c.if-is_none_due.true in
      subst (AtAny c.args.machine.now (g.L.Log.logged c.args.log.now).told)
      (sym (ap (λ (handlers : List ℕ). for_each (come app) handlers s) none)) h;
  few = omega arith;
  before = refl;
}
