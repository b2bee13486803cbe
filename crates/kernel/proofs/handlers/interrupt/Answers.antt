use Rattle.std.proofs.Common.{◌≡◌, ◌∙◌, ℕ, [], List, ap, arith, refl, subst, sym}
use Rattle.model.specs.Application.{interrupts_at}
use Rattle.model.specs.State.{for_each}
use Rattle.model.specs.Handlers.{come, interrupt}
use Rattle.machine.specs.StandsFor.{At, AtAny}
use Rattle.machine.specs.StandsFor.Stands.{Placed}
use Rattle.kernel.proofs.Raised.{interrupt_alone}
use Rattle.kernel.proofs.handlers.interrupt.Goals as goal

pub returns-then-is_none_due-clause-does : goal.returns-then-is_none_due-clause-does
returns-then-is_none_due-clause-does g c = record {
  at = λ s h.
      let app = c.args.app.now in
      let alone = interrupt_alone app s (c.is_none_raised.ensures s (Placed h.stands) c.if-not-is_none_raised.false) in
      let none : interrupts_at app s.elapsed ≡ [] = c.is_none_due.ensures s (Placed h.stands) c.if-is_none_due.true in
      subst (At c.args.machine.now (g.L.Log.logged c.args.log.now).told)
      (sym (alone ∙ ap (λ (handlers : List ℕ). for_each (come app) handlers s) none)) h;
  few = omega arith;
  before = refl;
}

pub returns-then-is_none_due-clause-any : goal.returns-then-is_none_due-clause-any
returns-then-is_none_due-clause-any g c = record {
  at = λ s h.
      let app = c.args.app.now in
      let alone = interrupt_alone app s (c.is_none_raised.ensures s h.stands c.if-not-is_none_raised.false) in
      let none : interrupts_at app s.elapsed ≡ [] = c.is_none_due.ensures s h.stands c.if-is_none_due.true in
      subst (AtAny c.args.machine.now (g.L.Log.logged c.args.log.now).told)
      (sym (alone ∙ ap (λ (handlers : List ℕ). for_each (come app) handlers s) none)) h;
  few = omega arith;
  before = refl;
}

pub returns-clause-does : goal.returns-clause-does
returns-clause-does g c = record {
  at = λ s h.
      subst (At c.come_due.new.machine (g.L.Log.logged c.come_due.new.log).told)
      (sym (interrupt_alone c.args.app.now s (c.is_none_raised.ensures s (Placed h.stands) c.if-not-is_none_raised.false)))
      (c.come_due.ensures.does.at s h);
  few = let f = c.come_due.ensures.does.few in omega arith;
  before = c.come_due.ensures.does.before;
}

pub returns-clause-any : goal.returns-clause-any
returns-clause-any g c = record {
  at = λ s h.
      subst (AtAny c.come_due.new.machine (g.L.Log.logged c.come_due.new.log).told)
      (sym (interrupt_alone c.args.app.now s (c.is_none_raised.ensures s h.stands c.if-not-is_none_raised.false)))
      (c.come_due.ensures.any.at s h);
  few = let f = c.come_due.ensures.any.few in omega arith;
  before = c.come_due.ensures.any.before;
}
