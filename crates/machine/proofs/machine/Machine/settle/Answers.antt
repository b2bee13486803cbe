use Rattle.std.proofs.Common.{refl, sym, ◌∙◌, arith}
use Rattle.machine.specs.StandsFor.Stands.{Placed}
use Rattle.machine.proofs.Either.{any, either}
use Rattle.machine.proofs.Switches.{ready_before, settled_before, settled_either, settled_free, settled_held, settled_idle}
use Rattle.machine.proofs.Switches.{settled_off, settled_on}
use Rattle.machine.proofs.machine.Machine.settle.Goals as goal

pub returns-in_default : goal.returns-in_default
returns-in_default g c = record {
  at = λ s h. either c.args.self.now _ s h
      (λ a.
      any c.args.self.now _ _ (settled_either c.args.self.now _ s a
      (settled_idle c.args.self.now (g.L.Log.logged c.args.log.now).told s a
      (sym a.stands.sched.current ∙ sym c.in_default.ensures.current))))
      (λ task list b. settled_before c.args.self.now _ s h task list b);
  few = omega arith;
  before = refl;
}

pub returns-then-is_ready : goal.returns-then-is_ready
returns-then-is_ready g c = record {
  at = λ s h. either c.args.self.now _ s h
      (λ a.
      any c.args.self.now _ _ (settled_either c.args.self.now _ s a
      (settled_on c.args.self.now (g.L.Log.logged c.args.log.now).told s a
      c.in-Some.task (sym a.stands.sched.current ∙ sym c.in-Some.ensures.current)
      (sym (c.is_ready.ensures.ready s a.stands) ∙ c.if-is_ready.true))))
      (λ task list b. settled_before c.args.self.now _ s h task list b);
  few = omega arith;
  before = refl;
}

pub returns-then-not-is_held : goal.returns-then-not-is_held
returns-then-not-is_held g c = record {
  at = λ s h. either c.args.self.now _ s h
      (λ a.
      any c.choose.new.self _ _
      (settled_free c.choose.new.self _ s (sym (c.is_held.ensures.held s (Placed a.stands)) ∙ c.if-not-is_held.true)
      (settled_off c.args.self.now (g.L.Log.logged c.args.log.now).told s a c.in-Some.task c.choose.new.self
      (g.L.Log.logged c.choose.new.log).told (sym a.stands.sched.current ∙ sym c.in-Some.ensures.current)
      (sym (c.is_ready.ensures.ready s a.stands) ∙ c.if-is_ready.false) (c.choose.ensures.at s a))))
      (λ task list b.
      let on = ready_before c.args.self.now s task c.in-Some.task list b (sym c.in-Some.ensures.current) in
      let off = c.if-is_ready.false in
      let same = c.is_ready.ensures.scheduled in
      absurd (cc));
  few = c.choose.ensures.few;
  before = c.choose.ensures.before;
}

pub returns-else-not-is_held : goal.returns-else-not-is_held
returns-else-not-is_held g c = record {
  at = λ s h. either c.args.self.now _ s h
      (λ a.
      any c.args.self.now _ _
      (settled_held c.args.self.now _ s (sym (c.is_held.ensures.held s (Placed a.stands)) ∙ c.if-not-is_held.false) a))
      (λ task list b. settled_before c.args.self.now _ s h task list b);
  few = omega arith;
  before = refl;
}
