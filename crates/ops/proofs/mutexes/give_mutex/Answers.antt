use Rattle.std.proofs.Common.{arith, None, refl, subst, sym}
use Rattle.model.specs.declared.event.Misuse.TheVariants.{NotHolder}
use Rattle.model.specs.State.{State, object_at, with_object}
use Rattle.objects.specs.Objects.{Objects}
use Rattle.machine.specs.StandsFor.{At}
use Rattle.ops.proofs.Held.{unheld_by_tasks}
use Rattle.ops.proofs.Ranking.{gave, gave_nothing}
use Rattle.ops.proofs.Waits.{stored_at}
use Rattle.ops.proofs.mutexes.give_mutex.Goals as goal

pub let_go-requires-clause-agrees : goal.let_go-requires-clause-agrees
let_go-requires-clause-agrees g c =
    let s : State = c.requires.can.tick.advance.agrees.0 in
    let h : At c.args.machine.now s.log s = record { stands = c.requires.can.tick.advance.agrees.1; log = refl } in (
      with_object c.args.object (record (object_at s c.args.object) { holder = None }) s,
      (stored_at c.args.machine.now s.log s h c.args.object _ c.give_mutex.new.self
          (c.in-Ok.ensures.stands s None h.stands.rest.objects)).stands,
    )

pub returns-in-Ok : goal.returns-in-Ok
returns-in-Ok g c = record {
  at = λ s h.
      gave c.args.app.now c.let_go.new.machine _ s c.args.task c.args.object
      (unheld_by_tasks c.args.machine.now s h.stands c.requires.can.tick.depth)
      (c.in-Ok.ensures.allowed s None h.stands.rest.objects)
      (c.let_go.ensures.at _ (stored_at c.args.machine.now _ s h c.args.object _
      c.give_mutex.new.self (c.in-Ok.ensures.stands s None h.stands.rest.objects)));
  few = c.let_go.ensures.few;
  before = c.let_go.ensures.before;
}

pub returns-in-Err : goal.returns-in-Err
returns-in-Err g c = record {
  at = λ s h.
      gave_nothing c.args.app.now c.misuse.new.self _ s c.args.task c.args.object NotHolder
      (unheld_by_tasks c.args.machine.now s h.stands c.requires.can.tick.depth)
      (c.in-Err.ensures.misuse s None h.stands.rest.objects)
      (c.misuse.ensures _ s (subst
      (λ (q : Objects). At (record c.args.machine.now { objects = q }) (g.L.Log.logged c.args.log.now).told s)
      (sym c.in-Err.ensures.refused) h));
  few = omega arith;
  before = refl;
}
