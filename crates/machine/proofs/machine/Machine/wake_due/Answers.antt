use Rattle.std.proofs.Common.{◌≡◌, List, sym, subst, ◌∙◌, arith}
use Rattle.model.specs.State.{Object}
use Rattle.model.specs.Order.{tasks_of}
use Rattle.model.specs.Time.{due}
use Rattle.clock.specs.StandsFor.{at_next_tick}
use Rattle.objects.specs.Items.{object_in}
use Rattle.objects.specs.Objects.{CanHold}
use Rattle.machine.proofs.Waking.{to_wake, due_there, sched-jumped, objects-jumped, groups-jumped, ticks_not_held, woken}
use Rattle.machine.proofs.machine.Machine.wake_due.Goals as goal

pub make_all_ready-requires-clause-free : goal.make_all_ready-requires-clause-free
make_all_ready-requires-clause-free c =
    rw c.as_slice.ensures.value (to_wake 1 c.args.self.now c.requires.agrees.0 c.requires.agrees.1
    c.advance_into.new.self c.advance_into.new.due.items c.advance_into.ensures.advances)

pub returns-clause-does : goal.returns-clause-does
returns-clause-does c = λ log s h.
    let is : c.as_slice.result.now ≡ tasks_of (due (at_next_tick s)) =
    c.as_slice.ensures.value ∙ c.advance_into.ensures.due s h.stands.rest.clock in
    let ready =
    c.make_all_ready.ensures.ready (at_next_tick s) (sched-jumped c.args.self.now log s h 1) (rw is (due_there (at_next_tick s))) in
    let left =
    c.make_all_ready.ensures.left (at_next_tick s)
    (objects-jumped c.args.self.now log s h 1) (rw is (due_there (at_next_tick s))) in
    let gone =
    c.make_all_ready.ensures.gone (at_next_tick s) (groups-jumped c.args.self.now log s h 1) (rw is (due_there (at_next_tick s))) in
    let none = ticks_not_held c.args.self.now.sched s h.stands.sched c.requires.depth in
    woken c.args.self.now log s h c.as_slice.result.now c.make_all_ready.new.sched
    c.make_all_ready.new.objects c.advance_into.new.self c.make_all_ready.new.groups is ready
    left gone (c.advance_into.ensures.woken s h.stands.rest.clock none) none

pub returns-clause-leaves : goal.returns-clause-leaves
returns-clause-leaves c = record {
  depth = c.make_all_ready.ensures.depth;
  objects = λ o a room. (
    let same = c.make_all_ready.ensures.number in let below = room.0 in omega (arith, same, below),
    subst (λ (os : List Object). CanHold a (object_in os o)) (sym c.make_all_ready.ensures.objects) room.1,
  );
}
