use Rattle.std.proofs.Common.{refl, sym, ◌∙◌}
use Rattle.ops.proofs.Calling.{answers, fulfilled, fulfilled_any, fulfilled_none, fulfilled_none_any, room_still, stored_any}
use Rattle.ops.proofs.Calling.{stored_placed, stored_some}
use Rattle.ops.proofs.queues.fulfil.Goals as goal

pub wake_best-requires : goal.wake_best-requires
wake_best-requires c =
    stored_some c.args.machine.now c.carry_out-answer.new.self c.args.caller c.args.object c.args.access
    c.requires.caller (λ s d h l. c.carry_out-answer.ensures.stands s d h l) c.requires.stands

pub returns-in-Some-clause-does : goal.returns-in-Some-clause-does
returns-in-Some-clause-does c = λ log s h.
    fulfilled c.args.machine.now c.carry_out-answer.new.self c.args.caller c.args.object
    c.args.access c.requires.caller (λ s d h l. c.carry_out-answer.ensures.stands s d h l)
    c.wake_best.new.machine log s c.in-Some.list (sym c.in-Some.is ∙ c.list_woken.ensures)
    (c.wake_best.ensures.does log _ (stored_placed c.args.machine.now c.carry_out-answer.new.self c.args.caller
    c.args.object c.args.access c.requires.caller (λ s d h l. c.carry_out-answer.ensures.stands s d h l) log s h))

pub returns-in-Some-clause-any : goal.returns-in-Some-clause-any
returns-in-Some-clause-any c = λ log s h.
    fulfilled_any c.args.machine.now c.carry_out-answer.new.self c.args.caller c.args.object
    c.args.access c.requires.caller (λ s d h l. c.carry_out-answer.ensures.stands s d h l)
    c.wake_best.new.machine log s c.in-Some.list (sym c.in-Some.is ∙ c.list_woken.ensures)
    (c.wake_best.ensures.any log _ (stored_any c.args.machine.now c.carry_out-answer.new.self c.args.caller
    c.args.object c.args.access c.requires.caller (λ s d h l. c.carry_out-answer.ensures.stands s d h l) log s h))

pub returns-in-Some-clause-answer : goal.returns-in-Some-clause-answer
returns-in-Some-clause-answer c = λ s h.
    answers c.args.machine.now s c.args.object c.args.access c.carry_out-answer.result h c.carry_out-answer.ensures.answer

pub returns-in-Some-clause-leaves : goal.returns-in-Some-clause-leaves
returns-in-Some-clause-leaves c = record {
  depth = c.wake_best.ensures.leaves.depth;
  objects = λ j b room.
      c.wake_best.ensures.leaves.objects j b (room_still c.args.machine.now c.carry_out-answer.new.self
      c.args.caller c.args.object c.args.access c.carry_out-answer.ensures.objects j b room);
}

pub returns-in_default-clause-does : goal.returns-in_default-clause-does
returns-in_default-clause-does c = λ log s h.
    fulfilled_none c.args.machine.now c.carry_out-answer.new.self c.args.caller c.args.object c.args.access c.requires.caller
    (λ s d h l. c.carry_out-answer.ensures.stands s d h l) _ log s (sym c.in_default.is ∙ c.list_woken.ensures)
    (stored_placed c.args.machine.now c.carry_out-answer.new.self c.args.caller c.args.object
    c.args.access c.requires.caller (λ s d h l. c.carry_out-answer.ensures.stands s d h l) log s h)

pub returns-in_default-clause-any : goal.returns-in_default-clause-any
returns-in_default-clause-any c = λ log s h.
    fulfilled_none_any c.args.machine.now c.carry_out-answer.new.self c.args.caller c.args.object c.args.access c.requires.caller
    (λ s d h l. c.carry_out-answer.ensures.stands s d h l) _ log s (sym c.in_default.is ∙ c.list_woken.ensures)
    (stored_any c.args.machine.now c.carry_out-answer.new.self c.args.caller c.args.object
    c.args.access c.requires.caller (λ s d h l. c.carry_out-answer.ensures.stands s d h l) log s h)

pub returns-in_default-clause-answer : goal.returns-in_default-clause-answer
returns-in_default-clause-answer c = λ s h.
    answers c.args.machine.now s c.args.object c.args.access c.carry_out-answer.result h c.carry_out-answer.ensures.answer

pub returns-in_default-clause-leaves : goal.returns-in_default-clause-leaves
returns-in_default-clause-leaves c = record {
  depth = refl;
  objects = λ j b room.
      room_still c.args.machine.now c.carry_out-answer.new.self c.args.caller
      c.args.object c.args.access c.carry_out-answer.ensures.objects j b room;
}
