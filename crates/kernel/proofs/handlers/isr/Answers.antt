use Rattle.model.specs.Objects.{answer_to}
use Rattle.model.specs.Values.{answer_of, number_of, with_number}
use Rattle.machine.proofs.Either.{variables_are}
use Rattle.std.proofs.Common.{◌≡◌, Some, ap, arith, inl, inr, refl, subst, sym, ◌∙◌}
use Rattle.model.specs.declared.op.IsrOp.{IsrOp}
use Rattle.model.specs.State.{State}
use Rattle.model.specs.Handlers.{isr}
use Rattle.model.specs.Ops.{one_if}
use Rattle.machine.specs.StandsFor.{At, AtAny, DoesAny}
use Rattle.machine.specs.StandsFor.Stands.{Placed}
use Rattle.kernel.proofs.Handling.{did_command, did_op, did_mark, did_notify, did_value, groups_stand, told_bits, told_resume}
use Rattle.kernel.proofs.handlers.isr.Goals as goal

pub returns-in-Do-clause-does : goal.returns-in-Do-clause-does
returns-in-Do-clause-does g c = record {
  at = λ s h.
      did_op (At c.attempt-answer.new.machine (g.L.Log.logged c.write.new.log).told) c.args.app.now s
      c.args.handler c.args.op_index c.args.op.now c.args.last c.in-Do.object c.in-Do.access c.with_number-access.result
      c.attempt-answer.result
      c.isr_told.result c.in-Do.is
      (c.with_number-access.ensures
      ∙ ap (λ vs. with_number vs c.args.last c.in-Do.access) (c.values.ensures ∙ h.stands.rest.variables))
      c.isr_told.ensures (c.attempt-answer.ensures.answer s (Placed h.stands))
      (c.write.ensures.does.at _ (c.attempt-answer.ensures.does _ s h));
  few = c.write.ensures.does.few;
  before = c.write.ensures.does.before;
}

pub returns-in-Do-clause-any : goal.returns-in-Do-clause-any
returns-in-Do-clause-any g c = record {
  at = λ s h.
      did_op (AtAny c.attempt-answer.new.machine (g.L.Log.logged c.write.new.log).told) c.args.app.now s
      c.args.handler c.args.op_index c.args.op.now c.args.last c.in-Do.object c.in-Do.access c.with_number-access.result
      c.attempt-answer.result
      c.isr_told.result c.in-Do.is
      (c.with_number-access.ensures
      ∙ ap (λ vs. with_number vs c.args.last c.in-Do.access) (c.values.ensures ∙ variables_are c.args.machine.now s h.stands))
      c.isr_told.ensures (c.attempt-answer.ensures.answer s h.stands)
      (c.write.ensures.any.at _ (c.attempt-answer.ensures.any _ s h));
  few = c.write.ensures.any.few;
  before = c.write.ensures.any.before;
}

pub returns-in-Mark-clause-does : goal.returns-in-Mark-clause-does
returns-in-Mark-clause-does g c = record {
  at = λ s h.
      did_mark (At c.args.machine.now (g.L.Log.logged c.write-in-Mark.new.log).told) c.args.app.now s c.args.handler
      c.args.op_index c.args.op.now c.args.last c.in-Mark.value c.number-number.result c.in-Mark.is
      (c.number-number.ensures
      ∙ ap (λ vs. number_of vs c.args.last c.in-Mark.value) (c.values-in-Mark.ensures ∙ h.stands.rest.variables))
      (c.write-in-Mark.ensures.does.at s h);
  few = c.write-in-Mark.ensures.does.few;
  before = c.write-in-Mark.ensures.does.before;
}

pub returns-in-Mark-clause-any : goal.returns-in-Mark-clause-any
returns-in-Mark-clause-any g c = record {
  at = λ s h.
      did_mark (AtAny c.args.machine.now (g.L.Log.logged c.write-in-Mark.new.log).told) c.args.app.now s c.args.handler
      c.args.op_index c.args.op.now c.args.last c.in-Mark.value c.number-number.result c.in-Mark.is
      (c.number-number.ensures
      ∙ ap (λ vs. number_of vs c.args.last c.in-Mark.value)
      (c.values-in-Mark.ensures ∙ variables_are c.args.machine.now s h.stands))
      (c.write-in-Mark.ensures.any.at s h);
  few = c.write-in-Mark.ensures.any.few;
  before = c.write-in-Mark.ensures.any.before;
}

pub returns-in-GetBits-clause-does : goal.returns-in-GetBits-clause-does
returns-in-GetBits-clause-does g c = record {
  at = λ s h.
      told_bits (At c.args.machine.now (g.L.Log.logged c.write-in-GetBits.new.log).told) c.args.app.now s c.args.handler
      c.args.op_index c.args.op.now c.args.last c.in-GetBits.group c.bits-bits.result c.isr_told-in-GetBits.result
      c.in-GetBits.is c.isr_told-in-GetBits.ensures (c.bits-bits.ensures.stands s h.stands.rest.groups)
      (c.write-in-GetBits.ensures.does.at s h);
  few = c.write-in-GetBits.ensures.does.few;
  before = c.write-in-GetBits.ensures.does.before;
}

pub returns-in-GetBits-clause-any : goal.returns-in-GetBits-clause-any
returns-in-GetBits-clause-any g c = record {
  at = λ s h.
      told_bits (AtAny c.args.machine.now (g.L.Log.logged c.write-in-GetBits.new.log).told) c.args.app.now s c.args.handler
      c.args.op_index c.args.op.now c.args.last c.in-GetBits.group c.bits-bits.result c.isr_told-in-GetBits.result c.in-GetBits.is
      c.isr_told-in-GetBits.ensures (c.bits-bits.ensures.stands s (groups_stand c.args.machine.now s h.stands))
      (c.write-in-GetBits.ensures.any.at s h);
  few = c.write-in-GetBits.ensures.any.few;
  before = c.write-in-GetBits.ensures.any.before;
}

pub returns-in-Notify-clause-does : goal.returns-in-Notify-clause-does
returns-in-Notify-clause-does g c = record {
  at = λ s h.
      did_notify (At c.notify_by_handler.new.machine (g.L.Log.logged c.write-in-Notify.new.log).told) c.args.app.now s
      c.args.handler
      c.args.op_index c.args.op.now c.args.last c.in-Notify.task c.in-Notify.action (Some c.notify_by_handler.result)
      c.isr_told-in-Notify.result c.in-Notify.is c.isr_told-in-Notify.ensures
      (c.notify_by_handler.ensures.answer s (Placed h.stands))
      (c.write-in-Notify.ensures.does.at _ (c.notify_by_handler.ensures.does _ s h));
  few = c.write-in-Notify.ensures.does.few;
  before = c.write-in-Notify.ensures.does.before;
}

pub returns-in-Notify-clause-any : goal.returns-in-Notify-clause-any
returns-in-Notify-clause-any g c = record {
  at = λ s h.
      did_notify (AtAny c.notify_by_handler.new.machine (g.L.Log.logged c.write-in-Notify.new.log).told) c.args.app.now s
      c.args.handler c.args.op_index c.args.op.now c.args.last c.in-Notify.task c.in-Notify.action (Some c.notify_by_handler.result)
      c.isr_told-in-Notify.result c.in-Notify.is c.isr_told-in-Notify.ensures
      (c.notify_by_handler.ensures.answer s h.stands)
      (c.write-in-Notify.ensures.any.at _ (c.notify_by_handler.ensures.any _ s h));
  few = c.write-in-Notify.ensures.any.few;
  before = c.write-in-Notify.ensures.any.before;
}

pub returns-in-Notify-clause-answer : goal.returns-in-Notify-clause-answer
returns-in-Notify-clause-answer g c = λ s h. rw c.in-Notify.is (c.notify_by_handler.ensures.answer s h)

pub returns-in-Resume-clause-does : goal.returns-in-Resume-clause-does
returns-in-Resume-clause-does g c = record {
  at = λ s h.
      told_resume (At c.resume-did.new.machine (g.L.Log.logged c.write-in-Resume.new.log).told) c.args.app.now s c.args.handler
      c.args.op_index c.args.op.now c.args.last c.in-Resume.task c.one_if.result c.isr_told-in-Resume.result c.in-Resume.is
      c.isr_told-in-Resume.ensures (c.one_if.ensures ∙ ap one_if (c.resume-did.ensures.answer s (Placed h.stands)))
      (c.write-in-Resume.ensures.does.at _ (c.resume-did.ensures.does _ s h));
  few = c.write-in-Resume.ensures.does.few;
  before = c.write-in-Resume.ensures.does.before;
}

pub returns-in-Resume-clause-any : goal.returns-in-Resume-clause-any
returns-in-Resume-clause-any g c = record {
  at = λ s h.
      told_resume (AtAny c.resume-did.new.machine (g.L.Log.logged c.write-in-Resume.new.log).told) c.args.app.now s
      c.args.handler c.args.op_index c.args.op.now c.args.last c.in-Resume.task c.one_if.result c.isr_told-in-Resume.result
      c.in-Resume.is c.isr_told-in-Resume.ensures (c.one_if.ensures ∙ ap one_if (c.resume-did.ensures.answer s h.stands))
      (c.write-in-Resume.ensures.any.at _ (c.resume-did.ensures.any _ s h));
  few = c.write-in-Resume.ensures.any.few;
  before = c.write-in-Resume.ensures.any.before;
}

pub returns-in-Command-clause-does : goal.returns-in-Command-clause-does
returns-in-Command-clause-does g c = record {
  at = λ s h.
      did_command (At c.attempt-sent.new.machine (g.L.Log.logged c.write-in-Command.new.log).told)
      c.args.app.now s c.args.handler c.args.op_index c.args.op.now c.args.last c.in-Command.command c.commands.result
      c.item.result c.attempt-sent.result c.isr_told-in-Command.result c.in-Command.is c.commands.ensures
      c.item.ensures.value c.isr_told-in-Command.ensures (c.attempt-sent.ensures.answer s (Placed h.stands))
      (c.write-in-Command.ensures.does.at _ (c.attempt-sent.ensures.does _ s h));
  few = c.write-in-Command.ensures.does.few;
  before = c.write-in-Command.ensures.does.before;
}

pub returns-in-Command-clause-any : goal.returns-in-Command-clause-any
returns-in-Command-clause-any g c = record {
  at = λ s h.
      did_command (AtAny c.attempt-sent.new.machine (g.L.Log.logged c.write-in-Command.new.log).told)
      c.args.app.now s c.args.handler c.args.op_index c.args.op.now c.args.last c.in-Command.command c.commands.result
      c.item.result c.attempt-sent.result c.isr_told-in-Command.result c.in-Command.is c.commands.ensures
      c.item.ensures.value c.isr_told-in-Command.ensures (c.attempt-sent.ensures.answer s h.stands)
      (c.write-in-Command.ensures.any.at _ (c.attempt-sent.ensures.any _ s h));
  few = c.write-in-Command.ensures.any.few;
  before = c.write-in-Command.ensures.any.before;
}

pub returns-in-Value-clause-does : goal.returns-in-Value-clause-does
returns-in-Value-clause-does g c = record {
  at = λ s h.
      did_value (At c.store.new.self (g.L.Log.logged c.write-in-Value.new.log).told) c.args.app.now s c.args.handler
      c.args.op_index c.args.op.now c.args.last c.in-Value.op c.answer-answer.result c.isr_told-in-Value.result c.in-Value.is
      c.isr_told-in-Value.ensures
      (c.answer-answer.ensures
      ∙ ap (λ vs. answer_of vs c.args.last c.in-Value.op) (c.values-in-Value.ensures ∙ h.stands.rest.variables))
      (c.write-in-Value.ensures.does.at _ (c.store.ensures.does _ s h));
  few = c.write-in-Value.ensures.does.few;
  before = c.write-in-Value.ensures.does.before;
}

pub returns-in-Value-clause-any : goal.returns-in-Value-clause-any
returns-in-Value-clause-any g c = record {
  at = λ s h.
      did_value (AtAny c.store.new.self (g.L.Log.logged c.write-in-Value.new.log).told) c.args.app.now s c.args.handler
      c.args.op_index c.args.op.now c.args.last c.in-Value.op c.answer-answer.result c.isr_told-in-Value.result c.in-Value.is
      c.isr_told-in-Value.ensures
      (c.answer-answer.ensures
      ∙ ap (λ vs. answer_of vs c.args.last c.in-Value.op) (c.values-in-Value.ensures ∙ variables_are c.args.machine.now s h.stands))
      (c.write-in-Value.ensures.any.at _ (c.store.ensures.any _ s h));
  few = c.write-in-Value.ensures.any.few;
  before = c.write-in-Value.ensures.any.before;
}

pub returns-in-Value-clause-leaves : goal.returns-in-Value-clause-leaves
returns-in-Value-clause-leaves g c = rw c.store.ensures.rest (record { depth = refl; objects = λ o a h. h })

-- ---- the last answer

pub returns-in-Value-clause-answer : goal.returns-in-Value-clause-answer
returns-in-Value-clause-answer g c = λ s h.
    rw c.in-Value.is (c.answer-answer.ensures
    ∙ ap (λ vs. answer_of vs c.args.last c.in-Value.op) (c.values-in-Value.ensures ∙ variables_are c.args.machine.now s h))

pub returns-in-Do-clause-answer : goal.returns-in-Do-clause-answer
returns-in-Do-clause-answer g c = λ s h.
    rw c.in-Do.is (c.attempt-answer.ensures.answer s h
    ∙ ap (answer_to s c.in-Do.object) (c.with_number-access.ensures
    ∙ ap (λ vs. with_number vs c.args.last c.in-Do.access) (c.values.ensures ∙ variables_are c.args.machine.now s h)))

pub returns-in-Command-clause-answer : goal.returns-in-Command-clause-answer
returns-in-Command-clause-answer g c = λ s h. rw (c.in-Command.is, ← c.commands.ensures) (c.attempt-sent.ensures.answer s h)

pub returns-in-Resume-clause-answer : goal.returns-in-Resume-clause-answer
returns-in-Resume-clause-answer g c = λ s h. rw c.in-Resume.is (c.one_if.ensures ∙ ap one_if (c.resume-did.ensures.answer s h))

pub returns-in-GetBits-clause-answer : goal.returns-in-GetBits-clause-answer
returns-in-GetBits-clause-answer g c = λ s h.
    rw c.in-GetBits.is (ap Some (c.bits-bits.ensures.stands s (groups_stand c.args.machine.now s h)))

pub returns-in-Mark-clause-answer : goal.returns-in-Mark-clause-answer
returns-in-Mark-clause-answer g c = λ s h. rw c.in-Mark.is refl

pub returns-in-Expect-clause-any : goal.returns-in-Expect-clause-any
returns-in-Expect-clause-any g c = elim c.in-Expect.is [
  | inl e ↦ same (e.1) (λ s. refl)
  | inr e ↦ elim e [
    | inl e ↦ same (e.1) (λ s. refl)
    | inr e ↦ elim e [ inl e ↦ same e (λ s. refl) | inr e ↦ same e (λ s. refl) ]
  ]
] where
  same : {op : IsrOp} → c.args.op.now ≡ op → ((s : State) → isr c.args.app.now c.args.handler c.args.op_index op c.args.last s ≡ s)
      → DoesAny 1 c.args.machine.now (g.L.Log.logged c.args.log.now) c.args.machine.now
      (g.L.Log.logged c.args.log.now) (isr c.args.app.now c.args.handler c.args.op_index c.args.op.now c.args.last)
  same e none =
      record {
        at = λ s h. rw e (subst (λ (t : State). AtAny c.args.machine.now (g.L.Log.logged c.args.log.now).told t) (sym (none s)) h);
        few = omega arith;
        before = refl;
      }

-- ---- an op on an interrupt source

pub returns-in-Source-clause-does : goal.returns-in-Source-clause-does
returns-in-Source-clause-does g c = record {
  at = λ s h. rw c.in-Source.is (c.do_to_source.ensures.does _ s h);
  few = omega arith;
  before = refl;
}

pub returns-in-Source-clause-any : goal.returns-in-Source-clause-any
returns-in-Source-clause-any g c = record {
  at = λ s h. rw c.in-Source.is (c.do_to_source.ensures.any _ s h);
  few = omega arith;
  before = refl;
}

pub returns-in-Source-clause-leaves : goal.returns-in-Source-clause-leaves
returns-in-Source-clause-leaves g c = rw c.do_to_source.ensures.rest (record { depth = refl; objects = λ o a h. h })

pub returns-in-Source-clause-answer : goal.returns-in-Source-clause-answer
returns-in-Source-clause-answer g c = λ s h. rw c.in-Source.is refl
