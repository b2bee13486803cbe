use Rattle.std.proofs.Common.{sym, ◌∙◌}
use Rattle.machine.specs.StandsFor.Stands.{Placed}
use Rattle.kernel.proofs.Held.{judged, passed, passed_free}
use Rattle.kernel.proofs.suspended.judge.Goals as goal

pub returns-then-not-is_ended : goal.returns-then-not-is_ended
returns-then-not-is_ended c = λ log s h.
    passed c.args.machine.now log s h c.args.task c.args.op_index (sym (c.if-not-is_ended.ensures s (Placed h.stands)))

pub returns-in-Some : goal.returns-in-Some
returns-in-Some c = λ log s h.
    judged c.args.machine.now log s h c.args.task c.args.op_index c.in-Some.misuse
    (sym (c.if-not-is_ended.ensures s (Placed h.stands)))
    (sym (c.end_misuse.ensures s (Placed h.stands)) ∙ c.in-Some.is)

pub returns-in_default : goal.returns-in_default
returns-in_default c = λ log s h.
    passed_free c.args.machine.now log s h c.args.task c.args.op_index
    (sym (c.if-not-is_ended.ensures s (Placed h.stands)))
    (sym (c.end_misuse.ensures s (Placed h.stands)) ∙ c.in_default.is)
