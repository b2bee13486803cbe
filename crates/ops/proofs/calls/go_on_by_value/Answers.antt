use Rattle.std.proofs.Common.{sym, refl, arith}
use Rattle.ops.proofs.calls.go_on_by_value.Goals as goal

pub returns-then-begins_without_item : goal.returns-then-begins_without_item
returns-then-begins_without_item g c = record {
  at = λ s h. rw (sym (c.if-begins_without_item.ensures s h.stands)) (c.fail_check.ensures.any _ s h);
  few = omega arith;
  before = refl;
}

pub returns : goal.returns
returns g c = record {
  at = λ s h. rw (sym (c.if-begins_without_item.ensures s h.stands)) (c.go_on_waiting.ensures.at s h);
  few = c.go_on_waiting.ensures.few;
  before = c.go_on_waiting.ensures.before;
}
