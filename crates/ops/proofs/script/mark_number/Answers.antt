use Rattle.ops.proofs.script.mark_number.Goals as goal

pub returns-clause-does : goal.returns-clause-does
returns-clause-does g c = record {
  at = λ s h. c.complete.ensures.does _ _ (c.write.ensures.does.at s h);
  few = c.write.ensures.does.few;
  before = c.write.ensures.does.before;
}
