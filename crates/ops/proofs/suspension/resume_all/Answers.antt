use Rattle.std.proofs.Common.{refl, sym, ◌∙◌, arith}
use Rattle.machine.proofs.Switches.{unheld_by}
use Rattle.ops.proofs.Held.{runs_after_all, resumed_free, resumed_held, still_held}
use Rattle.ops.proofs.suspension.resume_all.Goals as goal

pub answer-requires-clause-runs : goal.answer-requires-clause-runs
answer-requires-clause-runs g c =
    let a = c.requires.can.agrees in
    runs_after_all c.args.machine.now c.resume_scheduler.new.machine c.args.task a.0 c.requires.can.runs
    a.1 (c.resume_scheduler.ensures.does (a.0).log a.0 (record { stands = a.1; log = refl })).stands

pub preempt-requires-clause-free : goal.preempt-requires-clause-free
preempt-requires-clause-free g c =
    c.answer.ensures.depth ∙ c.resume_scheduler.ensures.depth (sym c.suspensions-is_last.ensures.suspensions ∙ c.if-is_last.true)

pub returns-then-is_last : goal.returns-then-is_last
returns-then-is_last g c = record {
  at = λ s h.
      let told = c.answer.ensures.does.at _ (c.resume_scheduler.ensures.does _ s h) in
      resumed_free c.args.app.now c.preempt.new.self _ s c.args.task
      (unheld_by c.answer.new.self.sched _ told.stands.sched
      (c.answer.ensures.depth
      ∙ c.resume_scheduler.ensures.depth (sym c.suspensions-is_last.ensures.suspensions ∙ c.if-is_last.true)))
      (c.preempt.ensures.does.at _ told);
  few = let a = c.answer.ensures.does.few in let b = c.preempt.ensures.does.few in omega arith;
  before = c.preempt.ensures.does.before ∙ c.answer.ensures.does.before;
}

pub returns-else-is_last : goal.returns-else-is_last
returns-else-is_last g c = record {
  at = λ s h.
      let mid = c.resume_scheduler.ensures.does _ s h in
      resumed_held c.args.app.now c.answer.new.self _ s c.args.task
      (still_held c.args.app.now c.args.task c.resume_scheduler.new.machine _ _ mid
      (λ none. c.if-is_last.false (c.suspensions-is_last.ensures.suspensions ∙ none)))
      (c.answer.ensures.does.at _ mid);
  few = let a = c.answer.ensures.does.few in omega arith;
  before = c.answer.ensures.does.before;
}
