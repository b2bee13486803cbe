use Rattle.std.proofs.Common.{ℕ, Some, sym, subst, ◌∙◌, arith}
use Rattle.model.specs.Time.{sleep}
use Rattle.model.specs.Ops.{answer}
use Rattle.machine.specs.StandsFor.{At}
use Rattle.machine.specs.contracts.progress.Progress.{the_view}
use Rattle.ops.proofs.Working.{still_task, still_task_asleep, counts, still_to_come, until_later, until_past}
use Rattle.machine.proofs.Acting.{agrees_after}
use Rattle.ops.proofs.time.delay_until.Goals as goal

pub sleep-requires-clause-agrees : goal.sleep-requires-clause-agrees
sleep-requires-clause-agrees g c =
    agrees_after c.args.machine.now c.answer.new.self (g.L.Log.logged c.args.log.now).told
    (g.L.Log.logged c.answer.new.log).told c.requires.can.tick.advance.agrees _ c.answer.ensures.does.at

pub returns-then-now-wake_time : goal.returns-then-now-wake_time
returns-then-now-wake_time g c = record {
  at = λ s h.
      let app = c.args.app.now in
      let i : ℕ = c.args.task in
      let now = c.now-now.result in
      let is_now = c.now-now.ensures.now in
      let told = (g.L.Log.logged c.answer.new.log).told in
      let still = still_to_come app i s now _ (is_now ∙ h.stands.rest.clock.now) c.if-now-wake_time.true in
      let P : ℕ → Type 0 = λ m. At c.sleep.new.machine told (sleep i m (answer app i (Some 1) s)) in
      let asleep = subst P (sym still) (c.sleep.ensures told _ (c.answer.ensures.does.at s h)) in
      let here =
      still_task_asleep app c.args.machine.now (g.L.Log.logged c.args.log.now).told s h i c.requires.can.runs.current 1 _ in
      until_later app c.args.machine.now c.set_previous_wake.new.self
      (g.L.Log.logged c.args.log.now).told told s h i (the_view c.behind-machine.inside)
      (c.behind-machine.view_is ∙ c.progress.ensures) c.args.ticks now is_now c.if-now-wake_time.true
      (counts c.sleep.new.machine c.set_previous_wake.new.self told _ asleep i here _ c.set_previous_wake.ensures);
  few = let a = c.answer.ensures.does.few in omega arith;
  before = c.answer.ensures.does.before;
}

pub returns-else-now-wake_time : goal.returns-else-now-wake_time
returns-else-now-wake_time g c = record {
  at = λ s h.
      let i : ℕ = c.args.task in
      let told = (g.L.Log.logged c.answer-else-now-wake_time.new.log).told in
      let answered = c.answer-else-now-wake_time.ensures.does.at s h in
      let here =
      still_task c.args.app.now c.args.machine.now (g.L.Log.logged c.args.log.now).told s h i c.requires.can.runs.current 0 in
      until_past c.args.app.now c.args.machine.now c.set_previous_wake-else-now-wake_time.new.self
      (g.L.Log.logged c.args.log.now).told told s h i (the_view c.behind-machine.inside)
      (c.behind-machine.view_is ∙ c.progress.ensures) c.args.ticks c.now-now.result
      c.now-now.ensures.now c.if-now-wake_time.false
      (counts c.answer-else-now-wake_time.new.self c.set_previous_wake-else-now-wake_time.new.self
      told _ answered i here _ c.set_previous_wake-else-now-wake_time.ensures);
  few = let a = c.answer-else-now-wake_time.ensures.does.few in omega arith;
  before = c.answer-else-now-wake_time.ensures.does.before;
}
