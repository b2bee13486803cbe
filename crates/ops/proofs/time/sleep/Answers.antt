use Rattle.std.proofs.Common.{sym, ◌∙◌}
use Rattle.machine.proofs.Parts.{apart, ready_within, stands-slept}
use Rattle.ops.proofs.Working.{log-sleep, sleep_none}
use Rattle.ops.proofs.time.sleep.Goals as goal

pub sleep-requires-clause-awake : goal.sleep-requires-clause-awake
sleep-requires-clause-awake c =
    apart c.args.machine.now c.requires.agrees.0 c.requires.agrees.1 c.args.task (sym c.if-is_ready.ensures.scheduled)

pub returns-then-is_ready : goal.returns-then-is_ready
returns-then-is_ready c = λ log s h.
    let on = sym (c.if-is_ready.ensures.ready s h.stands) in
    let l = ready_within s c.args.task on in
    record {
      stands =
          stands-slept c.args.machine.now s h.stands c.args.task l _ on c.block.new.self
          c.block.ensures.schedule c.sleep.new.self (c.sleep.ensures.stands s h.stands.rest.clock l on);
      log = h.log ∙ sym (log-sleep c.args.task _ s);
    }

pub returns-else-is_ready : goal.returns-else-is_ready
returns-else-is_ready c = λ log s h.
    sleep_none c.args.machine.now log s h c.args.task _ (sym (c.if-is_ready.ensures.ready s h.stands))
