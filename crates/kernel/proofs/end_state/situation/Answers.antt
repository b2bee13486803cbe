use Rattle.std.proofs.Common.{◌≡◌, ◌++◌, ◌∙◌, true, false, ap, rules}
use Rattle.model.specs.State.{Progress}
use Rattle.task_lists.specs.Tasks.{is_among}
use Rattle.sched.specs.Schedule as schedule
use Rattle.sched.specs.Schedule.{is_suspended}
use Rattle.kernel.proofs.EndStates.{is_ended_then, is_ready_then}
use Rattle.kernel.proofs.end_state.situation.Goals as goal

pub returns-then-is_ready : goal.returns-then-is_ready
returns-then-is_ready c = λ s h.
    let at = ap (λ (p : Progress). p.op_index) (c.behind-machine.view_is ∙ c.progress.ensures) in
    let ready : schedule.is_ready c.args.machine.now.sched c.args.task ≡ true = search rules in
    c.ready_situation.ensures
    ∙ is_ready_then c.args.machine.now c.args.awake.now s h c.args.task
    c.behind-machine.inside.op_index c.is_running.result at c.is_running.ensures ready

pub returns-in-None : goal.returns-in-None
returns-in-None c =
    let off : is_suspended c.args.machine.now.sched c.args.task ≡ false = search rules in
    let unready : schedule.is_ready c.args.machine.now.sched c.args.task ≡ false = search rules in
    let other : is_among c.args.task (c.args.awake.now.to_receive.items ++ c.args.awake.now.to_send.items) ≡ false = search rules in
    let here : c.is_waiting.result ≡ false = search rules in
    λ s h.
    is_ended_then c.args.machine.now c.args.awake.now s h c.args.task other off unready c.is_waiting.result
    (c.is_waiting.ensures h.objects.opened s h.objects.stands h.groups) here (c.in-None.ensures.stands s h.clock)
