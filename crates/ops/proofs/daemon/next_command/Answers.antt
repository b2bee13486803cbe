use Rattle.std.proofs.Common.{ap, ◌∙◌}
use Rattle.model.specs.State.{Progress}
use Rattle.ops.proofs.Commanding.{receive_in_phase}
use Rattle.ops.proofs.daemon.next_command.Goals as goal

pub returns-in_default : goal.returns-in_default
returns-in_default g c =
    let same = ap (λ (p : Progress). p.call.phase) (c.behind-machine.view_is ∙ c.progress.ensures) in
    receive_in_phase c.args.app.now c.args.machine.now c.go_on_waiting.new.machine
    (g.L.Log.logged c.args.log.now) (g.L.Log.logged c.go_on_waiting.new.log) c.args.task c.args.queue
    (λ e. c.in_default.not-Start (same ∙ e)) (λ e. c.in_default.not-Try (same ∙ e)) c.go_on_waiting.ensures
