use Rattle.std.proofs.Common.{◌+◌, ◌∷◌, ap, sym, ◌∙◌}
use Rattle.model.specs.State.{Progress}
use Rattle.machine.specs.StandsFor.{with_progress}
use Rattle.machine.specs.contracts.progress.Progress.{the_view}
use Rattle.ops.proofs.Working.{loop_opened}
use Rattle.machine.proofs.Acting.{placed_then}
use Rattle.ops.proofs.script.open_loop.Goals as goal

pub returns-clause-does : goal.returns-clause-does
returns-clause-does c = λ log s h.
    loop_opened c.args.app.now c.args.machine.now c.complete.new.self log s h c.args.task c.requires.runs.current
    (the_view c.behind-machine.inside) (c.behind-machine.view_is ∙ c.progress.ensures) c.push_loop.new.self c.args.turns
    (c.push_loop.ensures
    ∙ ap (λ (p : Progress).
    with_progress c.args.task
    (record p { loops = record { start = c.behind-machine.inside.op_index + 1; left = c.args.turns } ∷ p.loops })
    c.args.machine.now)
    (sym (c.behind-machine.view_is ∙ c.progress.ensures)))
    c.complete.ensures.does

pub returns-clause-amid : goal.returns-clause-amid
returns-clause-amid c = λ t.
    placed_then c.args.machine.now c.push_loop.new.self c.complete.new.self
    c.args.task _ c.push_loop.ensures (c.complete.ensures.amid t)
