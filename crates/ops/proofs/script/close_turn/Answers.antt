use Rattle.std.proofs.Common.{refl, sym, ◌∙◌}
use Rattle.machine.specs.StandsFor.{progress_in}
use Rattle.ops.proofs.Working.{turn_last, turn_next}
use Rattle.machine.proofs.Acting.{placed_then}
use Rattle.ops.proofs.script.close_turn.Goals as goal

pub returns-in-Some-clause-does : goal.returns-in-Some-clause-does
returns-in-Some-clause-does c = λ log s h.
    turn_next c.args.app.now c.args.machine.now c.go_to.new.self log s h c.args.task c.requires.runs.current
    (progress_in c.args.machine.now.progress c.args.task) refl c.end_turn.new.self c.end_turn.ensures.loops
    c.in-Some.start (sym c.end_turn.ensures.next ∙ c.in-Some.is) (c.go_to.ensures.does)

pub returns-in-None-clause-does : goal.returns-in-None-clause-does
returns-in-None-clause-does c = λ log s h.
    turn_last c.args.app.now c.args.machine.now c.complete.new.self log s h c.args.task
    c.requires.runs.current (progress_in c.args.machine.now.progress c.args.task) refl c.end_turn.new.self
    c.end_turn.ensures.loops (sym c.end_turn.ensures.next ∙ c.in-None.is) c.complete.ensures.does

pub returns-in-Some-clause-amid : goal.returns-in-Some-clause-amid
returns-in-Some-clause-amid c = λ t.
    placed_then c.args.machine.now c.end_turn.new.self c.go_to.new.self
    c.args.task _ c.end_turn.ensures.loops (c.go_to.ensures.amid t)

pub returns-in-None-clause-amid : goal.returns-in-None-clause-amid
returns-in-None-clause-amid c = λ t.
    placed_then c.args.machine.now c.end_turn.new.self c.complete.new.self
    c.args.task _ c.end_turn.ensures.loops (c.complete.ensures.amid t)
