use Rattle.kernel.proofs.EndStates.{settles_placed}
use Rattle.kernel.proofs.end_state.settle_lists.Goals as goal

pub returns-then-eq : goal.returns-then-eq
returns-then-eq c = λ s reached h. settles_placed c.args.app.now c.place.new.machine s reached c.in-Some.task (c.place.ensures s h)
