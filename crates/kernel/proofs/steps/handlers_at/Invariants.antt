use Rattle.kernel.proofs.Planned.{AreFrom}
use Rattle.kernel.proofs.steps.handlers_at.Given as goal

abbrev pub invariant-loop-injection : goal.invariant-loop-injection
invariant-loop-injection l = AreFrom l.injections l.step l.injection-index l.handlers.items
