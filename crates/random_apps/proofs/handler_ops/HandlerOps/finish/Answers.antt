use Rattle.random_apps.proofs.Nesting.{nest_whole}
use Rattle.random_apps.proofs.handler_ops.HandlerOps.finish.Goals as goal

pub returns-then-is_empty-clause-nests : goal.returns-then-is_empty-clause-nests
returns-then-is_empty-clause-nests c = nest_whole _ _ c.self.invariant c.if-is_empty.ensures
