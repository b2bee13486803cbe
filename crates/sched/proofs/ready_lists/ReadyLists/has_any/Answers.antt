use Rattle.std.proofs.Common.{◌∙◌}
use Rattle.sched.proofs.ReadyList.{first_where_any}
use Rattle.sched.proofs.ready_lists.ReadyLists.has_any.Goals as goal

pub returns : goal.returns
returns c = record { any = c.is_some.ensures ∙ first_where_any c.args.self.now c.highest.result c.highest.ensures.highest }
