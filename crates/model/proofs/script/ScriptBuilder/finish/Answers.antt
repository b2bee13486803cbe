use Rattle.std.proofs.Common.{sym, ◌∙◌}
use Rattle.model.proofs.Nesting.{nothing_open, script-closed}
use Rattle.model.proofs.script.ScriptBuilder.finish.Goals as goal

pub returns-in-Ok-clause-script : goal.returns-in-Ok-clause-script
returns-in-Ok-clause-script c =
    (c.self.view_is, script-closed _ c.self.invariant.1 (sym c.self.invariant.0 ∙ nothing_open _ c.if-not-is_empty.ensures))
