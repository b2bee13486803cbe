use Rattle.std.proofs.Common.{replicate, refl, ◌∙◌}
use Rattle.std.proofs.lemmas.List.{get_or-replicate}
use Rattle.model.specs.State.{no_progress}
use Rattle.machine.proofs.Booting.{all_blank}
use Rattle.machine.proofs.boot.without_tasks.Goals as goal

pub returns-clause-progress : goal.returns-clause-progress
returns-clause-progress c =
    all_blank (replicate 32 c.new.result) refl (λ i l. get_or-replicate 32 i c.new.result no_progress l ∙ c.new.ensures)
