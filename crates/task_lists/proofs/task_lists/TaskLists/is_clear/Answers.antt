use Rattle.std.proofs.Common.{ℕ, List, sym, ◌∙◌, ap}
use Rattle.lists.specs.Lists.{place_of}
use Rattle.task_lists.proofs.task_lists.TaskLists.is_clear.Goals as goal

pub returns : goal.returns
returns g c = λ told task.
    ap (λ (ls : List (List (ℕ × ℕ))). place_of ls task) (sym c.self.view_is) ∙ c.is_clear.ensures told task
