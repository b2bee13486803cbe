-- A task in a list of the definitions is in the list of tasks.
use Rattle.std.proofs.Common.{◌≡◌, ℕ, Bool, List, [], ◌∷◌, ap, refl}
use Rattle.std.specs.Prelude.{◌==◌, ◌||◌}
use Rattle.model.specs.Order.{Entry}
use Rattle.model.proofs.Members.{has_task}
use Rattle.lists.specs.Lists.{has_node}
use Rattle.task_lists.specs.Priorities.{with_priorities}

pub has_node-with_priorities : (i : ℕ) (es : List Entry) → has_node i (with_priorities es) ≡ has_task i es
has_node-with_priorities i [] = refl
has_node-with_priorities i (e ∷ es) = ap (λ (b : Bool). e.task == i || b) (has_node-with_priorities i es)
