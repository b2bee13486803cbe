use Rattle.std.proofs.Common.{◌≡◌, ℕ, Option, None, Some, List, ◌∙◌, ap}
use Rattle.std.specs.Prelude.{IsNone}
use Rattle.std.specs.Option.{option_map}
use Rattle.lists.specs.declared.ids.NodeId.{NodeId}
use Rattle.lists.specs.Lists.{place_of}
use Rattle.task_lists.proofs.task_lists.TaskLists.next.Goals as goal

none_too : (o : Option NodeId) (task : Option ℕ) → task ≡ option_map (λ node. node.number) o → IsNone o → IsNone task
none_too None None e h = h
none_too None (Some n) e h = absurd cc
none_too (Some n) task e h = absurd cc

pub returns-clause-outside : goal.returns-clause-outside
returns-clause-outside g c = λ outside.
    let nowhere =
    ap (λ (ls : List (List (ℕ × ℕ))). place_of ls c.node_of.result.number) c.self.view_is
    ∙ ap (place_of c.args.self.now) c.node_of.ensures.node ∙ outside in
    none_too c.next.result c.task_of.result c.task_of.ensures.task (c.next.ensures.outside nowhere)
