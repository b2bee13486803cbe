use Rattle.std.proofs.Common.{◌≤◌, ◌+◌, ◌-◌, ℕ, List, length, vec_len}
use Rattle.model.specs.Placements.{Placed}
use Rattle.explorer.specs.Questions.{app_in, handlers_in, levels_in, limits_in}
use Rattle.explorer.proofs.Advancing.{AreLeft}
use Rattle.explorer.proofs.advance.advance.Given as goal

abbrev pub invariant-loop-node : goal.invariant-loop-node
invariant-loop-node l =
    let app = app_in l.block in
    let limits = limits_in l.block in
    let handlers = handlers_in l.block in
    let levels = levels_in l.block in
    (n : ℕ) (all : List Placed)
    → AreLeft app limits handlers levels n (n + 1) l.block.until (λ plan. length plan ≤ levels - 1) l.initial.layer.nodes.items
    l.initial.frontier all
    → AreLeft app limits handlers levels n (n + 1) l.block.until (λ plan. length plan ≤ levels - 1) l.layer.nodes.items
    l.frontier all

abbrev pub decreases-loop-node : goal.decreases-loop-node
decreases-loop-node l = vec_len l.layer.nodes
