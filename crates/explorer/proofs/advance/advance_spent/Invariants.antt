use Rattle.std.proofs.Common.{◌≤◌, ◌-◌, ℕ, List, length, vec_len}
use Rattle.model.specs.Placements.{Placed}
use Rattle.explorer.specs.Questions.{app_in, limits_in}
use Rattle.explorer.proofs.Advancing.{AreLeft}
use Rattle.explorer.proofs.advance.advance_spent.Given as goal

abbrev pub invariant-loop-node : goal.invariant-loop-node
invariant-loop-node l =
    let app = app_in l.block in
    let limits = limits_in l.block in
    (handlers : List ℕ) (levels n : ℕ) (all : List Placed)
    → AreLeft app limits handlers levels l.end n l.block.until (λ plan. levels - 1 ≤ length plan) l.initial.layer.nodes.items
    l.initial.frontier all
    → AreLeft app limits handlers levels l.end n l.block.until (λ plan. levels - 1 ≤ length plan) l.layer.nodes.items l.frontier all

abbrev pub decreases-loop-node : goal.decreases-loop-node
decreases-loop-node l = vec_len l.layer.nodes
