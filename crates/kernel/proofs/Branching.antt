-- Handlers that look: the ops to the end of a branch, counted one by one.
use Rattle.std.proofs.Common.{◌≡◌, ◌<◌, ◌+◌, ℕ, List, ◌∷◌, length, get_or, drop, ap, sym, ◌∙◌}
use Rattle.std.proofs.lemmas.List.{drop_more}
use Rattle.model.specs.declared.op.IsrOp.{IsrOp}
use Rattle.model.specs.Blocks.{edge_of_isr, isr_edges_of, past_branch}

-- The next op is one more.
pub one_counted : (ops : List IsrOp) (i : ℕ) (op : IsrOp) → i < length ops → op ≡ get_or ops i op
    → (whole inner : ℕ) → whole ≡ past_branch inner (isr_edges_of (drop i ops)) + i
    → whole ≡ past_branch inner (edge_of_isr op ∷ isr_edges_of (drop (i + 1) ops)) + i
one_counted ops i op l is whole inner h =
    h
    ∙ ap (λ (xs : List IsrOp). past_branch inner (isr_edges_of xs) + i)
    (drop_more ops i op l ∙ ap (λ (x : IsrOp). x ∷ drop (i + 1) ops) (sym is))
