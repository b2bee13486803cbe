use Rattle.std.proofs.Common.{◌≡◌, ℕ, inl, inr, get_or, set, ◌∙◌, sym, ap, arith}
use Rattle.std.proofs.lemmas.Bool.{cases_eq}
use Rattle.std.proofs.lemmas.List.{get_or-set_same, get_or-set_other, length-set}
use Rattle.lists.proofs.table.closed.Goals as goal

pub loop-at-preserved : goal.loop-at-preserved
loop-at-preserved g c =
    let links = c.loop-at.links in
    let at = c.loop-at.at in
    let room = c.loop-at.invariant.0 in (
      length-set links at at ∙ room,
      λ i below. elim (cases_eq i at) [
        | inl same ↦
            let here : get_or (set links at at) at 0 ≡ at = get_or-set_same links at at 0 (omega (arith, room)) in
            ap (λ (k : ℕ). get_or (set links at at) k 0) same ∙ here ∙ sym same
        | inr other ↦ get_or-set_other links at i at 0 other ∙ c.loop-at.invariant.1 i (omega (arith, below))
      ],
    )
