use Rattle.std.proofs.Common.{◌+◌, ◌-◌, ℕ, ap, sym, ◌∙◌, min}
use Rattle.std.proofs.lemmas.List.FromFn.{length-map-range_with_len}
use Rattle.campaign.proofs.points.count_of.Goals as goal

pub returns-in-Each-clause-count : goal.returns-in-Each-clause-count
returns-in-Each-clause-count c =
    let first = c.in-Each.range.first in
    let end = min c.args.steps (c.in-Each.range.last + 1) in
    rw c.in-Each.is (c.saturating_sub.ensures ∙ ap (λ (n : ℕ). n - first) c.end_of.ensures
    ∙ sym (length-map-range_with_len _ first (end - first)))
