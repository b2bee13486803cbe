use Rattle.std.proofs.Common.{◌≡◌, ◌<◌, ℕ, true, false, sym, arith, get_or-set_same, length, set}
use Rattle.std.proofs.Math.ListN.{length-set}
use Rattle.std.proofs.lemmas.List.Folds.{list_any_at}
use Rattle.machine.proofs.sources.Sources.pend.Goals as goal

pub invariant_of-self : goal.invariant_of-self
invariant_of-self c =
    let i : ℕ = c.source.inside.number in
    let small : i < 17 = c.source.invariant in
    let there : i < length c.self.inside.pending = (let full = c.self.told in omega arith) in
    let long : length (set c.self.inside.pending i true) ≡ length c.self.inside.pending = length-set c.self.inside.pending i true in
    sym (list_any_at (λ pending. pending) (set c.self.inside.pending i true) i false (omega arith)
    (get_or-set_same c.self.inside.pending i true false there))
