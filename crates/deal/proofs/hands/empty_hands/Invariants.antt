use Rattle.std.proofs.Common.{◌≡◌, ℕ, List, vec_len}
use Rattle.atomic_table.specs.Seated.{TableId}
use Rattle.deal.specs.Dealing.{AreDealt}
use Rattle.deal.proofs.hands.empty_hands.Given as goal

abbrev pub invariant-loop : goal.invariant-loop
invariant-loop l = (vec_len l.hands ≡ l.counter) × ((z : TableId) (n : List ℕ) → AreDealt z l.workers n n l.hands.items)
