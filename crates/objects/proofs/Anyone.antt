-- That nobody waits.
use Rattle.std.proofs.Common.{◌≡◌, ◌<◌, ◌≤◌, ℕ, zero, suc, false, List, [], ◌∷◌, length, get_or, refl, arith}
use Rattle.std.specs.List.{list_any}
use Rattle.std.specs.Option.{is_some}
use Rattle.model.specs.State.{Task, no_task}
use Rattle.model.specs.Invariant.{wait_of}

pub none_waits : (ts : List Task) (n : ℕ) → length ts ≤ n
    → ((i : ℕ) → i < n → is_some (wait_of (get_or ts i no_task).status) ≡ false)
    → list_any (λ (t : Task). is_some (wait_of t.status)) ts ≡ false
none_waits [] n l h = refl
none_waits (u ∷ us) zero l h = absurd (omega arith)
none_waits (u ∷ us) (suc n) l h = rw (h 0 (omega arith)) (none_waits us n (omega arith) (λ i m. h (suc i) (omega arith)))
