use Rattle.std.proofs.Common.{◌≡◌, ◌<◌, ◌≤◌, ℕ, zero, suc, false, List, [], ◌∷◌, length, get_or, refl, sym, arith}
use Rattle.std.specs.List.{list_any}
use Rattle.std.specs.Option.{is_some}
use Rattle.model.specs.State.{Task, no_task}
use Rattle.groups.specs.StandsFor.{event_wait}
use Rattle.groups.proofs.groups.Groups.has_waiter.Goals as goal

none_waits : (ts : List Task) (n : ℕ) → length ts ≤ n
    → ((i : ℕ) → i < n → is_some (event_wait (get_or ts i no_task).status) ≡ false)
    → list_any (λ (t : Task). is_some (event_wait t.status)) ts ≡ false
none_waits [] n l h = refl
none_waits (u ∷ us) zero l h = absurd (omega arith)
none_waits (u ∷ us) (suc n) l h = rw (h 0 (omega arith)) (none_waits us n (omega arith) (λ i m. h (suc i) (omega arith)))

pub returns : goal.returns
returns c = record {
  stands = λ s h.
      let end = c.loop-number.auto.number-end in
      let past = c.loop-number-test.false in
      sym (none_waits s.tasks 32 h.table.few (λ i m. c.loop-number.invariant.none s h i (omega (arith, end, past, m))));
}
