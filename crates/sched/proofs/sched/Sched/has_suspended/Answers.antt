use Rattle.std.proofs.Common.{◌≡◌, ◌<◌, ◌≤◌, ℕ, zero, suc, false, List, [], ◌∷◌, length, get_or, refl, sym, ◌∙◌, arith}
use Rattle.std.specs.List.{list_any}
use Rattle.model.specs.State.{Task, no_task}
use Rattle.model.specs.Suspension.{can_resume}
use Rattle.sched.proofs.sched.Sched.has_suspended.Goals as goal

none_suspended : (ts : List Task) (n : ℕ) → length ts ≤ n → ((i : ℕ) → i < n → can_resume (get_or ts i no_task).status ≡ false)
    → list_any (λ (t : Task). can_resume t.status) ts ≡ false
none_suspended [] n l h = refl
none_suspended (u ∷ us) zero l h = absurd (omega arith)
none_suspended (u ∷ us) (suc n) l h = rw (h 0 (omega arith)) (none_suspended us n (omega arith) (λ i m. h (suc i) (omega arith)))

pub returns : goal.returns
returns c = record {
  stands = λ s h.
      let end = c.loop-number.auto.number-end in
      let past = c.loop-number-test.false in
      sym (none_suspended s.tasks 32 h.table.few
      (λ i m. sym (h.suspended i) ∙ c.loop-number.invariant.none i (omega (arith, end, past, m))));
}
