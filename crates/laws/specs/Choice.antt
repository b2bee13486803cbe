-- The choice, in plain terms.
use Rattle.std.specs.Prelude.{◌≡◌, ◌≤◌, ℕ, true, false, Option, Some, None}
use Rattle.model.specs.State.{State, Status, Ready, task_at}
use Rattle.model.specs.Switching.{is_ready}

-- The ticket of the Ready task i is not below that of the Ready task c.
abbrev pub IsNoEarlierThan : Status → Status → Type 0
IsNoEarlierThan (Ready c) (Ready i) = c ≤ i
IsNoEarlierThan c i = Unit {0}

-- A Ready task: none has a higher priority, and none of equal priority has an earlier ticket. If idle is the choice, no task is
-- Ready.
pub record IsBestReady (s : State) (c : ℕ) : Type 0 where
  pub ready : is_ready s c ≡ true
  pub highest : (i : ℕ) → is_ready s i ≡ true → (task_at s i).priority ≤ (task_at s c).priority
  pub first : (i : ℕ) → is_ready s i ≡ true → (task_at s i).priority ≡ (task_at s c).priority
      → IsNoEarlierThan (task_at s c).status (task_at s i).status

abbrev pub IsChoice : State → Option ℕ → Type 0
IsChoice s None = (i : ℕ) → is_ready s i ≡ false
IsChoice s (Some c) = IsBestReady s c
