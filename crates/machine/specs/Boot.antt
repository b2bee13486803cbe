-- The kernel as it is filled at reset.
use Rattle.std.specs.Prelude.{◌≡◌, ◌≤◌, ℕ, false, List, map}
use Rattle.model.specs.Application.{Definition}
use Rattle.sched.specs.Schedule.{Schedule, is_ready}

-- the priorities that the file gives
abbrev pub priorities_in : List Definition → List ℕ
priorities_in tasks = map (λ (d : Definition). d.priority) tasks

-- No task from this one on is Ready.
abbrev pub HasNoneFrom : ℕ → Schedule → Type 0
HasNoneFrom first v = (task : ℕ) → first ≤ task → is_ready v task ≡ false
