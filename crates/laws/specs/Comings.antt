-- When a handler has come, in plain terms.
use Rattle.std.specs.Prelude.{ℕ, ◌+◌, ◌≤◌}
use Rattle.model.specs.Application.{Application}
use Rattle.model.specs.Handlers.{apart_of}
use Rattle.model.specs.State.{State, source_at}

-- The handler came at this elapsed tick or later. If its comings must be apart, this is recorded.
abbrev pub HasCome : Application → (handler tick : ℕ) → State → Type 0
HasCome app handler tick s =
    (tick ≤ s.elapsed)
    × (1 ≤ apart_of app handler → tick + apart_of app handler ≤ (source_at s handler).free_from)
