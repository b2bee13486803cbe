-- Which injections are a plan.
use Rattle.std.specs.Prelude.{ℕ, ◌<◌, ◌≤◌, List, length}
use Rattle.model.specs.declared.plan.Injection.{Injection}
use Rattle.model.specs.Points.{AreInOrder}
use Rattle.model.specs.Run.{injected}

-- of handlers injected before one step (profile)
abbrev pub most_injected : ℕ
most_injected = 3

-- More of the injections are at this step than one step has.
pub record IsCrowded (plan : List Injection) : Type 0 where
  pub step : ℕ
  pub many : most_injected < length (injected plan step)

-- The injections are in order, and few are at one step.
pub record IsPlan (plan : List Injection) : Type 0 where
  pub in_order : AreInOrder plan
  pub few_at_once : (n : ℕ) → length (injected plan n) ≤ most_injected
