-- The digits of a number but the last.
use Rattle.std.specs.Prelude.{◌≡◌, ℕ, ◌*◌, ◌/◌, ◌≤◌, ◌<◌, ◌^◌, List, [], take, decimal}

-- The number ends in 0, and these many bytes are its digits before that; none if it is 0.
pub record AreTens (first len : ℕ) (text : List ℕ) : Type 0 where
  pub none : first ≡ 0 → take len text ≡ []
  pub some : 0 < first → take len text ≡ decimal (first / 10)
  pub few : len ≤ 10
  pub ends : first ≡ 10 * (first / 10)
  pub fits : first < 2 ^ 32
