-- What a log holds while a step reports its events.
use Rattle.std.specs.Prelude.{ℕ, List, ◌++◌}
use Rattle.model.specs.declared.event.Event.{Event}

-- the events that it held before this step, those that this step has reported so far, and how many more it takes
pub record Logged : Type 0 where
  pub before : List Event
  pub told : List Event
  pub room : ℕ

-- all events that it holds, in order
abbrev pub all_of : Logged → List Event
all_of log = log.before ++ log.told
