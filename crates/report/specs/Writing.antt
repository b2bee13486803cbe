-- A report that is being written.
use Rattle.std.specs.Prelude.{◌≡◌, ℕ, ◌+◌, ◌<◌, ◌≤◌, List, length, take, slice_index_or}
use Rattle.std.specs.List.{flat_map}
use Rattle.model.specs.Application.{Application}
use Rattle.model.specs.declared.event.Event.{Event}
use Rattle.report.specs.Text.{event_text}

-- what callers see of it: the application whose runs it is of, and the bytes that have yet to go out
pub record Report : Type 0 where
  pub app : Application
  pub page : List ℕ

-- what callers see of a base run's events: their application, and the events
pub record Events : Type 0 where
  pub app : Application
  pub events : List Event

-- The first events have this text, and the line of each ends here in it.
pub record IsRendered (app : Application) (events : List Event) (text ends : List ℕ) : Type 0 where
  pub within : length ends ≤ length events
  pub is : text ≡ flat_map (event_text app) (take (length ends) events)
  pub ending : (number : ℕ) → number < length ends
      → slice_index_or ends number 0 ≡ length (flat_map (event_text app) (take (number + 1) events))
