-- What callers see of the interrupt sources: the handlers in the order of the file, and then the tick.
use Rattle.std.specs.Prelude.{ℕ, ◌-◌, Bool, false, List, slice_index_or}
use Rattle.model.specs.State.{Source}
use Rattle.machine.specs.declared.arrivals.Arrival.{Arrival}
use Rattle.machine.specs.Arrivals.{arrival_in}

pub record Sources : Type 0 where
  -- how many there are
  pub number : ℕ
  -- which of them are pending; the places past the last are not
  pub pending : List Bool
  -- when each can come, and when it comes by itself
  pub arrivals : List Arrival

-- This source is pending.
abbrev pub is_pending : Sources → ℕ → Bool
is_pending v source = slice_index_or v.pending source false

-- what the definitions keep of a source whose flag and arrival are these
abbrev pub source_of : Bool → Arrival → Source
source_of pending a = record { pending = pending; armed = a.armed; free_from = a.free_from; raised = a.raised }

-- all that is kept of this source
abbrev pub source_in : Sources → ℕ → Source
source_in v source = source_of (is_pending v source) (arrival_in v.arrivals source)

-- A source from this elapsed tick on: how many ticks are left until it can come, and not since when it can.
abbrev pub source_from : ℕ → Source → Source
source_from elapsed x = record x { free_from = x.free_from - elapsed }
