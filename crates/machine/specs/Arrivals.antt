-- When interrupt sources can come, and when they come by themselves.
use Rattle.std.specs.Prelude.{ℕ, ◌+◌, ◌-◌, Bool, true, false, List, Option, Some, None, min, fold, nat_eq, slice_index_or}
use Rattle.std.specs.Prelude.{if◌then◌else◌}
use Rattle.std.specs.Option.{option_eq}
use Rattle.model.specs.declared.source.SourceOp.{SourceOp}
use Rattle.model.specs.declared.source.SourceOp.TheVariants.{Arm, Disarm, Raise, Cancel}
use Rattle.machine.specs.declared.arrivals.Arrival.{Arrival}

-- A source that can come at any time, and doesn't come by itself.
abbrev pub at_any_time : Arrival
at_any_time = record { armed = true; free_from = 0; raised = None }

-- what is kept of this source
abbrev pub arrival_in : List Arrival → ℕ → Arrival
arrival_in arrivals source = slice_index_or arrivals source at_any_time

-- What is kept of a source from this elapsed tick on: how many ticks are left until it can come, and not since when it can.
abbrev pub arrival_from : ℕ → Arrival → Arrival
arrival_from elapsed a = record a { free_from = a.free_from - elapsed }

-- the sooner of two ticks, if there are two
abbrev pub sooner : Option ℕ → Option ℕ → Option ℕ
sooner None other = other
sooner (Some tick) None = Some tick
sooner (Some tick) (Some other) = Some (min tick other)

-- the first tick at which one of these sources comes by itself
abbrev pub soonest : List Arrival → Option ℕ
soonest arrivals = fold (λ soonest_yet a. sooner soonest_yet a.raised) None arrivals

-- The source comes by itself at this tick.
abbrev pub is_due : ℕ → Arrival → Bool
is_due tick a = option_eq nat_eq a.raised (Some tick)

-- It does so no more.
abbrev pub lowered : ℕ → Arrival → Arrival
lowered tick a = if is_due tick a then record a { raised = None } else a

-- what is kept of a source after this op, if this is the elapsed tick
abbrev pub after_op : SourceOp → ℕ → Arrival → Arrival
after_op Arm now a = record a { armed = true }
after_op Disarm now a = record a { armed = false }
after_op (Raise ticks) now a = record a { raised = Some (now + ticks) }
after_op Cancel now a = record a { raised = None }
