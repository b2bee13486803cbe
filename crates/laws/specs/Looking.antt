-- What stops a run, in plain terms.
use Rattle.std.specs.Prelude.{Bool, true, false, Option, Some}
use Rattle.model.specs.declared.event.End.{End}
use Rattle.model.specs.declared.event.End.TheVariants.{Misuse}
use Rattle.model.specs.State.{State}

-- the cause of a run's stop is a misuse
abbrev pub is_by_misuse : Option End → Bool
is_by_misuse (Some (Misuse task op_index kind)) = true
is_by_misuse _ = false

-- A misuse has stopped the run.
abbrev pub is_misused : State → Bool
is_misused s = is_by_misuse s.stopped
