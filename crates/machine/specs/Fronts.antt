-- The progress of the first tasks.
use Rattle.std.specs.Prelude.{◌-◌, List, ◌++◌, length, replicate}
use Rattle.model.specs.State.{Progress, no_progress}

-- that of 32 tasks, if those after the first ones have done nothing
abbrev pub with_blanks : List Progress → List Progress
with_blanks front = front ++ replicate (32 - length front) no_progress
