-- Results that are kept for tasks until they go on.
use Rattle.std.specs.Prelude.{ℕ, List, Some, fold, slice_set}
use Rattle.model.specs.State.{Progress}
use Rattle.machine.specs.StandsFor.{progress_in}

-- These bits are kept as the answer of the task's call.
abbrev pub keep_in : ℕ → List Progress → ℕ → List Progress
keep_in bits ps task =
    let p = progress_in ps task in
    slice_set ps task (record p { call = record p.call { kept = Some bits } })

-- the same for each of these tasks
abbrev pub kept_by : ℕ → List ℕ → List Progress → List Progress
kept_by bits tasks ps = fold (keep_in bits) ps tasks
