-- What the program is asked to do.
use Rattle.std.specs.Prelude.{ℕ, Bool, true, false, List, [], Some, None}
use Rattle.requests.specs.declared.job.Job.{Job}
use Rattle.requests.specs.declared.job.Job.TheVariants.{Run, RunUnpaired, Campaign, Explore}
use Rattle.requests.specs.Asked.{names_in, pairs_in}
use Rattle.requests.specs.Names.{name_at, names_of}

-- the name of the file that a job reads
abbrev pub file_of : Job → List ℕ
file_of (Run file point state) = file.now
file_of (RunUnpaired file) = file.now
file_of (Campaign file view shard options quiet) = file.now
file_of (Explore file injections handlers) = file.now

-- the names of handlers in the words of a job, in their order
abbrev pub handlers_of : Job → List (List ℕ)
handlers_of (Run file (Some point) state) = names_in (pairs_in point.injections)
handlers_of (Run file None state) = []
handlers_of (RunUnpaired file) = []
handlers_of (Campaign file view shard options quiet) = []
handlers_of (Explore file injections (Some names)) = names_of names.now
handlers_of (Explore file injections None) = []

-- the name in this place; empty if there is none
abbrev pub handler_of : Job → (place : ℕ) → List ℕ
handler_of job place = name_at place (handlers_of job)

-- A step was named for the job and no handler, or a handler and no step.
abbrev pub is_unpaired : Job → Bool
is_unpaired (Run file point state) = false
is_unpaired (RunUnpaired file) = true
is_unpaired (Campaign file view shard options quiet) = false
is_unpaired (Explore file injections handlers) = false
