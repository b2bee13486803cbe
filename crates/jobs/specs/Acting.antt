-- The outcome of a job; the program's status and fault lines.
use Rattle.std.specs.Prelude.{◌≡◌, ◌≢◌, ◌⊎◌, ◌==◌, ◌<◌, ◌≤◌, ◌*◌, ◌^◌, ℕ, length, IfSome, Bool, true, false, List, [], ◌∷◌, ◌++◌}
use Rattle.std.specs.Prelude.{codes, decimal, Option, Some, None, Result, Ok, Err, Vec, option_map}
use Rattle.std.specs.declared.alloc.Global.{Global}
use Rattle.std.specs.Io.KnownBytes.{Appends, Keeps}
use Rattle.byte_io.specs.Bytes.{SentFront}
use Rattle.byte_io.specs.Line.{joined_line}
use Rattle.byte_io.specs.Shown.{shown_name}
use Rattle.model.specs.declared.totals.Totals.{Totals}
use Rattle.model.specs.Campaign.{is_pass}
use Rattle.script.specs.declared.fault.Fault.{Fault}
use Rattle.script.specs.Faults.{fault_code, fault_name, place_words}
use Rattle.campaign.specs.declared.file.ServeFault.{ServeFault}
use Rattle.campaign.specs.declared.file.ServeFault.TheVariants.{Read, NotToml, Load, UnknownHandler, TooManyPoints, Memory, Write}
use Rattle.campaign.specs.Serving.{Known, Streams, streams_of}
use Rattle.campaign.specs.OneRun.{ServesRun}
use Rattle.campaign.specs.Campaigns.{ServesCampaign}
use Rattle.jobs.specs.EndStates.{ServesEndState}
use Rattle.jobs.specs.Explorations.{ServesExploration}
use Rattle.jobs.specs.Passing.{IsServed}
use Rattle.requests.specs.declared.job.Job.{Job}
use Rattle.requests.specs.declared.named_point.NamedPoint.{NamedPoint}
use Rattle.requests.specs.declared.job.Job.TheVariants.{Run, RunUnpaired, Campaign, Explore}
use Rattle.requests.specs.Jobs.{file_of, handler_of, is_unpaired}
use Rattle.jobs.specs.declared.run_job.JobFault.{JobFault}
use Rattle.jobs.specs.declared.run_job.JobFault.TheVariants.{Unpaired, TooLarge, Serve}

-- ---- jobs

-- Every row of a campaign, or of a part of it, passes.
abbrev pub all_pass : Totals → Bool
all_pass totals = totals.pass == totals.rows

-- What a job asks for is served, and passes or not.
abbrev pub Served : Job → Streams → Result Bool ServeFault → Type 0
Served (Run file point false) streams outcome = IsServed is_pass (ServesRun point streams) outcome
Served (Run file point true) streams outcome = IsServed is_pass (ServesEndState point streams) outcome
Served (RunUnpaired file) streams outcome = ⊥
Served (Campaign file view shard options quiet) streams outcome = IsServed all_pass (ServesCampaign view shard streams) outcome
Served (Explore file injections handlers) streams outcome =
    ServesExploration injections (option_map (λ list. list.now) handlers) streams outcome

-- The outcome of a job over an input: what it asks for is served; or its step and its handler don't go together, and nothing is
-- written.
abbrev pub Does : Job → Streams → Result Bool JobFault → Type 0
Does job streams (Ok passes) = (is_unpaired job ≡ false) × Served job streams (Ok passes)
Does job streams (Err (Serve fault)) = (is_unpaired job ≡ false) × Served job streams (Err fault)
Does job streams (Err TooLarge) = ⊥
Does job streams (Err Unpaired) =
    (is_unpaired job ≡ true) × (streams.read_failed ≡ false) × Keeps streams.old streams.new × (streams.write_failed ≡ false)

-- ---- files

-- 64 MiB (profile)
abbrev pub most_bytes : ℕ
most_bytes = 64 * 2 ^ 20

-- These bytes are those of the job's file; none are read if its step and its handler don't go together.
abbrev pub ReadsFor : Job → (file : Option (List ℕ)) → (read_failed : Bool) → List ℕ → Type 0
ReadsFor job file read_failed bytes = (read_failed ≡ false) × (is_unpaired job ≡ false → Known file bytes)

-- Why the bytes of the job's file were not read: there are more than 64 MiB, the reader failed, or no memory is left.
abbrev pub FailsToRead : Job → (file : Option (List ℕ)) → (read_failed : Bool) → JobFault → Type 0
FailsToRead job file read_failed TooLarge =
    (is_unpaired job ≡ false) × (read_failed ≡ false) × IfSome file (λ bytes. most_bytes < length bytes)
FailsToRead job file read_failed (Serve Read) = (is_unpaired job ≡ false) × (read_failed ≡ true)
FailsToRead job file read_failed (Serve Memory) = (is_unpaired job ≡ false) × (read_failed ≡ false) × (file ≢ Some [])
FailsToRead job file read_failed fault = ⊥

-- The outcome of a job over a file. The job is done over its bytes; there are 64 MiB of them at most if all were read. Or there
-- are more, and nothing is written.
abbrev pub DoesOverFile : Job → Streams → Result Bool JobFault → Type 0
DoesOverFile job streams (Err TooLarge) =
    (is_unpaired job ≡ false) × IfSome streams.input (λ bytes. most_bytes < length bytes) × (streams.read_failed ≡ false)
    × Keeps streams.old streams.new × (streams.write_failed ≡ false)
DoesOverFile job streams (Err Unpaired) = Does job streams (Err Unpaired)
DoesOverFile job streams (Err (Serve Read)) = Does job streams (Err (Serve Read))
DoesOverFile job streams (Err (Serve Memory)) = Does job streams (Err (Serve Memory))
DoesOverFile job streams outcome = IfSome streams.input (λ bytes. length bytes ≤ most_bytes) × Does job streams outcome

-- The file of a job can't be opened, or there is no memory for it: nothing is written.
abbrev pub LacksFile : (old new : Option (List ℕ)) → (write_failed : Bool) → Result Bool JobFault → Type 0
LacksFile old new write_failed outcome =
    ((outcome ≡ Err (Serve Read)) ⊎ (outcome ≡ Err (Serve Memory))) × Keeps old new × (write_failed ≡ false)

-- The outcome of a job over the file that it names: one of the two, for some bytes.
abbrev pub OpensAndDoes : Job → (old new : Option (List ℕ)) → (write_failed : Bool) → Result Bool JobFault → Type 0
OpensAndDoes job old new write_failed outcome =
    LacksFile old new write_failed outcome
    ⊎ ((read_failed : Bool) × DoesOverFile job (streams_of None read_failed old new write_failed) outcome)

-- ---- the status

abbrev pub status_of : Result Bool JobFault → ℕ
status_of (Ok true) = 0
status_of (Ok false) = 1
status_of (Err Unpaired) = 2
status_of (Err TooLarge) = 3
status_of (Err (Serve (UnknownHandler place))) = 2
status_of (Err (Serve Read)) = 3
status_of (Err (Serve NotToml)) = 3
status_of (Err (Serve (Load fault))) = 3
status_of (Err (Serve TooManyPoints)) = 3
status_of (Err (Serve Memory)) = 4
status_of (Err (Serve Write)) = 5

-- ---- the fault line

-- a load fault: its number, its name, and the place at which the check failed
abbrev pub load_pieces : Fault → List (List ℕ)
load_pieces fault =
    codes "rtosim:" ∷ decimal (fault_code fault.kind) ∷ (fault_name fault.kind ++ codes ":") ∷ place_words fault.place

-- the pieces of a fault's line, which may contain a name; its control characters are escaped
abbrev pub fault_pieces : (name : List ℕ) → JobFault → List (List ℕ)
fault_pieces name Unpaired = codes "rtosim: --at and --handler go together" ∷ []
fault_pieces name TooLarge = codes "rtosim: cannot read" ∷ (shown_name name ++ codes ":") ∷ codes "larger than 64 MiB" ∷ []
fault_pieces name (Serve Read) = codes "rtosim: cannot read" ∷ shown_name name ∷ []
fault_pieces name (Serve NotToml) = codes "rtosim: not TOML" ∷ []
fault_pieces name (Serve (Load fault)) = load_pieces fault
fault_pieces name (Serve (UnknownHandler place)) = codes "rtosim: unknown handler" ∷ shown_name name ∷ []
fault_pieces name (Serve TooManyPoints) = codes "rtosim: too many points" ∷ []
fault_pieces name (Serve Memory) = codes "rtosim: out of memory" ∷ []
fault_pieces name (Serve Write) = codes "rtosim: cannot write" ∷ []

abbrev pub fault_line : (name : List ℕ) → JobFault → List ℕ
fault_line name fault = joined_line (fault_pieces name fault)

-- the name in the message of a job's fault: that of the handler that is unknown, otherwise that of the file
abbrev pub name_in_message : Job → JobFault → List ℕ
name_in_message job (Serve (UnknownHandler place)) = handler_of job place
name_in_message job fault = file_of job

-- what is printed of an outcome
abbrev pub message_of : Job → Result Bool JobFault → List ℕ
message_of job (Ok passes) = []
message_of job (Err fault) = fault_line (name_in_message job fault) fault

-- The whole text went out, or a beginning of it to a sink that failed.
abbrev pub Tells : (old new : Option (List ℕ)) → (failed : Bool) → (text : List ℕ) → Type 0
Tells old new false text = Appends old new text
Tells old new true text = SentFront old new text

-- ---- what the functions pass on to each other: no reader need believe it

-- A run is served, with its end state or without, and passes or not.
abbrev pub ServesRunAt : Option NamedPoint → (state : Bool) → Streams → Result Bool ServeFault → Type 0
ServesRunAt point false streams outcome = IsServed is_pass (ServesRun point streams) outcome
ServesRunAt point true streams outcome = IsServed is_pass (ServesEndState point streams) outcome

-- The outcome of a job over what was read of its file: the job is done over these bytes, or they were not read, and nothing is
-- written.
abbrev pub DoesAsRead : Job → Result (Vec ℕ Global) JobFault → (old new : Option (List ℕ)) → (write_failed : Bool)
    → Result Bool JobFault → Type 0
DoesAsRead job (Ok bytes) old new write_failed outcome = Does job (streams_of (Some bytes.items) false old new write_failed) outcome
DoesAsRead job (Err fault) old new write_failed outcome = (outcome ≡ Err fault) × (new ≡ old) × (write_failed ≡ false)
