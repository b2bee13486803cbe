-- What a job comes to over its file, of whose bytes nothing need be known.
use Rattle.std.proofs.Common.{◌≡◌, ◌≢◌, ◌≤◌, ℕ, Bool, true, false, List, [], length, ◌⊎◌, inl, inr, Option, Some, None}
use Rattle.std.proofs.Common.{Global, Vec, option_map, refl, subst, sym}
use Rattle.std.specs.Prelude.{Ok, Err, Result, IfErr, IfOk, IfSome, MatchResult}
use Rattle.std.proofs.KnownBytes.{Keeps-refl}
use Rattle.campaign.specs.declared.file.ServeFault.{ServeFault}
use Rattle.campaign.specs.declared.file.ServeFault.TheVariants.{Read, NotToml, Load, UnknownHandler, TooManyPoints, Memory, Write}
use Rattle.campaign.specs.Faults.{of_reading}
use Rattle.campaign.specs.Serving.{Known, Serves, Streams, is_read_fault, streams_of}
use Rattle.campaign.proofs.Faulty.{campaign_serves_file_fault, reading_failed, serves_as_known, serves_file_fault}
use Rattle.byte_io.specs.declared.read.ReadFault.{ReadFault}
use Rattle.byte_io.specs.declared.read.ReadFault.TheVariants as read
use Rattle.requests.specs.declared.job.Job.{Job}
use Rattle.requests.specs.declared.job.Job.TheVariants.{Run, RunUnpaired, Campaign, Explore}
use Rattle.jobs.specs.declared.run_job.JobFault.{JobFault}
use Rattle.jobs.specs.declared.run_job.JobFault.TheVariants.{Serve, TooLarge, Unpaired}
use Rattle.jobs.proofs.EndStates.{end_state_file_fault}
use Rattle.jobs.proofs.Explorations.{exploration_file_fault}
use Rattle.jobs.specs.Acting.{Served, Does, DoesAsRead, DoesOverFile, FailsToRead, LacksFile, OpensAndDoes, ReadsFor}
use Rattle.jobs.specs.Passing.{IsServed}
use Rattle.requests.specs.Jobs.{is_unpaired}
use Rattle.jobs.specs.Acting.{most_bytes}

-- A file that could not be opened.
pub lacks_file : (old : Option (List ℕ)) (wf : Bool) (f : ServeFault)
    → (f ≡ Memory) ⊎ (f ≡ Read) → wf ≡ false → LacksFile old old wf (Err (Serve f))
lacks_file old wf f due e = (elim due [ inl h ↦ inr (rw h refl) | inr h ↦ inl (rw h refl) ], Keeps-refl old, e)

-- ---- an input of which less is known

module _ (streams : Streams) (other : Option (List ℕ))
    (as_known : (bytes : List ℕ) → Known streams.input bytes → Known other bytes) where
  is_served_as_known : {A : Type 0} (passes : A → Bool) (IsReport : (bytes report : List ℕ) → A → Type 0)
      (HasFaultOf : (bytes : List ℕ) → ServeFault → Type 0) (outcome : Result Bool ServeFault)
      → IsServed passes (Serves A IsReport HasFaultOf streams) outcome
      → IsServed passes (Serves A IsReport HasFaultOf (record streams { input = other })) outcome
  is_served_as_known passes IsReport HasFaultOf (Ok passed) h =
      (h.0, h.1, serves_as_known IsReport HasFaultOf streams other as_known (Ok h.0) h.2)
  is_served_as_known passes IsReport HasFaultOf (Err fault) h =
      serves_as_known IsReport HasFaultOf streams other as_known (Err fault) h

  served_as_known : (job : Job) (outcome : Result Bool ServeFault)
      → Served job streams outcome → Served job (record streams { input = other }) outcome
  served_as_known (Run file at false) outcome h = is_served_as_known _ _ _ outcome h
  served_as_known (Run file at true) outcome h = is_served_as_known _ _ _ outcome h
  served_as_known (RunUnpaired file) outcome h = absurd h
  served_as_known (Campaign file view shard options quiet) outcome h = is_served_as_known _ _ _ outcome h
  served_as_known (Explore file injections handlers) outcome h = serves_as_known _ _ streams other as_known outcome h

  does_as_known : (job : Job) (outcome : Result Bool JobFault)
      → Does job streams outcome → Does job (record streams { input = other }) outcome
  does_as_known job (Ok passes) h = (h.0, served_as_known job (Ok passes) h.1)
  does_as_known job (Err (Serve fault)) h = (h.0, served_as_known job (Err fault) h.1)
  does_as_known job (Err TooLarge) h = absurd h
  does_as_known job (Err Unpaired) h = h

-- ---- a file

within_file : (file : Option (List ℕ)) (bytes : List ℕ) → Known file bytes
    → length bytes ≤ most_bytes → IfSome file (λ all. length all ≤ most_bytes)
within_file None bytes known few = tt
within_file (Some all) bytes known few = rw (← known) few

-- A job that is done over the bytes that were read of a file is done over the file.
module _ (job : Job) (file : Option (List ℕ)) (bytes : List ℕ) (old new : Option (List ℕ)) (wf : Bool)
    (few : length bytes ≤ most_bytes) (reads : is_unpaired job ≡ false → Known file bytes) where
  does_whole : (outcome : Result Bool JobFault) → is_unpaired job ≡ false
      → Does job (streams_of (Some bytes) false old new wf) outcome
      → IfSome file (λ all. length all ≤ most_bytes) × Does job (streams_of file false old new wf) outcome
  does_whole outcome paired h = (
    within_file file bytes (reads paired) few,
    does_as_known (streams_of (Some bytes) false old new wf) file (λ some same. rw same (reads paired)) job outcome h,
  )

  over_file : (outcome : Result Bool JobFault) → Does job (streams_of (Some bytes) false old new wf) outcome
      → DoesOverFile job (streams_of file false old new wf) outcome
  over_file (Ok passes) h = does_whole (Ok passes) h.0 h
  over_file (Err TooLarge) h = absurd h
  over_file (Err Unpaired) h = h
  over_file (Err (Serve Read)) h = (does_whole (Err (Serve Read)) h.0 h).1
  over_file (Err (Serve Memory)) h = (does_whole (Err (Serve Memory)) h.0 h).1
  over_file (Err (Serve NotToml)) h = does_whole (Err (Serve NotToml)) h.0 h
  over_file (Err (Serve (Load fault))) h = does_whole (Err (Serve (Load fault))) h.0 h
  over_file (Err (Serve (UnknownHandler place))) h = does_whole (Err (Serve (UnknownHandler place))) h.0 h
  over_file (Err (Serve TooManyPoints)) h = does_whole (Err (Serve TooManyPoints)) h.0 h
  over_file (Err (Serve Write)) h = does_whole (Err (Serve Write)) h.0 h

does_over_file : (job : Job) (file : Option (List ℕ)) (bytes : List ℕ) (rf : Bool)
    (old new : Option (List ℕ)) (wf : Bool) (outcome : Result Bool JobFault)
    → ReadsFor job file rf bytes → length bytes ≤ most_bytes
    → Does job (streams_of (Some bytes) false old new wf) outcome → DoesOverFile job (streams_of file rf old new wf) outcome
does_over_file job file bytes rf old new wf outcome reads few h =
    rw reads.0 (over_file job file bytes old new wf few reads.1 outcome h)

-- So is one that is done over all bytes of a source.
does_all : (job : Job) (input : Option (List ℕ)) (bytes : List ℕ)
    (old new : Option (List ℕ)) (wf : Bool) (outcome : Result Bool JobFault)
    → (is_unpaired job ≡ false → Known input bytes)
    → Does job (streams_of (Some bytes) false old new wf) outcome → Does job (streams_of input false old new wf) outcome
does_all job input bytes old new wf (Ok passes) reads h =
    does_as_known (streams_of (Some bytes) false old new wf) input (λ some same. rw same (reads h.0)) job (Ok passes) h
does_all job input bytes old new wf (Err (Serve fault)) reads h =
    does_as_known (streams_of (Some bytes) false old new wf) input (λ some same. rw same (reads h.0)) job (Err (Serve fault)) h
does_all job input bytes old new wf (Err TooLarge) reads h = absurd h
does_all job input bytes old new wf (Err Unpaired) reads h = h

does_over_all : (job : Job) (input : Option (List ℕ)) (bytes : List ℕ) (rf : Bool)
    (old new : Option (List ℕ)) (wf : Bool) (outcome : Result Bool JobFault)
    → ReadsFor job input rf bytes
    → Does job (streams_of (Some bytes) false old new wf) outcome → Does job (streams_of input rf old new wf) outcome
does_over_all job input bytes rf old new wf outcome reads h = rw reads.0 (does_all job input bytes old new wf outcome reads.1 h)

-- A fault of reading is one of what is asked for.
served_fault : (job : Job) (file : Option (List ℕ)) (rf wf : Bool) (old : Option (List ℕ)) (e : ReadFault)
    → is_unpaired job ≡ false → (e ≡ read.Memory → file ≢ Some [])
    → rf ≡ is_read_fault {A = Bool} (Err (of_reading e)) → wf ≡ false
    → Served job (streams_of file rf old old wf) (Err (of_reading e))
served_fault (Run name at false) file rf wf old read.Failed paired some failed working =
    serves_file_fault at file rf wf
    old Read (reading_failed file read.Failed some) failed refl working
served_fault (Run name at false) file rf wf old read.Memory paired some failed working =
    serves_file_fault at file rf wf
    old Memory (reading_failed file read.Memory some) failed refl working
served_fault (Run name at true) file rf wf old read.Failed paired some failed working =
    end_state_file_fault at file rf wf
    old Read (reading_failed file read.Failed some) failed refl working
served_fault (Run name at true) file rf wf old read.Memory paired some failed working =
    end_state_file_fault at file rf wf
    old Memory (reading_failed file read.Memory some) failed refl working
served_fault (RunUnpaired name) file rf wf old e paired some failed working = absurd (cc)
served_fault (Campaign name view shard options quiet) file rf wf old read.Failed paired some failed working =
    campaign_serves_file_fault view shard file rf wf old Read (reading_failed file read.Failed some) failed refl working
served_fault (Campaign name view shard options quiet) file rf wf old read.Memory paired some failed working =
    campaign_serves_file_fault view shard file rf wf old Memory (reading_failed file read.Memory some) failed refl working
served_fault (Explore name injections handlers) file rf wf old read.Failed paired some failed working =
    exploration_file_fault injections (option_map (λ list. list.now) handlers) file rf wf
    old Read (reading_failed file read.Failed some) failed refl working
served_fault (Explore name injections handlers) file rf wf old read.Memory paired some failed working =
    exploration_file_fault injections (option_map (λ list. list.now) handlers) file rf wf
    old Memory (reading_failed file read.Memory some) failed refl working

fails_to_read : (job : Job) (file : Option (List ℕ)) (rf wf : Bool) (old : Option (List ℕ)) (fault : ServeFault)
    → FailsToRead job file rf (Serve fault) → wf ≡ false → Does job (streams_of file rf old old wf) (Err (Serve fault))
fails_to_read job file rf wf old Read h working =
    (h.0, served_fault job file rf wf old read.Failed h.0 (λ e. absurd (cc)) h.1 working)
fails_to_read job file rf wf old Memory h working = (h.0, served_fault job file rf wf old read.Memory h.0 (λ e. h.2) h.1 working)
fails_to_read job file rf wf old NotToml h working = absurd h
fails_to_read job file rf wf old (Load fault) h working = absurd h
fails_to_read job file rf wf old (UnknownHandler place) h working = absurd h
fails_to_read job file rf wf old TooManyPoints h working = absurd h
fails_to_read job file rf wf old Write h working = absurd h

fails_over_file : (job : Job) (file : Option (List ℕ)) (rf wf : Bool) (old : Option (List ℕ)) (fault : JobFault)
    → FailsToRead job file rf fault → wf ≡ false → DoesOverFile job (streams_of file rf old old wf) (Err fault)
fails_over_file job file rf wf old TooLarge h working = (h.0, h.2, h.1, Keeps-refl old, working)
fails_over_file job file rf wf old Unpaired h working = absurd h
fails_over_file job file rf wf old (Serve Read) h working = fails_to_read job file rf wf old Read h working
fails_over_file job file rf wf old (Serve Memory) h working = fails_to_read job file rf wf old Memory h working
fails_over_file job file rf wf old (Serve NotToml) h working = absurd h
fails_over_file job file rf wf old (Serve (Load fault)) h working = absurd h
fails_over_file job file rf wf old (Serve (UnknownHandler place)) h working = absurd h
fails_over_file job file rf wf old (Serve TooManyPoints) h working = absurd h
fails_over_file job file rf wf old (Serve Write) h working = absurd h

-- A job that is done over what was read is done over the source.
pub acts_over_all : (job : Job) (read : Result (Vec ℕ Global) JobFault) (input : Option (List ℕ)) (rf : Bool)
    (old new : Option (List ℕ)) (wf : Bool) (outcome : Result Bool JobFault)
    → MatchResult read (λ bytes. ReadsFor job input rf bytes.items) (FailsToRead job input rf)
    → IfErr read (λ fault. fault ≢ TooLarge) → DoesAsRead job read old new wf outcome
    → Does job (streams_of input rf old new wf) outcome
acts_over_all job (Ok bytes) input rf old new wf outcome reads any_size done =
    does_over_all job input bytes.items rf old new wf outcome reads done
acts_over_all job (Err TooLarge) input rf old new wf outcome reads any_size done = absurd (any_size refl)
acts_over_all job (Err Unpaired) input rf old new wf outcome reads any_size done = absurd reads
acts_over_all job (Err (Serve fault)) input rf old new wf outcome reads any_size done =
    rw (done.0, done.1) (fails_to_read job input rf wf old fault reads done.2)

-- So is it over a file.
pub acts_over_file : (job : Job) (read : Result (Vec ℕ Global) JobFault) (file : Option (List ℕ)) (rf : Bool)
    (old new : Option (List ℕ)) (wf : Bool) (outcome : Result Bool JobFault)
    → MatchResult read (λ bytes. ReadsFor job file rf bytes.items) (FailsToRead job file rf)
    → IfOk read (λ bytes. length bytes.items ≤ most_bytes) → DoesAsRead job read old new wf outcome
    → DoesOverFile job (streams_of file rf old new wf) outcome
acts_over_file job (Ok bytes) file rf old new wf outcome reads few done =
    does_over_file job file bytes.items rf old new wf outcome reads few done
acts_over_file job (Err fault) file rf old new wf outcome reads few done =
    subst (λ (o : Result Bool JobFault). DoesOverFile job (streams_of file rf old new wf) o) (sym done.0)
    (subst (λ (after : Option (List ℕ)). DoesOverFile job (streams_of file rf old after wf) (Err fault)) (sym done.1)
    (fails_over_file job file rf wf old fault reads done.2))

-- A file that was opened, whose bytes nobody knows.
no_more_known : (job : Job) (streams : Streams) (outcome : Result Bool JobFault)
    → Does job streams outcome → Does job (record streams { input = None }) outcome
no_more_known job streams outcome h = does_as_known streams None (λ bytes known. tt) job outcome h

over_unknown_file : (job : Job) (streams : Streams) (outcome : Result Bool JobFault)
    → DoesOverFile job streams outcome → DoesOverFile job (record streams { input = None }) outcome
over_unknown_file job streams (Ok passes) h = (tt, no_more_known job streams (Ok passes) h.1)
over_unknown_file job streams (Err TooLarge) h = (h.0, tt, h.2, h.3, h.4)
over_unknown_file job streams (Err Unpaired) h = h
over_unknown_file job streams (Err (Serve Read)) h = no_more_known job streams (Err (Serve Read)) h
over_unknown_file job streams (Err (Serve Memory)) h = no_more_known job streams (Err (Serve Memory)) h
over_unknown_file job streams (Err (Serve NotToml)) h = (tt, no_more_known job streams (Err (Serve NotToml)) h.1)
over_unknown_file job streams (Err (Serve (Load fault))) h = (tt, no_more_known job streams (Err (Serve (Load fault))) h.1)
over_unknown_file job streams (Err (Serve (UnknownHandler place))) h =
    (tt, no_more_known job streams (Err (Serve (UnknownHandler place))) h.1)
over_unknown_file job streams (Err (Serve TooManyPoints)) h = (tt, no_more_known job streams (Err (Serve TooManyPoints)) h.1)
over_unknown_file job streams (Err (Serve Write)) h = (tt, no_more_known job streams (Err (Serve Write)) h.1)

pub opens : (job : Job) (streams : Streams) (outcome : Result Bool JobFault)
    → DoesOverFile job streams outcome → OpensAndDoes job streams.old streams.new streams.write_failed outcome
opens job streams outcome done = inr (streams.read_failed, over_unknown_file job streams outcome done)
