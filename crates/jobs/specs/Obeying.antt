-- What the program does for the words of its command line.
use Rattle.std.specs.Prelude.{◌≡◌, ◌≢◌, ◌⊎◌, ℕ, Bool, true, false, List, [], Option, Result}
use Rattle.std.specs.Io.KnownBytes.{Keeps}
use Rattle.byte_io.specs.Shown.{shown_lines}
use Rattle.clap.specs.Words.{IsAmong, subcommand_of}
use Rattle.clap.specs.declared.error.kind.ErrorKind.{ErrorKind}
use Rattle.clap.specs.declared.error.kind.ErrorKind.TheVariants.{DisplayHelp, DisplayVersion, OutOfMemory}
use Rattle.requests.specs.declared.job.Job.{Job}
use Rattle.jobs.specs.declared.run_job.JobFault.{JobFault}
use Rattle.jobs.specs.declared.run_job.JobFault.TheVariants.{Serve}
use Rattle.campaign.specs.declared.file.ServeFault.TheVariants.{Memory, Write}
use Rattle.jobs.specs.Acting.{OpensAndDoes, Tells, fault_line, message_of, status_of}
use Rattle.requests.specs.Words.{IsJobOf, faults_of, rtosim_app}

-- ---- words that name no job

-- Words of this kind ask for help or for the version.
abbrev pub AsksForText : ErrorKind → Type 0
AsksForText kind = (kind ≡ DisplayHelp) ⊎ (kind ≡ DisplayVersion)

-- Words of this kind are refused: they ask for neither, and memory is not what lacks.
abbrev pub IsRefusal : ErrorKind → Type 0
IsRefusal kind = (kind ≢ DisplayHelp) × (kind ≢ DisplayVersion) × (kind ≢ OutOfMemory)

-- the status if a text was to be written: 5 if the writer failed
abbrev pub shown_status : (write_failed : Bool) → ℕ
shown_status false = 0
shown_status true = 5

-- what is printed then: nothing, or that it can't be written
abbrev pub ShownTells : (write_failed : Bool) → (old new : Option (List ℕ)) → (failed : Bool) → Type 0
ShownTells false old new failed = Keeps old new × (failed ≡ false)
ShownTells true old new failed = Tells old new failed (fault_line [] (Serve Write))

-- Help or the version was asked for: some text is written.
pub record Shows (kind : ErrorKind) (old new : Option (List ℕ)) (write_failed : Bool)
    (faults_old faults_new : Option (List ℕ)) (tell_failed : Bool) (status : ℕ) : Type 0 where
  pub asked : AsksForText kind
  pub text : List ℕ
  pub writes : Tells old new write_failed text
  pub tells : ShownTells write_failed faults_old faults_new tell_failed
  pub ends : status ≡ shown_status write_failed

-- The words are refused: some text is printed, its control characters escaped, and nothing is written.
pub record RefusesWords (kind : ErrorKind) (old new : Option (List ℕ)) (write_failed : Bool)
    (faults_old faults_new : Option (List ℕ)) (tell_failed : Bool) (status : ℕ) : Type 0 where
  pub refused : IsRefusal kind
  pub text : List ℕ
  pub tells : Tells faults_old faults_new tell_failed (shown_lines text)
  pub keeps : Keeps old new
  pub working : write_failed ≡ false
  pub ends : status ≡ 2

-- No memory is left: this is printed, and nothing is written.
pub record LacksMemory (old new : Option (List ℕ)) (write_failed : Bool)
    (faults_old faults_new : Option (List ℕ)) (tell_failed : Bool) (status : ℕ) : Type 0 where
  pub tells : Tells faults_old faults_new tell_failed (fault_line [] (Serve Memory))
  pub keeps : Keeps old new
  pub working : write_failed ≡ false
  pub ends : status ≡ 4

-- one of the three, for words of this kind
abbrev pub Concludes : ErrorKind → (old new : Option (List ℕ)) → (write_failed : Bool)
    → (faults_old faults_new : Option (List ℕ)) → (tell_failed : Bool) → (status : ℕ) → Type 0
Concludes kind old new write_failed faults_old faults_new tell_failed status =
    Shows kind old new write_failed faults_old faults_new tell_failed status
    ⊎ (RefusesWords kind old new write_failed faults_old faults_new tell_failed status
    ⊎ LacksMemory old new write_failed faults_old faults_new tell_failed status)

-- ---- all words

-- The words name this job, and it ended with this outcome.
pub record DoesJob (words : List (List ℕ)) (old new : Option (List ℕ)) (write_failed : Bool)
    (faults_old faults_new : Option (List ℕ)) (tell_failed : Bool) (status : ℕ) : Type 0 where
  pub job : Job
  pub named : IsJobOf (subcommand_of rtosim_app words) job
  pub taken : faults_of words ≡ []
  pub outcome : Result Bool JobFault
  pub does : OpensAndDoes job old new write_failed outcome
  pub tells : Tells faults_old faults_new tell_failed (message_of job outcome)
  pub ends : status ≡ status_of outcome

-- The words name no job, and are of this kind; or no memory is left.
pub record DoesNoJob (words : List (List ℕ)) (old new : Option (List ℕ)) (write_failed : Bool)
    (faults_old faults_new : Option (List ℕ)) (tell_failed : Bool) (status : ℕ) : Type 0 where
  pub kind : ErrorKind
  pub due : (kind ≡ OutOfMemory) ⊎ IsAmong kind (faults_of words)
  pub concludes : Concludes kind old new write_failed faults_old faults_new tell_failed status

-- one of the two
abbrev pub Obeys : (words : List (List ℕ)) → (old new : Option (List ℕ)) → (write_failed : Bool)
    → (faults_old faults_new : Option (List ℕ)) → (tell_failed : Bool) → (status : ℕ) → Type 0
Obeys words old new write_failed faults_old faults_new tell_failed status =
    DoesJob words old new write_failed faults_old faults_new tell_failed status
    ⊎ DoesNoJob words old new write_failed faults_old faults_new tell_failed status
