-- The outcome of serving a file, whatever is asked for: the report that is asked for, or the fault that prevents it.
use Rattle.std.specs.Prelude.{◌≡◌, ◌≢◌, ℕ, Bool, true, false, List, [], Option, Some, None, Result, Ok, Err, IfSome}
use Rattle.std.specs.Str.{IsUtf8}
use Rattle.std.specs.Io.KnownBytes.{Appends, Keeps}
use Rattle.toml.specs.Data.{Members}
use Rattle.toml.specs.Parse.{parse_document}
use Rattle.model.specs.Application.{Application}
use Rattle.byte_io.specs.Bytes.{SentFront}
use Rattle.script.specs.Load.{load_fault, app_named}
use Rattle.campaign.specs.declared.file.ServeFault.{ServeFault}
use Rattle.campaign.specs.declared.file.ServeFault.TheVariants.{Read, NotToml, Load, UnknownHandler, TooManyPoints, Memory, Write}

-- ---- files

-- the bytes spell this document
pub record IsDocument (bytes : List ℕ) (document : Members) : Type 0 where
  pub utf8 : IsUtf8 bytes
  pub parsed : parse_document bytes ≡ Some document

-- the bytes spell a document in which no check fails, and which names this application
abbrev pub IsFileOf : List ℕ → Application → Type 0
IsFileOf bytes app = (document : Members) × IsDocument bytes document × (load_fault document ≡ None) × (app ≡ app_named document)

-- The bytes are a file with this fault, whatever is asked for. Memory is wanted for some bytes only; reading and writing are
-- no matter of the file.
abbrev pub HasFileFault : List ℕ → ServeFault → Type 0
HasFileFault bytes NotToml = IsUtf8 bytes → parse_document bytes ≡ None
HasFileFault bytes (Load fault) = (document : Members) × IsDocument bytes document × (load_fault document ≡ Some fault)
HasFileFault bytes Memory = bytes ≢ []
HasFileFault bytes (UnknownHandler place) = ⊥
HasFileFault bytes TooManyPoints = ⊥
HasFileFault bytes fault = Unit {0}

-- ---- serving

abbrev pub is_read_fault : {A : Type 0} → Result A ServeFault → Bool
is_read_fault (Err Read) = true
is_read_fault outcome = false

abbrev pub is_write_fault : {A : Type 0} → Result A ServeFault → Bool
is_write_fault (Err Write) = true
is_write_fault outcome = false

-- the source that a call reads, and the sink to which it writes
pub record Streams : Type 0 where
  -- the bytes that the source had left, if they are known
  pub input : Option (List ℕ)
  -- reading failed
  pub read_failed : Bool
  -- what the sink had taken before the call and after it, if that is known
  pub old : Option (List ℕ)
  pub new : Option (List ℕ)
  -- writing failed
  pub write_failed : Bool

abbrev pub streams_of : (input : Option (List ℕ)) (read_failed : Bool) (old new : Option (List ℕ)) (write_failed : Bool) → Streams
streams_of input read old new write = record { input = input; read_failed = read; old = old; new = new; write_failed = write }

-- the bytes are those of an input, if they are known
abbrev pub Known : Option (List ℕ) → List ℕ → Type 0
Known input bytes = IfSome input (λ known. bytes ≡ known)

-- What goes out, for some bytes of the input, by what this says: which text is their report, and what is returned with it. At
-- `Ok`: the whole report. At a write fault: a beginning of such a report. At any other fault, which these bytes have: nothing.
abbrev pub Answers : {A : Type 0} → (IsReport : (bytes report : List ℕ) → A → Type 0)
    → (HasFault : (bytes : List ℕ) → ServeFault → Type 0) → Streams → Result A ServeFault → Type 0
Answers IsReport HasFault streams (Ok answer) =
    (bytes : List ℕ) × Known streams.input bytes
    × (report : List ℕ) × IsReport bytes report answer × Appends streams.old streams.new report
Answers {A} IsReport HasFault streams (Err Write) =
    (bytes : List ℕ) × Known streams.input bytes
    × (report : List ℕ) × (answer : A) × IsReport bytes report answer × SentFront streams.old streams.new report
Answers IsReport HasFault streams (Err fault) =
    ((bytes : List ℕ) × Known streams.input bytes × HasFault bytes fault) × Keeps streams.old streams.new

-- A call with this outcome. It failed to read or to write exactly if its fault says so.
pub record Serves (A : Type 0) (IsReport : (bytes report : List ℕ) → A → Type 0) (HasFault : (bytes : List ℕ) → ServeFault → Type 0)
    (streams : Streams) (outcome : Result A ServeFault) : Type 0 where
  pub answers : Answers IsReport HasFault streams outcome
  pub read : streams.read_failed ≡ is_read_fault outcome
  pub write : streams.write_failed ≡ is_write_fault outcome
