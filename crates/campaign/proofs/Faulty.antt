-- Faults of an input, as far as it is known, and the beginnings of its reports.
use Rattle.std.proofs.Common.{◌≡◌, ◌≢◌, ℕ, Bool, true, false, List, [], ◌∷◌, Option, Some, None, refl, ap, sym, subst, ◌∙◌}
use Rattle.std.specs.Prelude.{Ok, Err, Result}
use Rattle.std.proofs.KnownBytes.{Keeps-refl}
use Rattle.toml.specs.Data.{Members, no_members}
use Rattle.toml.specs.Errors.{IsBlank}
use Rattle.toml.specs.Parse.{parse_document}
use Rattle.toml.proofs.OnLiterals.{toml_on_literals}
use Rattle.model.specs.Application.{Application}
use Rattle.model.specs.declared.event.End.{End}
use Rattle.model.specs.declared.totals.Totals.{Totals}
use Rattle.script.specs.Sections.{objects_fault, objects_named, more_objects_fault, with_objects, groups_fault, groups_named}
use Rattle.script.specs.Sections.{variables_fault, variables_named, handlers_fault, handlers_named, tasks_fault, tasks_named}
use Rattle.script.specs.Faults.{Loads}
use Rattle.script.specs.Load.{app_named, entries_of, entries_fault, load_fault}
use Rattle.script.specs.declared.fault.LoadError.{LoadError}
use Rattle.script.specs.declared.fault.LoadError.TheVariants as loading
use Rattle.byte_io.specs.Bytes.{SentFront}
use Rattle.byte_io.specs.declared.read.ReadFault.{ReadFault}
use Rattle.byte_io.specs.declared.read.ReadFault.TheVariants as read
use Rattle.report.specs.Shards.{Shard}
use Rattle.report.specs.declared.view.View.{View}
use Rattle.requests.specs.declared.named_point.NamedPoint.{NamedPoint}
use Rattle.campaign.specs.declared.file.ServeFault.{ServeFault}
use Rattle.campaign.specs.declared.file.ServeFault.TheVariants.{Read, NotToml, Load, UnknownHandler, TooManyPoints, Memory, Write}
use Rattle.campaign.specs.Serving.{Answers, Serves, Known, IsDocument, IsFileOf, HasFileFault, Streams, streams_of}
use Rattle.campaign.specs.Faults.{IsCampaignFault, IsRunFault, of_loading, of_reading}
use Rattle.campaign.specs.Serving.{is_read_fault, is_write_fault}
use Rattle.campaign.specs.OneRun.{HasFault, ServesRun}
use Rattle.campaign.specs.Campaigns.{HasCampaignFault, ServesCampaign}

-- there are bytes, the known ones where they are known
pub some_text : (input : Option (List ℕ)) → (bytes : List ℕ) × Known input bytes
some_text None = ([], tt)
some_text (Some bytes) = (bytes, refl)

not_nothing : (byte : ℕ) (bytes : List ℕ) → byte ∷ bytes ≢ []
not_nothing byte bytes e = cc e

-- and more than none, where they are not known to be none
pub some_bytes : (input : Option (List ℕ)) → input ≢ Some [] → (bytes : List ℕ) × Known input bytes × bytes ≢ []
some_bytes None some = (0 ∷ [], tt, not_nothing 0 [])
some_bytes (Some bytes) some = (bytes, refl, λ e. some (ap Some e))

-- An empty file is blank, and names no task.

nothing_is_blank : IsBlank []
unfolding toml_on_literals
nothing_is_blank = refl

pub blank_or_some : (bytes : List ℕ) → (IsBlank bytes → ⊥) → bytes ≢ []
blank_or_some [] blank e = blank nothing_is_blank
blank_or_some (byte ∷ bytes) blank e = not_nothing byte bytes e

nothing_parsed : parse_document [] ≡ Some no_members
unfolding toml_on_literals
nothing_parsed = refl

nothing_names_no_task : load_fault no_members ≡ None → ⊥
unfolding entries_fault entries_of objects_fault objects_named more_objects_fault with_objects
    groups_fault groups_named variables_fault variables_named handlers_fault handlers_named tasks_fault tasks_named
nothing_names_no_task sound = cc sound

no_fault_in_nothing : (document : Members) → parse_document [] ≡ Some document → load_fault document ≡ None → ⊥
no_fault_in_nothing document parsed sound =
    let same : Some no_members ≡ Some document = sym nothing_parsed ∙ parsed in
    let is : document ≡ no_members = cc same in
    nothing_names_no_task (subst (λ (d : Members). load_fault d ≡ None) is sound)

pub document_has_bytes : (bytes : List ℕ) (document : Members)
    → parse_document bytes ≡ Some document → load_fault document ≡ None → bytes ≢ []
document_has_bytes [] document parsed sound e = no_fault_in_nothing document parsed sound
document_has_bytes (byte ∷ bytes) document parsed sound e = not_nothing byte bytes e

pub file_has_bytes : (bytes : List ℕ) (app : Application) → IsFileOf bytes app → bytes ≢ []
file_has_bytes bytes app file = document_has_bytes bytes file.0 file.1.parsed file.2

-- the fault of a reader, or of the memory for its bytes
pub reading_failed : (input : Option (List ℕ)) (e : ReadFault) → (e ≡ read.Memory → input ≢ Some [])
    → (bytes : List ℕ) × Known input bytes × HasFileFault bytes (of_reading e)
reading_failed input read.Failed some = let k = some_text input in (k.0, k.1, tt)
reading_failed input read.Memory some = some_bytes input (some refl)

-- why the application of a document was not loaded
pub loading_failed : (bytes : List ℕ) (document : Members) (e : LoadError) → IsDocument bytes document
    → Loads {X = Application} (Err e) (load_fault document) (app_named document) → HasFileFault bytes (of_loading e)
loading_failed bytes document loading.Memory is sound = document_has_bytes bytes document is.parsed sound
loading_failed bytes document (loading.Fault fault) is bad = (document, is, bad)

-- A fault is one of the same side, whatever would be answered.
pub same_read : (A B : Type 0) (f : ServeFault) → is_read_fault {A = A} (Err f) ≡ is_read_fault {A = B} (Err f)
same_read A B Read = refl
same_read A B NotToml = refl
same_read A B (Load fault) = refl
same_read A B (UnknownHandler place) = refl
same_read A B TooManyPoints = refl
same_read A B Memory = refl
same_read A B Write = refl

pub same_write : (A B : Type 0) (f : ServeFault) → is_write_fault {A = A} (Err f) ≡ is_write_fault {A = B} (Err f)
same_write A B Read = refl
same_write A B NotToml = refl
same_write A B (Load fault) = refl
same_write A B (UnknownHandler place) = refl
same_write A B TooManyPoints = refl
same_write A B Memory = refl
same_write A B Write = refl

-- ---- whatever is asked for

module _ {A : Type 0} (IsReport : (bytes report : List ℕ) → A → Type 0)
    (HasFaultOf : (bytes : List ℕ) → ServeFault → Type 0) (input : Option (List ℕ)) (rf wf : Bool) where
  -- a fault, at which nothing is written
  pub serves_fault : (old : Option (List ℕ)) (f : ServeFault) → ((bytes : List ℕ) × Known input bytes × HasFaultOf bytes f)
      → rf ≡ is_read_fault {A = A} (Err f) → is_write_fault {A = A} (Err f) ≡ false
      → wf ≡ false → Serves A IsReport HasFaultOf (streams_of input rf old old wf) (Err f)
  serves_fault old Read h r w e = record { answers = (h, Keeps-refl old); read = r; write = e }
  serves_fault old NotToml h r w e = record { answers = (h, Keeps-refl old); read = r; write = e }
  serves_fault old (Load fault) h r w e = record { answers = (h, Keeps-refl old); read = r; write = e }
  serves_fault old (UnknownHandler place) h r w e = record { answers = (h, Keeps-refl old); read = r; write = e }
  serves_fault old TooManyPoints h r w e = record { answers = (h, Keeps-refl old); read = r; write = e }
  serves_fault old Memory h r w e = record { answers = (h, Keeps-refl old); read = r; write = e }
  serves_fault old Write h r w e = absurd (cc)

  -- a beginning of a report
  pub serves_front : (old new : Option (List ℕ)) (bytes report : List ℕ) (answer : A)
      → Known input bytes → IsReport bytes report answer → SentFront old new report → rf ≡ false → wf ≡ true
      → Serves A IsReport HasFaultOf (streams_of input rf old new wf) (Err Write)
  serves_front old new bytes report answer known is sent r w =
      record { answers = (bytes, known, report, answer, is, sent); read = r; write = w }

-- What is said of the bytes of an input is said of another, of which no more is known.

module _ {A : Type 0} (IsReport : (bytes report : List ℕ) → A → Type 0) (HasFaultOf : (bytes : List ℕ) → ServeFault → Type 0)
    (streams : Streams) (other : Option (List ℕ))
    (as_known : (bytes : List ℕ) → Known streams.input bytes → Known other bytes) where
  answers_as_known : (outcome : Result A ServeFault)
      → Answers IsReport HasFaultOf streams outcome → Answers IsReport HasFaultOf (record streams { input = other }) outcome
  answers_as_known (Ok answer) h = (h.0, as_known h.0 h.1, h.2, h.3, h.4)
  answers_as_known (Err Write) h = (h.0, as_known h.0 h.1, h.2, h.3, h.4, h.5)
  answers_as_known (Err Read) h = ((h.0.0, as_known h.0.0 h.0.1, h.0.2), h.1)
  answers_as_known (Err NotToml) h = ((h.0.0, as_known h.0.0 h.0.1, h.0.2), h.1)
  answers_as_known (Err (Load fault)) h = ((h.0.0, as_known h.0.0 h.0.1, h.0.2), h.1)
  answers_as_known (Err (UnknownHandler place)) h = ((h.0.0, as_known h.0.0 h.0.1, h.0.2), h.1)
  answers_as_known (Err TooManyPoints) h = ((h.0.0, as_known h.0.0 h.0.1, h.0.2), h.1)
  answers_as_known (Err Memory) h = ((h.0.0, as_known h.0.0 h.0.1, h.0.2), h.1)

  pub serves_as_known : (outcome : Result A ServeFault)
      → Serves A IsReport HasFaultOf streams outcome → Serves A IsReport HasFaultOf (record streams { input = other }) outcome
  serves_as_known outcome h = record { answers = answers_as_known outcome h.answers; read = h.read; write = h.write }

-- ---- one run

-- A fault of a file is one whatever is asked for.
file_fault : (at : Option NamedPoint) (bytes : List ℕ) (f : ServeFault) → HasFileFault bytes f → HasFault at bytes f
file_fault at bytes Read h = h
file_fault at bytes NotToml h = h
file_fault at bytes (Load fault) h = h
file_fault at bytes (UnknownHandler place) h = absurd h
file_fault at bytes TooManyPoints h = h
file_fault at bytes Memory h = h
file_fault at bytes Write h = h

-- So is why its application was not run.
run_fault : (at : Option NamedPoint) (bytes : List ℕ) (app : Application) (f : ServeFault)
    → IsFileOf bytes app → IsRunFault at app f → HasFault at bytes f
run_fault at bytes app Read file h = absurd h
run_fault at bytes app NotToml file h = absurd h
run_fault at bytes app (Load fault) file h = absurd h
run_fault at bytes app (UnknownHandler place) file h = (app, file, h)
run_fault at bytes app TooManyPoints file h = absurd h
run_fault at bytes app Memory file h = file_has_bytes bytes app file
run_fault at bytes app Write file h = absurd h

-- a fault of the file itself
pub serves_file_fault : (at : Option NamedPoint) (input : Option (List ℕ)) (rf wf : Bool) (old : Option (List ℕ)) (f : ServeFault)
    → ((bytes : List ℕ) × Known input bytes × HasFileFault bytes f)
    → rf ≡ is_read_fault {A = End} (Err f) → is_write_fault {A = End} (Err f) ≡ false
    → wf ≡ false → ServesRun at (streams_of input rf old old wf) (Err f)
serves_file_fault at input rf wf old f h r w e = serves_fault _ _ input rf wf old f (h.0, h.1, file_fault at h.0 f h.2) r w e

run_reads : (at : Option NamedPoint) (app : Application) (f : ServeFault)
    → IsRunFault at app f → is_read_fault {A = End} (Err f) ≡ false
run_reads at app Read h = absurd h
run_reads at app NotToml h = refl
run_reads at app (Load fault) h = refl
run_reads at app (UnknownHandler place) h = refl
run_reads at app TooManyPoints h = refl
run_reads at app Memory h = refl
run_reads at app Write h = refl

run_writes : (at : Option NamedPoint) (app : Application) (f : ServeFault)
    → IsRunFault at app f → is_write_fault {A = End} (Err f) ≡ false
run_writes at app Read h = absurd h
run_writes at app NotToml h = refl
run_writes at app (Load fault) h = refl
run_writes at app (UnknownHandler place) h = refl
run_writes at app TooManyPoints h = refl
run_writes at app Memory h = refl
run_writes at app Write h = absurd h

-- an application that was not run
pub serves_run_fault : (at : Option NamedPoint) (input : Option (List ℕ))
    (rf wf : Bool) (old : Option (List ℕ)) (f : ServeFault) (app : Application)
    → ((bytes : List ℕ) × Known input bytes × IsFileOf bytes app) → IsRunFault at app f
    → rf ≡ false → wf ≡ false → ServesRun at (streams_of input rf old old wf) (Err f)
serves_run_fault at input rf wf old f app file h r e =
    serves_fault _ _ input rf wf old f (file.0, file.1, run_fault at file.0 app f file.2 h)
    (r ∙ sym (run_reads at app f h)) (run_writes at app f h) e

-- ---- a campaign

-- A fault of a file is one of its campaign.
campaign_file_fault : (bytes : List ℕ) (f : ServeFault) → HasFileFault bytes f → HasCampaignFault bytes f
campaign_file_fault bytes Read h = h
campaign_file_fault bytes NotToml h = h
campaign_file_fault bytes (Load fault) h = h
campaign_file_fault bytes (UnknownHandler place) h = h
campaign_file_fault bytes TooManyPoints h = absurd h
campaign_file_fault bytes Memory h = h
campaign_file_fault bytes Write h = h

-- So is why its rows were not made.
campaign_fault : (bytes : List ℕ) (app : Application) (f : ServeFault)
    → IsFileOf bytes app → IsCampaignFault app f → HasCampaignFault bytes f
campaign_fault bytes app Read file h = absurd h
campaign_fault bytes app NotToml file h = absurd h
campaign_fault bytes app (Load fault) file h = absurd h
campaign_fault bytes app (UnknownHandler place) file h = absurd h
campaign_fault bytes app TooManyPoints file h = (app, file, h)
campaign_fault bytes app Memory file h = file_has_bytes bytes app file
campaign_fault bytes app Write file h = absurd h

-- a fault of the file itself
pub campaign_serves_file_fault : (view : View) (shard : Shard)
    (input : Option (List ℕ)) (rf wf : Bool) (old : Option (List ℕ)) (f : ServeFault)
    → ((bytes : List ℕ) × Known input bytes × HasFileFault bytes f)
    → rf ≡ is_read_fault {A = Totals} (Err f) → is_write_fault {A = Totals} (Err f) ≡ false
    → wf ≡ false → ServesCampaign view shard (streams_of input rf old old wf) (Err f)
campaign_serves_file_fault view shard input rf wf old f h r w e =
    serves_fault _ _ input rf wf old f (h.0, h.1, campaign_file_fault h.0 f h.2) r w e

campaign_reads : (app : Application) (f : ServeFault) → IsCampaignFault app f → is_read_fault {A = Totals} (Err f) ≡ false
campaign_reads app Read h = absurd h
campaign_reads app NotToml h = refl
campaign_reads app (Load fault) h = refl
campaign_reads app (UnknownHandler place) h = refl
campaign_reads app TooManyPoints h = refl
campaign_reads app Memory h = refl
campaign_reads app Write h = refl

campaign_writes : (app : Application) (f : ServeFault) → IsCampaignFault app f → is_write_fault {A = Totals} (Err f) ≡ false
campaign_writes app Read h = absurd h
campaign_writes app NotToml h = refl
campaign_writes app (Load fault) h = refl
campaign_writes app (UnknownHandler place) h = refl
campaign_writes app TooManyPoints h = refl
campaign_writes app Memory h = refl
campaign_writes app Write h = absurd h

-- an application whose rows were not made
pub campaign_serves_rows_fault : (view : View) (shard : Shard) (input : Option (List ℕ))
    (rf wf : Bool) (old : Option (List ℕ)) (f : ServeFault) (app : Application)
    → ((bytes : List ℕ) × Known input bytes × IsFileOf bytes app) → IsCampaignFault app f
    → rf ≡ false → wf ≡ false → ServesCampaign view shard (streams_of input rf old old wf) (Err f)
campaign_serves_rows_fault view shard input rf wf old f app file h r e =
    serves_fault _ _ input rf wf old f (file.0, file.1, campaign_fault file.0 app f file.2 h)
    (r ∙ sym (campaign_reads app f h)) (campaign_writes app f h) e
