-- Faults of a run of a file are the same where its end state is asked for too.
use Rattle.std.proofs.Common.{◌≡◌, ℕ, Bool, false, List, Option, refl}
use Rattle.std.specs.Prelude.{Err}
use Rattle.model.specs.declared.event.End.{End}
use Rattle.model.specs.Application.{Application}
use Rattle.requests.specs.declared.named_point.NamedPoint.{NamedPoint}
use Rattle.campaign.specs.declared.file.ServeFault.{ServeFault}
use Rattle.campaign.specs.declared.file.ServeFault.TheVariants.{Read, NotToml, Load, UnknownHandler, TooManyPoints, Memory, Write}
use Rattle.campaign.specs.Faults.{IsRunFault}
use Rattle.campaign.specs.OneRun.{ServesRun}
use Rattle.campaign.specs.Serving.{HasFileFault, IsFileOf, Known, is_read_fault, is_write_fault, streams_of}
use Rattle.campaign.proofs.Faulty.{serves_file_fault, serves_run_fault}
use Rattle.jobs.specs.EndStates.{ServesEndState}

module _ (at : Option NamedPoint) (input : Option (List ℕ)) (rf wf : Bool) (old : Option (List ℕ)) where
  -- where nothing is written
  same_fault : (f : ServeFault) → is_write_fault {A = End} (Err f) ≡ false
      → ServesRun at (streams_of input rf old old wf) (Err f) → ServesEndState at (streams_of input rf old old wf) (Err f)
  same_fault Read w h = record { answers = h.answers; read = h.read; write = h.write }
  same_fault NotToml w h = record { answers = h.answers; read = h.read; write = h.write }
  same_fault (Load fault) w h = record { answers = h.answers; read = h.read; write = h.write }
  same_fault (UnknownHandler place) w h = record { answers = h.answers; read = h.read; write = h.write }
  same_fault TooManyPoints w h = record { answers = h.answers; read = h.read; write = h.write }
  same_fault Memory w h = record { answers = h.answers; read = h.read; write = h.write }
  same_fault Write w h = absurd (cc)

  -- a fault of the file itself
  pub end_state_file_fault : (f : ServeFault) → ((bytes : List ℕ) × Known input bytes × HasFileFault bytes f)
      → rf ≡ is_read_fault {A = End} (Err f) → is_write_fault {A = End} (Err f) ≡ false → wf ≡ false
      → ServesEndState at (streams_of input rf old old wf) (Err f)
  end_state_file_fault f h r w e = same_fault f w (serves_file_fault at input rf wf old f h r w e)

  runs_unwritten : (app : Application) (f : ServeFault) → IsRunFault at app f → is_write_fault {A = End} (Err f) ≡ false
  runs_unwritten app Read h = absurd h
  runs_unwritten app NotToml h = refl
  runs_unwritten app (Load fault) h = refl
  runs_unwritten app (UnknownHandler place) h = refl
  runs_unwritten app TooManyPoints h = refl
  runs_unwritten app Memory h = refl
  runs_unwritten app Write h = absurd h

  -- an application that was not run
  pub end_state_run_fault : (f : ServeFault) (app : Application) → ((bytes : List ℕ) × Known input bytes × IsFileOf bytes app)
      → IsRunFault at app f → rf ≡ false → wf ≡ false → ServesEndState at (streams_of input rf old old wf) (Err f)
  end_state_run_fault f app file h r e =
      same_fault f (runs_unwritten app f h) (serves_run_fault at input rf wf old f app file h r e)
