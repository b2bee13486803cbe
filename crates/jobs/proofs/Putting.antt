-- What the texts that are put say of the call.
use Rattle.std.proofs.Common.{◌≡◌, ℕ, Bool, List, Option, Result, Ok, Err}
use Rattle.std.specs.Result.{is_err}
use Rattle.byte_io.specs.Bytes.{Writes}
use Rattle.jobs.specs.Acting.{Tells}

pub tells_by_writes : {T E : Type 0} (old new : Option (List ℕ)) (failed : Bool) (r : Result T E) (text : List ℕ)
    → failed ≡ is_err r → Writes old new r text → Tells old new failed text
tells_by_writes old new failed (Ok x) text kind writes = rw kind writes
tells_by_writes old new failed (Err e) text kind writes = rw kind writes
