-- What is found of an end.
use Rattle.std.specs.Prelude.{◌≡◌, ◌≢◌, ◌<◌, ◌+◌, ℕ, List, length, slice_index_or, slice_set, if◌then◌else◌}
use Rattle.std.specs.List.{AllByRecursion}
use Rattle.model.specs.declared.event.End.{End}
use Rattle.model.specs.Placements.{Found, is_less}

-- None has this end.
abbrev pub HaveOthers : List Found → End → Type 0
HaveOthers found end = AllByRecursion (λ (f : Found). f.least.end ≢ end) found

-- The one of this number has it.
pub record HasEnd (found : List Found) (end : End) (number : ℕ) : Type 0 where
  pub one : Found
  pub within : number < length found
  pub is : slice_index_or found number one ≡ one
  pub has : one.least.end ≡ end

-- It has as many more, and the lesser of both.
pub record IsCounted (old new more : Found) : Type 0 where
  pub number : new.number ≡ old.number + more.number
  pub least : new.least ≡ (if is_less more.least.injections old.least.injections then more.least else old.least)

-- The one of this number has as many more.
pub record IsAddedAt (old new : List Found) (number : ℕ) (more : Found) : Type 0 where
  pub one : Found
  pub is : slice_index_or old number one ≡ one
  pub added : Found
  pub new_is : new ≡ slice_set old number added
  pub counted : IsCounted one added more
