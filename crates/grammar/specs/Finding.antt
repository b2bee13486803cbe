-- Of what sort an object is, and how names are read if any will do.
use Rattle.std.specs.Prelude.{Bool, true, false, Some, None, if◌then◌else◌}
use Rattle.model.specs.declared.object.ObjectKind.{ObjectKind}
use Rattle.model.specs.declared.object.ObjectKind.TheVariants as kind
use Rattle.grammar.specs.declared.object_sort.ObjectSort.{ObjectSort}
use Rattle.grammar.specs.declared.object_sort.ObjectSort.TheVariants.{Queue, Semaphore, Mutex}
use Rattle.grammar.specs.Names.{is_name}
use Rattle.grammar.specs.Grammar.{Naming}

-- An object of this kind is of this sort.
abbrev pub is_of_sort : ObjectSort → ObjectKind → Bool
is_of_sort Queue (kind.Queue size) = true
is_of_sort Semaphore (kind.Semaphore max_count initial_count) = true
is_of_sort Mutex kind.Mutex = true
is_of_sort _ _ = false

-- Any name will do, and is taken for that of the first entry.
abbrev pub any_name : Naming
any_name sort w = if is_name w then Some 0 else None
