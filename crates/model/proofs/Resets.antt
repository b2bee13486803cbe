-- The tasks and the objects at reset: no tickets, no calls, no holders.
use Rattle.std.proofs.Common.{◌≡◌, ◌<◌, ℕ, zero, suc, List, [], ◌∷◌, map, get_or, None, refl}
use Rattle.std.specs.Option.{IfSome}
use Rattle.model.specs.declared.object.ObjectKind.{ObjectKind}
use Rattle.model.specs.declared.object.ObjectKind.TheVariants.{Queue, Semaphore, Mutex}
use Rattle.model.specs.Application.{Definition}
use Rattle.model.specs.State.{no_call, no_task, no_object}
use Rattle.model.specs.Step.{task_at_reset, object_at_reset}
use Rattle.model.specs.Invariant.{AllTicketsBelow, wait_of}

pub none_taken : (start : ℕ) (ds : List Definition) → AllTicketsBelow 0 (map (task_at_reset start) ds)
none_taken start [] = tt
none_taken start (d ∷ ds) = (tt, none_taken start ds)

pub call-reset : (start i : ℕ) (ds : List Definition)
    → ((get_or (map (task_at_reset start) ds) i no_task).progress.call ≡ no_call)
    × (wait_of (get_or (map (task_at_reset start) ds) i no_task).status ≡ None)
call-reset start i [] = (refl, refl)
call-reset start zero (d ∷ ds) = (refl, refl)
call-reset start (suc i) (d ∷ ds) = call-reset start i ds

pub holders-reset : (tasks o : ℕ) (kinds : List ObjectKind)
    → IfSome (get_or (map object_at_reset kinds) o no_object).holder (λ holder. holder < tasks)
holders-reset tasks o [] = tt
holders-reset tasks zero ((Queue size) ∷ kinds) = tt
holders-reset tasks zero ((Semaphore most first) ∷ kinds) = tt
holders-reset tasks zero (Mutex ∷ kinds) = tt
holders-reset tasks (suc o) (kind ∷ kinds) = holders-reset tasks o kinds
