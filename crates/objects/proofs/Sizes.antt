-- What the objects of an application have room for.
use Rattle.std.proofs.Common.{◌≡◌, ℕ, zero, suc, ◌<◌, true, false, Option, Some, None, List, [], ◌∷◌, length, sym, subst, arith}
use Rattle.std.specs.Prelude.{option_map, slice_get, unwrap_or}
use Rattle.model.specs.declared.object.ObjectKind.{ObjectKind}
use Rattle.model.specs.declared.object.ObjectKind.TheVariants.{Queue, Semaphore, Mutex}
use Rattle.model.specs.declared.op.Access.{Access}
use Rattle.model.specs.declared.op.Access.TheVariants.{Send, SendFront, Overwrite, Receive, Peek, Take, Give, Lock}
use Rattle.model.specs.Application.{Application}
use Rattle.model.specs.Scripts.{fits, fits_object}
use Rattle.model.specs.State.{State, Object, object_at}
use Rattle.model.specs.Invariant.{Hold, IsObject, IsSound}
use Rattle.model.proofs.Lists.{eqb-same}
use Rattle.objects.specs.WaitersStand.{Decider}
use Rattle.objects.specs.Objects.{CanHold, Objects, HasRoom, StandsFor}

-- an object of a kind that a call fits
room : (kind : Option ObjectKind) (a : Access ℕ) (x : Object)
    → unwrap_or (option_map (λ k. fits k a) kind) false ≡ true → IsObject kind x → CanHold a x
room kind (Send v) x t h = tt
room kind (SendFront v) x t h = tt
room None (Overwrite v) x t h = absurd cc
room (Some (Queue n)) (Overwrite v) x t h = let one = eqb-same n 1 t in let size = h.0 in omega (arith, one, size)
room (Some (Semaphore most first)) (Overwrite v) x t h = absurd cc
room (Some Mutex) (Overwrite v) x t h = absurd cc
room kind Receive x t h = tt
room kind Peek x t h = tt
room kind Take x t h = tt
room kind Give x t h = tt
room kind Lock x t h = tt

-- an object that there is
there : (kinds : List ObjectKind) (o : ℕ) (a : Access ℕ)
    → unwrap_or (option_map (λ k. fits k a) (slice_get kinds o)) false ≡ true → o < length kinds
there [] o a t = absurd cc
there (kind ∷ kinds) zero a t = omega arith
there (kind ∷ kinds) (suc o) a t = let h = there kinds o a t in omega (arith, h)

-- An object that an op names is there, and has the room that its call wants, in the objects that represent a state of a run.
pub has_room : (app : Application) (hold : Hold) (v : Objects) (d : Option Decider) (s : State) (o : ℕ) (a : Access ℕ)
    → IsSound app hold s → StandsFor v d s → fits_object app o a ≡ true → HasRoom v o a
has_room app hold v d s o a h stands known = (
  let below = there app.objects o a known in let many = h.objects in let same = stands.number in omega (arith, below, many, same),
  subst (CanHold a) (sym (stands.objects o)) (room (slice_get app.objects o) a (object_at s o) known (h.contents o)),
)
