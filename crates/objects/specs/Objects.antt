-- What callers see of the objects, and the states that they represent.
use Rattle.std.specs.Prelude.{◌≡◌, ◌<◌, ℕ, ◌==◌, if◌then◌else◌, List, Option, Some, None, length, option_map, option_and_then}
use Rattle.std.specs.Prelude.{IfSome}
use Rattle.lists.specs.Lists.{first_of}
use Rattle.model.specs.declared.op.Access.{Access}
use Rattle.model.specs.declared.op.Access.TheVariants.{Overwrite}
use Rattle.model.specs.declared.call.WaitList.{WaitList}
use Rattle.model.specs.declared.call.WaitList.TheVariants.{ToReceive, ToSend}
use Rattle.model.specs.State.{State, Object, object_at, wait_if_awake, status_at}
use Rattle.model.specs.Invariant.{wait_of}
use Rattle.objects.specs.declared.lock.Lock.{Lock}
use Rattle.objects.specs.Items.{object_in}
use Rattle.objects.specs.WaitingLists.{best_of, waiting_in, without_best, without_woken}
use Rattle.objects.specs.WaitersStand.{Decider, FirstAwake, WaitersStand, one_more, standing}

pub record Objects : Type 0 where
  -- how many objects there are
  pub number : ℕ
  -- the objects of the definitions, by number
  pub objects : List Object
  -- for each waiting list its tasks in order, each with its priority
  pub waiting : List (List (ℕ × ℕ))
  -- the lock of the object that a call has locked
  pub lock : Option Lock

-- An `overwrite` wants a queue that can hold an item.
abbrev pub CanHold : Access ℕ → Object → Type 0
CanHold (Overwrite item) o = 0 < o.size
CanHold _ o = Unit {0}

-- The object is there, and has room for what the call puts in, if nothing is in it.
abbrev pub HasRoom : Objects → ℕ → Access ℕ → Type 0
HasRoom v object access = (object < v.number) × CanHold access (object_in v.objects object)

-- the object that is locked
abbrev pub locked_by : Option Lock → Option ℕ
locked_by lock = option_map (λ (l : Lock). l.object) lock

-- the lock with one more wake counted, if the list is one of the locked object's
abbrev pub counted : WaitList → Lock → Option Lock
counted (ToReceive object) lock =
    if lock.object == object then Some (record lock { receivers = one_more lock.receivers }) else None
counted (ToSend object) lock =
    if lock.object == object then Some (record lock { senders = one_more lock.senders }) else None

-- the same of the lock, if there is one
abbrev pub counted_by : WaitList → Option Lock → Option Lock
counted_by list lock = option_and_then (counted list) lock

-- A wake of a list changes this lock, which counts it. Without a lock it takes the best waiter out of the list.
abbrev pub after_wake : Option Lock → WaitList → Objects → Objects
after_wake (Some lock) list v = record v { lock = Some lock }
after_wake None list v = record v { waiting = without_best list 1 v.waiting }

-- The task that becomes Ready by it: none if a lock counts it.
abbrev pub readied_by : Option Lock → WaitList → Objects → Option ℕ
readied_by (Some lock) list v = None
readied_by None list v = first_of (waiting_in v.waiting list)

-- The lock ends, if there is one, and as many as it has counted are taken out of the lists of its object.
abbrev pub after_unlock : Option Lock → Objects → Objects
after_unlock (Some lock) v =
    record v { lock = None; waiting = without_woken lock.object lock.receivers lock.senders v.waiting }
after_unlock None v = v

-- The best tasks that wait to receive from the locked object, as many as its lock has counted, are the first of these
-- lists, in order, and the best that wait to send to it are the second.
abbrev pub AreCounted : Lock → Objects → List ℕ → List ℕ → Type 0
AreCounted lock v receivers senders =
    (receivers ≡ best_of (ToReceive lock.object) lock.receivers v.waiting)
    × (senders ≡ best_of (ToSend lock.object) lock.senders v.waiting)

-- In each of the object's lists as many are Awake as the lock counts, and they come first.
abbrev pub Counts : State → Lock → Type 0
Counts s lock =
    FirstAwake s lock.receivers (standing s (ToReceive lock.object)) × FirstAwake s lock.senders (standing s (ToSend lock.object))

-- No wake was counted since the object was locked, if one is.
abbrev pub CountsNobody : Objects → Type 0
CountsNobody v = IfSome v.lock (λ (l : Lock). (l.receivers ≡ 0) × (l.senders ≡ 0))

-- The objects are the state's, and as many. The waiting lists are the tasks that wait there, together with the one that isn't
-- placed yet, if there is one. The same object is locked, and its wakes are counted.
pub record StandsFor (v : Objects) (decider : Option Decider) (s : State) : Type 0 where
  pub number : length s.objects ≡ v.number
  pub objects : (object : ℕ) → object_in v.objects object ≡ object_at s object
  pub waiters : WaitersStand v.waiting decider s
  pub locked : locked_by v.lock ≡ s.locked
  pub counts : IfSome v.lock (Counts s)

-- The objects are the same, the same tasks wait or are Awake, each in the same way, and the same object is locked.
pub record SameWaits (old new : State) : Type 0 where
  pub objects : new.objects ≡ old.objects
  pub waits : (task : ℕ) → wait_of (status_at new task) ≡ wait_of (status_at old task)
  pub awake : (task : ℕ) → wait_if_awake (status_at new task) ≡ wait_if_awake (status_at old task)
  pub locked : new.locked ≡ old.locked
