-- Queues, semaphores and mutexes: which calls are possible, what they answer, and what they do.
use Rattle.std.specs.Prelude.{ℕ, ◌+◌, ◌-◌, Bool, true, [], ◌∷◌, ◌++◌, Option, Some, None, nat_lt, if◌then◌else◌, length, drop}
use Rattle.std.specs.Prelude.{slice_get, is_none}
use Rattle.model.specs.declared.call.WaitList.{WaitList}
use Rattle.model.specs.declared.call.WaitList.TheVariants.{ToReceive, ToSend}
use Rattle.model.specs.declared.op.Access.{Access}
use Rattle.model.specs.declared.op.Access.TheVariants.{Send, SendFront, Overwrite, Receive, Peek, Take, Give, Lock}
use Rattle.model.specs.State.{State, Object, object_at, with_object, for_one}
use Rattle.model.specs.Waiting.{wake_best}
use Rattle.model.specs.Ops.{one_if}

-- whether a call is possible on an object
abbrev pub allows : Object → Access ℕ → Bool
allows o (Send item) = nat_lt (length o.items) o.size
allows o (SendFront item) = nat_lt (length o.items) o.size
allows o (Overwrite item) = true
allows o Receive = nat_lt 0 (length o.items)
allows o Peek = nat_lt 0 (length o.items)
allows o Take = nat_lt 0 o.count
allows o Give = nat_lt o.count o.max_count
allows o Lock = is_none o.holder

-- what a call returns: the first item, or `none`; any other 1 if it is possible, otherwise 0
abbrev pub reply : Object → Access ℕ → Option ℕ
reply o Receive = slice_get o.items 0
reply o Peek = slice_get o.items 0
reply o access = one_if (allows o access)

-- the object after a possible call, which a task makes or (none) a handler (`prvCopyDataToQueue`,
-- `prvCopyDataFromQueue`)
abbrev pub object_after : Option ℕ → Access ℕ → Object → Object
object_after caller (Send item) o = record o { items = o.items ++ item ∷ [] }
object_after caller (SendFront item) o = record o { items = item ∷ o.items }
object_after caller (Overwrite item) o = record o { items = item ∷ [] }
object_after caller Receive o = record o { items = drop 1 o.items }
object_after caller Peek o = o
object_after caller Take o = record o { count = o.count - 1 }
object_after caller Give o = record o { count = o.count + 1 }
object_after caller Lock o = record o { holder = caller }

-- the list whose best waiter a possible call wakes; a task's peek passes the wake on (in `xQueuePeek`), and that of a
-- handler wakes no task (profile)
abbrev pub list_woken : Option ℕ → ℕ → Access ℕ → Option WaitList
list_woken caller object (Send item) = Some (ToReceive object)
list_woken caller object (SendFront item) = Some (ToReceive object)
list_woken caller object (Overwrite item) = Some (ToReceive object)
list_woken caller object Receive = Some (ToSend object)
list_woken None object Peek = None
list_woken (Some task) object Peek = Some (ToReceive object)
list_woken caller object Take = None
list_woken caller object Give = Some (ToReceive object)
list_woken caller object Lock = None

-- the list in which a call waits
abbrev pub list_for : {Item : Type 0} → ℕ → Access Item → WaitList
list_for object (Send item) = ToSend object
list_for object (SendFront item) = ToSend object
list_for object _ = ToReceive object

-- The call is possible now.
abbrev pub possible : State → ℕ → Access ℕ → Bool
possible s object access = allows (object_at s object) access

-- what the call returns now
abbrev pub answer_to : State → ℕ → Access ℕ → Option ℕ
answer_to s object access = reply (object_at s object) access

-- A possible call is done: the object changes, and one waiter is woken. Nothing is handed over to it.
unfoldable pub fulfil : Option ℕ → ℕ → Access ℕ → State → State
fulfil caller object access s =
    for_one wake_best (list_woken caller object access) (with_object object (object_after caller access (object_at s object)) s)

-- The call is done if it is possible.
unfoldable pub attempt : Option ℕ → ℕ → Access ℕ → State → State
attempt caller object access s = if possible s object access then fulfil caller object access s else s
