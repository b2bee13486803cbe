-- What the waiting lists represent: the tasks that wait in a state of the definitions, whose tickets the lists don't have.
use Rattle.std.specs.Prelude.{◌≡◌, ℕ, zero, suc, ◌+◌, Bool, true, false, is_some, List, [], ◌∷◌, Option, Some, None, nat_lt}
use Rattle.std.specs.Prelude.{if◌then◌else◌, option_and_then, IfSome}
use Rattle.model.specs.declared.call.WaitList.{WaitList}
use Rattle.model.specs.declared.call.WaitList.TheVariants.{ToReceive, ToSend}
use Rattle.model.specs.State.{State, Task, wait_if_awake, status_at}
use Rattle.model.specs.Order.{Entry, list_by, tasks_of}
use Rattle.model.specs.Waiting.{awakened, is_locked, same_list, wait_key}
use Rattle.model.specs.Invariant.{IsTable, wait_of}
use Rattle.task_lists.specs.Priorities.{with_priorities}
use Rattle.objects.specs.WaitingLists.{waiting_in}
use Rattle.task_lists.specs.Tasks.{insert_by_priority}

-- the tasks that wait in a list, or waited there until the locked object woke them
abbrev pub standing : State → WaitList → List Entry
standing s list = list_by (λ (t : Task). option_and_then (wait_key list) (wait_of t.status)) s.tasks

-- a task that has begun to wait, and is still to be placed in its list
pub record Decider : Type 0 where
  pub task : ℕ
  pub list : WaitList
  pub priority : ℕ

-- the tasks of a list together with that one, if that list is its place
abbrev pub joined_by : Option Decider → WaitList → List (ℕ × ℕ) → List (ℕ × ℕ)
joined_by None list entries = entries
joined_by (Some d) list entries =
    if same_list d.list list then insert_by_priority (d.task, d.priority) entries else entries

-- With the task that isn't placed yet, if there is one, each list is the tasks that are there, in order, each with
-- the priority that it had when it began to wait.
pub record WaitersStand (v : List (List (ℕ × ℕ))) (decider : Option Decider) (s : State) : Type 0 where
  pub lists : (list : WaitList) → joined_by decider list (waiting_in v list) ≡ with_priorities (standing s list)
  pub table : IsTable s

-- ---- while an object is locked

-- The task is Awake.
abbrev pub is_awake : State → ℕ → Bool
is_awake s task = is_some (wait_if_awake (status_at s task))

-- A task that is Awake waited at the locked object, and the one that isn't placed yet, if there is one, will wait there.
pub record AtLocked (decider : Option Decider) (s : State) : Type 0 where
  pub awake : (task : ℕ) → IfSome (wait_if_awake (status_at s task)) (λ w. is_locked s.locked w.list ≡ true)
  pub to_place : IfSome decider (λ d. is_locked s.locked d.list ≡ true)

-- This many, the first ones, are Awake (all, if there are fewer), and no other is.
abbrev pub FirstAwake : State → ℕ → List Entry → Type 0
FirstAwake s count [] = Unit {0}
FirstAwake s zero (e ∷ es) = (is_awake s e.task ≡ false) × FirstAwake s zero es
FirstAwake s (suc count) (e ∷ es) = (is_awake s e.task ≡ true) × FirstAwake s count es

-- one wake more; a count stops at 32, as no list has more tasks
abbrev pub one_more : ℕ → ℕ
one_more count = if nat_lt count 32 then count + 1 else count

-- Since this object was locked, this many tasks that wait to receive from it were woken, and this many that wait to send to
-- it (`cTxLock`, `cRxLock`): they are Awake, and come first.
pub record StandLocked (v : List (List (ℕ × ℕ))) (decider : Option Decider)
    (object receivers senders : ℕ) (s : State) : Type 0 where
  pub stand : WaitersStand v decider s
  pub locked : s.locked ≡ Some object
  pub to_receive : FirstAwake s receivers (standing s (ToReceive object))
  pub to_send : FirstAwake s senders (standing s (ToSend object))

-- The tasks that waited to receive from an object until it woke them while it was locked are the first of these lists,
-- in order, and those that waited to send are the second.
abbrev pub AreAwakened : State → ℕ → List ℕ → List ℕ → Type 0
AreAwakened s object receivers senders =
    (receivers ≡ tasks_of (awakened s (ToReceive object))) × (senders ≡ tasks_of (awakened s (ToSend object)))

-- the state, with nothing locked
abbrev pub opened : State → State
opened s = record s { locked = None }
