-- What the event groups represent: the bits of a state of the definitions, which tasks wait for bits, and which wait for a
-- notification. They don't have the tickets.
use Rattle.std.specs.Prelude.{◌≡◌, ◌≢◌, ℕ, ◌==◌, if◌then◌else◌, IsTrue, is_some, List, Option, Some, None, IfSome, option_map}
use Rattle.model.specs.State.{State, Task, Status, WaitingForBits, WaitingForNotification, ticket_if_for_bits, status_at, call_at}
use Rattle.model.specs.State.{bits_at}
use Rattle.model.specs.Order.{Key, Entry, key, list_by, tasks_of}
use Rattle.model.specs.Invariant.{IsTable}
use Rattle.lists.specs.Lists.{has_node}
use Rattle.groups.specs.EventGroups.{EventGroups, bits_in, waiting_in, wanted_by, for_notifications}
use Rattle.task_lists.specs.Tasks.{tasks_in}

-- a wait that isn't at an object: for bits of a group, or for a notification; and what orders the task there
pub data EventWait : Type 0 where
  ForBits : (group ticket : ℕ) → EventWait
  ForNotification : (ticket : ℕ) → EventWait

-- the wait of a task that waits so
abbrev pub event_wait : Status → Option EventWait
event_wait (WaitingForBits group ticket deadline) = Some (ForBits group ticket)
event_wait (WaitingForNotification ticket deadline) = Some (ForNotification ticket)
event_wait _ = None

-- It isn't for bits of the group whose number is that of the list for notifications.
abbrev pub IsApart : EventWait → Type 0
IsApart (ForBits group ticket) = group ≢ for_notifications
IsApart (ForNotification ticket) = Unit {0}

-- the ticket of a task that waits for a notification
abbrev pub ticket_if_for_notification : Status → Option ℕ
ticket_if_for_notification (WaitingForNotification ticket deadline) = Some ticket
ticket_if_for_notification _ = None

-- the ticket of a task that is in this list: that of the waits for a notification, or for bits of this group
abbrev pub ticket_in : ℕ → Status → Option ℕ
ticket_in list status = if list == for_notifications then ticket_if_for_notification status else ticket_if_for_bits list status

-- A task's place in a list depends on its ticket alone.
abbrev pub list_key : ℕ → Task → Option Key
list_key list t = option_map (key 0) (ticket_in list t.status)

-- the tasks in a list, in the order in which their waits began: for bits of a group, or for a notification
abbrev pub waiters_in : State → ℕ → List Entry
waiters_in s list = list_by (list_key list) s.tasks

-- The bits are the groups'. In each list the same tasks wait in the same order (nobody in one that isn't there), each that waits
-- for bits for those that its call wants.
pub record StandsFor (v : EventGroups) (s : State) : Type 0 where
  pub bits : (group : ℕ) → bits_in v group ≡ bits_at s group
  pub tasks : (list : ℕ) → tasks_in (waiting_in v list) ≡ tasks_of (waiters_in s list)
  pub conditions : (group task : ℕ) → group ≢ for_notifications → IsTrue (has_node task (waiting_in v group))
      → (call_at s task).wants ≡ Some (wanted_by v.wants task)
  pub apart : (task : ℕ) → IfSome (event_wait (status_at s task)) IsApart
  pub table : IsTable s

-- The groups have the same bits, and the same tasks wait for bits or for a notification, in the same way and for the same.
pub record SameEventWaits (old new : State) : Type 0 where
  pub bits : (group : ℕ) → bits_at new group ≡ bits_at old group
  pub waits : (task : ℕ) → event_wait (status_at new task) ≡ event_wait (status_at old task)
  pub wants : (task : ℕ) → IsTrue (is_some (event_wait (status_at old task))) → (call_at new task).wants ≡ (call_at old task).wants
