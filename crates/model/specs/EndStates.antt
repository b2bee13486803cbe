-- The end state of a run, as it is reported: what each task is doing, who holds which mutex, and what each variable is.
use Rattle.std.specs.Prelude.{ℕ, ◌+◌, Bool, List, [], ◌∷◌, Some, map, length, option_map, if◌then◌else◌}
use Rattle.std.specs.List.{cons_option, range_with_len}
use Rattle.model.specs.declared.end_state.Situation.{Situation}
use Rattle.model.specs.declared.end_state.Situation.TheVariants as situation
use Rattle.model.specs.declared.end_state.HeldMutex.{HeldMutex}
use Rattle.model.specs.State.{State, Object, Status, Ready, Awake, Waiting, WaitingForBits, WaitingForNotification, Asleep}
use Rattle.model.specs.State.{Suspended, Ended}
use Rattle.model.specs.State.{progress_at}
use Rattle.model.specs.State.{status_at, printed}
use Rattle.model.specs.Switching.{is_same}

-- What a task of this status is doing, at this op. Of a Ready task alone it matters whether it is the running one: a task that has
-- begun to wait waits, although it runs on until its call lets go of the scheduler.
abbrev pub situation_by : (op_index : ℕ) → (is_running : Bool) → Status → Situation
situation_by op_index is_running (Ready ticket) = if is_running then situation.Runs op_index else situation.Ready op_index
situation_by op_index is_running (Awake wait) = situation.Awake op_index
situation_by op_index is_running (Waiting wait) = situation.Waits op_index (option_map printed wait.deadline)
situation_by op_index is_running (WaitingForBits group ticket deadline) = situation.Waits op_index (option_map printed deadline)
situation_by op_index is_running (WaitingForNotification ticket deadline) = situation.Waits op_index (option_map printed deadline)
situation_by op_index is_running (Asleep wake_time ticket) = situation.Sleeps op_index (printed wake_time)
situation_by op_index is_running Suspended = situation.Suspended op_index
situation_by op_index is_running Ended = situation.Ended

-- what a task is doing
abbrev pub situation_of : State → ℕ → Situation
situation_of s task = situation_by (progress_at s task).op_index (is_same s.current (Some task)) (status_at s task)

-- what each task is doing, in their order
abbrev pub situations_of : State → List Situation
situations_of s = map (situation_of s) (range_with_len 0 (length s.tasks))

-- this mutex, held by this task
abbrev pub held_by : (object holder : ℕ) → HeldMutex
held_by object holder = record { object = object; holder = holder }

-- the mutexes that are held, of these objects; the first has this number
abbrev pub held_from : ℕ → List Object → List HeldMutex
held_from object [] = []
held_from object (o ∷ os) = cons_option (option_map (held_by object) o.holder) (held_from (object + 1) os)

-- the end state if a run ends in this state
pub record EndState : Type 0 where
  pub situations : List Situation
  pub held : List HeldMutex
  -- what each variable is
  pub variables : List ℕ

abbrev pub end_state_of : State → EndState
end_state_of s = record { situations = situations_of s; held = held_from 0 s.objects; variables = s.variables }
