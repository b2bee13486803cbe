-- The daemon: the task that sets and clears event bits for handlers (FreeRTOS's timer service task, which does what
-- `xEventGroupSetBitsFromISR` pends).
use Rattle.std.specs.Prelude.{ℕ, ◌+◌, ◌*◌, ◌/◌, ◌%◌, Bool, true, false, Option, Some, None, nat_le, unwrap_or, if◌then◌else◌}
use Rattle.model.specs.declared.call.Phase.{Phase}
use Rattle.model.specs.declared.call.Phase.TheVariants.{Start, Try, Decide}
use Rattle.model.specs.declared.op.Access.TheVariants.{Receive}
use Rattle.model.specs.declared.op.Command.{Command}
use Rattle.model.specs.declared.event.What.TheVariants.{Obeyed}
use Rattle.model.specs.Application.{Application}
use Rattle.model.specs.State.{State, progress_at, go_on, bits_at, with_bits}
use Rattle.model.specs.Switching.{write, preempt}
use Rattle.model.specs.Waiting.{end_hold}
use Rattle.model.specs.Ops.{go_to, complete}
use Rattle.model.specs.Objects.{possible, answer_to, fulfil}
use Rattle.model.specs.Calls.{await}
use Rattle.model.specs.Groups.{begin_set, bits_without}

-- ---- commands

-- a command as an item of the daemon's queue: its mask, and above it the group, and whether it clears
abbrev pub item_of : Command → ℕ
item_of c = c.mask + 16777216 * (c.group + (if c.clear then 16 else 0))

-- the command that an item is
abbrev pub command_of : ℕ → Command
command_of item = record { group = item / 16777216 % 16; mask = item % 16777216; clear = nat_le 268435456 item }

-- ---- the next one

-- This is the answer, which is no event; the next op is to do it.
unfoldable pub received : Application → ℕ → Option ℕ → State → State
received app task a s = complete app task (record (progress_at s task) { answer = a }) s

-- A command that is there is taken. Otherwise the daemon decides to wait for one.
unfoldable pub take_command : Application → ℕ → ℕ → State → State
take_command app task object s =
    if possible s object Receive
    then preempt (received app task (answer_to s object Receive) (fulfil (Some task) object Receive s))
    else go_on task Decide s

-- The phases are those of a receive that waits forever.
abbrev pub next_command : Application → ℕ → ℕ → Phase → State → State
next_command app task object Start s = take_command app task object s
next_command app task object Try s = take_command app task object s
next_command app task object phase s = await app task object Receive None phase s

-- ---- doing it

-- The command is done, with this answer, and the next one is asked for (profile: its line).
unfoldable pub obeyed : Application → ℕ → Bool → ℕ → State → State
obeyed app task clear bits s =
    go_to app task 0 (record (progress_at s task) { answer = Some bits }) (write (Obeyed task clear bits) s)

-- Bits are cleared; the answer is the bits before.
unfoldable pub clear_by_daemon : Application → ℕ → ℕ → ℕ → State → State
clear_by_daemon app task group mask s =
    obeyed app task true (bits_at s group) (with_bits group (bits_without (bits_at s group) mask) s)

-- A set is over; the answer is the bits after it.
abbrev pub end_set_by_daemon : Application → ℕ → ℕ → State → State
end_set_by_daemon app task group s = preempt (obeyed app task false (bits_at s group) (end_hold task Start s))

-- A command is done as the op of a task is: bits are cleared in one step, and set in the phases Start and Leave.
abbrev pub obey : Application → ℕ → Command → Phase → State → State
obey app task c Start s = if c.clear then clear_by_daemon app task c.group c.mask s else begin_set task c.group c.mask s
obey app task c _ s = end_set_by_daemon app task c.group s

-- the command that the daemon has received: its last answer
abbrev pub command_at : State → ℕ → Command
command_at s task = command_of (unwrap_or (progress_at s task).answer 0)
