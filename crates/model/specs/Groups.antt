-- Event groups: bits that tasks set, clear and wait for.
use Rattle.std.specs.Prelude.{ℕ, ◌-◌, ◌==◌, ◌||◌, Bool, true, false, List, Option, Some, None, nat_lt, nat_eq, if◌then◌else◌, fold}
use Rattle.std.specs.Prelude.{filter, filter_map, bit_and, bit_or, option_map, unwrap_or}
use Rattle.std.specs.Option.{option_eq}
use Rattle.model.specs.declared.call.Condition.{Condition}
use Rattle.model.specs.declared.call.Phase.{Phase}
use Rattle.model.specs.declared.call.Phase.TheVariants.{Start, Try, Leave}
use Rattle.model.specs.Application.{Application}
use Rattle.model.specs.State.{State, Task, WaitingForBits, ticket_if_for_bits, take_ticket, call_at, with_call, go_on, bits_at}
use Rattle.model.specs.State.{with_bits, for_each}
use Rattle.model.specs.Order.{Key, Entry, key, list_by, tasks_of}
use Rattle.model.specs.Switching.{make_ready, choose, preempt}
use Rattle.model.specs.Waiting.{set_deadline, end_hold}
use Rattle.model.specs.Ops.{answer}

-- All bits of the mask are set, or any (`prvTestWaitCondition`).
abbrev pub is_met : ℕ → Condition → Bool
is_met bits c = if c.all then bit_and bits c.mask == c.mask else nat_lt 0 (bit_and bits c.mask)

-- the bits without those of a mask
abbrev pub bits_without : ℕ → ℕ → ℕ
bits_without bits mask = bits - bit_and bits mask

-- the bits that one leaves whose condition is met, and who may have asked to clear them
abbrev pub bits_left : ℕ → Condition → ℕ
bits_left bits c = if c.clear then bits_without bits c.mask else bits

-- The task's call waits for such bits.
abbrev pub want : ℕ → Condition → State → State
want task c s = with_call task (record (call_at s task) { wants = Some c }) s

-- These bits are kept as the answer of the task's call.
abbrev pub keep_answer : ℕ → ℕ → State → State
keep_answer task bits s = with_call task (record (call_at s task) { kept = Some bits }) s

-- ---- set and clear

-- A task that waits for bits of a group is in its list, by the ticket alone.
abbrev pub bits_key : ℕ → Task → Option Key
bits_key group t = option_map (key 0) (ticket_if_for_bits group t.status)

-- the tasks that wait for bits of a group, in the order in which they began (`xTasksWaitingForBits`)
abbrev pub waiters_for_bits : State → ℕ → List Entry
waiters_for_bits s group = list_by (bits_key group) s.tasks

-- The bits meet what the task waits for.
abbrev pub is_met_for : ℕ → State → ℕ → Bool
is_met_for bits s task = unwrap_or (option_map (is_met bits) (call_at s task).wants) false

-- the waiters of a group that these bits meet, in the order in which they began
abbrev pub met_by : ℕ → ℕ → State → List ℕ
met_by group bits s = filter (is_met_for bits s) (tasks_of (waiters_for_bits s group))

-- what is left of the bits when the tasks whose conditions they meet have cleared what they asked to clear
abbrev pub left_by : (met : List ℕ) → (bits : ℕ) → State → ℕ
left_by met bits s = fold bits_left bits (filter_map (λ task. (call_at s task).wants) met)

-- The task is Ready, and these bits are kept for it (`vTaskRemoveFromUnorderedEventList`).
abbrev pub wake_with_bits : ℕ → ℕ → State → State
wake_with_bits task bits s = make_ready task (keep_answer task bits s)

-- The tasks whose conditions the bits meet are woken with them, one after another.
abbrev pub wake_all : (met : List ℕ) → (bits : ℕ) → State → State
wake_all met bits s = for_each (λ task. wake_with_bits task bits) met s

-- the group's bits when the mask's are set too
abbrev pub bits_set : ℕ → ℕ → State → ℕ
bits_set group mask s = bit_or (bits_at s group) mask

-- The mask's bits are set. All tasks whose conditions the bits then meet are woken with them; then what these asked
-- to clear is cleared (`xEventGroupSetBits`).
unfoldable pub set : ℕ → ℕ → State → State
set group mask s =
    let bits = bits_set group mask s in
    let met = met_by group bits s in
    with_bits group (left_by met bits s) (wake_all met bits s)

-- The scheduler is held, and the bits are set. What is left of them will be the answer (profile).
unfoldable pub begin_set : ℕ → ℕ → ℕ → State → State
begin_set task group mask s =
    let t = set group mask (record s { call_hold = true }) in
    go_on task Leave (keep_answer task (bits_at t group) t)

-- The phases of a set: Start, and Leave (`xTaskResumeAll`).
abbrev pub set_bits : Application → ℕ → ℕ → ℕ → Phase → State → State
set_bits app task group mask Start s = begin_set task group mask s
set_bits app task group mask _ s = preempt (answer app task (call_at s task).kept (end_hold task Start s))

-- The mask's bits are cleared; the answer is the bits before (`xEventGroupClearBits`).
unfoldable pub clear : Application → ℕ → ℕ → ℕ → State → State
clear app task group mask s =
    answer app task (Some (bits_at s group)) (with_bits group (bits_without (bits_at s group) mask) s)

-- ---- wait

-- The call returns the present bits; if its condition is met it may clear them.
unfoldable pub answer_bits : Application → ℕ → ℕ → Condition → State → State
answer_bits app task group c s =
    let bits = bits_at s group in
    answer app task (Some bits) (if is_met bits c then with_bits group (bits_left bits c) s else s)

-- The task waits for bits of the group, until the deadline of its call (`vTaskPlaceOnUnorderedEventList`).
unfoldable pub wait_for_bits : ℕ → ℕ → State → State
wait_for_bits task group s =
    let deadline = (call_at s task).deadline in
    take_ticket task (λ ticket. WaitingForBits group ticket deadline) s

-- The scheduler is held, and the task waits for such bits.
unfoldable pub begin_bits_wait : ℕ → ℕ → Condition → Option ℕ → State → State
begin_bits_wait task group c ticks s =
    go_on task Leave (wait_for_bits task group (want task c (set_deadline task ticks (record s { call_hold = true }))))

-- A call whose condition is met, or that has no ticks to wait, returns. Otherwise the task waits.
unfoldable pub check : Application → ℕ → ℕ → Condition → Option ℕ → State → State
check app task group c ticks s =
    if is_met (bits_at s group) c || option_eq nat_eq ticks (Some 0)
    then answer_bits app task group c s
    else begin_bits_wait task group c ticks s

-- Woken, it returns the bits that are kept for it, otherwise the present ones.
abbrev pub final_bits : Application → ℕ → ℕ → Condition → Option ℕ → State → State
final_bits app task group c None s = answer_bits app task group c s
final_bits app task group c (Some bits) s = answer app task (Some bits) s

-- The phases of a wait: Start, Leave, and Try, in which it returns (`xEventGroupWaitBits`). At Leave a caller that was woken
-- keeps its ticket.
abbrev pub wait_bits : Application → ℕ → ℕ → Condition → Option ℕ → Phase → State → State
wait_bits app task group c ticks Start s = check app task group c ticks s
wait_bits app task group c ticks Leave s = choose (end_hold task Try s)
wait_bits app task group c ticks _ s = final_bits app task group c (call_at s task).kept s
