-- What callers see of the event groups: their bits, which tasks wait for bits of them, and for which; and which wait for a
-- notification.
use Rattle.std.specs.Prelude.{◌≡◌, ℕ, Bool, false, not, List, []}
use Rattle.std.specs.Prelude.{map, replicate, fold, filter, length, bit_or, slice_index_or, slice_set}
use Rattle.model.specs.declared.call.Condition.{Condition}
use Rattle.model.specs.Groups.{bits_left, is_met}
use Rattle.lists.specs.Lists.{IsSound, entries_of}
use Rattle.task_lists.specs.Tasks.{tasks_in}

pub record EventGroups : Type 0 where
  -- the bits of each group
  pub bits : List ℕ
  -- for each group the tasks that wait for bits of it, and then those that wait for a notification, in the order in which they
  -- began to wait, each with a 0
  pub waiting : List (List (ℕ × ℕ))
  -- for which bits each task waits, or waited last
  pub wants : List Condition

-- the list of the tasks that wait for a notification, after those of the groups
abbrev pub for_notifications : ℕ
for_notifications = 16

-- the bits of a group
abbrev pub bits_in : EventGroups → ℕ → ℕ
bits_in v group = slice_index_or v.bits group 0

-- the tasks that wait for bits of a group
abbrev pub waiting_in : EventGroups → ℕ → List (ℕ × ℕ)
waiting_in v group = entries_of v.waiting group

-- what is kept if there is no task
abbrev pub no_condition : Condition
no_condition = record { mask = 0; all = false; clear = false }

-- groups with which nothing was ever done
abbrev pub unused : EventGroups
unused = record { bits = replicate 16 0; waiting = replicate 17 []; wants = replicate 32 no_condition }

-- for which bits a task waits, or waited last
abbrev pub wanted_by : List Condition → ℕ → Condition
wanted_by wants task = slice_index_or wants task no_condition

-- The bits meet what the task waits for.
abbrev pub meets : List Condition → ℕ → ℕ × ℕ → Bool
meets wants bits e = is_met bits (wanted_by wants e.0)

-- the tasks whose conditions the bits meet
abbrev pub met_of : List Condition → ℕ → List (ℕ × ℕ) → List ℕ
met_of wants bits entries = tasks_in (filter (meets wants bits) entries)

-- the others
abbrev pub unmet_of : List Condition → ℕ → List (ℕ × ℕ) → List (ℕ × ℕ)
unmet_of wants bits entries = filter (λ e. not (meets wants bits e)) entries

-- what is left of the bits when all of these tasks have cleared what they asked to clear
abbrev pub left_by : List Condition → ℕ → List ℕ → ℕ
left_by wants bits tasks = fold bits_left bits (map (wanted_by wants) tasks)

-- The mask's bits of a group are set. The tasks whose conditions they meet no longer wait; then what these
-- asked to clear is cleared.
abbrev pub after_set : ℕ → ℕ → EventGroups → EventGroups
after_set group mask v =
    let bits = bit_or (bits_in v group) mask in
    record v {
      bits = slice_set v.bits group (left_by v.wants bits (met_of v.wants bits (waiting_in v group)));
      waiting = slice_set v.waiting group (unmet_of v.wants bits (waiting_in v group));
    }

-- what is true of them between two calls
pub record AreGroups (v : EventGroups) : Type 0 where
  pub sound : IsSound 17 32 v.waiting
  pub as_many : length v.wants ≡ 32
