-- An application, as its file has it.
use Rattle.std.specs.Prelude.{ℕ, ◌-◌, ◌==◌, Bool, false, not, List, [], ◌∷◌, length, map, filter, take, Option, Some, None}
use Rattle.std.specs.Prelude.{slice_get, option_map, unwrap_or, if◌then◌else◌}
use Rattle.std.specs.List.{list_any}
use Rattle.model.specs.declared.object.ObjectKind.{ObjectKind}
use Rattle.model.specs.declared.op.Op.{Op}
use Rattle.model.specs.declared.op.IsrOp.{IsrOp}
use Rattle.model.specs.declared.plan.PointEntry.{PointEntry}

-- a task of the file, or the daemon
pub record Definition : Type 0 where
  pub name : List ℕ
  pub priority : ℕ
  -- No run waits for its end.
  pub endless : Bool
  pub script : List Op

-- an interrupt handler of the file
pub record Handler : Type 0 where
  pub name : List ℕ
  pub ops : List IsrOp
  -- An injected one can come at reset (profile).
  pub armed : Bool
  -- how many elapsed ticks an injected one comes after the last at least (profile)
  pub apart : ℕ

-- a base interrupt of the file: at this elapsed tick the handler runs (profile)
pub record Interrupt : Type 0 where
  pub tick : ℕ
  pub handler : ℕ

-- when a run ends at the latest: elapsed ticks, and steps (profile)
pub record Limits : Type 0 where
  pub ticks : ℕ
  pub steps : ℕ

-- what a run starts from, and the points of a campaign
pub record Application : Type 0 where
  -- the time at reset
  pub start : ℕ
  -- Idle lets as many ticks pass in a step as come before the next thing to happen (`configUSE_TICKLESS_IDLE`).
  pub tickless : Bool
  pub limits : Limits
  pub objects : List ObjectKind
  -- how many event groups there are
  pub group_count : ℕ
  -- what each variable is at reset
  pub variables : List ℕ
  pub handlers : List Handler
  pub interrupts : List Interrupt
  -- those of the file, and after them the daemon, if there is one
  pub tasks : List Definition
  -- the number of the daemon; its queue is the last object
  pub daemon : Option ℕ
  -- of the campaign, which no run depends on
  pub points : List PointEntry

-- of these, one for each task, those of the tasks of the file: all before the daemon's
abbrev pub of_file : {X : Type 0} → (daemon : Option ℕ) → List X → List X
of_file None xs = xs
of_file (Some daemon) xs = take daemon xs

-- the number of the daemon's queue
abbrev pub commands_of : Application → ℕ
commands_of app = length app.objects - 1

-- of these, one for each task, all but those of the endless tasks
abbrev pub without_endless : {X : Type 0} → List Definition → List X → List X
without_endless [] xs = xs
without_endless (d ∷ ds) [] = []
without_endless (d ∷ ds) (x ∷ xs) = if d.endless then without_endless ds xs else x ∷ without_endless ds xs

-- A run waits for the end of some task.
abbrev pub is_any_awaited : Application → Bool
is_any_awaited app = list_any (λ (d : Definition). not d.endless) app.tasks

-- the task of this number, as the file has it
abbrev pub definition_of : Application → ℕ → Option Definition
definition_of app task = slice_get app.tasks task

-- the script of a task
abbrev pub script_of : Application → ℕ → List Op
script_of app task = unwrap_or (option_map (λ (d : Definition). d.script) (definition_of app task)) []

-- No run waits for the end of this task.
abbrev pub is_endless : Application → ℕ → Bool
is_endless app task = unwrap_or (option_map (λ (d : Definition). d.endless) (definition_of app task)) false

-- the op of this index in a task's script
abbrev pub op_at : Application → ℕ → ℕ → Option Op
op_at app task op_index = slice_get (script_of app task) op_index

-- how many ops a task's script has
abbrev pub op_count : Application → ℕ → ℕ
op_count app task = length (script_of app task)

-- the ops of a handler
abbrev pub ops_of : Application → ℕ → List IsrOp
ops_of app handler = unwrap_or (option_map (λ (h : Handler). h.ops) (slice_get app.handlers handler)) []

-- the handlers of the base interrupts at an elapsed tick, in the order of the file
abbrev pub interrupts_at : Application → ℕ → List ℕ
interrupts_at app tick = map (λ (i : Interrupt). i.handler) (filter (λ (i : Interrupt). i.tick == tick) app.interrupts)
