-- What an application may have if it has these objects, two event groups, four variables, four tasks of the file, and three
-- handlers.
use Rattle.std.specs.Prelude.{ℕ, ◌≡◌, ◌≤◌, ◌<◌, ◌+◌, ◌-◌, Bool, true, false, List, [], ◌∷◌, Option, Some, None, is_some, IfSome}
use Rattle.std.specs.Prelude.{IsSomeAnd, length, option_map, unwrap_or}
use Rattle.std.specs.List.{AllByRecursion, slice_get}
use Rattle.model.specs.declared.object.ObjectKind.{ObjectKind}
use Rattle.model.specs.declared.op.Access.TheVariants.{Receive}
use Rattle.model.specs.declared.op.Op.{Op}
use Rattle.model.specs.declared.op.Op.TheVariants.{NextCommand, Obey}
use Rattle.model.specs.declared.op.IsrOp.{IsrOp}
use Rattle.model.specs.declared.answer.AnswerCondition.{AnswerCondition}
use Rattle.model.specs.declared.value.Value.{Value}
use Rattle.model.specs.declared.value.ValueOp.{ValueOp}
use Rattle.model.specs.Application.{Application, Definition, Handler, Interrupt, of_file}
use Rattle.model.specs.Scripts.{IsDefinition, IsHandler, fits, knows, knows_condition, knows_isr, knows_value, knows_values}

-- Every application with these objects, two event groups, four tasks of the file, at least four variables and three handlers knows
-- the op.
abbrev pub IsKnown : List ObjectKind → Op → Type 0
IsKnown objects op =
    (app : Application) → app.objects ≡ objects → app.group_count ≡ 2 → length (of_file app.daemon app.tasks) ≡ 4
    → 4 ≤ length app.variables → length app.handlers ≡ 3 → knows app op ≡ true

-- Each of these ops is known.
abbrev pub AreKnown : List ObjectKind → List Op → Type 0
AreKnown objects ops =
    (app : Application) → app.objects ≡ objects → app.group_count ≡ 2 → length (of_file app.daemon app.tasks) ≡ 4
    → 4 ≤ length app.variables → length app.handlers ≡ 3 → AllByRecursion (λ op. knows app op ≡ true) ops

-- Every such application knows this op of a handler.
abbrev pub IsKnownIsr : List ObjectKind → IsrOp → Type 0
IsKnownIsr objects op =
    (app : Application) → app.objects ≡ objects → app.group_count ≡ 2 → length (of_file app.daemon app.tasks) ≡ 4
    → 4 ≤ length app.variables → length app.handlers ≡ 3 → knows_isr app op ≡ true

-- Every such application that has a daemon, or has none, knows it.
abbrev pub IsKnownIsrWith : (has_daemon : Bool) → List ObjectKind → IsrOp → Type 0
IsKnownIsrWith has_daemon objects op =
    (app : Application) → app.objects ≡ objects → app.group_count ≡ 2 → length (of_file app.daemon app.tasks) ≡ 4
    → 4 ≤ length app.variables → length app.handlers ≡ 3 → is_some app.daemon ≡ has_daemon → knows_isr app op ≡ true

-- Every such application may have the handler.
abbrev pub IsKnownHandler : (has_daemon : Bool) → List ObjectKind → Handler → Type 0
IsKnownHandler has_daemon objects handler =
    (app : Application) → app.objects ≡ objects → app.group_count ≡ 2 → length (of_file app.daemon app.tasks) ≡ 4
    → 4 ≤ length app.variables → length app.handlers ≡ 3 → is_some app.daemon ≡ has_daemon → IsHandler app handler

-- ---- values

-- Every application with at least four variables has the variable that the value is, if it is one.
abbrev pub IsKnownValue : Value → Type 0
IsKnownValue value = (app : Application) → 4 ≤ length app.variables → knows_value app value ≡ true

-- It has the variable that an answer is compared with, if it is compared with one.
abbrev pub IsKnownAnswer : Option Value → Type 0
IsKnownAnswer wanted =
    (app : Application) → 4 ≤ length app.variables → unwrap_or (option_map (knows_value app) wanted) true ≡ true

-- It has the variable that the condition names, if it names one.
abbrev pub IsKnownCondition : AnswerCondition → Type 0
IsKnownCondition condition = (app : Application) → 4 ≤ length app.variables → knows_condition app condition ≡ true

-- It has the variables that the op on values names.
abbrev pub AreKnownValues : ValueOp → Type 0
AreKnownValues op = (app : Application) → 4 ≤ length app.variables → knows_values app op ≡ true

-- ---- base interrupts

-- base interrupts of three handlers, none after this tick
pub record AreInterrupts (tick : ℕ) (interrupts : List Interrupt) : Type 0 where
  pub first : AllByRecursion (λ (i : Interrupt). 1 ≤ i.tick) interrupts
  pub last : AllByRecursion (λ (i : Interrupt). i.tick ≤ tick) interrupts
  pub known : AllByRecursion (λ (i : Interrupt). i.handler < 3) interrupts

-- ---- the daemon

-- the number of the daemon, if there is one
abbrev pub daemon_number : (has_daemon : Bool) → Option ℕ
daemon_number true = Some 4
daemon_number false = None

-- a queue
abbrev pub IsCommandQueue : ObjectKind → Type 0
IsCommandQueue kind = fits {Item = ℕ} kind Receive ≡ true

-- The last object is a queue, if there is a daemon.
abbrev pub EndsWithQueue : (has_daemon : Bool) → List ObjectKind → Type 0
EndsWithQueue true objects = IsSomeAnd (slice_get objects (length objects - 1)) IsCommandQueue
EndsWithQueue false objects = Unit {0}

-- the daemon whose queue is the last of these objects
pub record IsDaemonOf (objects : List ObjectKind) (daemon : Definition) : Type 0 where
  pub formed : IsDefinition daemon
  pub endless : daemon.endless ≡ true
  pub script : daemon.script ≡ NextCommand (length objects - 1) ∷ Obey ∷ []

-- four tasks of the file, whose ops are known, and after them the daemon, if there is one
pub record AreTasks (has_daemon : Bool) (objects : List ObjectKind) (tasks : List Definition) : Type 0 where
  pub four : length (of_file (daemon_number has_daemon) tasks) ≡ 4
  pub formed : AllByRecursion IsDefinition tasks
  pub known : AllByRecursion (λ (d : Definition). AreKnown objects d.script) (of_file (daemon_number has_daemon) tasks)
  -- only the daemon comes after them
  pub behind : IfSome (daemon_number has_daemon) (λ daemon.
      (length tasks ≡ daemon + 1) × IsSomeAnd (slice_get tasks daemon) (IsDaemonOf objects))
