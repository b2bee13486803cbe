-- The words of ops, with which their texts in a file begin, and the names of tasks and handlers: by these reports name them.
use Rattle.std.specs.Prelude.{ℕ, List, [], codes, length, Option, Some, None, slice_get, option_map, unwrap_or, if◌then◌else◌}
use Rattle.std.specs.Option.{option_or}
use Rattle.model.specs.Handlers.{is_tick}
use Rattle.std.specs.List.{position_from}
use Rattle.std.specs.Str.{bytes_eq}
use Rattle.model.specs.declared.op.Access.{Access}
use Rattle.model.specs.declared.op.Access.TheVariants.{Send, SendFront, Overwrite, Receive, Peek, Take, Give, Lock}
use Rattle.model.specs.declared.op.Op.{Op}
use Rattle.model.specs.declared.op.Op.TheVariants.{Work, Delay, DelayUntil, Yield, Time, Mark, Expect, Repeat, End, If, Else, EndIf}
use Rattle.model.specs.declared.op.Op.TheVariants.{Break, Stamp, Since, Await, Do, GiveMutex, MessagesWaiting, SpacesAvailable}
use Rattle.model.specs.declared.op.Op.TheVariants.{SetBits, ClearBits, GetBits, WaitBits, Suspend, Resume, SuspendAll, ResumeAll}
use Rattle.model.specs.declared.op.Op.TheVariants.{Notify, AwaitNotification, ClearNotification, EnterCritical, ExitCritical, Value}
use Rattle.model.specs.declared.op.Op.TheVariants.{NextCommand, Obey}
use Rattle.model.specs.declared.notification.NotificationWait.{NotificationWait}
use Rattle.model.specs.declared.notification.NotificationWait.TheVariants as wait
use Rattle.model.specs.declared.notification.NotificationClear.{NotificationClear}
use Rattle.model.specs.declared.notification.NotificationClear.TheVariants as clear
use Rattle.model.specs.declared.value.Arithmetic.{Arithmetic}
use Rattle.model.specs.declared.value.Arithmetic.TheVariants.{Add, Sub, Mul, Div, Mod, And, Or, Xor}
use Rattle.model.specs.declared.value.ValueOp.{ValueOp}
use Rattle.model.specs.declared.value.ValueOp.TheVariants.{Load, Store, Compute}
use Rattle.model.specs.declared.op.Op.TheVariants as op
use Rattle.model.specs.declared.source.SourceOp.{SourceOp}
use Rattle.model.specs.declared.source.SourceOp.TheVariants.{Arm, Disarm, Raise, Cancel}
use Rattle.model.specs.declared.op.Command.{Command}
use Rattle.model.specs.declared.op.IsrOp.{IsrOp}
use Rattle.model.specs.declared.op.IsrOp.TheVariants as isr
use Rattle.model.specs.Application.{Application, Definition, Handler, definition_of, ops_of}

-- the first word of a call's text
abbrev pub word_of_access : {Item : Type 0} → Access Item → List ℕ
word_of_access (Send item) = codes "send"
word_of_access (SendFront item) = codes "send_front"
word_of_access (Overwrite item) = codes "overwrite"
word_of_access Receive = codes "receive"
word_of_access Peek = codes "peek"
word_of_access Take = codes "take"
word_of_access Give = codes "give"
word_of_access Lock = codes "lock"

-- the word of an operation of arithmetic
abbrev pub word_of_arithmetic : Arithmetic → List ℕ
word_of_arithmetic Add = codes "add"
word_of_arithmetic Sub = codes "sub"
word_of_arithmetic Mul = codes "mul"
word_of_arithmetic Div = codes "div"
word_of_arithmetic Mod = codes "mod"
word_of_arithmetic And = codes "and"
word_of_arithmetic Or = codes "or"
word_of_arithmetic Xor = codes "xor"

-- the first word of the text of an op on values
abbrev pub word_of_value_op : ValueOp → List ℕ
word_of_value_op (Load x) = codes "load"
word_of_value_op (Store x value) = codes "store"
word_of_value_op (Compute kind value) = word_of_arithmetic kind

-- the first word of the text of a wait for a notification
abbrev pub word_of_notification_wait : NotificationWait → List ℕ
word_of_notification_wait (wait.Take clears) = codes "notify_take"
word_of_notification_wait (wait.Wait masks) = codes "notify_wait"

-- the first word of the text of a call that clears something of a notification
abbrev pub word_of_notification_clear : NotificationClear → List ℕ
word_of_notification_clear clear.Pending = codes "notify_clear"
word_of_notification_clear (clear.Bits bits) = codes "notify_value_clear"

-- the first word of the text of an op on interrupt sources
abbrev pub word_of_source_op : SourceOp → List ℕ
word_of_source_op Arm = codes "arm"
word_of_source_op Disarm = codes "disarm"
word_of_source_op (Raise ticks) = codes "raise"
word_of_source_op Cancel = codes "cancel"

-- the first word of an op's text
abbrev pub word_of : Op → List ℕ
word_of (Work n) = codes "work"
word_of (Delay n) = codes "delay"
word_of (DelayUntil n) = codes "delay_until"
word_of Yield = codes "yield"
word_of Time = codes "time"
word_of (Mark n) = codes "mark"
word_of (Expect condition) = codes "expect"
word_of (Repeat turns) = codes "repeat"
word_of End = codes "end"
word_of (If condition) = codes "if"
word_of Else = codes "else"
word_of EndIf = codes "end"
word_of Break = codes "break"
word_of Stamp = codes "stamp"
word_of Since = codes "since"
word_of (Await object access ticks) = word_of_access access
word_of (Do object access) = word_of_access access
word_of (GiveMutex object) = codes "unlock"
word_of (MessagesWaiting object) = codes "waiting"
word_of (SpacesAvailable object) = codes "spaces"
word_of (SetBits group mask) = codes "set"
word_of (ClearBits group mask) = codes "clear"
word_of (GetBits group) = codes "bits"
word_of (WaitBits group condition ticks) = codes "wait"
word_of (Notify other action) = codes "notify"
word_of (AwaitNotification wait ticks) = word_of_notification_wait wait
word_of (ClearNotification what) = word_of_notification_clear what
word_of (Suspend other) = codes "suspend"
word_of (Resume other) = codes "resume"
word_of SuspendAll = codes "suspend_all"
word_of ResumeAll = codes "resume_all"
word_of EnterCritical = codes "enter_critical"
word_of ExitCritical = codes "exit_critical"
word_of (Value op) = word_of_value_op op
word_of (op.Source handler what) = word_of_source_op what
word_of (NextCommand object) = []
word_of Obey = []

-- the first word of the text of a command
abbrev pub word_of_command : Command → List ℕ
word_of_command c = if c.clear then codes "clear" else codes "set"

-- the first word of the text of a handler's op
abbrev pub word_of_isr : IsrOp → List ℕ
word_of_isr (isr.Do object access) = word_of_access access
word_of_isr (isr.Command c) = word_of_command c
word_of_isr (isr.Resume task) = codes "resume"
word_of_isr (isr.GetBits group) = codes "bits"
word_of_isr (isr.Notify task action) = codes "notify"
word_of_isr (isr.Mark n) = codes "mark"
word_of_isr (isr.Expect condition) = codes "expect"
word_of_isr (isr.If condition) = codes "if"
word_of_isr isr.Else = codes "else"
word_of_isr isr.EndIf = codes "end"
word_of_isr (isr.Value op) = word_of_value_op op
word_of_isr (isr.Source handler what) = word_of_source_op what

-- ---- names

-- the name of a task
abbrev pub name_of : Application → ℕ → List ℕ
name_of app task = unwrap_or (option_map (λ (d : Definition). d.name) (definition_of app task)) []

-- the name of a handler
abbrev pub handler_name_of : Application → ℕ → List ℕ
handler_name_of app handler = unwrap_or (option_map (λ (h : Handler). h.name) (slice_get app.handlers handler)) []

-- the number of the first handler of this name
abbrev pub handler_named : Application → List ℕ → Option ℕ
handler_named app name = position_from (λ (h : Handler). bytes_eq h.name name) 0 app.handlers

-- the name of an interrupt that can be injected: of a handler, or of the tick
abbrev pub source_name_of : Application → ℕ → List ℕ
source_name_of app source = if is_tick app source then codes "tick" else handler_name_of app source

-- The number of the interrupt of this name. In an application that has a handler `tick`, that is meant.
abbrev pub source_named : Application → List ℕ → Option ℕ
source_named app name =
    option_or (handler_named app name) (if bytes_eq name (codes "tick") then Some (length app.handlers) else None)

-- the op of this index of a handler
abbrev pub isr_op_at : Application → ℕ → ℕ → Option IsrOp
isr_op_at app handler op_index = slice_get (ops_of app handler) op_index
