-- How long the words of a line are at most.
use Rattle.std.proofs.Common.{◌≡◌, ◌≤◌, ◌<◌, ◌+◌, ℕ, zero, suc, Bool, true, false, List, [], ◌∷◌, length, Option, Some, None}
use Rattle.std.proofs.Common.{refl, lit≤, arith}
use Rattle.std.specs.Prelude.{codes, decimal, option_map, unwrap_or, if◌then◌else◌}
use Rattle.std.specs.List.{AllByRecursion, slice_get}
use Rattle.std.proofs.lemmas.Fmt.{length-decimal-le}
use Rattle.std.proofs.lemmas.Option.{slice_get_within}
use Rattle.model.specs.declared.op.Op.{Op}
use Rattle.model.specs.declared.op.Op.TheVariants.{Work, Delay, DelayUntil, Yield, Time, Mark, Expect, Repeat, End, If, Else, EndIf}
use Rattle.model.specs.declared.op.Op.TheVariants.{Break, Stamp, Since, Await, Do, GiveMutex, MessagesWaiting, SpacesAvailable}
use Rattle.model.specs.declared.op.Op.TheVariants.{SetBits, ClearBits, GetBits, WaitBits, Suspend, Resume, SuspendAll, ResumeAll}
use Rattle.model.specs.declared.op.Op.TheVariants.{Notify, AwaitNotification, ClearNotification, EnterCritical, ExitCritical, Value}
use Rattle.model.specs.declared.op.Op.TheVariants.{NextCommand, Obey, Source}
use Rattle.model.specs.declared.source.SourceOp.{SourceOp}
use Rattle.model.specs.declared.source.SourceOp.TheVariants.{Arm, Disarm, Raise, Cancel}
use Rattle.model.specs.declared.op.Access.{Access}
use Rattle.model.specs.declared.op.Access.TheVariants.{Send, SendFront, Overwrite, Receive, Peek, Take, Give, Lock}
use Rattle.model.specs.declared.notification.NotificationWait.{NotificationWait}
use Rattle.model.specs.declared.notification.NotificationWait.TheVariants as wait
use Rattle.model.specs.declared.notification.NotificationClear.{NotificationClear}
use Rattle.model.specs.declared.notification.NotificationClear.TheVariants as clear
use Rattle.model.specs.declared.value.Arithmetic.{Arithmetic}
use Rattle.model.specs.declared.value.Arithmetic.TheVariants.{Add, Sub, Mul, Div, Mod, And, Or, Xor}
use Rattle.model.specs.declared.value.ValueOp.{ValueOp}
use Rattle.model.specs.declared.value.ValueOp.TheVariants.{Load, Store, Compute}
use Rattle.model.specs.declared.op.IsrOp.{IsrOp}
use Rattle.model.specs.declared.op.IsrOp.TheVariants as isr_op
use Rattle.model.specs.Application.{Application, Definition, op_at, script_of}
use Rattle.model.specs.Scripts.{IsDefinition, IsWellFormed, most_ops}
use Rattle.model.specs.Words.{word_of, word_of_access, word_of_arithmetic, word_of_isr, word_of_notification_wait}
use Rattle.model.specs.Words.{word_of_notification_clear, word_of_source_op, word_of_value_op}
use Rattle.report.specs.Text.{word_at}

access_short : {Item : Type 0} (a : Access Item) → length (word_of_access a) ≤ 18
access_short (Send v) = lit≤ tt
access_short (SendFront v) = lit≤ tt
access_short (Overwrite v) = lit≤ tt
access_short Receive = lit≤ tt
access_short Peek = lit≤ tt
access_short Take = lit≤ tt
access_short Give = lit≤ tt
access_short Lock = lit≤ tt

wait_short : (w : NotificationWait) → length (word_of_notification_wait w) ≤ 18
wait_short (wait.Take clears) = lit≤ tt
wait_short (wait.Wait masks) = lit≤ tt

clear_short : (c : NotificationClear) → length (word_of_notification_clear c) ≤ 18
clear_short clear.Pending = lit≤ tt
clear_short (clear.Bits bits) = lit≤ tt

arithmetic_short : (a : Arithmetic) → length (word_of_arithmetic a) ≤ 18
arithmetic_short Add = lit≤ tt
arithmetic_short Sub = lit≤ tt
arithmetic_short Mul = lit≤ tt
arithmetic_short Div = lit≤ tt
arithmetic_short Mod = lit≤ tt
arithmetic_short And = lit≤ tt
arithmetic_short Or = lit≤ tt
arithmetic_short Xor = lit≤ tt

value_short : (v : ValueOp) → length (word_of_value_op v) ≤ 18
value_short (Load x) = lit≤ tt
value_short (Store x v) = lit≤ tt
value_short (Compute a v) = arithmetic_short a

source_short : (op : SourceOp) → length (word_of_source_op op) ≤ 18
source_short Arm = lit≤ tt
source_short Disarm = lit≤ tt
source_short (Raise ticks) = lit≤ tt
source_short Cancel = lit≤ tt

-- The first word of an op has at most eighteen letters.
word_short : (op : Op) → length (word_of op) ≤ 18
word_short (Work n) = lit≤ tt
word_short (Delay n) = lit≤ tt
word_short (DelayUntil n) = lit≤ tt
word_short Yield = lit≤ tt
word_short Time = lit≤ tt
word_short (Mark n) = lit≤ tt
word_short (Expect c) = lit≤ tt
word_short (Repeat n) = lit≤ tt
word_short End = lit≤ tt
word_short (If c) = lit≤ tt
word_short Else = lit≤ tt
word_short EndIf = lit≤ tt
word_short Break = lit≤ tt
word_short Stamp = lit≤ tt
word_short Since = lit≤ tt
word_short (Source h op) = source_short op
word_short (Await o a ticks) = access_short a
word_short (Do o a) = access_short a
word_short (GiveMutex o) = lit≤ tt
word_short (MessagesWaiting o) = lit≤ tt
word_short (SpacesAvailable o) = lit≤ tt
word_short (SetBits g mask) = lit≤ tt
word_short (ClearBits g mask) = lit≤ tt
word_short (GetBits g) = lit≤ tt
word_short (WaitBits g condition ticks) = lit≤ tt
word_short (Notify t a) = lit≤ tt
word_short (AwaitNotification w ticks) = wait_short w
word_short (ClearNotification c) = clear_short c
word_short (Suspend t) = lit≤ tt
word_short (Resume t) = lit≤ tt
word_short SuspendAll = lit≤ tt
word_short ResumeAll = lit≤ tt
word_short EnterCritical = lit≤ tt
word_short ExitCritical = lit≤ tt
word_short (Value v) = value_short v
word_short (NextCommand o) = lit≤ tt
word_short Obey = lit≤ tt

few_ops : (ts : List Definition) → AllByRecursion IsDefinition ts → (i : ℕ)
    → length (unwrap_or (option_map (λ (d : Definition). d.script) (slice_get ts i)) []) ≤ most_ops
few_ops [] formed i = lit≤ tt
few_ops (t ∷ ts) formed zero = formed.0.script.few
few_ops (t ∷ ts) formed (suc i) = few_ops ts formed.1 i

module _ (app : Application) (formed : IsWellFormed app) (task op_index : ℕ) (within : op_index < 65536) where
  with_word : (o : Option Op) → op_at app task op_index ≡ o
      → length (decimal op_index) + length (unwrap_or (option_map word_of o) []) ≤ 21
  with_word None is = omega (arith, length-decimal-le 5 op_index (omega arith) (omega arith) (omega arith))
  with_word (Some op) is =
      let there : op_index < length (script_of app task) = slice_get_within (script_of app task) op_index op is in
      let few : length (script_of app task) ≤ 256 = few_ops app.tasks formed.tasks task in
      omega (arith, word_short op, length-decimal-le 3 op_index (omega arith) (omega arith) (omega arith))

  -- An op's index and its first word have at most 21 bytes together. An index of more than 3 digits has no op, since a script has
  -- at most 256 of them.
  pub index_and_word_short : length (decimal op_index) + length (word_at app task op_index) ≤ 21
  index_and_word_short = with_word (op_at app task op_index) refl

command_short : (clear : Bool) → length (if clear then codes "clear" else codes "set") ≤ 18
command_short true = lit≤ tt
command_short false = lit≤ tt

-- So has that of an op of a handler.
pub isr_word_short : (op : IsrOp) → length (word_of_isr op) ≤ 18
isr_word_short (isr_op.Do o a) = access_short a
isr_word_short (isr_op.Command c) = command_short c.clear
isr_word_short (isr_op.Resume t) = lit≤ tt
isr_word_short (isr_op.GetBits g) = lit≤ tt
isr_word_short (isr_op.Notify t a) = lit≤ tt
isr_word_short (isr_op.Mark n) = lit≤ tt
isr_word_short (isr_op.Expect c) = lit≤ tt
isr_word_short (isr_op.If c) = lit≤ tt
isr_word_short isr_op.Else = lit≤ tt
isr_word_short isr_op.EndIf = lit≤ tt
isr_word_short (isr_op.Source h op) = source_short op
isr_word_short (isr_op.Value v) = value_short v
