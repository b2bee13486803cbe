-- The texts of ops: which words spell which op (profile).
use Rattle.std.specs.Prelude.{◌≡◌, ◌⊎◌, ℕ, Bool, true, false, ◌&&◌, ◌==◌, nat_lt, nat_le, List, [], ◌∷◌, ◌++◌, length, filter}
use Rattle.std.specs.Prelude.{codes, Option, Some, None, option_map, option_and_then, if◌then◌else◌}
use Rattle.std.specs.Option.{option_or}
use Rattle.std.specs.Char.{is_ascii_digit}
use Rattle.std.specs.List.{list_all, list_any, slice_split}
use Rattle.std.specs.Str.{bytes_eq}
use Rattle.std.specs.Str.Parse.{digits_value}
use Rattle.model.specs.declared.op.Access.TheVariants.{Send, SendFront, Overwrite, Receive, Peek, Take, Give, Lock}
use Rattle.model.specs.declared.answer.AnswerCondition.{AnswerCondition}
use Rattle.model.specs.declared.answer.AnswerCondition.TheVariants.{Is, IsNot, Below, Above}
use Rattle.model.specs.declared.call.Condition.{Condition}
use Rattle.model.specs.declared.op.Op.{Op}
use Rattle.model.specs.declared.op.Op.TheVariants.{Work, Delay, DelayUntil, Yield, Time, Mark, Expect, Repeat, End, If, Else, Break}
use Rattle.model.specs.declared.op.Op.TheVariants.{Stamp, Since, Await, Do, GiveMutex, MessagesWaiting, SpacesAvailable, SetBits}
use Rattle.model.specs.declared.op.Op.TheVariants.{ClearBits, GetBits, WaitBits, Suspend, Resume, SuspendAll, ResumeAll}
use Rattle.model.specs.declared.op.Op.TheVariants.{Notify, AwaitNotification, ClearNotification, EnterCritical, ExitCritical}
use Rattle.model.specs.declared.op.Op.TheVariants as op
use Rattle.model.specs.declared.op.IsrOp.{IsrOp}
use Rattle.model.specs.declared.op.IsrOp.TheVariants as isr
use Rattle.model.specs.declared.notification.NotifyAction.{NotifyAction}
use Rattle.model.specs.declared.notification.NotifyAction.TheVariants as notify
use Rattle.model.specs.declared.notification.NotificationWait.TheVariants as awaited
use Rattle.model.specs.declared.notification.NotificationClear.TheVariants as cleared
use Rattle.model.specs.declared.ids.VariableId.{VariableId}
use Rattle.model.specs.declared.value.Value.{Value}
use Rattle.model.specs.declared.value.Value.TheVariants as value
use Rattle.model.specs.declared.value.Arithmetic.TheVariants.{Add, Sub, Mul, Div, Mod, And, Or, Xor}
use Rattle.model.specs.declared.value.ValueOp.{ValueOp}
use Rattle.model.specs.declared.value.ValueOp.TheVariants.{Load, Store, Compute}
use Rattle.model.specs.declared.source.SourceOp.{SourceOp}
use Rattle.model.specs.declared.source.SourceOp.TheVariants.{Arm, Disarm, Raise, Cancel}
use Rattle.model.specs.Words.{word_of, word_of_isr}
use Rattle.model.specs.Scripts.{is_defined, is_in_range, is_mask, is_near, InRange}
use Rattle.grammar.specs.declared.object_sort.ObjectSort.{ObjectSort}
use Rattle.grammar.specs.declared.object_sort.ObjectSort.TheVariants.{Queue, Semaphore, Mutex}

-- ---- words

-- a word of a text, as its bytes
abbrev pub Word : Type 0
Word = List ℕ

-- an empty piece is none
abbrev pub is_word : Word → Bool
is_word [] = false
is_word (b ∷ bs) = true

-- the words of a text, which spaces separate (profile)
abbrev pub words_of : List ℕ → List Word
words_of text = filter is_word (slice_split (λ b. b == 32) text)

-- ---- what a word says

-- one to ten digits (profile)
abbrev pub is_number : Word → Bool
is_number w = nat_lt 0 (length w) && (nat_le (length w) 10 && list_all is_ascii_digit w)

-- the number that a word writes, if it is one of 32 bits
abbrev pub number_of : Word → Option ℕ
number_of w =
    if is_number w && nat_le (digits_value 10 w) 4294967295 then Some (digits_value 10 w) else None

-- the number that a word writes, or none if it is this other word
abbrev pub number_unless : (other : Word) → Word → Option (Option ℕ)
number_unless other w = if bytes_eq w other then Some None else option_map Some (number_of w)

-- which of two words it is: whether it is the second
abbrev pub choice_of : (first second : Word) → Word → Option Bool
choice_of first second w = if bytes_eq w first then Some false else if bytes_eq w second then Some true else None

-- the action of a notify that a word says; its value is the word after it, if it has one
abbrev pub action_of : Word → Option (NotifyAction Unit)
action_of w =
    if bytes_eq w (codes "none") then Some notify.Nothing
    else if bytes_eq w (codes "bits") then Some (notify.SetBits tt)
    else if bytes_eq w (codes "increment") then Some notify.Increment
    else if bytes_eq w (codes "overwrite") then Some (notify.Overwrite tt)
    else if bytes_eq w (codes "keep") then Some (notify.Keep tt)
    else None

-- What a name in an op's text has to be that of: an object of a sort, an event group, a task, a variable, or a handler.
pub data NameSort : Type 0 where
  OfObject : (sort : ObjectSort) → NameSort
  OfGroup : NameSort
  OfTask : NameSort
  OfVariable : NameSort
  OfHandler : NameSort

-- which entry of a sort a word names, if it names one
abbrev pub Naming : Type 0
Naming = NameSort → Word → Option ℕ

-- the variable of this number
abbrev pub variable_of : ℕ → VariableId
variable_of x = record { number = x }

-- the operand that a word writes: a number, or a variable by its name
abbrev pub operand_of : Naming → Word → Option Value
operand_of named w =
    option_or (option_map value.Number (number_of w)) (option_map (λ x. value.Variable (variable_of x)) (named OfVariable w))

-- A condition has a meaning of its own for the word, so no name is read there.
abbrev pub is_of_conditions : Word → Bool
is_of_conditions w = list_any (bytes_eq w) (codes "none" ∷ codes "not" ∷ codes "below" ∷ codes "above" ∷ [])

-- what a word writes that an answer is compared with
abbrev pub compared_of : Naming → Word → Option Value
compared_of named w = if is_of_conditions w then None else operand_of named w

-- the answer that a word writes, which may be none
abbrev pub answer_of : Naming → Word → Option (Option Value)
answer_of named w = if bytes_eq w (codes "none") then Some None else option_map Some (compared_of named w)

-- ---- the grammar

-- How an op's text goes on after its own word (profile). It may be over. Or the next word writes a number, in whose place
-- another word may be allowed, writes an operand, is one of two words, says the action of a notify, or names an entry of a sort. Or
-- one or two words write a condition for the last answer. What comes then is of the same form. The op is a task's, or a handler's.
pub data Form (O : Type 0) : Type 0 where
  Done : (op : O) → Form O
  Number : (next : ℕ → Form O) → Form O
  NumberUnless : (other : Word) → (next : Option ℕ → Form O) → Form O
  Operand : (next : Value → Form O) → Form O
  Choice : (first second : Word) → (next : Bool → Form O) → Form O
  ActionWord : (next : NotifyAction Unit → Form O) → Form O
  Asked : (next : AnswerCondition → Form O) → Form O
  Name : (sort : NameSort) → (next : ℕ → Form O) → Form O

-- how many turns a loop has, which may go on forever
abbrev pub Turns : {O : Type 0} → (Option ℕ → Form O) → Form O
Turns next = NumberUnless (codes "forever") next

-- how many ticks a call waits, which may be forever
abbrev pub WaitTime : {O : Type 0} → (Option ℕ → Form O) → Form O
WaitTime next = NumberUnless (codes "forever") next

-- this number as a value, or the last answer if there is none
abbrev pub given : Option ℕ → Value
given None = value.Answer
given (Some n) = value.Number n

-- the value that an op sends, stores or marks, which may be the last answer
abbrev pub GivenValue : {O : Type 0} → (Value → Form O) → Form O
GivenValue next = NumberUnless (codes "answer") (λ n. next (given n))

-- how a text goes on after the word of an action: with its value, if it has one
abbrev pub ActionValue : {O : Type 0} → (NotifyAction Value → Form O) → NotifyAction Unit → Form O
ActionValue next notify.Nothing = next notify.Nothing
ActionValue next (notify.SetBits u) = GivenValue (λ v. next (notify.SetBits v))
ActionValue next notify.Increment = next notify.Increment
ActionValue next (notify.Overwrite u) = GivenValue (λ v. next (notify.Overwrite v))
ActionValue next (notify.Keep u) = GivenValue (λ v. next (notify.Keep v))

-- the action of a notify: one word, or two
abbrev pub Action : {O : Type 0} → (NotifyAction Value → Form O) → Form O
Action next = ActionWord (ActionValue next)

-- the name of an object of a sort
abbrev pub ObjectName : {O : Type 0} → ObjectSort → (ℕ → Form O) → Form O
ObjectName sort next = Name (OfObject sort) next

-- the name of an event group
abbrev pub GroupName : {O : Type 0} → (ℕ → Form O) → Form O
GroupName next = Name OfGroup next

-- the name of a task
abbrev pub TaskName : {O : Type 0} → (ℕ → Form O) → Form O
TaskName next = Name OfTask next

-- the name of a variable
abbrev pub VariableName : {O : Type 0} → (VariableId → Form O) → Form O
VariableName next = Name OfVariable (λ x. next (variable_of x))

-- the name of a handler
abbrev pub HandlerName : {O : Type 0} → (ℕ → Form O) → Form O
HandlerName next = Name OfHandler next

-- the arguments of a condition: its bits, whether any of them or all, and whether they are kept or cleared
abbrev pub Bits : {O : Type 0} → (Condition → Form O) → Form O
Bits next =
    Number (λ mask.
    Choice (codes "any") (codes "all") (λ all.
    Choice (codes "keep") (codes "clear") (λ clear. next (record { mask = mask; all = all; clear = clear }))))

-- the word and the arguments of each op that is about nothing but its own task
abbrev pub basic_forms : List (Word × Form Op)
basic_forms =
    (codes "work", Number (λ n. Done (Work n)))
    ∷ (codes "delay", Number (λ n. Done (Delay n)))
    ∷ (codes "delay_until", Number (λ n. Done (DelayUntil n)))
    ∷ (codes "yield", Done Yield)
    ∷ (codes "time", Done Time)
    ∷ (codes "stamp", Done Stamp)
    ∷ (codes "since", Done Since)
    ∷ (codes "mark", GivenValue (λ v. Done (Mark v)))
    ∷ (codes "expect", Asked (λ condition. Done (Expect condition)))
    ∷ []

-- those of each op that is an edge of a block; the `end` of an `if` has no text of its own
abbrev pub block_forms : List (Word × Form Op)
block_forms =
    (codes "repeat", Turns (λ turns. Done (Repeat turns)))
    ∷ (codes "if", Asked (λ condition. Done (If condition)))
    ∷ (codes "else", Done Else)
    ∷ (codes "end", Done End)
    ∷ (codes "break", Done Break)
    ∷ []

-- those of each op on a queue
abbrev pub queue_forms : List (Word × Form Op)
queue_forms =
    (codes "send", ObjectName Queue (λ queue. GivenValue (λ v. WaitTime (λ ticks. Done (Await queue (Send v) ticks)))))
    ∷ (codes "send_front", ObjectName Queue (λ queue. GivenValue (λ v. WaitTime (λ ticks. Done (Await queue (SendFront v) ticks)))))
    ∷ (codes "overwrite", ObjectName Queue (λ queue. GivenValue (λ v. Done (Do queue (Overwrite v)))))
    ∷ (codes "receive", ObjectName Queue (λ queue. WaitTime (λ ticks. Done (Await queue Receive ticks))))
    ∷ (codes "peek", ObjectName Queue (λ queue. WaitTime (λ ticks. Done (Await queue Peek ticks))))
    ∷ (codes "waiting", ObjectName Queue (λ queue. Done (MessagesWaiting queue)))
    ∷ (codes "spaces", ObjectName Queue (λ queue. Done (SpacesAvailable queue)))
    ∷ []

-- those of each op on a semaphore or a mutex
abbrev pub semaphore_forms : List (Word × Form Op)
semaphore_forms =
    (codes "take", ObjectName Semaphore (λ semaphore. WaitTime (λ ticks. Done (Await semaphore Take ticks))))
    ∷ (codes "give", ObjectName Semaphore (λ semaphore. Done (Do semaphore Give)))
    ∷ (codes "lock", ObjectName Mutex (λ mutex. WaitTime (λ ticks. Done (Await mutex Lock ticks))))
    ∷ (codes "unlock", ObjectName Mutex (λ mutex. Done (GiveMutex mutex)))
    ∷ []

-- those of each op on an event group
abbrev pub group_forms : List (Word × Form Op)
group_forms =
    (codes "set", GroupName (λ group. Number (λ mask. Done (SetBits group mask))))
    ∷ (codes "clear", GroupName (λ group. Number (λ mask. Done (ClearBits group mask))))
    ∷ (codes "bits", GroupName (λ group. Done (GetBits group)))
    ∷ (codes "wait", GroupName (λ group. Bits (λ condition. WaitTime (λ ticks. Done (WaitBits group condition ticks)))))
    ∷ []

-- those of each op on notifications
abbrev pub notification_forms : List (Word × Form Op)
notification_forms =
    (codes "notify", TaskName (λ task. Action (λ action. Done (Notify task action))))
    ∷ (
      codes "notify_take",
      Choice (codes "decrement") (codes "clear")
          (λ clears. WaitTime (λ ticks. Done (AwaitNotification (awaited.Take clears) ticks))),
    )
    ∷ (
      codes "notify_wait",
      Number (λ entry. Number (λ exit. WaitTime (λ ticks.
          Done (AwaitNotification (awaited.Wait (record { entry = entry; exit = exit })) ticks)))),
    )
    ∷ (codes "notify_clear", Done (ClearNotification cleared.Pending))
    ∷ (codes "notify_value_clear", Number (λ bits. Done (ClearNotification (cleared.Bits bits))))
    ∷ []

-- those of each op that suspends or resumes, or opens or closes a critical section
abbrev pub suspension_forms : List (Word × Form Op)
suspension_forms =
    (codes "suspend", TaskName (λ task. Done (Suspend task)))
    ∷ (codes "resume", TaskName (λ task. Done (Resume task)))
    ∷ (codes "suspend_all", Done SuspendAll)
    ∷ (codes "resume_all", Done ResumeAll)
    ∷ (codes "enter_critical", Done EnterCritical)
    ∷ (codes "exit_critical", Done ExitCritical)
    ∷ []

-- those of each op on a handler, of tasks or of handlers
abbrev pub source_forms : {O : Type 0} → (ℕ → SourceOp → O) → List (Word × Form O)
source_forms made =
    (codes "arm", HandlerName (λ handler. Done (made handler Arm)))
    ∷ (codes "disarm", HandlerName (λ handler. Done (made handler Disarm)))
    ∷ (codes "raise", HandlerName (λ handler. Number (λ ticks. Done (made handler (Raise ticks)))))
    ∷ (codes "cancel", HandlerName (λ handler. Done (made handler Cancel)))
    ∷ []

-- those of each op on values, of tasks or of handlers
abbrev pub value_forms : {O : Type 0} → (ValueOp → O) → List (Word × Form O)
value_forms made =
    (codes "load", VariableName (λ x. Done (made (Load x))))
    ∷ (codes "store", VariableName (λ x. GivenValue (λ v. Done (made (Store x v)))))
    ∷ (codes "add", Operand (λ v. Done (made (Compute Add v))))
    ∷ (codes "sub", Operand (λ v. Done (made (Compute Sub v))))
    ∷ (codes "mul", Operand (λ v. Done (made (Compute Mul v))))
    ∷ (codes "div", Operand (λ v. Done (made (Compute Div v))))
    ∷ (codes "mod", Operand (λ v. Done (made (Compute Mod v))))
    ∷ (codes "and", Operand (λ v. Done (made (Compute And v))))
    ∷ (codes "or", Operand (λ v. Done (made (Compute Or v))))
    ∷ (codes "xor", Operand (λ v. Done (made (Compute Xor v))))
    ∷ []

-- those of each op
abbrev pub forms : List (Word × Form Op)
forms =
    basic_forms ++ block_forms ++ queue_forms ++ semaphore_forms ++ group_forms ++ notification_forms ++ suspension_forms
    ++ source_forms op.Source ++ value_forms op.Value

-- the arguments of a command, which sets bits or clears them
abbrev pub CommandForm : (clear : Bool) → Form IsrOp
CommandForm clear = GroupName (λ group. Number (λ mask. Done (isr.Command (record { group = group; mask = mask; clear = clear }))))

-- those of each op of a handler but the ones on handlers and on values. A handler never waits and has no loops: its `end` is that
-- of an `if`.
abbrev pub isr_call_forms : List (Word × Form IsrOp)
isr_call_forms =
    (codes "send", ObjectName Queue (λ queue. GivenValue (λ v. Done (isr.Do queue (Send v)))))
    ∷ (codes "send_front", ObjectName Queue (λ queue. GivenValue (λ v. Done (isr.Do queue (SendFront v)))))
    ∷ (codes "overwrite", ObjectName Queue (λ queue. GivenValue (λ v. Done (isr.Do queue (Overwrite v)))))
    ∷ (codes "receive", ObjectName Queue (λ queue. Done (isr.Do queue Receive)))
    ∷ (codes "peek", ObjectName Queue (λ queue. Done (isr.Do queue Peek)))
    ∷ (codes "give", ObjectName Semaphore (λ semaphore. Done (isr.Do semaphore Give)))
    ∷ (codes "resume", TaskName (λ task. Done (isr.Resume task)))
    ∷ (codes "set", CommandForm false)
    ∷ (codes "clear", CommandForm true)
    ∷ (codes "bits", GroupName (λ group. Done (isr.GetBits group)))
    ∷ (codes "notify", TaskName (λ task. Action (λ action. Done (isr.Notify task action))))
    ∷ (codes "mark", GivenValue (λ v. Done (isr.Mark v)))
    ∷ (codes "expect", Asked (λ condition. Done (isr.Expect condition)))
    ∷ (codes "if", Asked (λ condition. Done (isr.If condition)))
    ∷ (codes "else", Done isr.Else)
    ∷ (codes "end", Done isr.EndIf)
    ∷ []

-- those of each op of a handler
abbrev pub isr_forms : List (Word × Form IsrOp)
isr_forms = isr_call_forms ++ source_forms isr.Source ++ value_forms isr.Value

-- The first of these words write the condition, and the others are these. A word for an answer alone says what the last answer
-- must be, and after `not` what it must not be. After `below` and `above` there is what it is compared with.
abbrev pub WritesCondition : Naming → AnswerCondition → List Word → (others : List Word) → Type 0
WritesCondition named (Is wanted) (w ∷ ws) others = (answer_of named w ≡ Some wanted) × (ws ≡ others)
WritesCondition named (IsNot other) (w ∷ v ∷ ws) others = (w ≡ codes "not") × (answer_of named v ≡ Some other) × (ws ≡ others)
WritesCondition named (Below bound) (w ∷ v ∷ ws) others = (w ≡ codes "below") × (compared_of named v ≡ Some bound) × (ws ≡ others)
WritesCondition named (Above bound) (w ∷ v ∷ ws) others = (w ≡ codes "above") × (compared_of named v ≡ Some bound) × (ws ≡ others)
WritesCondition named _ _ others = ⊥

-- The words write the arguments of the op, by this form, if names are read in this way.
abbrev pub Writes : {O : Type 0} → Naming → Form O → List Word → O → Type 0
Writes named (Done made) [] op = made ≡ op
Writes named (Number next) (w ∷ ws) op = (n : ℕ) × (number_of w ≡ Some n) × Writes named (next n) ws op
Writes named (NumberUnless other next) (w ∷ ws) op = (n : Option ℕ) × (number_unless other w ≡ Some n) × Writes named (next n) ws op
Writes named (Operand next) (w ∷ ws) op = (v : Value) × (operand_of named w ≡ Some v) × Writes named (next v) ws op
Writes named (Choice first second next) (w ∷ ws) op = (b : Bool) × (choice_of first second w ≡ Some b) × Writes named (next b) ws op
Writes named (ActionWord next) (w ∷ ws) op = (a : NotifyAction Unit) × (action_of w ≡ Some a) × Writes named (next a) ws op
Writes named (Asked next) ws op =
    (condition : AnswerCondition) × (others : List Word)
    × WritesCondition named condition ws others × Writes named (next condition) others op
Writes named (Name sort next) (w ∷ ws) op = (entry : ℕ) × (named sort w ≡ Some entry) × Writes named (next entry) ws op
Writes named _ _ op = ⊥

-- the same, by one of these forms
abbrev pub WritesBy : {O : Type 0} → Naming → List (Word × Form O) → List Word → O → Type 0
WritesBy named [] ws op = ⊥
WritesBy named (form ∷ others) ws op = Writes named form.1 ws op ⊎ WritesBy named others ws op

-- Words spell an op, if names are read in this way: its own word, and then its arguments; its numbers are in their ranges.
abbrev pub Spells : Naming → Op → List Word → Type 0
Spells named op [] = ⊥
Spells named op (w ∷ ws) = (w ≡ word_of op) × WritesBy named forms ws op × InRange op

-- The numbers of a handler's op are in their ranges (profile). A number that is not named here is any of 32 bits.
abbrev pub is_isr_in_range : IsrOp → Bool
is_isr_in_range (isr.Command c) = is_mask c.mask
is_isr_in_range (isr.Value values) = is_defined values
is_isr_in_range (isr.Source handler what) = is_near what
is_isr_in_range _ = true

-- the same as a fact
abbrev pub IsrInRange : IsrOp → Type 0
IsrInRange op = is_isr_in_range op ≡ true

-- Words spell a handler's op, as they do a task's.
abbrev pub SpellsIsr : Naming → IsrOp → List Word → Type 0
SpellsIsr named op [] = ⊥
SpellsIsr named op (w ∷ ws) = (w ≡ word_of_isr op) × WritesBy named isr_forms ws op × IsrInRange op

-- ---- the same as a reading

-- what the first of some words says, and the others
abbrev pub take_by : {X : Type 0} → (Word → Option X) → List Word → Option (X × List Word)
take_by says [] = None
take_by says (w ∷ ws) = option_map (λ x. (x, ws)) (says w)

-- the condition that the first of some words write, and the others
abbrev pub take_condition : Naming → List Word → Option (AnswerCondition × List Word)
take_condition named [] = None
take_condition named (w ∷ ws) =
    if bytes_eq w (codes "not") then option_map (λ r. (IsNot r.0, r.1)) (take_by (answer_of named) ws)
    else if bytes_eq w (codes "below") then option_map (λ r. (Below r.0, r.1)) (take_by (compared_of named) ws)
    else if bytes_eq w (codes "above") then option_map (λ r. (Above r.0, r.1)) (take_by (compared_of named) ws)
    else option_map (λ wanted. (Is wanted, ws)) (answer_of named w)

-- the op whose arguments the words write, by this form
abbrev pub read : {O : Type 0} → Naming → Form O → List Word → Option O
read named (Done op) [] = Some op
read named (Done op) (w ∷ ws) = None
read named (Number next) ws = option_and_then (λ r. read named (next r.0) r.1) (take_by number_of ws)
read named (NumberUnless other next) ws = option_and_then (λ r. read named (next r.0) r.1) (take_by (number_unless other) ws)
read named (Operand next) ws = option_and_then (λ r. read named (next r.0) r.1) (take_by (operand_of named) ws)
read named (Choice first second next) ws = option_and_then (λ r. read named (next r.0) r.1) (take_by (choice_of first second) ws)
read named (ActionWord next) ws = option_and_then (λ r. read named (next r.0) r.1) (take_by action_of ws)
read named (Asked next) ws = option_and_then (λ r. read named (next r.0) r.1) (take_condition named ws)
read named (Name sort next) ws = option_and_then (λ r. read named (next r.0) r.1) (take_by (named sort) ws)

-- the same by the first of these forms that has this word
abbrev pub read_by : {O : Type 0} → Naming → List (Word × Form O) → Word → List Word → Option O
read_by named [] w ws = None
read_by named (form ∷ others) w ws = if bytes_eq w form.0 then read named form.1 ws else read_by named others w ws

-- the op, if its numbers are in their ranges
abbrev pub if_in_range : Op → Option Op
if_in_range op = if is_in_range op then Some op else None

-- the op that words spell, if names are read in this way
abbrev pub op_of : Naming → List Word → Option Op
op_of named [] = None
op_of named (w ∷ ws) = option_and_then if_in_range (read_by named forms w ws)

-- the same of a handler's op
abbrev pub if_isr_in_range : IsrOp → Option IsrOp
if_isr_in_range op = if is_isr_in_range op then Some op else None

abbrev pub isr_op_of : Naming → List Word → Option IsrOp
isr_op_of named [] = None
isr_op_of named (w ∷ ws) = option_and_then if_isr_in_range (read_by named isr_forms w ws)
