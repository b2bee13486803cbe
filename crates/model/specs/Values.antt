-- Values of a script: numbers, the last answer, and variables; and what its ops calculate (profile).
use Rattle.std.specs.Prelude.{ℕ, ◌+◌, ◌-◌, ◌*◌, ◌/◌, ◌%◌, ◌==◌, Bool, false, if◌then◌else◌, List, Option, Some, None, is_none}
use Rattle.std.specs.Prelude.{unwrap_or, option_map, option_and_then, slice_index_or, slice_set, bit_and, bit_or, bit_xor}
use Rattle.model.specs.declared.op.Access.{Access}
use Rattle.model.specs.declared.op.Access.TheVariants.{Send, SendFront, Overwrite, Receive, Peek, Take, Give, Lock}
use Rattle.model.specs.declared.value.Value.{Value}
use Rattle.model.specs.declared.value.Value.TheVariants.{Number, Answer, Variable}
use Rattle.model.specs.declared.value.Arithmetic.{Arithmetic}
use Rattle.model.specs.declared.value.Arithmetic.TheVariants.{Add, Sub, Mul, Div, Mod, And, Or, Xor}
use Rattle.model.specs.declared.value.ValueOp.{ValueOp}
use Rattle.model.specs.declared.value.ValueOp.TheVariants.{Load, Store, Compute}

-- ---- what a value is

-- this one of these variables
abbrev pub variable_in : List ℕ → ℕ → ℕ
variable_in variables x = slice_index_or variables x 0

-- the value, if there is one: the last answer may be `none`
abbrev pub value_of : (variables : List ℕ) → (answer : Option ℕ) → Value → Option ℕ
value_of variables answer (Number n) = Some n
value_of variables answer Answer = answer
value_of variables answer (Variable x) = Some (variable_in variables x.number)

-- There is no such value: it is the last answer, and that is `none`.
abbrev pub is_missing : (answer : Option ℕ) → Value → Bool
is_missing answer Answer = is_none answer
is_missing answer _ = false

-- the value as a number; if there is none, it isn't asked for
abbrev pub number_of : (variables : List ℕ) → (answer : Option ℕ) → Value → ℕ
number_of variables answer value = unwrap_or (value_of variables answer value) 0

-- ---- calls that put an item into a queue

-- the item, if the call puts one
abbrev pub item_in : {Item : Type 0} → Access Item → Option Item
item_in (Send item) = Some item
item_in (SendFront item) = Some item
item_in (Overwrite item) = Some item
item_in _ = None

-- The item is a value that there is not.
abbrev pub lacks_item : (answer : Option ℕ) → Access Value → Bool
lacks_item answer access = unwrap_or (option_map (is_missing answer) (item_in access)) false

-- the call with its value as a number
abbrev pub with_number : (variables : List ℕ) → (answer : Option ℕ) → Access Value → Access ℕ
with_number variables answer (Send value) = Send (number_of variables answer value)
with_number variables answer (SendFront value) = SendFront (number_of variables answer value)
with_number variables answer (Overwrite value) = Overwrite (number_of variables answer value)
with_number variables answer Receive = Receive
with_number variables answer Peek = Peek
with_number variables answer Take = Take
with_number variables answer Give = Give
with_number variables answer Lock = Lock

-- ---- arithmetic

-- what is calculated of two numbers of 32 bits, modulo 2^32; nothing is divided by 0
abbrev pub computed : Arithmetic → ℕ → ℕ → Option ℕ
computed Add a b = Some ((a + b) % 4294967296)
computed Sub a b = Some ((a + 4294967296 - b) % 4294967296)
computed Mul a b = Some (a * b % 4294967296)
computed Div a b = if b == 0 then None else Some (a / b)
computed Mod a b = if b == 0 then None else Some (a % b)
computed And a b = Some (bit_and a b)
computed Or a b = Some (bit_or a b)
computed Xor a b = Some (bit_xor a b)

-- what an op on values returns; `None` if it has no value to work with
abbrev pub answer_of : (variables : List ℕ) → (answer : Option ℕ) → ValueOp → Option ℕ
answer_of variables answer (Load x) = Some (variable_in variables x.number)
answer_of variables answer (Store x value) = value_of variables answer value
answer_of variables answer (Compute kind value) =
    option_and_then (λ a. option_and_then (computed kind a) (value_of variables answer value)) answer

-- the variables after an op that returns this
abbrev pub stored : ValueOp → (answer : Option ℕ) → List ℕ → List ℕ
stored (Store x value) (Some n) variables = slice_set variables x.number n
stored _ answer variables = variables
