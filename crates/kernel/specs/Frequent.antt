-- The ops that most steps do.
use Rattle.std.specs.Prelude.{Bool, true, false}
use Rattle.model.specs.declared.op.Op.{Op}
use Rattle.model.specs.declared.op.Op.TheVariants.{Work, Delay, Yield, Time, Await, Do, SetBits, WaitBits, Notify}
use Rattle.model.specs.declared.op.Op.TheVariants.{AwaitNotification, End, If, Repeat, Value}

-- an op whose code is part of the step itself
abbrev pub is_frequent : Op → Bool
is_frequent (Work ticks) = true
is_frequent (Delay ticks) = true
is_frequent Yield = true
is_frequent Time = true
is_frequent (Await object access ticks) = true
is_frequent (Do object access) = true
is_frequent (SetBits group mask) = true
is_frequent (WaitBits group condition ticks) = true
is_frequent (Notify other action) = true
is_frequent (AwaitNotification wait ticks) = true
is_frequent End = true
is_frequent (If condition) = true
is_frequent (Repeat turns) = true
is_frequent (Value op) = true
is_frequent _ = false
