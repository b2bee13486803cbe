-- How reading to the end may fail.
use Rattle.std.specs.Prelude.{Bool, true, false, Result, Ok, Err}
use Rattle.byte_io.specs.declared.read.ReadFault.{ReadFault}
use Rattle.byte_io.specs.declared.read.ReadFault.TheVariants.{Failed, Memory}

-- Of the errors only `Failed` is the source's.
abbrev pub read_failed : {T : Type 0} → Result T ReadFault → Bool
read_failed (Ok x) = false
read_failed (Err Failed) = true
read_failed (Err Memory) = false
