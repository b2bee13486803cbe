-- What the sinks of a program's two streams rest on.
use Rattle.std.specs.Prelude.{Bool}
use Rattle.byte_io.specs.declared.pipe.Output.{Output}
use Rattle.byte_io.specs.declared.pipe.Messages.{Messages}

abbrev pub output_of : {W : Type 0} → Output W → W
output_of s = s.writer

abbrev pub output_failed : {W : Type 0} → Output W → Bool
output_failed s = s.failed

abbrev pub messages_of : {W : Type 0} → Messages W → W
messages_of s = s.writer

abbrev pub messages_failed : {W : Type 0} → Messages W → Bool
messages_failed s = s.failed
