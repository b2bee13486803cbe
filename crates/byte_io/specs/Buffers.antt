-- What a buffer holds.
use Rattle.std.specs.Prelude.{ℕ, Bool, List}
use Rattle.byte_io.specs.declared.buffer.Buffer.{Buffer}

abbrev pub bytes_of : Buffer → List ℕ
bytes_of b = b.bytes.items

abbrev pub buffer_failed : Buffer → Bool
buffer_failed b = b.failed

-- how many bytes it is for, at most
abbrev pub most_of : Buffer → ℕ
most_of b = b.most
