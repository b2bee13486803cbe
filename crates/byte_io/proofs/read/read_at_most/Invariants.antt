use Rattle.std.proofs.Common.{◌≡◌, ◌-◌, ◌^◌, ◌≤◌, false, vec_len}
use Rattle.std.specs.Io.KnownBytes.{Consumes}
use Rattle.byte_io.proofs.read.read_at_most.Given as goal

abbrev pub invariant-loop-bytes : goal.invariant-loop-bytes
invariant-loop-bytes g l =
    Consumes (g.R.Source.left l.fn.source) (g.R.Source.left l.source) l.bytes.items × (g.R.Source.has_failed l.source ≡ false)
    × (vec_len l.bytes ≤ l.fn.most)

abbrev pub decreases-loop-bytes : goal.decreases-loop-bytes
decreases-loop-bytes g l = 2 ^ 64 - vec_len l.bytes
