use Rattle.std.proofs.Common.{rules, arith}
use Rattle.std.proofs.KnownBytes.{Consumes-trans}
use Rattle.byte_io.proofs.read.read_at_most.Goals as goal

pub loop-bytes-preserved : goal.loop-bytes-preserved
loop-bytes-preserved g c = (
  rw c.in_ok-extend_from_slice-in-Ok-2.ensures.items (Consumes-trans _ _ _ _ _ c.loop-bytes.invariant.0 c.in-Ok.ensures.given.0),
  c.in-Ok.ensures.failed,
  search (rules, arith),
)
