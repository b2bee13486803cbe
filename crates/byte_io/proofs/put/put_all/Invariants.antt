use Rattle.std.proofs.Common.{◌≡◌, false, length}
use Rattle.byte_io.specs.Bytes.{Sent}
use Rattle.byte_io.proofs.put.put_all.Given as goal

abbrev pub invariant-loop-rest : goal.invariant-loop-rest
invariant-loop-rest g l =
    Sent (g.W.Sink.held l.initial.writer) (g.W.Sink.held l.writer) l.bytes l.rest × (g.W.Sink.has_failed l.writer ≡ false)

abbrev pub decreases-loop-rest : goal.decreases-loop-rest
decreases-loop-rest g l = length l.rest
