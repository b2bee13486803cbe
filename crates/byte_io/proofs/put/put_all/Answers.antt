use Rattle.std.proofs.Common.{arith}
use Rattle.std.proofs.lemmas.Bool.Decides.{nat_tests}
use Rattle.byte_io.proofs.Sending.{Sent-more}
use Rattle.byte_io.proofs.put.put_all.Goals as goal

pub loop-rest-preserved : goal.loop-rest-preserved
loop-rest-preserved g c = (
  Sent-more _ _ _ _ c.loop-rest.rest.now c.in-Ok.n c.loop-rest.invariant.0 c.in-Ok.ensures.within c.in-Ok.ensures.taken,
  grind (arith, nat_tests),
)
