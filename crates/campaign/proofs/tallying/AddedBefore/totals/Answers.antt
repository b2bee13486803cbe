use Rattle.std.proofs.Common.{◌<◌, ◌^◌, ℕ, sym, arith}
use Rattle.campaign.specs.Kinds.{kind_in}
use Rattle.campaign.proofs.Ends.{kind_in-few}
use Rattle.campaign.proofs.tallying.AddedBefore.totals.Goals as goal

pub returns : goal.returns
returns c these same few counts =
    let small : (kind : ℕ) → kind_in these kind < 2 ^ 32 = λ kind. (let some = kind_in-few these kind in omega arith) in
    let pass = c.more.ensures (kind_in these 0) (small 0) (counts 0 (omega arith)) in
    let check = c.more-2.ensures (kind_in these 1) (small 1) (counts 1 (omega arith)) in
    let misuse = c.more-3.ensures (kind_in these 2) (small 2) (counts 2 (omega arith)) in
    let ticks = c.more-4.ensures (kind_in these 3) (small 3) (counts 3 (omega arith)) in
    let steps = c.more-5.ensures (kind_in these 4) (small 4) (counts 4 (omega arith)) in
    let stuck = c.more-6.ensures (kind_in these 5) (small 5) (counts 5 (omega arith)) in
    let not_reached = c.more-7.ensures (kind_in these 6) (small 6) (counts 6 (omega arith)) in
    λ i. record {
      rows = sym same i;
      pass = pass i;
      check = check i;
      misuse = misuse i;
      ticks = ticks i;
      steps = steps i;
      stuck = stuck i;
      not_reached = not_reached i;
    }
