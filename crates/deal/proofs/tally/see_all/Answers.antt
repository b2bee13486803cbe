use Rattle.std.proofs.Common.{◌∙◌, ◌<◌, ap, arith, slice_index}
use Rattle.std.proofs.lemmas.List.{length-set}
use Rattle.deal.proofs.Places.{set_other}
use Rattle.deal.proofs.TallyMoves.{sees_more, sums_more}
use Rattle.deal.proofs.tally.see_all.Goals as goal

pub loop-kind-preserved : goal.loop-kind-preserved
loop-kind-preserved c =
    let i = c.loop-kind.invariant in
    let kind = c.loop-kind.kind in
    let kinds = c.loop-kind.kinds in
    let e = c.see.ensures in
    let n = c.see.result in
    let was = c.args.seat.now.me.0 in
    let seen = c.loop-kind.seat.me.0.seen in
    let here : kind < 7 = c.loop-kind-test.true in (
      e.seat,
      length-set kinds kind n ∙ i.1,
      e.same.0 ∙ i.2,
      e.same.1 ∙ i.3,
      e.same.2 ∙ i.4,
      sees_more was.seen seen c.see.new.seat.me.0.seen kinds kind n i.1
          e.seen.2 here e.seen.0 e.seen.1 (i.6 kind (omega arith)) i.5,
      (λ k high. ap (λ l. slice_index l k) e.seen.0 ∙ set_other seen kind k n (omega (arith, high)) ∙ i.6 k (omega (arith, high))),
      λ some all. sums_more was.added kinds kind n i.1 here
          (e.whole (omega (arith, some, i.3)) (omega (arith, e.parts (omega (arith, some, i.3)), all, i.3, i.4))
          ∙ ap (λ l. slice_index l kind) i.2)
          (i.7 some all),
    )
