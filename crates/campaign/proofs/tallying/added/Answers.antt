use Rattle.std.proofs.Common.{◌∷◌, ◌++◌, ◌∙◌, [], take, slice_index, ap, sym, arith}
use Rattle.std.proofs.lemmas.List.{take_more}
use Rattle.deal.specs.Tallies.{Tallied}
use Rattle.deal.proofs.Sums.{total_append}
use Rattle.campaign.proofs.tallying.added.Goals as goal

pub loop-seat-preserved : goal.loop-seat-preserved
loop-seat-preserved c =
    let seats = c.args.seats.now in
    let seat = c.seat-item.result in
    let index = c.loop-seat.seat-index in
    let next =
    take_more seats index seat c.loop-seat-test.true
    ∙ ap (λ (s : Tallied). take index seats ++ s ∷ []) (sym c.seat-item.is) in
    let both = total_append (λ (s : Tallied). slice_index s.added c.args.kind) (take index seats) (seat ∷ []) in
    let room = c.room.ensures in
    let sum = c.loop-seat.invariant.sum in
    let small = c.loop-seat.invariant.small in
    record { sum = rw next (omega arith); small = omega arith }
