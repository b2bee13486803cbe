use Rattle.std.proofs.Common.{◌≡◌, ◌-◌, ◌+◌, ◌∷◌, ◌++◌, [], List, ◌∙◌, ap, arith, replicate, slice_index}
use Rattle.std.proofs.lemmas.List.{replicate_more}
use Rattle.atomic_table.specs.Seated.{TableId}
use Rattle.atomic_table.specs.Table.{Me}
use Rattle.deal.specs.declared.part.Part.{Part}
use Rattle.deal.specs.Parts.{less_a_seat, part, seat_part, zeros}
use Rattle.deal.specs.Tallies.{Tallied, fresh_seat, sheet, tallied}
use Rattle.deal.proofs.TallyMoves.{nothing, splits}
use Rattle.deal.proofs.tally.make_seats.Goals as goal

pub split_seat-seat-requires : goal.split_seat-seat-requires
split_seat-seat-requires c =
    let i = c.loop.invariant in (
      i.0.0,
      omega (arith, i.0.2),
      splits c.args.words.now.shared.key c.loop.rest.id c.loop.rest.me.0
          (omega (arith, ap (λ (p : Part). p.parts) i.1, c.loop-test.true))
          (λ k. ap (λ (p : Part). slice_index p.added k) i.1 ∙ nothing k),
    )

pub loop-preserved : goal.loop-preserved
loop-preserved c =
    let i = c.loop.invariant in
    let e = c.split_seat-seat.ensures in
    let z = c.args.words.now.shared.table_id in
    let all = c.args.seats in
    let seat = c.split_seat-seat.result in
    let fresh : Tallied = fresh_seat (sheet z all) in
    let left : all - c.loop.counter - 1 ≡ all - (c.loop.counter + 1) = omega arith in
    let mine : seat.me.0 ≡ part all 1 zeros zeros = ap (λ (m : Me (Unit {0}) Part). m.0) e.4 ∙ ap seat_part i.1 in
    let made : tallied seat.table_id seat.me.0 ≡ fresh =
    ap (λ (t : TableId). tallied t seat.me.0) (e.3 ∙ i.0.0) ∙ ap (tallied z) mine in (
      (e.0 ∙ i.0.0, ap (λ (m : Me (Unit {0}) Part). m.1) e.2 ∙ i.0.1, i.0.2),
      ap (λ (m : Me (Unit {0}) Part). m.0) e.2 ∙ ap less_a_seat i.1 ∙ ap (λ n. part all n zeros zeros) left,
      c.in_ok-push.ensures.items ∙ ap (λ (s : Tallied). c.loop.list.items ++ s ∷ []) made
          ∙ ap (λ (l : List Tallied). l ++ fresh ∷ []) i.2 ∙ replicate_more c.loop.counter fresh,
    )

pub returns-clause-rest : goal.returns-clause-rest
returns-clause-rest c =
    let i = c.loop.invariant in
    let none_left : c.args.seats - c.loop.counter ≡ 0 = omega (arith, c.loop-test.false) in
    (i.0, i.1 ∙ ap (λ n. part c.args.seats n zeros zeros) none_left)

pub returns-clause-seats : goal.returns-clause-seats
returns-clause-seats c =
    let i = c.loop.invariant in
    let all : c.loop.counter ≡ c.args.seats = omega (arith, c.loop-test.false, c.loop.auto.counter-end) in
    i.2 ∙ ap (λ n. replicate n (fresh_seat (sheet c.args.words.now.shared.table_id c.args.seats))) all
