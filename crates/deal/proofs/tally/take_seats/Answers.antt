use Rattle.std.proofs.Common.{◌≡◌, ◌∙◌, ◌++◌, ◌∷◌, [], List, length, length-append, sym, ap, subst, arith, slice_index}
use Rattle.deal.specs.Tallies.{Tallied, AreEachOf, AtMost, NoneSawMore, added_in, sheet}
use Rattle.deal.proofs.Members.{each_left, each_last}
use Rattle.deal.proofs.Sums.{total_append}
use Rattle.deal.proofs.tally.take_seats.Goals as goal

pub loop-seat-preserved : goal.loop-seat-preserved
loop-seat-preserved c =
    let i = c.loop-seat.invariant in
    let rest = c.pop.new.self.items in
    let seat = c.in-Some.seat in
    let was : c.loop-seat.seats.items ≡ rest ++ seat ∷ [] = c.in-Some.ensures.items in
    let e = c.give_back.ensures in
    let z = sheet c.args.words.now.shared.table_id c.args.rest.now.me.0.seats in (
      e.seat,
      e.taken.0 ∙ i.1,
      each_left (λ (s : Tallied). s.sheet ≡ z) rest (seat ∷ []) (subst (AreEachOf z) was i.2),
      omega (arith, e.taken.1, i.3, ap length was, length-append rest (seat ∷ [])),
      (λ k.
          omega (
            arith,
            e.taken.2 k,
            i.4 k,
            ap (λ (l : List Tallied). added_in k l) was,
            total_append (λ (s : Tallied). slice_index s.added k) rest (seat ∷ []),
          )),
      λ counts mine others. i.5 counts (λ k low. omega (arith, (e.taken.3 k).0, mine k low))
          (subst (NoneSawMore counts) (sym was) (each_last (λ (s : Tallied). AtMost s.seen counts)
          rest seat others (λ k low. omega (arith, (e.taken.3 k).1, mine k low)))),
    )
