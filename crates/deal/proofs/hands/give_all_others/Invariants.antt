use Rattle.std.proofs.Common.{◌≡◌, ◌*◌, vec_len}
use Rattle.deal.specs.Dealing.{HasHands, KeepsHands}
use Rattle.deal.proofs.hands.give_all_others.Given as goal

abbrev pub invariant-loop-lane : goal.invariant-loop-lane
invariant-loop-lane l =
    (vec_len l.hands ≡ vec_len l.fn.hands)
    × HasHands (vec_len l.fn.hands) (64 * l.lane) l.hands.items
    × KeepsHands (vec_len l.fn.hands) 0 (64 * l.lane) l.fn.hands.items l.hands.items
