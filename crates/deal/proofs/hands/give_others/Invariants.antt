use Rattle.std.proofs.Common.{◌≡◌, ◌+◌, ◌*◌, vec_len}
use Rattle.deal.specs.Dealing.{HasHands, KeepsHands}
use Rattle.deal.proofs.hands.give_others.Given as goal

abbrev pub invariant-loop-step : goal.invariant-loop-step
invariant-loop-step l =
    (l.workers ≡ vec_len l.fn.hands) × (vec_len l.hands ≡ vec_len l.fn.hands)
    × HasHands (vec_len l.fn.hands) (64 * l.lane + l.step) l.hands.items
    × KeepsHands (vec_len l.fn.hands) (64 * l.lane) (64 * l.lane + l.step) l.fn.hands.items l.hands.items
