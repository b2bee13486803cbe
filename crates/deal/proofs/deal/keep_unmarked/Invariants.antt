use Rattle.std.proofs.Common.{◌≡◌, ◌≤◌, vec_len}
use Rattle.std.specs.Prelude.{vec_capacity}
use Rattle.deal.specs.Closing.{unmarked}
use Rattle.deal.proofs.deal.keep_unmarked.Given as goal

abbrev pub invariant-loop-number : goal.invariant-loop-number
invariant-loop-number l =
    (l.rest.items ≡ unmarked l.number l.marks) × (vec_len l.rest ≤ l.number) × (vec_capacity l.rest ≡ vec_capacity l.fn.rest)
