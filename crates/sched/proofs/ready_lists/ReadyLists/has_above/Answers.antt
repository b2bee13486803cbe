use Rattle.std.proofs.Common.{rules, ℕ, List, ◌<◌, ◌^◌, subst}
use Rattle.sched.specs.ReadyLists.{IsHighest}
use Rattle.sched.proofs.Bits.{above_by_bits}
use Rattle.sched.proofs.ready_lists.ReadyLists.has_above.Goals as goal

pub returns : goal.returns
returns c =
    let fits : c.self.inside.occupied < 2 ^ 32 = search rules in
    let above = above_by_bits c.self.invariant fits c.args.list.number in
    record { above = (above.0, subst (λ (ls : List (List (ℕ × ℕ))). IsHighest ls above.0) c.self.view_is above.1, above.2) }
