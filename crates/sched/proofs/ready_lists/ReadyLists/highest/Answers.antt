use Rattle.std.proofs.Common.{rules, ℕ, List, ◌<◌, ◌-◌, ◌^◌, subst, Some}
use Rattle.std.specs.Int.{leading_zeros, w32}
use Rattle.sched.specs.ReadyLists.{IsHighest}
use Rattle.sched.proofs.Bits.{highest_is}
use Rattle.sched.proofs.ready_lists.ReadyLists.highest.Goals as goal

pub returns : goal.returns
returns c =
    let fits : c.self.inside.occupied < 2 ^ 32 = search rules in
    record {
      highest =
          subst (λ (ls : List (List (ℕ × ℕ))). IsHighest ls (Some (31 - leading_zeros w32 c.self.inside.occupied)))
          c.self.view_is (highest_is c.self.invariant c.if-self-eq0.false fits);
    }
