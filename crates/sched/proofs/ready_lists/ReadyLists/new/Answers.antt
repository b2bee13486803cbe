use Rattle.std.proofs.Common.{ℕ, List, sym, subst}
use Rattle.lists.specs.Lists.{IsSound}
use Rattle.sched.specs.ReadyLists.{AreReadyLists}
use Rattle.sched.proofs.Bits.{bits_empty}
use Rattle.sched.proofs.ready_lists.ReadyLists.new.Goals as goal

pub invariant_of-result : goal.invariant_of-result
invariant_of-result c =
    subst (λ (ls : List (List (ℕ × ℕ))). AreReadyLists ls 0) (sym c.new.ensures.empty)
    (bits_empty (subst (IsSound 32 32) c.new.ensures.empty c.new.ensures.sound))
