use Rattle.std.proofs.Common.{ℕ, List, sym, subst, ◌*◌, ◌^◌, ◌%◌, bit_or}
use Rattle.lists.specs.Lists.{IsSound}
use Rattle.sched.specs.ReadyLists.{AreReadyLists}
use Rattle.sched.proofs.Bits.{bit_set}
use Rattle.sched.proofs.ready_lists.ReadyLists.push_back.Goals as goal

pub invariant_of-self : goal.invariant_of-self
invariant_of-self c =
    let list = c.args.list.number in
    let put = c.push_back.ensures.put in
    subst (λ (ls : List (List (ℕ × ℕ))). AreReadyLists ls (bit_or c.self.inside.occupied (1 * 2 ^ list % 2 ^ 32))) (sym put)
    (bit_set c.self.invariant list (c.args.task, list) c.requires.list (subst (IsSound 32 32) put c.push_back.ensures.sound))
