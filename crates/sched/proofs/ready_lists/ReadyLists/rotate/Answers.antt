use Rattle.std.proofs.Common.{ℕ, List, sym, subst}
use Rattle.lists.specs.Lists.{IsSound}
use Rattle.sched.specs.ReadyLists.{AreReadyLists}
use Rattle.sched.proofs.Bits.{bit_rotated}
use Rattle.sched.proofs.ready_lists.ReadyLists.rotate.Goals as goal

pub invariant_of-self : goal.invariant_of-self
invariant_of-self c =
    let put = c.rotate.ensures.rotated in
    subst (λ (ls : List (List (ℕ × ℕ))). AreReadyLists ls c.self.inside.occupied) (sym put)
    (bit_rotated c.self.invariant c.args.list.number c.requires (subst (IsSound 32 32) put c.rotate.ensures.sound))
