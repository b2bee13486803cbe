use Rattle.std.proofs.Common.{◌∙◌, refl}
use Rattle.objects.proofs.Rings.{front_is, front_holds}
use Rattle.objects.proofs.items.Items.snapshot.Goals as goal

pub invariant_of-result : goal.invariant_of-result
invariant_of-result c =
    front_is c.self.invariant c.extend_from_slice.new.self.items
    (rw (c.in_ok-extend_from_slice.ensures.items, c.in_ok-reserve_exact.ensures.items, c.new-pool.ensures.items) refl)

pub returns : goal.returns
returns c =
    front_holds c.self.invariant c.extend_from_slice.new.self.items
    (rw (c.in_ok-extend_from_slice.ensures.items, c.in_ok-reserve_exact.ensures.items, c.new-pool.ensures.items) refl)
    ∙ c.self.view_is
