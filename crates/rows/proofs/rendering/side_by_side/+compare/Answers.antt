use Rattle.std.specs.List.{AllByRecursion}
use Rattle.std.proofs.Common.{◌≡◌, ◌++◌, ap, sym, subst, ◌∙◌}
use Rattle.rtrb.specs.Ring.{known_items, received, sent}
use Rattle.rows.specs.Pieces.{HaveReceived, HaveSent, IsRight}
use Rattle.rows.proofs.Inboxes.{each_left}
use Rattle.rows.proofs.rendering.side_by_side.+compare.Goals as goal

pub returns : goal.returns
returns t c rendering h =
    let handed = subst (HaveSent rendering) c.in-Some.ensures.cases.0 h in
    let old = c.in-Some-split_first_mut.inbox.now.rendered in
    let new = c.slots_beside.new.self in
    let slots = c.slots_beside.ensures in
    let all : received old ++ known_items new ≡ sent c.in-Some.renderer.now.rendered =
    ap (λ texts. texts ++ known_items new) (sym slots.looked.1) ∙ slots.fifo ∙ slots.producer.1 in
    let here =
    each_left (IsRight rendering) (received old) (known_items new)
    (subst (AllByRecursion (IsRight rendering)) (sym all) handed.0) in
    subst (HaveReceived rendering) (sym c.in-Some-split_first_mut.ensures.cases.0) (here, c.compare.ensures rendering handed.1)
