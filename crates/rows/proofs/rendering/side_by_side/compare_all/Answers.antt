use Rattle.std.specs.List.{AllByRecursion}
use Rattle.std.proofs.Common.{◌≡◌, ◌++◌, ap, sym, subst, ◌∙◌}
use Rattle.rtrb.specs.Ring.{known_items, received, sent}
use Rattle.rows.specs.Pieces.{HaveReceived, IsRight}
use Rattle.rows.proofs.Inboxes.{each_left}
use Rattle.rows.proofs.rendering.side_by_side.compare_all.Goals as goal

pub returns : goal.returns
returns c rendering h =
    let old = c.in-Some.inbox.now.rendered in
    let new = c.slots_beside.new.self in
    let slots = c.slots_beside.ensures in
    let all : received old ++ known_items new ≡ sent c.args.own.now.rendered =
    ap (λ texts. texts ++ known_items new) (sym slots.looked.1) ∙ slots.fifo ∙ slots.producer.1 in
    let here =
    each_left (IsRight rendering) (received old) (known_items new) (subst (AllByRecursion (IsRight rendering)) (sym all) h.0) in
    subst (HaveReceived rendering) (sym c.in-Some.ensures.cases.0) (here, c.compare.ensures rendering h.1)
