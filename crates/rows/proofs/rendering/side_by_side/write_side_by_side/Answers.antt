use Rattle.std.proofs.Common.{◌∷◌}
use Rattle.rows.proofs.Inboxes.{fresh_sent, pairs_both}
use Rattle.rows.proofs.rendering.side_by_side.write_side_by_side.Goals as goal

pub compare_all-requires : goal.compare_all-requires
compare_all-requires g c =
    let old = c.args.lanes.now in
    let written = c.write_beside-written in
    let new = written.new.lanes in
    rw (c.deref_mut.ensures.value, c.deref_mut-2.ensures.value)
    (pairs_both old.own new.own old.others.items new.others.items written.ensures.ring written.ensures.pairs
    new.inboxes.items (written.ensures.inboxes.pairs (old.own ∷ old.others.items) c.requires.pairs))

pub returns-clause-text : goal.returns-clause-text
returns-clause-text g c =
    let written = c.write_beside-written.ensures in
    let rendering = c.args.rendering.now in
    let lanes = c.args.lanes.now in
    let sent = fresh_sent rendering (lanes.own ∷ lanes.others.items) c.requires.fresh in
    let compared = rw (c.deref_mut.ensures.value, c.deref_mut-2.ensures.value) at c.compare_all.ensures rendering in
    written.text (compared (written.own sent.0, written.others sent.1))
