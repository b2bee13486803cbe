use Rattle.rows.proofs.Inboxes.{go_one, goes_same}
use Rattle.rows.proofs.rendering.inbox.give_back.Goals as goal

pub returns : goal.returns
returns c =
    let new = c.give_back.new.self in
    go_one new c.args.inboxes.now c.args.inbox c.index-inboxes-inbox.result c.requires (goes_same _ new c.give_back.ensures)
