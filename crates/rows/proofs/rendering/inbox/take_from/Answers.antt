use Rattle.std.proofs.Common.{◌<◌, ◌∙◌, length, arith}
use Rattle.std.proofs.lemmas.List.{length-set}
use Rattle.rows.proofs.Inboxes.{go_further, go_one, received_there}
use Rattle.rows.proofs.rendering.inbox.take_from.Goals as goal

pub returns-in-Some-clause-inboxes : goal.returns-in-Some-clause-inboxes
returns-in-Some-clause-inboxes c =
    let i = c.loop-inbox.invariant in
    let within : c.loop-inbox.inbox < length c.loop-inbox.inboxes = omega (arith, i.count, c.loop-inbox-test.true) in
    go_further _ _ _ i.on
    (go_one c.take.new.self c.loop-inbox.inboxes c.loop-inbox.inbox c.index-inboxes-inbox.result within c.take.ensures.inbox)

pub returns-in-Some-clause-right : goal.returns-in-Some-clause-right
returns-in-Some-clause-right c rendering h =
    let within : c.loop-inbox.inbox < length c.loop-inbox.inboxes =
    omega (arith, c.loop-inbox.invariant.count, c.loop-inbox-test.true) in
    c.in-Some.ensures.right rendering (received_there c.take.new.self rendering c.loop-inbox.inboxes c.loop-inbox.inbox within h)

pub loop-inbox-preserved : goal.loop-inbox-preserved
loop-inbox-preserved c =
    let i = c.loop-inbox.invariant in
    let within : c.loop-inbox.inbox < length c.loop-inbox.inboxes = omega (arith, i.count, c.loop-inbox-test.true) in
    record {
      on =
          go_further _ _ _ i.on
          (go_one c.take.new.self c.loop-inbox.inboxes c.loop-inbox.inbox c.index-inboxes-inbox.result within c.take.ensures.inbox);
      count = length-set c.loop-inbox.inboxes c.loop-inbox.inbox c.take.new.self ∙ i.count;
    }
