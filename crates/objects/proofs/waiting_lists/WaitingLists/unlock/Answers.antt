use Rattle.std.proofs.Common.{ℕ, List, None, sym, ◌∙◌, ap, subst}
use Rattle.model.specs.State.{State, for_each}
use Rattle.model.specs.Switching.{make_ready}
use Rattle.model.specs.declared.call.WaitList.TheVariants.{ToSend}
use Rattle.objects.specs.WaitingLists.{best_of, without_best}
use Rattle.objects.specs.WaitersStand.{WaitersStand, opened}
use Rattle.objects.proofs.Unlocking.{awakened_are, each_append, senders_stay, stands_opened, unlocks}
use Rattle.objects.proofs.waiting_lists.WaitingLists.unlock.Goals as goal

pub returns-clause-to_send : goal.returns-clause-to_send
returns-clause-to_send c =
    c.take-to_send.ensures.taken
    ∙ ap (best_of (ToSend c.args.object) c.args.senders) c.take-to_receive.ensures.left
    ∙ senders_stay c.args.self.now c.args.object c.args.receivers c.args.senders

pub returns-clause-awakened : goal.returns-clause-awakened
returns-clause-awakened c = λ s h.
    awakened_are c.args.self.now s c.args.object c.args.receivers c.args.senders
    _ _ h c.take-to_receive.ensures.taken (returns-clause-to_send c)

pub returns-clause-woken : goal.returns-clause-woken
returns-clause-woken c = λ s h.
    unlocks c.args.self.now s c.args.object c.args.receivers c.args.senders
    _ _ h c.take-to_receive.ensures.taken (returns-clause-to_send c)

pub returns-clause-unlocks : goal.returns-clause-unlocks
returns-clause-unlocks c = λ s h.
    let is : List ℕ = c.take-to_receive.result.items in
    let js : List ℕ = c.take-to_send.result.items in
    let one = c.take-to_receive.ensures.woken (opened s) (stands_opened c.args.self.now s h.stand) in
    let two = c.take-to_send.ensures.woken (for_each make_ready is (opened s)) one in
    subst (λ (t : State). WaitersStand c.take-to_send.new.self None t)
    (sym (returns-clause-woken c s h ∙ each_append is js (opened s))) two

pub returns-clause-left : goal.returns-clause-left
returns-clause-left c =
    c.take-to_send.ensures.left ∙ ap (without_best (ToSend c.args.object) c.args.senders) c.take-to_receive.ensures.left
