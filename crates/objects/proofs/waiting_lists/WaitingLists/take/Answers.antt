use Rattle.std.proofs.Common.{◌≡◌, ℕ, suc, ◌+◌, List, sym, ◌∙◌, ap, subst, arith}
use Rattle.objects.proofs.Taking.{TakenOut, takes_next, takes_no_more}
use Rattle.objects.proofs.waiting_lists.WaitingLists.take.Goals.{in-Some, in_default}
use Rattle.objects.proofs.waiting_lists.WaitingLists.take.Goals as goal

pub loop-preserved : goal.loop-preserved
loop-preserved c =
    let old = c.args.self.now in
    let list = c.args.list in
    let taken = c.loop.taken.items in
    let next : suc c.loop.counter ≡ c.loop.counter + 1 = omega arith in
    let P : List ℕ → Type 0 = λ items. TakenOut old c.take_best.new.self list (c.loop.counter + 1) items in
    elim c.match-take_best.branch [
      | in-Some w ↦
          let one =
          takes_next old c.loop.self list c.loop.counter taken c.in_order.ensures.sound
          c.loop.invariant w.in-Some.best w.in-Some.ensures.best c.take_best.new.self
          c.take_best.ensures.left c.take_best.ensures.sound w.in-Some.ensures.woken in
          let items = ap (λ t. t.items) w.taken-is ∙ w.push.ensures.items in
          subst P (sym items) (rw (← next) one)
      | in_default w ↦
          let none =
          takes_no_more old c.loop.self list c.loop.counter taken c.in_order.ensures.sound
          c.loop.invariant w.in_default.ensures.best c.take_best.new.self
          c.take_best.ensures.left c.take_best.ensures.sound w.in_default.ensures.woken in
          subst P (sym (ap (λ t. t.items) w.taken-is)) (rw (← next) none)
    ]
