use Rattle.std.proofs.Common.{ℕ, List, sym, ◌∙◌, subst}
use Rattle.model.specs.Waiting.{wake_best}
use Rattle.objects.specs.WaitingLists.{number_of}
use Rattle.objects.specs.WaitersStand.{StandLocked, WaitersStand}
use Rattle.objects.proofs.Standing.{head_within}
use Rattle.objects.proofs.Waking.{counts_unwoken, counts_woken, stands_unwoken, stands_woken}
use Rattle.objects.proofs.Taking.{first_out, none_out}
use Rattle.objects.proofs.waiting_lists.WaitingLists.take_best.Goals as goal

pub returns-in_err-best-clause-left : goal.returns-in_err-best-clause-left
returns-in_err-best-clause-left c = none_out c.args.self.now (number_of c.args.list) c.in_err-best.ensures.best

pub returns-clause-left : goal.returns-clause-left
returns-clause-left c =
    c.drop_waiter.ensures.gone
    ∙ first_out c.args.self.now (number_of c.args.list) c.in_ok-best.best c.best.ensures.sound c.in_ok-best.ensures.best

pub returns-in_err-best-clause-wakes : goal.returns-in_err-best-clause-wakes
returns-in_err-best-clause-wakes c = λ s d h at shut.
    stands_unwoken c.args.self.now s d c.args.list h at shut c.in_err-best.ensures.best

pub returns-clause-wakes : goal.returns-clause-wakes
returns-clause-wakes c = λ s d h at shut.
    subst (λ (v : List (List (ℕ × ℕ))). WaitersStand v d (wake_best c.args.list s)) (sym c.drop_waiter.ensures.gone)
    (stands_woken c.args.self.now s d c.args.list h at shut c.in_ok-best.best c.in_ok-best.ensures.best)

pub returns-in_err-best-clause-counts : goal.returns-in_err-best-clause-counts
returns-in_err-best-clause-counts c = λ s d object receivers senders h at shut.
    counts_unwoken c.args.self.now s d c.args.list h.stand at shut object receivers senders h c.in_err-best.ensures.best

pub returns-clause-counts : goal.returns-clause-counts
returns-clause-counts c = λ s d object receivers senders h at shut.
    subst (λ (v : List (List (ℕ × ℕ))). StandLocked v d object receivers senders (wake_best c.args.list s))
    (sym c.drop_waiter.ensures.gone)
    (counts_woken c.args.self.now s d c.args.list h.stand at shut object
    receivers senders h c.in_ok-best.best c.in_ok-best.ensures.best)

pub returns-clause-woken : goal.returns-clause-woken
returns-clause-woken c = λ s h.
    c.drop_waiter.ensures.readied s h
    (head_within c.args.self.now s c.args.list (h.lists c.args.list) c.in_ok-best.best c.in_ok-best.ensures.best)
