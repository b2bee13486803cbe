use Rattle.std.proofs.Common.{◌<◌, ◌+◌, ℕ, List, ap, subst, sym, arith}
use Rattle.explorer.proofs.Choosing.{SetUntil, low_of, set_all, set_more, set_same}
use Rattle.explorer.proofs.choices.set_of.Goals as goal
use Rattle.explorer.proofs.choices.set_of.Goals.{then-marks-number+in_ok-push, else-marks-number}

pub loop-number-preserved : goal.loop-number-preserved
loop-number-preserved c =
    let handlers = c.args.handlers.now in
    let n = c.loop-number.number in
    elim c.if-marks-number.branch [
      | then-marks-number+in_ok-push w ↦
          subst (λ (xs : List ℕ). SetUntil handlers xs (n + 1)) (sym (ap (λ v. v.items) w.set-is))
          (set_more handlers c.loop-number.set.items n c.loop-number.invariant _ w.in_ok-push.ensures.items
          ((c.marks_of-marks.ensures.marks n).0 w.if-marks-number.true))
      | else-marks-number w ↦
          subst (λ (xs : List ℕ). SetUntil handlers xs (n + 1)) (sym (ap (λ v. v.items) w.set-is))
          (set_same handlers c.loop-number.set.items n c.loop-number.invariant
          (λ among. let marked = (c.marks_of-marks.ensures.marks n).1 among in let not = w.if-marks-number.false in absurd (cc)))
    ]

pub returns-clause-set : goal.returns-clause-set
returns-clause-set c =
    let handlers = c.args.handlers.now in
    let n = c.loop-number.number in
    set_all handlers c.loop-number.set.items n c.loop-number.invariant
    (λ handler among.
    let low : handler < 17 = low_of c.marks_of-marks.result handler c.marks_of-marks.ensures.long
    ((c.marks_of-marks.ensures.marks handler).1 among) in
    let end = c.loop-number-test.false in omega (arith, low, end))
