use Rattle.std.proofs.Common.{◌≡◌, ◌&&◌, false, arith, refl, sym, ◌∙◌}
use Rattle.std.proofs.lemmas.Bool.{le-ltb, lt-ltb}
use Rattle.model.specs.Switching.{is_critical, is_scheduler_suspended}
use Rattle.model.specs.Step.{is_barred, may_switch}
use Rattle.machine.proofs.Either.{sections_are}
use Rattle.kernel.proofs.Held.{misuse_barred, misuse_fine, misuse_own, no_barred}
use Rattle.kernel.proofs.suspended.misuse.Goals.{else-is_scheduler_suspended-via-else-is_scheduler_suspended}
use Rattle.kernel.proofs.suspended.misuse.Goals.{else-is_scheduler_suspended-via-then-is_scheduler_suspended+else-may_switch}
use Rattle.kernel.proofs.suspended.misuse.Goals.{else-machine-gt0-via-else-machine-gt0}
use Rattle.kernel.proofs.suspended.misuse.Goals.{else-machine-gt0-via-then-machine-gt0+else-is_barred}
use Rattle.kernel.proofs.suspended.misuse.Goals as goal

pub returns-then-may_switch : goal.returns-then-may_switch
returns-then-may_switch c = λ s h. rw (sym (c.if-is_scheduler_suspended.ensures s h), sym c.if-may_switch.ensures) refl

pub returns-in-Some : goal.returns-in-Some
returns-in-Some c = λ s h.
    let fine : is_scheduler_suspended s && may_switch c.args.op.now ≡ false = elim c.else-is_scheduler_suspended.branch [
      | else-is_scheduler_suspended-via-then-is_scheduler_suspended+else-may_switch w ↦
          rw (sym (w.if-is_scheduler_suspended.ensures s h), sym w.if-may_switch.ensures) refl
      | else-is_scheduler_suspended-via-else-is_scheduler_suspended w ↦ rw (sym (w.if-is_scheduler_suspended.ensures s h)) refl
    ] in
    misuse_own s c.args.task c.args.op.now fine c.in-Some.misuse (sym (c.own_misuse.ensures s h) ∙ c.in-Some.is)

pub returns-then-is_barred : goal.returns-then-is_barred
returns-then-is_barred c = λ s h.
    let fine : is_scheduler_suspended s && may_switch c.args.op.now ≡ false = elim c.else-is_scheduler_suspended.branch [
      | else-is_scheduler_suspended-via-then-is_scheduler_suspended+else-may_switch w ↦
          rw (sym (w.if-is_scheduler_suspended.ensures s h), sym w.if-may_switch.ensures) refl
      | else-is_scheduler_suspended-via-else-is_scheduler_suspended w ↦ rw (sym (w.if-is_scheduler_suspended.ensures s h)) refl
    ] in
    let same = sections_are c.args.machine.now s h in
    let l = c.if-machine-gt0.true in
    misuse_barred s c.args.task c.args.op.now fine (sym (c.own_misuse.ensures s h) ∙ c.in_default.is)
    (lt-ltb 0 s.sections (omega arith)) (sym c.if-is_barred.ensures)

pub returns : goal.returns
returns c = λ s h.
    let fine : is_scheduler_suspended s && may_switch c.args.op.now ≡ false = elim c.else-is_scheduler_suspended.branch [
      | else-is_scheduler_suspended-via-then-is_scheduler_suspended+else-may_switch w ↦
          rw (sym (w.if-is_scheduler_suspended.ensures s h), sym w.if-may_switch.ensures) refl
      | else-is_scheduler_suspended-via-else-is_scheduler_suspended w ↦ rw (sym (w.if-is_scheduler_suspended.ensures s h)) refl
    ] in
    let same = sections_are c.args.machine.now s h in
    let free : is_critical s && is_barred c.args.op.now ≡ false = elim c.else-machine-gt0.branch [
      | else-machine-gt0-via-then-machine-gt0+else-is_barred w ↦ no_barred (is_critical s) (sym w.if-is_barred.ensures)
      | else-machine-gt0-via-else-machine-gt0 w ↦
          (let l = w.if-machine-gt0.false in rw (le-ltb 0 s.sections (omega arith)) refl)
    ] in
    sym (misuse_fine s c.args.task c.args.op.now fine (sym (c.own_misuse.ensures s h) ∙ c.in_default.is) free)
