use Rattle.std.proofs.Common.{arith, refl, sym}
use Rattle.std.proofs.lemmas.Bool.{le-ltb, lt-ltb}
use Rattle.machine.proofs.Either.{sections_are}
use Rattle.kernel.proofs.suspended.end_misuse.Goals as goal

pub returns-then-is_scheduler_suspended : goal.returns-then-is_scheduler_suspended
returns-then-is_scheduler_suspended c = λ s h. rw (sym (c.if-is_scheduler_suspended.ensures s h)) refl

pub returns-then-machine-gt0 : goal.returns-then-machine-gt0
returns-then-machine-gt0 c = λ s h.
    let same = sections_are c.args.machine.now s h in
    let l = c.if-machine-gt0.true in
    rw (sym (c.if-is_scheduler_suspended.ensures s h), lt-ltb 0 s.sections (omega arith)) refl

pub returns : goal.returns
returns c = λ s h.
    let same = sections_are c.args.machine.now s h in
    let l = c.if-machine-gt0.false in
    rw (sym (c.if-is_scheduler_suspended.ensures s h), le-ltb 0 s.sections (omega arith)) refl
