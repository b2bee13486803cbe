use Rattle.std.proofs.Common.{refl, arith}
use Rattle.ops.proofs.Held.{none_to_apply, runs_released}
use Rattle.ops.proofs.holds.release.Goals as goal

pub returns-then-held-gt0-clause-runs : goal.returns-then-held-gt0-clause-runs
returns-then-held-gt0-clause-runs c = λ i r.
    let s = c.requires.can.agrees.0 in
    let h = c.requires.can.agrees.1 in
    runs_released c.args.machine.now c.apply_held.new.machine i s r h
    (c.apply_held.ensures.does s.log s (record { stands = h; log = refl })).stands

pub returns-else-held-gt0-clause-does : goal.returns-else-held-gt0-clause-does
returns-else-held-gt0-clause-does c = λ log s h.
    let none = c.if-held-gt0.false in
    let e = c.held.ensures.held in
    none_to_apply c.args.machine.now log s h (omega arith)
