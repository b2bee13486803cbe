use Rattle.std.proofs.Common.{◌-◌, ap, refl, arith}
use Rattle.model.specs.Ops.{with_sections}
use Rattle.ops.proofs.Held.{with_open}
use Rattle.ops.proofs.Suspending.{runs_by}
use Rattle.ops.proofs.critical.exit_critical.Goals as goal

pub complete-requires : goal.complete-requires
complete-requires c =
    let s = c.requires.agrees.0 in
    let h = c.requires.agrees.1 in
    let some = c.requires.open in
    let same = h.rest.sections in
    let left = with_open c.args.machine.now s.log s (record { stands = h; log = refl }) c.resume_all.new.self _ (s.sections - 1)
    (c.resume_all.ensures.section s h.sched (omega arith)) (ap (λ n. n - 1) same) in
    runs_by c.args.machine.now _ c.args.task s (record s { sections = s.sections - 1 }) c.requires.runs h left.stands refl refl

pub returns : goal.returns
unfolding with_sections
returns c = λ log s h.
    let some = c.requires.open in
    let same = h.stands.rest.sections in
    c.complete.ensures.does log _ (with_open c.args.machine.now log s h c.resume_all.new.self _ _
    (c.resume_all.ensures.section s h.stands.sched (omega arith)) (ap (λ n. n - 1) same))
