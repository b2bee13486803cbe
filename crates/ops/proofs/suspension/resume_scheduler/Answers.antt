use Rattle.std.proofs.Common.{◌≡◌, ◌∙◌, refl, arith}
use Rattle.ops.proofs.Held.{with_suspensions, last_resumed, more_resumed, in_force}
use Rattle.ops.proofs.suspension.resume_scheduler.Goals as goal

pub release-requires : goal.release-requires
release-requires c =
    let can = c.requires.can in
    let s = can.agrees.0 in
    let less =
    with_suspensions c.args.machine.now s.log s (record { stands = can.agrees.1; log = refl }) c.resume_all.new.self
    _ (c.resume_all.ensures.stands s can.agrees.1.sched
    (in_force s c.args.machine.now can.agrees.1 c.requires.some c.requires.closed)) in
    let none =
    let was = can.depth in
    let now = c.resume_all.ensures.depth in
    let left = c.suspensions.ensures.suspensions ∙ c.resume_all.ensures.suspensions in
    let last = c.if-suspensions-eq0.true in
    let z : c.resume_all.new.self.depth ≡ 0 = omega arith in
    z in
    record { can = record { agrees = (_, less.stands); free = can.free; age = can.age; depth = none } }

pub returns-then-suspensions-eq0-clause-does : goal.returns-then-suspensions-eq0-clause-does
returns-then-suspensions-eq0-clause-does c = λ log s h.
    let e = h.stands.sched.suspensions in
    let none_open = h.stands.rest.sections in
    let shut = c.requires.closed in
    let some = c.requires.some in
    let left = c.suspensions.ensures.suspensions ∙ c.resume_all.ensures.suspensions in
    let none = c.if-suspensions-eq0.true in
    last_resumed c.args.app.now c.release.new.machine log s (omega arith)
    (c.release.ensures.does log _ (with_suspensions c.args.machine.now log s h c.resume_all.new.self
    _ (c.resume_all.ensures.stands s h.stands.sched
    (in_force s c.args.machine.now h.stands c.requires.some c.requires.closed))))

pub returns-then-suspensions-eq0-clause-depth : goal.returns-then-suspensions-eq0-clause-depth
returns-then-suspensions-eq0-clause-depth c = λ _.
    let a = c.release.ensures.leaves.depth in
    let b = c.resume_all.ensures.depth in
    let d = c.requires.can.depth in
    let left = c.suspensions.ensures.suspensions ∙ c.resume_all.ensures.suspensions in
    let none = c.if-suspensions-eq0.true in
    omega arith

pub returns-else-suspensions-eq0-clause-does : goal.returns-else-suspensions-eq0-clause-does
returns-else-suspensions-eq0-clause-does c = λ log s h.
    let e = h.stands.sched.suspensions in
    let none_open = h.stands.rest.sections in
    let shut = c.requires.closed in
    let left = c.suspensions.ensures.suspensions ∙ c.resume_all.ensures.suspensions in
    let some = c.requires.some in
    let more = c.if-suspensions-eq0.false in
    more_resumed c.args.app.now _ log s (λ one. more (let z : c.suspensions.result ≡ 0 = omega arith in z))
    (with_suspensions c.args.machine.now log s h c.resume_all.new.self
    _ (c.resume_all.ensures.stands s h.stands.sched
    (in_force s c.args.machine.now h.stands c.requires.some c.requires.closed)))
