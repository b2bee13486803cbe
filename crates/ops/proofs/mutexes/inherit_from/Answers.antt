use Rattle.std.proofs.Common.{Bool, ℕ, ap, subst, ◌∙◌, refl}
use Rattle.std.proofs.Math.ListN.{length-set}
use Rattle.model.specs.declared.call.CallProgress.{CallProgress}
use Rattle.model.specs.State.{Progress, call_at, with_call}
use Rattle.model.specs.Mutexes.{inherits, raise}
use Rattle.sched.specs.Schedule.{priority_in}
use Rattle.machine.specs.declared.machine.Machine.{Machine}
use Rattle.machine.specs.StandsFor.{At, progress_in}
use Rattle.machine.proofs.Continuing.{not_placing, recalled}
use Rattle.ops.proofs.mutexes.inherit_from.Goals as goal

pub returns-clause-does : goal.returns-clause-does
returns-clause-does c = λ log s h l.
    let k = c.args.machine.now in
    let i : ℕ = c.args.task in
    let runs = c.requires.runs.current in
    let view = h.stands.rest.progress i in
    let then : CallProgress = record (call_at s i) { inherited = inherits i c.args.holder s } in
    let same =
    ap (λ (p : Progress). record p.call { inherited = c.inherits-inherited.result }) view
    ∙ ap (λ (b : Bool). record (call_at s i) { inherited = b }) (c.inherits-inherited.ensures s h.stands) in
    let mid =
    recalled k c.set_inherited.new.self log s h i runs
    (record (progress_in k.progress i).call { inherited = c.inherits-inherited.result })
    then c.set_inherited.ensures same (not_placing k c.set_inherited.new.self log s h i runs) (λ _. refl) in
    let priority =
    c.priority-priority.ensures.priority ∙ ap (λ (x : Machine). priority_in x.sched.priorities i) c.set_inherited.ensures
    ∙ h.stands.sched.priorities i in
    subst (λ (n : ℕ). At c.raise.new.machine log (raise c.args.holder n (with_call i then s)))
    priority (c.raise.ensures.does log (with_call i then s) mid (rw length-set l))
