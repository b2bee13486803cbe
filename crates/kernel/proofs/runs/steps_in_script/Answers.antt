use Rattle.std.proofs.Common.{rules, ◌≡◌, ◌<◌, ◌≤◌, ◌+◌, ◌∙◌, true, ℕ, Option, Some, length, refl, ap, sym, subst, arith}
use Rattle.std.specs.Option.{IfSome}
use Rattle.model.specs.Application.{op_at}
use Rattle.model.specs.Invariant.{hold_of}
use Rattle.model.specs.Run.{state_after}
use Rattle.model.specs.State.{Progress}
use Rattle.soundness.proofs.Reached.{reached_after}
use Rattle.machine.specs.Logged.{Logged, all_of}
use Rattle.kernel.specs.Along.{GoesFurther, IsGoing}
use Rattle.kernel.proofs.Along.{ends_not, further_nowhere, further_then, goes_further, goes_still, one_step, still_going}
use Rattle.kernel.proofs.Amid.{all_before, begun_anew}
use Rattle.kernel.proofs.Bounds.{runs_there}
use Rattle.kernel.proofs.Running.{can_step, told_after}
use Rattle.kernel.specs.InScript.{is_amid}
use Rattle.kernel.proofs.runs.steps_in_script.Goals.{then-last-kernel-2-via-then-last-kernel-2}
use Rattle.kernel.proofs.runs.steps_in_script.Goals.{then-last-kernel-2-via-else-last-kernel-2+then-is_err}
use Rattle.kernel.proofs.runs.steps_in_script.Goals.{in-Answered+else-last-kernel-2+else-is_err}
use Rattle.kernel.proofs.runs.steps_in_script.Goals.{in-NextOp+else-last-kernel}
use Rattle.kernel.proofs.runs.steps_in_script.Goals as goal

pub steps-init : goal.steps-init
steps-init c = record {
  along = further_nowhere refl;
  going = λ plan g. g.going;
  at = c.requires.at;
  soon = c.requires.soon;
  told = c.requires.begun;
  room = c.requires.room;
}

pub step_of_op-requires-clause-going : goal.step_of_op-requires-clause-going
step_of_op-requires-clause-going c =
    let inv = c.steps.invariant in
    let app = c.args.app.now in
    let limits = c.args.limits.now in
    let g : IsGoing app limits c.args.until c.steps.kernel c.args.injections.now =
    goes_still inv.along c.requires.going (inv.going c.args.injections.now c.requires.going) in
    let short : c.steps.kernel.steps < c.args.until = (let soon = inv.soon in omega arith) in
    can_step app c.well_formed-2.ensures c.args.injections.now limits
    c.well_formed-3.ensures c.steps.kernel g.free.way (ends_not short g)

pub step_of_op-requires-clause-none : goal.step_of_op-requires-clause-none
step_of_op-requires-clause-none c =
    let inv = c.steps.invariant in
    let app = c.args.app.now in
    let limits = c.args.limits.now in
    let g : IsGoing app limits c.args.until c.steps.kernel c.args.injections.now =
    goes_still inv.along c.requires.going (inv.going c.args.injections.now c.requires.going) in
    g.free.none (let soon = inv.soon in omega arith)

pub step_of_op-requires-clause-at : goal.step_of_op-requires-clause-at
step_of_op-requires-clause-at c = c.steps.invariant.at

pub step_of_op-requires-clause-begun : goal.step_of_op-requires-clause-begun
step_of_op-requires-clause-begun c = c.steps.invariant.told

pub step_of_op-requires-clause-room : goal.step_of_op-requires-clause-room
step_of_op-requires-clause-room c = c.steps.invariant.room

pub returns-then-last-kernel-clause-along : goal.returns-then-last-kernel-clause-along
returns-then-last-kernel-clause-along c =
    let inv = c.steps.invariant in
    let app = c.args.app.now in
    let limits = c.args.limits.now in
    let g : IsGoing app limits c.args.until c.steps.kernel c.args.injections.now =
    goes_still inv.along c.requires.going (inv.going c.args.injections.now c.requires.going) in
    let short : c.steps.kernel.steps < c.args.until = (let soon = inv.soon in omega arith) in
    let further =
    goes_further app c.well_formed-2.ensures limits c.well_formed-3.ensures c.args.until
    c.steps.kernel c.step_of_op.new.machine short c.step_of_op.ensures.stands
    g (all_of c.steps.trail) (all_of c.step_of_op.new.log)
    (λ s h.
    told_after c.step_of_op.new.log _ _ (c.step_of_op.ensures.before ∙ sym (all_before c.steps.trail inv.told))
    (c.step_of_op.ensures.told s h)) in
    further_then inv.along inv.going further

pub returns-in_default-clause-along : goal.returns-in_default-clause-along
returns-in_default-clause-along c =
    let inv = c.steps.invariant in
    let app = c.args.app.now in
    let limits = c.args.limits.now in
    let g : IsGoing app limits c.args.until c.steps.kernel c.args.injections.now =
    goes_still inv.along c.requires.going (inv.going c.args.injections.now c.requires.going) in
    let short : c.steps.kernel.steps < c.args.until = (let soon = inv.soon in omega arith) in
    let further =
    goes_further app c.well_formed-2.ensures limits c.well_formed-3.ensures c.args.until
    c.steps.kernel c.step_of_op.new.machine short c.step_of_op.ensures.stands
    g (all_of c.steps.trail) (all_of c.step_of_op.new.log)
    (λ s h.
    told_after c.step_of_op.new.log _ _ (c.step_of_op.ensures.before ∙ sym (all_before c.steps.trail inv.told))
    (c.step_of_op.ensures.told s h)) in
    further_then inv.along inv.going further

pub returns-in_default-clause-on : goal.returns-in_default-clause-on
returns-in_default-clause-on c =
    let inv = c.steps.invariant in
    let app = c.args.app.now in
    let limits = c.args.limits.now in
    let g : IsGoing app limits c.args.until c.steps.kernel c.args.injections.now =
    goes_still inv.along c.requires.going (inv.going c.args.injections.now c.requires.going) in
    let short : c.steps.kernel.steps < c.args.until = (let soon = inv.soon in omega arith) in
    let one =
    one_step app c.well_formed-2.ensures limits c.well_formed-3.ensures c.args.until c.steps.kernel
    c.step_of_op.new.machine short c.step_of_op.ensures.stands g in
    let on = inv.along.on in
    omega arith

pub returns-then-last-kernel-clause-soon : goal.returns-then-last-kernel-clause-soon
returns-then-last-kernel-clause-soon c =
    let inv = c.steps.invariant in
    let app = c.args.app.now in
    let limits = c.args.limits.now in
    let g : IsGoing app limits c.args.until c.steps.kernel c.args.injections.now =
    goes_still inv.along c.requires.going (inv.going c.args.injections.now c.requires.going) in
    let short : c.steps.kernel.steps < c.args.until = (let soon = inv.soon in omega arith) in
    let one =
    one_step app c.well_formed-2.ensures limits c.well_formed-3.ensures c.args.until c.steps.kernel
    c.step_of_op.new.machine short c.step_of_op.ensures.stands g in
    let soon = inv.soon in
    omega arith

pub returns-in_default-clause-soon : goal.returns-in_default-clause-soon
returns-in_default-clause-soon c =
    let inv = c.steps.invariant in
    let app = c.args.app.now in
    let limits = c.args.limits.now in
    let g : IsGoing app limits c.args.until c.steps.kernel c.args.injections.now =
    goes_still inv.along c.requires.going (inv.going c.args.injections.now c.requires.going) in
    let short : c.steps.kernel.steps < c.args.until = (let soon = inv.soon in omega arith) in
    let one =
    one_step app c.well_formed-2.ensures limits c.well_formed-3.ensures c.args.until c.steps.kernel
    c.step_of_op.new.machine short c.step_of_op.ensures.stands g in
    let soon = inv.soon in
    omega arith

pub returns-then-last-kernel-2-clause-on : goal.returns-then-last-kernel-2-clause-on
returns-then-last-kernel-2-clause-on c =
    let inv = c.steps.invariant in
    let app = c.args.app.now in
    let limits = c.args.limits.now in
    let g : IsGoing app limits c.args.until c.steps.kernel c.args.injections.now =
    goes_still inv.along c.requires.going (inv.going c.args.injections.now c.requires.going) in
    let short : c.steps.kernel.steps < c.args.until = (let soon = inv.soon in omega arith) in
    let one =
    one_step app c.well_formed-2.ensures limits c.well_formed-3.ensures c.args.until c.steps.kernel
    c.step_of_op.new.machine short c.step_of_op.ensures.stands g in
    let on = inv.along.on in
    omega arith

pub returns-then-last-kernel-2-clause-soon : goal.returns-then-last-kernel-2-clause-soon
returns-then-last-kernel-2-clause-soon c =
    let inv = c.steps.invariant in
    let app = c.args.app.now in
    let limits = c.args.limits.now in
    let g : IsGoing app limits c.args.until c.steps.kernel c.args.injections.now =
    goes_still inv.along c.requires.going (inv.going c.args.injections.now c.requires.going) in
    let short : c.steps.kernel.steps < c.args.until = (let soon = inv.soon in omega arith) in
    let one =
    one_step app c.well_formed-2.ensures limits c.well_formed-3.ensures c.args.until c.steps.kernel
    c.step_of_op.new.machine short c.step_of_op.ensures.stands g in
    let soon = inv.soon in
    omega arith

pub op_of-requires : goal.op_of-requires
op_of-requires c =
    let inv = c.steps.invariant in
    let app = c.args.app.now in
    let limits = c.args.limits.now in
    let g : IsGoing app limits c.args.until c.steps.kernel c.args.injections.now =
    goes_still inv.along c.requires.going (inv.going c.args.injections.now c.requires.going) in
    let short : c.steps.kernel.steps < c.args.until = (let soon = inv.soon in omega arith) in
    let s = state_after app limits c.args.injections.now c.steps.kernel.steps in
    subst (λ (o : Option ℕ). IfSome o (λ task. task < length app.tasks)) inv.at.current
    (runs_there app c.steps.kernel s (hold_of s) g.free.way.stands
    (reached_after app c.well_formed-2.ensures limits c.args.injections.now c.steps.kernel.steps).sound)

pub returns-in_default-op_of-clause-on : goal.returns-in_default-op_of-clause-on
returns-in_default-op_of-clause-on c =
    let inv = c.steps.invariant in
    let app = c.args.app.now in
    let limits = c.args.limits.now in
    let g : IsGoing app limits c.args.until c.steps.kernel c.args.injections.now =
    goes_still inv.along c.requires.going (inv.going c.args.injections.now c.requires.going) in
    let short : c.steps.kernel.steps < c.args.until = (let soon = inv.soon in omega arith) in
    let one =
    one_step app c.well_formed-2.ensures limits c.well_formed-3.ensures c.args.until c.steps.kernel
    c.step_of_op.new.machine short c.step_of_op.ensures.stands g in
    let on = inv.along.on in
    omega arith

pub steps-smaller : goal.steps-smaller
steps-smaller c =
    let inv = c.steps.invariant in
    let app = c.args.app.now in
    let limits = c.args.limits.now in
    let g : IsGoing app limits c.args.until c.steps.kernel c.args.injections.now =
    goes_still inv.along c.requires.going (inv.going c.args.injections.now c.requires.going) in
    let short : c.steps.kernel.steps < c.args.until = (let soon = inv.soon in omega arith) in
    let one =
    one_step app c.well_formed-2.ensures limits c.well_formed-3.ensures c.args.until c.steps.kernel
    c.step_of_op.new.machine short c.step_of_op.ensures.stands g in
    omega arith

pub returns-then-last-kernel-2-clause-along : goal.returns-then-last-kernel-2-clause-along
returns-then-last-kernel-2-clause-along c =
    let inv = c.steps.invariant in
    let app = c.args.app.now in
    let limits = c.args.limits.now in
    let g : IsGoing app limits c.args.until c.steps.kernel c.args.injections.now =
    goes_still inv.along c.requires.going (inv.going c.args.injections.now c.requires.going) in
    let short : c.steps.kernel.steps < c.args.until = (let soon = inv.soon in omega arith) in
    let further =
    goes_further app c.well_formed-2.ensures limits c.well_formed-3.ensures c.args.until
    c.steps.kernel c.step_of_op.new.machine short c.step_of_op.ensures.stands
    g (all_of c.steps.trail) (all_of c.step_of_op.new.log)
    (λ s h.
    told_after c.step_of_op.new.log _ _ (c.step_of_op.ensures.before ∙ sym (all_before c.steps.trail inv.told))
    (c.step_of_op.ensures.told s h)) in
    let kept : all_of c.then-last-kernel-2.trail ≡ all_of c.step_of_op.new.log = elim c.then-last-kernel-2.branch [
      | then-last-kernel-2-via-then-last-kernel-2 w ↦ ap all_of w.trail-is
      | then-last-kernel-2-via-else-last-kernel-2+then-is_err w ↦
          ap all_of w.trail-is
          ∙ begun_anew c.step_of_op.new.log w.begin.new.self w.begin.ensures.before w.begin.ensures.told
    ] in
    subst (GoesFurther app limits c.args.until c.args.kernel.now c.step_of_op.new.machine (all_of c.args.trail.now))
    (sym kept) (further_then inv.along inv.going further)

pub returns-in_default-op_of-clause-along : goal.returns-in_default-op_of-clause-along
returns-in_default-op_of-clause-along c =
    let inv = c.steps.invariant in
    let app = c.args.app.now in
    let limits = c.args.limits.now in
    let g : IsGoing app limits c.args.until c.steps.kernel c.args.injections.now =
    goes_still inv.along c.requires.going (inv.going c.args.injections.now c.requires.going) in
    let short : c.steps.kernel.steps < c.args.until = (let soon = inv.soon in omega arith) in
    let further =
    goes_further app c.well_formed-2.ensures limits c.well_formed-3.ensures c.args.until
    c.steps.kernel c.step_of_op.new.machine short c.step_of_op.ensures.stands
    g (all_of c.steps.trail) (all_of c.step_of_op.new.log)
    (λ s h.
    told_after c.step_of_op.new.log _ _ (c.step_of_op.ensures.before ∙ sym (all_before c.steps.trail inv.told))
    (c.step_of_op.ensures.told s h)) in
    let kept : all_of c.match-step_of_op.trail ≡ all_of c.step_of_op.new.log = elim c.match-step_of_op.branch [
      | in-Answered+else-last-kernel-2+else-is_err w ↦
          ap all_of w.trail-is
          ∙ begun_anew c.step_of_op.new.log w.begin.new.self w.begin.ensures.before w.begin.ensures.told
      | in-NextOp+else-last-kernel w ↦ ap all_of w.trail-is
    ] in
    subst (GoesFurther app limits c.args.until c.args.kernel.now c.step_of_op.new.machine (all_of c.args.trail.now))
    (sym kept) (further_then inv.along inv.going further)

pub steps-preserved : goal.steps-preserved
steps-preserved c =
    let inv = c.steps.invariant in
    let app = c.args.app.now in
    let limits = c.args.limits.now in
    let g : IsGoing app limits c.args.until c.steps.kernel c.args.injections.now =
    goes_still inv.along c.requires.going (inv.going c.args.injections.now c.requires.going) in
    let short : c.steps.kernel.steps < c.args.until = (let soon = inv.soon in omega arith) in
    let further =
    goes_further app c.well_formed-2.ensures limits c.well_formed-3.ensures c.args.until
    c.steps.kernel c.step_of_op.new.machine short c.step_of_op.ensures.stands
    g (all_of c.steps.trail) (all_of c.step_of_op.new.log)
    (λ s h.
    told_after c.step_of_op.new.log _ _ (c.step_of_op.ensures.before ∙ sym (all_before c.steps.trail inv.told))
    (c.step_of_op.ensures.told s h)) in
    let kept : all_of c.match-step_of_op.trail ≡ all_of c.step_of_op.new.log = elim c.match-step_of_op.branch [
      | in-Answered+else-last-kernel-2+else-is_err w ↦
          ap all_of w.trail-is
          ∙ begun_anew c.step_of_op.new.log w.begin.new.self w.begin.ensures.before w.begin.ensures.told
      | in-NextOp+else-last-kernel w ↦ ap all_of w.trail-is
    ] in
    let e : is_amid c.step_of_op.result ≡ true = elim c.match-step_of_op.branch [
      | in-Answered+else-last-kernel-2+else-is_err w ↦ ap is_amid w.in-Answered.is
      | in-NextOp+else-last-kernel w ↦ ap is_amid w.in-NextOp.is
    ] in
    let early : c.step_of_op.new.machine.steps + 2 ≤ c.args.until = elim c.match-step_of_op.branch [
      | in-Answered+else-last-kernel-2+else-is_err w ↦
          (let l = w.if-last-kernel-2.false in let soon = c.requires.soon in omega arith)
      | in-NextOp+else-last-kernel w ↦
          (let l = w.if-last-kernel.false in let soon = c.requires.soon in omega arith)
    ] in
    record {
      along =
          subst (GoesFurther app limits c.args.until c.args.kernel.now c.step_of_op.new.machine (all_of c.args.trail.now))
          (sym kept) (further_then inv.along inv.going further);
      going = λ plan f.
          still_going app c.well_formed-2.ensures limits c.well_formed-3.ensures c.args.until c.steps.kernel
          c.step_of_op.new.machine short c.step_of_op.ensures.stands (goes_still inv.along f (inv.going plan f))
          (λ s h. c.step_of_op.ensures.on e s h);
      at = record {
        current = c.step_of_op.ensures.runs e;
        at =
            (let P : Progress → Type 0 = λ p. op_at app c.args.task p.op_index ≡ Some c.in-Some.next.now in
            subst P (c.behind-kernel.view_is ∙ c.progress.ensures) c.in-Some.ensures.some);
        awake = c.step_of_op.ensures.awake e;
      };
      soon = omega arith;
      told = elim c.match-step_of_op.branch [
        | in-Answered+else-last-kernel-2+else-is_err w ↦ ap (λ (l : Logged). l.told) w.trail-is ∙ w.begin.ensures.told
        | in-NextOp+else-last-kernel w ↦
            ap (λ (l : Logged). l.told)
            (w.trail-is ∙ c.step_of_op.ensures.silent w.in-NextOp.is)
            ∙ inv.told
      ];
      room = elim c.match-step_of_op.branch [
        | in-Answered+else-last-kernel-2+else-is_err w ↦
            subst (λ (l : Logged). 512 ≤ l.room) (sym w.trail-is) (search rules)
        | in-NextOp+else-last-kernel w ↦
            (let r = inv.room in
            let same = ap (λ (l : Logged). l.room)
            (w.trail-is ∙ c.step_of_op.ensures.silent w.in-NextOp.is) in
            omega arith)
      ];
    }

pub pass_held-requires-clause-going : goal.pass_held-requires-clause-going
pass_held-requires-clause-going c =
    let inv = c.steps.invariant in
    let app = c.args.app.now in
    let limits = c.args.limits.now in
    let g : IsGoing app limits c.args.until c.steps.kernel c.args.injections.now =
    goes_still inv.along c.requires.going (inv.going c.args.injections.now c.requires.going) in
    let short : c.steps.kernel.steps < c.args.until = (let soon = inv.soon in omega arith) in
    let further =
    goes_further app c.well_formed-2.ensures limits c.well_formed-3.ensures c.args.until
    c.steps.kernel c.step_of_op.new.machine short c.step_of_op.ensures.stands
    g (all_of c.steps.trail) (all_of c.step_of_op.new.log)
    (λ s h.
    told_after c.step_of_op.new.log _ _ (c.step_of_op.ensures.before ∙ sym (all_before c.steps.trail inv.told))
    (c.step_of_op.ensures.told s h)) in
    let plan = c.args.injections.now in
    let f = c.requires.going in
    goes_still (further_then inv.along inv.going further) f
    (still_going app c.well_formed-2.ensures limits c.well_formed-3.ensures c.args.until c.steps.kernel
    c.step_of_op.new.machine short c.step_of_op.ensures.stands (goes_still inv.along f (inv.going plan f))
    (λ s h. c.step_of_op.ensures.held c.in-LettingGo.is s h))

pub returns-then-kernel-last-clause-along : goal.returns-then-kernel-last-clause-along
returns-then-kernel-last-clause-along c =
    let inv = c.steps.invariant in
    let app = c.args.app.now in
    let limits = c.args.limits.now in
    let g : IsGoing app limits c.args.until c.steps.kernel c.args.injections.now =
    goes_still inv.along c.requires.going (inv.going c.args.injections.now c.requires.going) in
    let short : c.steps.kernel.steps < c.args.until = (let soon = inv.soon in omega arith) in
    let further =
    goes_further app c.well_formed-2.ensures limits c.well_formed-3.ensures c.args.until
    c.steps.kernel c.step_of_op.new.machine short c.step_of_op.ensures.stands
    g (all_of c.steps.trail) (all_of c.step_of_op.new.log)
    (λ s h.
    told_after c.step_of_op.new.log _ _ (c.step_of_op.ensures.before ∙ sym (all_before c.steps.trail inv.told))
    (c.step_of_op.ensures.told s h)) in
    further_then (further_then inv.along inv.going further)
    (λ plan f.
    still_going app c.well_formed-2.ensures limits c.well_formed-3.ensures c.args.until c.steps.kernel
    c.step_of_op.new.machine short c.step_of_op.ensures.stands (goes_still inv.along f (inv.going plan f))
    (λ s h. c.step_of_op.ensures.held c.in-LettingGo.is s h))
    c.pass_held.ensures.along

pub returns-then-kernel-last-clause-on : goal.returns-then-kernel-last-clause-on
returns-then-kernel-last-clause-on c =
    let inv = c.steps.invariant in
    let app = c.args.app.now in
    let limits = c.args.limits.now in
    let g : IsGoing app limits c.args.until c.steps.kernel c.args.injections.now =
    goes_still inv.along c.requires.going (inv.going c.args.injections.now c.requires.going) in
    let short : c.steps.kernel.steps < c.args.until = (let soon = inv.soon in omega arith) in
    let one =
    one_step app c.well_formed-2.ensures limits c.well_formed-3.ensures c.args.until c.steps.kernel
    c.step_of_op.new.machine short c.step_of_op.ensures.stands g in
    let on = inv.along.on in
    let last = c.pass_held.ensures.one in
    omega arith

pub returns-else-kernel-last-clause-along : goal.returns-else-kernel-last-clause-along
returns-else-kernel-last-clause-along c =
    let inv = c.steps.invariant in
    let app = c.args.app.now in
    let limits = c.args.limits.now in
    let g : IsGoing app limits c.args.until c.steps.kernel c.args.injections.now =
    goes_still inv.along c.requires.going (inv.going c.args.injections.now c.requires.going) in
    let short : c.steps.kernel.steps < c.args.until = (let soon = inv.soon in omega arith) in
    let further =
    goes_further app c.well_formed-2.ensures limits c.well_formed-3.ensures c.args.until
    c.steps.kernel c.step_of_op.new.machine short c.step_of_op.ensures.stands
    g (all_of c.steps.trail) (all_of c.step_of_op.new.log)
    (λ s h.
    told_after c.step_of_op.new.log _ _ (c.step_of_op.ensures.before ∙ sym (all_before c.steps.trail inv.told))
    (c.step_of_op.ensures.told s h)) in
    further_then inv.along inv.going further

pub returns-else-kernel-last-clause-soon : goal.returns-else-kernel-last-clause-soon
returns-else-kernel-last-clause-soon c =
    let inv = c.steps.invariant in
    let app = c.args.app.now in
    let limits = c.args.limits.now in
    let g : IsGoing app limits c.args.until c.steps.kernel c.args.injections.now =
    goes_still inv.along c.requires.going (inv.going c.args.injections.now c.requires.going) in
    let short : c.steps.kernel.steps < c.args.until = (let soon = inv.soon in omega arith) in
    let one =
    one_step app c.well_formed-2.ensures limits c.well_formed-3.ensures c.args.until c.steps.kernel
    c.step_of_op.new.machine short c.step_of_op.ensures.stands g in
    let soon = inv.soon in
    omega arith
