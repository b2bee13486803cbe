use Rattle.std.proofs.Common.{◌≡◌, ◌<◌, ◌≤◌, ◌+◌, ◌-◌, false, List, []}
use Rattle.model.specs.declared.plan.Injection.{Injection}
use Rattle.model.specs.Run.{state_after}
use Rattle.machine.specs.Logged.{all_of}
use Rattle.kernel.specs.Along.{IsGoing, GoesFurther}
use Rattle.kernel.specs.InScript.{IsAt}
use Rattle.kernel.specs.Over.{is_over}
use Rattle.kernel.proofs.runs.steps_in_script.Given as goal

abbrev pub invariant-steps : goal.invariant-steps
invariant-steps l = record {
  along : GoesFurther l.app l.limits l.until l.fn.kernel l.kernel (all_of l.fn.trail) (all_of l.trail);
  going : (plan : List Injection) → IsGoing l.app l.limits l.until l.fn.kernel plan
      → is_over l.app l.limits (state_after l.app l.limits plan l.kernel.steps) ≡ false;
  at : IsAt l.app l.kernel l.task l.op;
  soon : l.kernel.steps + 1 < l.until;
  told : l.trail.told ≡ [];
  room : 512 ≤ l.trail.room;
}

abbrev pub decreases-steps : goal.decreases-steps
decreases-steps l = l.until - l.kernel.steps
