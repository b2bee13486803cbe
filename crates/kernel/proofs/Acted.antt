-- What an op did, whether or not a task is still to be placed.
use Rattle.std.proofs.Common.{◌≡◌, ◌∙◌, ◌≤◌, ℕ, false, None, ap, sym, subst, [], arith}
use Rattle.model.specs.declared.op.Op.{Op}
use Rattle.model.specs.Application.{Application}
use Rattle.model.specs.Step.{act_by_value, act_unless, own_misuse, misuse}
use Rattle.soundness.proofs.Judging.{acts_calm, takes_hold}
use Rattle.model.specs.State.{State}
use Rattle.machine.specs.declared.machine.Machine.{Machine}
use Rattle.machine.specs.StandsFor.{AtAny, Does, DoesAny, Moves}
use Rattle.machine.specs.Logged.{Logged}
use Rattle.machine.specs.Can.{Agrees}
use Rattle.machine.proofs.Either.{not_by_task, does_any, does_more}
use Rattle.clock.specs.Timeline.{Timeline}
use Rattle.objects.specs.Objects.{Objects, HasRoom}
use Rattle.ops.specs.Can.{CanTick}
use Rattle.machine.proofs.Acting.{agrees_after}

-- Where no task holds the scheduler, an op that is no misuse does what it does.
pub freely : (app : Application) (old new : Machine) (old_log new_log : Logged) (task : ℕ) (op : Op)
    → old.sched.suspensions ≡ 0 → ((s : State) → own_misuse s task op ≡ None) → takes_hold op ≡ false
    → DoesAny 337 old old_log new new_log (act_by_value app task op)
    → DoesAny 337 old old_log new new_log (λ s. act_unless app task (misuse s task op) op s)
freely app old new old_log new_log task op none fine ne d = record {
  at = λ s h.
      subst (AtAny new new_log.told)
      (sym (acts_calm app task op s (not_by_task old s h.stands none) (fine s) ne)) (d.at s h);
  few = d.few;
  before = d.before;
}

-- numbers of events that are within the room of an op
pub one_within : 1 ≤ 337
one_within = omega arith

pub two_within : 2 ≤ 337
two_within = omega arith

pub all_within : 337 ≤ 337
all_within = omega arith

-- Where there is room for an op, there is for a few events.
pub room_for_one : (room : ℕ) → 337 ≤ room → 1 ≤ room
room_for_one room enough = omega arith

pub room_for_two : (room : ℕ) → 337 ≤ room → 2 ≤ room
room_for_two room enough = omega arith

-- the same of an op that is known by its form
module _ (app : Application) (old new : Machine) (old_log new_log : Logged) (task : ℕ) (op form : Op) (is : op ≡ form)
    (none : old.sched.suspensions ≡ 0) (fine : (s : State) → own_misuse s task form ≡ None)
    (other : takes_hold form ≡ false) where
  pub any_by_form : (count : ℕ) → count ≤ 337 → DoesAny count old old_log new new_log (act_by_value app task form)
      → DoesAny 337 old old_log new new_log (λ s. act_unless app task (misuse s task op) op s)
  any_by_form count within d =
      subst (λ (o : Op). DoesAny 337 old old_log new new_log (λ s. act_unless app task (misuse s task o) o s)) (sym is)
      (freely app old new old_log new_log task form none fine other
      (does_more count 337 old new old_log new_log (act_by_value app task form) within d))

  pub does_by_form : (count : ℕ) → count ≤ 337 → Agrees old → Does count old old_log new new_log (act_by_value app task form)
      → DoesAny 337 old old_log new new_log (λ s. act_unless app task (misuse s task op) op s)
  does_by_form count within agrees d =
      any_by_form count within (does_any count old new old_log new_log (act_by_value app task form) agrees d)

pub can_tick_still : (app : Application) (k new : Machine) → CanTick app k → new.sched.depth ≡ k.sched.depth → new.clock ≡ k.clock
    → new.objects ≡ k.objects → new.sched.suspensions ≡ k.sched.suspensions → (deed : State → State) → Moves k new deed
    → CanTick app new
can_tick_still app k new c depth clock objects suspensions deed does = record {
  advance = record {
    agrees = agrees_after k new [] [] c.advance.agrees deed (λ s h. does [] s h);
    free = ap (λ (q : Objects). q.lock) objects ∙ c.advance.free;
    age = let e = ap (λ (t : Timeline). t.age) clock in let l = c.advance.age in omega arith;
    depth = depth ∙ c.advance.depth;
  };
  depth = depth ∙ c.depth;
  objects = λ o a fit. subst (λ (q : Objects). HasRoom q o a) (sym objects) (c.objects o a fit);
}
