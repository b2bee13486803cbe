-- A step behind which a call holds the scheduler: nothing switches. So it is where a call on an event group has taken hold of it,
-- which lets go of it next.
use Rattle.std.proofs.Common.{◌≡◌, ◌<◌, ◌+◌, ℕ, false, true, List, [], Some, refl, ap, sym, ◌∙◌}
use Rattle.std.specs.Prelude.{nat_lt}
use Rattle.std.proofs.lemmas.Bool.{lt-ltb}
use Rattle.model.specs.declared.call.Phase.TheVariants.{Start, Leave}
use Rattle.model.specs.declared.event.Event.{Event}
use Rattle.model.specs.declared.op.Op.{Op}
use Rattle.model.specs.Application.{Application, Limits, op_at}
use Rattle.model.specs.State.{State, Progress, call_at, progress_at}
use Rattle.model.specs.Switching.{is_held, is_held_by_task, settle, unless_held}
use Rattle.model.specs.Step.{act_current, before_step, step}
use Rattle.sched.specs.StandsFor as sched
use Rattle.sched.specs.Schedule.{Schedule}
use Rattle.sched.proofs.Standing.{held_by_depth}
use Rattle.machine.specs.declared.machine.Machine.{Machine}
use Rattle.machine.specs.StandsFor.{AtAny, Stands, progress_in}
use Rattle.machine.proofs.Either.{all_placed, any, current_is, either, progress_is, steps_are, not_by_task}
use Rattle.machine.proofs.Switches.{settled_before, settled_held}
use Rattle.ops.specs.InCall.{Remains}
use Rattle.kernel.specs.Bits.{Begins, HasTakenHold, IsLettingGo, is_for_event}
use Rattle.kernel.specs.Bits.Begins.{Sets, Waits, Notices}
use Rattle.kernel.specs.InScript.{IsAt}
use Rattle.kernel.specs.Over.{is_over}
use Rattle.kernel.proofs.Counting.{steps_still}
use Rattle.kernel.proofs.Ending.{begun, begun_with_none, stepped}
use Rattle.kernel.proofs.Silent.{not_over_notice, not_over_set, not_over_wait}
use Rattle.machine.proofs.Pending.{none_by}
use Rattle.machine.specs.Can.{NonePends}

held_by : (v : Schedule) (s : State) → sched.StandsFor v s → 0 < v.depth → is_held s ≡ true
held_by v s h some = held_by_depth s ∙ ap (λ (n : ℕ). nat_lt 0 n) (sym h.depth) ∙ lt-ltb 0 v.depth some

-- While the scheduler is held, a step ends without a switch.
still_held : (k : Machine) (log : List Event) (s : State) → 0 < k.sched.depth → AtAny k log s → AtAny k log (unless_held settle s)
still_held k log s some h = either k log s h
    (λ a. any k log (unless_held settle s) (settled_held k log s (held_by k.sched s a.stands.sched some) a))
    (λ task list b. settled_before k log s h task list b)

module _ (app : Application) (limits : Limits) (k new : Machine) (calm : NonePends k) (told : List Event)
    (does : (s : State) → AtAny k [] s → AtAny new told (act_current app limits s.current s))
    (held : 0 < new.sched.depth) (s : State) (h : Stands k s) where
  came : AtAny new told (unless_held settle (act_current app limits (before_step app [] s).current (before_step app [] s)))
  came = still_held new told _ held
      (does (before_step app [] s) (begun_with_none app s (none_by k s calm h) k [] (begun k [] s h refl)))

  pub steps_held : new.steps ≡ k.steps
  steps_held = steps_still app limits [] s k new told h came

  pub stands_held : Stands (record new { steps = new.steps + 1 }) (step app limits [] s)
  stands_held = stepped app limits [] s new told new.steps (steps_held ∙ steps_are k s h) came

  pub told_held : told ≡ (step app limits [] s).log
  unfolding step
  told_held = came.log

-- ---- a call on an event group

pub letting : (app : Application) (k new : Machine) (task : ℕ) (op : Op) → k.sched.current ≡ Some task
    → op_at app task (progress_in k.progress task).op_index ≡ Some op → k.sched.suspensions ≡ 0 → is_for_event op ≡ true
    → Remains k new task → (progress_in new.progress task).call.phase ≡ Leave → (n : ℕ)
    → IsLettingGo app (record new { steps = n }) task op
letting app k new task op runs at awake event r reached n = record {
  current = r.current ∙ runs;
  at = ap (λ (i : ℕ). op_at app task i) r.op_index ∙ at;
  event = event;
  reached = reached;
  awake = r.suspensions ∙ awake;
}

-- It has begun.
module _ (app : Application) (limits : Limits) (k new : Machine) (task : ℕ) (op : Op) (at : IsAt app k task op)
    (w : HasTakenHold k new task op) where
  for_event : Begins k task op → is_for_event op ≡ true
  for_event (Sets group mask same) = ap is_for_event same
  for_event (Waits group condition ticks same unmet) = ap is_for_event same
  for_event (Notices wait ticks same unmet) = ap is_for_event same

  pub letting_begun : (n : ℕ) → IsLettingGo app (record new { steps = n }) task op
  letting_begun n =
      letting app k new task op at.current at.at at.awake (for_event w.begins) w.takes.remains w.takes.reached n

  -- It ends no run.
  pub on_begun : NonePends k → (after : Machine) (s : State) → Stands k s → after.sched ≡ new.sched → Stands after
      (step app limits [] s)
      → is_over app limits s ≡ false → is_over app limits (step app limits [] s) ≡ false
  on_begun calm after s h same there = by_form w.begins where
    now : progress_in k.progress task ≡ progress_at s task
    now = progress_is k s h task

    runs : s.current ≡ Some task
    runs = sym (current_is k s h) ∙ at.current

    is : op_at app task (progress_at s task).op_index ≡ Some op
    is = ap (λ (p : Progress). op_at app task p.op_index) (sym now) ∙ at.at

    reached : (call_at s task).phase ≡ Start
    reached = ap (λ (p : Progress). p.call.phase) (sym now) ∙ w.start

    none : is_held_by_task s ≡ false
    none = not_by_task k s h at.awake

    still : (step app limits [] s).current ≡ Some task
    still =
        sym (current_is after (step app limits [] s) there)
        ∙ ap (λ (v : Schedule). v.current) same
        ∙ w.takes.remains.current
        ∙ at.current

    by_form : Begins k task op → is_over app limits s ≡ false → is_over app limits (step app limits [] s) ≡ false
    by_form (Sets group mask same) = not_over_set app limits task op s (none_by k s calm h) runs is reached none group mask same
        still
    by_form (Waits group condition ticks same unmet) =
        not_over_wait app limits task op s (none_by k s calm h) runs is reached none group condition ticks same
        (unmet (record s { log = [] }) (all_placed k w.takes.agrees [] _ (begun k [] s h refl)).stands) still
    by_form (Notices wait ticks same unmet) =
        not_over_notice app limits task op s (none_by k s calm h) runs is reached none wait ticks same
        (unmet (record s { log = [] }) (all_placed k w.takes.agrees [] _ (begun k [] s h refl)).stands) still
