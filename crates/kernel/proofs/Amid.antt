-- A step behind which the running task is at another op of its script, and nothing else changed but what the step reported.
use Rattle.model.specs.declared.op.Op.TheVariants as op
use Rattle.model.specs.declared.op.Op.TheVariants.{Value}
use Rattle.model.specs.Step.{act_by_value}
use Rattle.model.specs.Ops.{calculate}
use Rattle.soundness.proofs.Passing.{by_value}
use Rattle.std.proofs.Common.{◌≡◌, ◌≢◌, ◌+◌, ◌||◌, ℕ, true, false, eqb, leb, List, [], ◌∷◌}
use Rattle.std.proofs.Common.{Option, Some, None, ◌≤◌}
use Rattle.std.proofs.Common.{refl, ap, sym, subst, ◌∙◌, arith, append-nil}
use Rattle.model.specs.declared.op.Op.{Op}
use Rattle.model.specs.declared.op.Op.TheVariants.{Work, Delay, DelayUntil, Yield, Time, Mark, Expect, Repeat, End as EndLoop, If}
use Rattle.model.specs.declared.op.Op.TheVariants.{Else, EndIf, Break, Stamp, Since, Await, Do, GiveMutex, MessagesWaiting}
use Rattle.model.specs.declared.op.Op.TheVariants.{SpacesAvailable, SetBits, ClearBits, GetBits, WaitBits, Notify}
use Rattle.model.specs.declared.op.Op.TheVariants.{AwaitNotification, ClearNotification, Suspend, Resume}
use Rattle.model.specs.declared.op.Op.TheVariants.{SuspendAll, ResumeAll, EnterCritical, ExitCritical, NextCommand, Obey}
use Rattle.model.specs.declared.event.Event.{Event}
use Rattle.model.specs.declared.loops.Loop.{Loop}
use Rattle.model.specs.declared.call.CallProgress.{CallProgress}
use Rattle.model.specs.declared.call.Condition.{Condition}
use Rattle.model.specs.declared.call.Phase.{Phase}
use Rattle.model.specs.declared.call.Phase.TheVariants.{Start, Try, Decide, Place, Unlock, Leave}
use Rattle.model.specs.Answers.{holds}
use Rattle.model.specs.Groups.{answer_bits, begin_bits_wait, bits_left, check, final_bits, is_met, wait_bits, wait_for_bits, want}
use Rattle.model.specs.Waiting.{end_hold, let_go, set_deadline}
use Rattle.std.specs.Option.{option_eq}
use Rattle.model.specs.Application.{Application, Limits, op_at, op_count}
use Rattle.model.specs.State.{State, Task, Progress, no_task, bits_at, call_at, progress_at, status_at, task_at, with_bits}
use Rattle.model.specs.State.{with_call, with_task}
use Rattle.model.specs.Switching.{is_ready, settle, unless_held}
use Rattle.model.specs.Ops.{moved_to, go_to, answer, stamp, since, expect, open_loop, turn, next_turn, close_turn}
use Rattle.model.specs.Ops.{branch, skip_branch, leave_loop}
use Rattle.model.specs.Step.{act, act_current, act_if, before_step, is_ended, own_misuse, step}
use Rattle.model.proofs.Lists.{eqb-same, eqb-refl}
use Rattle.model.proofs.Sorting.{by_test}
use Rattle.model.proofs.Tables.{each-set}
use Rattle.soundness.proofs.Judging.{acts_calm, takes_hold}
use Rattle.sched.specs.Schedule.{Schedule, is_ready as is_ready_in}
use Rattle.sched.proofs.Standing as on_sched
use Rattle.machine.specs.declared.machine.Machine.{Machine}
use Rattle.machine.specs.StandsFor.{AtAny, DoesAny, IsPlaced, Stands}
use Rattle.machine.specs.Logged.{Logged, all_of}
use Rattle.machine.proofs.Either.{any, current_is, either, elapsed_is, progress_is, steps_are, stopped_is, not_by_task}
use Rattle.machine.proofs.Switches.{settled_before, settled_either, settled_on}
use Rattle.machine.specs.Can.{Runs}
use Rattle.machine.specs.StandsFor.Stands.{Placed, Placing}
use Rattle.kernel.specs.InScript.{IsAt, may_stay_amid}
use Rattle.kernel.specs.Over.{is_over}
use Rattle.kernel.proofs.Ending.{begun, begun_with_none, stepped}
use Rattle.kernel.proofs.Left.{on_if_ready}
use Rattle.kernel.proofs.Running.{told_after}
use Rattle.kernel.proofs.Silent.{not_over_by, on-applied, on-choose}
use Rattle.machine.proofs.Pending.{none_by}
use Rattle.machine.specs.Can.{NonePends}

-- Such an op is no misuse.
no_misuse : (op : Op) → may_stay_amid op ≡ true → (s : State) (task : ℕ) → own_misuse s task op ≡ None
no_misuse (Work n) t s task = absurd (cc)
no_misuse (Delay n) t s task = absurd (cc)
no_misuse (DelayUntil n) t s task = absurd (cc)
no_misuse Yield t s task = absurd (cc)
no_misuse Time t s task = refl
no_misuse (Mark n) t s task = refl
no_misuse (Expect c) t s task = refl
no_misuse (Repeat n) t s task = refl
no_misuse EndLoop t s task = refl
no_misuse (If c) t s task = refl
no_misuse Else t s task = refl
no_misuse EndIf t s task = refl
no_misuse Break t s task = refl
no_misuse Stamp t s task = refl
no_misuse Since t s task = refl
no_misuse (Value op) t s task = refl
no_misuse (op.Source j what) t s task = absurd (cc)
no_misuse (Await o a w) t s task = absurd (cc)
no_misuse (Do o a) t s task = absurd (cc)
no_misuse (GiveMutex o) t s task = absurd (cc)
no_misuse (MessagesWaiting o) t s task = refl
no_misuse (SpacesAvailable o) t s task = refl
no_misuse (SetBits g m) t s task = absurd (cc)
no_misuse (ClearBits g m) t s task = absurd (cc)
no_misuse (GetBits g) t s task = refl
no_misuse (WaitBits g c w) t s task = refl
no_misuse (Notify j a) t s task = absurd (cc)
no_misuse (AwaitNotification w ticks) t s task = absurd (cc)
no_misuse (ClearNotification x) t s task = absurd (cc)
no_misuse (Suspend j) t s task = absurd (cc)
no_misuse (Resume j) t s task = absurd (cc)
no_misuse SuspendAll t s task = absurd (cc)
no_misuse ResumeAll t s task = absurd (cc)
no_misuse EnterCritical t s task = absurd (cc)
no_misuse ExitCritical t s task = absurd (cc)
no_misuse (NextCommand o) t s task = absurd (cc)
no_misuse Obey t s task = absurd (cc)

takes_none : (op : Op) → may_stay_amid op ≡ true → takes_hold op ≡ false
takes_none (Work n) t = refl
takes_none (Delay n) t = refl
takes_none (DelayUntil n) t = refl
takes_none Yield t = refl
takes_none Time t = refl
takes_none (Mark n) t = refl
takes_none (Expect c) t = refl
takes_none (Repeat n) t = refl
takes_none EndLoop t = refl
takes_none (If c) t = refl
takes_none Else t = refl
takes_none EndIf t = refl
takes_none Break t = refl
takes_none Stamp t = refl
takes_none Since t = refl
takes_none (Value op) t = refl
takes_none (op.Source j what) t = refl
takes_none (Await o a w) t = refl
takes_none (Do o a) t = refl
takes_none (GiveMutex o) t = refl
takes_none (MessagesWaiting o) t = refl
takes_none (SpacesAvailable o) t = refl
takes_none (SetBits g m) t = refl
takes_none (ClearBits g m) t = refl
takes_none (GetBits g) t = refl
takes_none (WaitBits g c w) t = refl
takes_none (Notify j a) t = refl
takes_none (AwaitNotification w ticks) t = refl
takes_none (ClearNotification x) t = refl
takes_none (Suspend j) t = refl
takes_none (Resume j) t = refl
takes_none SuspendAll t = absurd (cc)
takes_none ResumeAll t = refl
takes_none EnterCritical t = absurd (cc)
takes_none ExitCritical t = refl
takes_none (NextCommand o) t = refl
takes_none Obey t = refl

-- ---- it ends no other task

abbrev EndsNoOther : ℕ → State → State → Type 0
EndsNoOther i old new = (j : ℕ) → i ≢ j → is_ended (status_at old j) ≡ false → is_ended (status_at new j) ≡ false

other-with_task : (s : State) (i : ℕ) (t : Task) → EndsNoOther i s (with_task i t s)
other-with_task s i t j apart on =
    let P : ℕ → Task → Type 0 = λ k u. k ≡ j → is_ended u.status ≡ false in
    let before : (k : ℕ) → k ≡ j → is_ended (status_at s k) ≡ false = λ k e.
    subst (λ (m : ℕ). is_ended (status_at s m) ≡ false) (sym e) on in
    each-set no_task P s.tasks i t (λ e. absurd (apart e)) before j refl

other-with_call : (s : State) (i : ℕ) (call : CallProgress) → EndsNoOther i s (with_call i call s)
other-with_call s i call = other-with_task s i (record (task_at s i) { progress = record (progress_at s i) { call = call } })

other-go_to : (app : Application) (i n : ℕ) (p : Progress) (s : State) → EndsNoOther i s (go_to app i n p s)
unfolding go_to
other-go_to app i n p s = other-with_task s i (moved_to (op_count app i) n p (task_at s i))

other-next_turn : (app : Application) (i : ℕ) (p : Progress) (l : Loop) (ls : List Loop) (left : Option ℕ) (s : State)
    → EndsNoOther i s (next_turn app i p l ls left s)
other-next_turn app i p l ls None s j apart on = other-go_to app i l.start p s j apart on
other-next_turn app i p l ls (Some left) s j apart on = by_test (leb left 1)
    (λ t. rw t (other-go_to app i (p.op_index + 1) (record p { loops = ls }) s j apart on))
    (λ t. rw t (other-go_to app i l.start _ s j apart on))

other-turn : (app : Application) (i : ℕ) (p : Progress) (ls : List Loop) (s : State) → EndsNoOther i s (turn app i p ls s)
other-turn app i p [] s = other-go_to app i (p.op_index + 1) p s
other-turn app i p (l ∷ ls) s = other-next_turn app i p l ls l.left s

other-answer : (app : Application) (i : ℕ) (a : Option ℕ) (s : State) → EndsNoOther i s (answer app i a s)
unfolding answer
other-answer app i a s j apart on = other-go_to app i _ _ _ j apart on

other-answer_bits : (app : Application) (i group : ℕ) (c : Condition) (s : State) → EndsNoOther i s (answer_bits app i group c s)
unfolding answer_bits
other-answer_bits app i group c s j apart on = by_test (is_met (bits_at s group) c)
    (λ t. rw t (other-answer app i (Some (bits_at s group)) (with_bits group (bits_left (bits_at s group) c) s) j apart on))
    (λ t. rw t (other-answer app i (Some (bits_at s group)) s j apart on))

other-begin_bits_wait : (i group : ℕ) (c : Condition) (ticks : Option ℕ) (s : State)
    → EndsNoOther i s (begin_bits_wait i group c ticks s)
unfolding begin_bits_wait wait_for_bits set_deadline
other-begin_bits_wait i group c ticks s j apart on =
    let held : State = record s { call_hold = true } in
    let due : State = set_deadline i ticks held in
    let wanting : State = want i c due in
    let waits : State = wait_for_bits i group wanting in
    other-with_call waits i _ j apart
    (other-with_task wanting i _ j apart
    (other-with_call due i _ j apart (other-with_call held i _ j apart on)))

other-final : (app : Application) (i group : ℕ) (c : Condition) (kept : Option ℕ) (s : State)
    → EndsNoOther i s (final_bits app i group c kept s)
other-final app i group c None s = other-answer_bits app i group c s
other-final app i group c (Some bits) s = other-answer app i (Some bits) s

other-wait_bits : (app : Application) (i group : ℕ) (c : Condition) (ticks : Option ℕ) (phase : Phase) (s : State)
    → EndsNoOther i s (wait_bits app i group c ticks phase s)
unfolding check
other-wait_bits app i group c ticks Start s j apart on =
    by_test (is_met (bits_at s group) c || option_eq eqb ticks (Some 0))
    (λ t. rw t (other-answer_bits app i group c s j apart on))
    (λ t. rw t (other-begin_bits_wait i group c ticks s j apart on))
other-wait_bits app i group c ticks Try s j apart on = other-final app i group c (call_at s i).kept s j apart on
other-wait_bits app i group c ticks Decide s j apart on = other-final app i group c (call_at s i).kept s j apart on
other-wait_bits app i group c ticks Place s j apart on = other-final app i group c (call_at s i).kept s j apart on
other-wait_bits app i group c ticks Unlock s j apart on = other-final app i group c (call_at s i).kept s j apart on
other-wait_bits app i group c ticks Leave s j apart on =
    on-choose (end_hold i Try s) j
    (on-applied s.held_ticks (let_go i Try s) j (other-with_call (record s { call_hold = false }) i _ j apart on))

other-act : (app : Application) (i : ℕ) (op : Op) (s : State) → may_stay_amid op ≡ true → EndsNoOther i s (act app i op s)
unfolding expect open_loop close_turn branch skip_branch leave_loop stamp since calculate
other-act app i (Work n) s t = absurd (cc)
other-act app i (Delay n) s t = absurd (cc)
other-act app i (DelayUntil n) s t = absurd (cc)
other-act app i Yield s t = absurd (cc)
other-act app i Time s t = other-answer app i _ s
other-act app i (Mark n) s t = λ j apart on. other-go_to app i _ _ _ j apart on
other-act app i (Expect c) s t = λ j apart on. by_test (holds s.variables c (progress_at s i).answer)
    (λ u. rw u (other-go_to app i ((progress_at s i).op_index + 1) (progress_at s i) s j apart on))
    (λ u. rw u on)
other-act app i (Repeat n) s t = λ j apart on. other-go_to app i _ _ s j apart on
other-act app i EndLoop s t = other-turn app i (progress_at s i) (progress_at s i).loops s
other-act app i (If c) s t = λ j apart on. by_test (holds s.variables c (progress_at s i).answer)
    (λ u. rw u (other-go_to app i ((progress_at s i).op_index + 1) (progress_at s i) s j apart on))
    (λ u. rw u (other-go_to app i _ (progress_at s i) s j apart on))
other-act app i Else s t = λ j apart on. other-go_to app i _ _ s j apart on
other-act app i EndIf s t = λ j apart on. other-go_to app i _ _ s j apart on
other-act app i Break s t = λ j apart on. other-go_to app i _ _ s j apart on
other-act app i Stamp s t = λ j apart on. other-go_to app i _ _ s j apart on
other-act app i Since s t = other-answer app i _ s
other-act app i (Value op) s t = other-answer app i _ _
other-act app i (Await o a w) s t = absurd (cc)
other-act app i (Do o a) s t = absurd (cc)
other-act app i (GiveMutex o) s t = absurd (cc)
other-act app i (MessagesWaiting o) s t = other-answer app i _ s
other-act app i (SpacesAvailable o) s t = other-answer app i _ s
other-act app i (op.Source j what) s t = absurd (cc)
other-act app i (SetBits g m) s t = absurd (cc)
other-act app i (ClearBits g m) s t = absurd (cc)
other-act app i (GetBits g) s t = other-answer app i _ s
other-act app i (WaitBits g c w) s t = other-wait_bits app i g c w (call_at s i).phase s
other-act app i (Notify j a) s t = absurd (cc)
other-act app i (AwaitNotification w ticks) s t = absurd (cc)
other-act app i (ClearNotification x) s t = absurd (cc)
other-act app i (Suspend j) s t = absurd (cc)
other-act app i (Resume j) s t = absurd (cc)
other-act app i SuspendAll s t = absurd (cc)
other-act app i ResumeAll s t = absurd (cc)
other-act app i EnterCritical s t = absurd (cc)
other-act app i ExitCritical s t = absurd (cc)
other-act app i (NextCommand o) s t = absurd (cc)
other-act app i Obey s t = absurd (cc)

-- A log in which the next step begins holds what was reported before.
pub begun_anew : (old new : Logged) → new.before ≡ all_of old → new.told ≡ [] → all_of new ≡ all_of old
begun_anew old new before told = told_after new (all_of old) [] before told ∙ append-nil (all_of old)

-- A log that has reported nothing in this step holds what was reported before.
pub all_before : (log : Logged) → log.told ≡ [] → all_of log ≡ log.before
all_before log e = told_after log log.before [] refl e ∙ append-nil log.before

-- A deed in a step that has reported nothing yet.
pub reporting : (k new : Machine) (old_log new_log : Logged) (deed : State → State) → DoesAny 337 k old_log new new_log deed
    → old_log.told ≡ [] → (s : State) → AtAny k [] s → AtAny new new_log.told (deed s)
reporting k new old_log new_log deed does begun s h =
    does.at s (subst (λ (es : List Event). AtAny k es s) (sym begun) h)

-- Each `suspend_all` in force holds the scheduler.
pub suspensions_hold : (k : Machine) (s : State) → Stands k s → k.sched.suspensions ≤ k.sched.depth
suspensions_hold k s (Placed h) = let d = h.sched.depth in let n = h.sched.suspensions in omega arith
suspensions_hold k s (Placing task list b) = let d = b.sched.depth in let n = b.sched.suspensions in omega arith

-- ---- the step

module _ (app : Application) (limits : Limits) (k new : Machine) (task : ℕ) (op : Op) (at : IsAt app k task op)
    (calm : NonePends k) (stays : may_stay_amid op ≡ true) (runs : Runs k task) (placed : IsPlaced k new task) (told : List Event)
    (does : (s : State) → AtAny k [] s → AtAny new told (act_current app limits s.current s)) where
  same_sched : new.sched ≡ k.sched
  same_sched = ap (λ (x : Machine). x.sched) placed.1

  pub still_runs : new.sched.current ≡ Some task
  still_runs = ap (λ (v : Schedule). v.current) same_sched ∙ at.current

  pub still_awake : new.sched.suspensions ≡ 0
  still_awake = ap (λ (v : Schedule). v.suspensions) same_sched ∙ at.awake

  still_ready : is_ready_in new.sched task ≡ true
  still_ready = ap (λ (v : Schedule). is_ready_in v task) same_sched ∙ runs.ready

  settled : (t : State) → AtAny new told t → AtAny new told (unless_held settle t)
  settled t h = either new told t h
      (λ a.
      let runs : t.current ≡ Some task = sym a.stands.sched.current ∙ still_runs in
      let ready : is_ready t task ≡ true = sym (on_sched.ready_same new.sched t task a.stands.sched) ∙ still_ready in
      any new told (unless_held settle t) (settled_either new told t a (settled_on new told t a task runs ready)))
      (λ other list b. settled_before new told t h other list b)

  module _ (s : State) (h : Stands k s) where
    came : AtAny new told (unless_held settle (act_current app limits (before_step app [] s).current (before_step app [] s)))
    came = settled _ (does (before_step app [] s) (begun_with_none app s (none_by k s calm h) k [] (begun k [] s h refl)))

    same_steps : new.steps ≡ s.steps
    same_steps = ap (λ (x : Machine). x.steps) placed.1 ∙ steps_are k s h

    pub steps_there : new.steps ≡ k.steps
    steps_there = ap (λ (x : Machine). x.steps) placed.1

    pub stands_amid : Stands (record new { steps = new.steps + 1 }) (step app limits [] s)
    stands_amid = stepped app limits [] s new told new.steps same_steps came

    pub told_amid : told ≡ (step app limits [] s).log
    unfolding step
    told_amid = came.log

    begun_now : State
    begun_now = record s { log = [] }

    done : State
    done = act_current app limits s.current begun_now

    at_done : AtAny new told done
    unfolding done begun_now
    at_done = does (record s { log = [] }) (begun k [] s h refl)

    done_is : done ≡ act_by_value app task op begun_now
    unfolding done begun_now
    done_is =
        let r : State = record s { log = [] } in
        ap (λ (c : Option ℕ). act_current app limits c r) (sym (current_is k s h) ∙ at.current)
        ∙ ap (λ (o : Option Op). act_if app task o r)
        (ap (λ (p : Progress). op_at app task p.op_index) (sym (progress_is k s h task)) ∙ at.at)
        ∙ acts_calm app task op r (not_by_task k s h at.awake) (no_misuse op stays r task) (takes_none op stays)

    ends_nobody : (j : ℕ) → is_ended (status_at s j) ≡ false → is_ended (status_at done j) ≡ false
    unfolding begun_now
    ends_nobody j on = by_test (eqb task j)
        (λ t.
        subst (λ (i : ℕ). is_ended (status_at done i) ≡ false) (eqb-same task j t)
        (on_if_ready new done task at_done.stands still_ready))
        (λ t.
        let apart : task ≢ j = (λ e. let u : eqb task j ≡ true = rw e (eqb-refl j) in absurd (cc)) in
        subst (λ (x : State). is_ended (status_at x j) ≡ false) (sym done_is)
        (by_value (λ (x : State). is_ended (status_at x j) ≡ false) app task op (record s { log = [] }) on
        (other-act app task op (record s { log = [] }) stays j apart on)))

    pub on_amid : is_over app limits s ≡ false → is_over app limits (step app limits [] s) ≡ false
    unfolding done begun_now
    on_amid going =
        not_over_by app limits task s (none_by k s calm h) (act_current app limits s.current (record s { log = [] })) refl
        ends_nobody
        (sym (stopped_is new done at_done.stands) ∙ ap (λ (x : Machine). x.stopped) placed.1 ∙ stopped_is k s h)
        (sym (elapsed_is new done at_done.stands) ∙ ap (λ (x : Machine). x.clock.age + x.clock.held) placed.1 ∙ elapsed_is k s h)
        (sym (current_is (record new { steps = new.steps + 1 }) (step app limits [] s) stands_amid) ∙ still_runs)
        going
