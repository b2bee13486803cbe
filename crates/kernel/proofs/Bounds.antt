-- A kernel whose run goes on keeps within the numbers of the code.
use Rattle.model.specs.declared.op.Op.TheVariants as op
use Rattle.model.specs.declared.op.Op.TheVariants.{Value}
use Rattle.model.specs.Values.{with_number}
use Rattle.soundness.proofs.Sparing.{fits-number}
use Rattle.std.proofs.Common.{◌≡◌, ◌≢◌, ◌<◌, ◌≤◌, ◌+◌, ◌^◌, inl, inr, ltb-false, ℕ, Bool, true, false, List, []}
use Rattle.std.proofs.Common.{◌∷◌, length}
use Rattle.std.proofs.Common.{Option, Some, None, refl, ap, ap₂, sym, subst, ◌∙◌, arith}
use Rattle.std.proofs.lemmas.Bool.{le-ltb}
use Rattle.model.specs.Switching.{is_ready, is_held}
use Rattle.std.proofs.lemmas.Option.{same_Some, slice_get_within}
use Rattle.std.specs.Option.{IfSome}
use Rattle.model.specs.declared.ids.TaskId.{TaskId}
use Rattle.model.specs.declared.call.Phase.{Phase}
use Rattle.model.specs.declared.call.Phase.TheVariants.{Start, Try, Decide, Place, Unlock, Leave}
use Rattle.model.specs.declared.op.Access.{Access}
use Rattle.model.specs.declared.op.Access.TheVariants.{Receive}
use Rattle.model.specs.declared.op.Op.{Op}
use Rattle.model.specs.declared.op.Op.TheVariants.{Work, Delay, DelayUntil, Yield, Time, Mark, Expect, Repeat, End as EndLoop, If}
use Rattle.model.specs.declared.op.Op.TheVariants.{Else, EndIf, Break, Stamp, Since, Await, Do, GiveMutex, MessagesWaiting}
use Rattle.model.specs.declared.op.Op.TheVariants.{SpacesAvailable, SetBits, ClearBits, GetBits, WaitBits, Notify}
use Rattle.model.specs.declared.op.Op.TheVariants.{AwaitNotification, ClearNotification, Suspend, Resume}
use Rattle.model.specs.declared.op.Op.TheVariants.{SuspendAll, ResumeAll, EnterCritical, ExitCritical, NextCommand, Obey}
use Rattle.model.specs.Application.{Application, Limits, script_of, op_at}
use Rattle.model.specs.Scripts.{fits_object, is_in_range, is_wait, IsWellFormed}
use Rattle.model.specs.State.{State, Progress, Wait, task_at, progress_at, call_at, source_at, status_at}
use Rattle.model.specs.Handlers.{pending_of}
use Rattle.std.specs.List.{filter, range_with_len}
use Rattle.std.proofs.lemmas.List.FromFn.{length-range_with_len}
use Rattle.model.specs.Invariant.{Hold, IsSound, IsState, IsUsedBy, IsRunning, IsPlacing, IsWaitOf, RunsIn, Course, OnObject}
use Rattle.model.specs.Invariant.{ToSetBits, UntilWoken, course, IsPhaseOf, hold_of, holds, wait_of}
use Rattle.soundness.proofs.InScripts.{Known, script_formed, stands_at, known_at, range_at}
use Rattle.soundness.proofs.Reckoned.{ready_reckoned}
use Rattle.soundness.proofs.Coming.{comes-before_step, few_ticks, ticks_before}
use Rattle.soundness.proofs.Begun.{reached_before_step}
use Rattle.soundness.proofs.Stepped.{start_only}
use Rattle.model.specs.Step.{before_step}
use Rattle.sched.proofs.Standing as on_sched
use Rattle.soundness.proofs.Sparing.{and_left, and_right}
use Rattle.objects.proofs.Sizes.{has_room}
use Rattle.machine.specs.declared.machine.Machine.{Machine}
use Rattle.machine.specs.StandsFor.{StandsFor, StandsBefore, Stands, decider, progress_in}
use Rattle.machine.specs.StandsFor.Stands.{Placed, Placing}
use Rattle.machine.specs.Can.{Runs, HasRoom, Agrees, IsAhead, IsInCall}
use Rattle.ops.specs.Can.{HasLoopRoom, HasObjects, CanTick, Can, CanTry, CanDecide, CanPlace, CanLeave, CanGoOn}
use Rattle.ops.specs.Can.{CanSetBits, CanAwaitEvent, CanHold}
use Rattle.kernel.specs.Can.{CanOp, CanAct, CanCome, CanIdle, CanStep, most_elapsed}
use Rattle.machine.proofs.Either.{elapsed_is, now_is, current_is, progress_is, sections_are, suspensions_are}
use Rattle.sched.specs.StandsFor.{depth_of, task_holds_of}
use Rattle.model.proofs.Sorting.{by_test}
use Rattle.soundness.proofs.Settled.{nothing_holds}
use Rattle.kernel.proofs.Holds.{below_limits, loop_room, IsBrief, known_object, short, left_unlocked, unlocked, none_held}
use Rattle.kernel.proofs.Holds.{unheld, holds_by_some, nothing_left, no_call, once_held}

-- the kernel represents a state of a run, early enough
module _ (app : Application) (formed : IsWellFormed app) (k : Machine) (state : State) (reached : IsState app state)
    (stands : Stands k state) (early : state.elapsed ≤ most_elapsed) where
  time_low : k.clock.now < 4294967296 + 281474976710677
  time_low = let e = now_is k state stands in let l = early in let m = reached.sound.time.1 in let n = formed.start in omega arith

  pub rooms : HasObjects app k
  rooms object access fit = by_stands stands where
    by_stands : Stands k state → HasRoom k object access
    by_stands (Placed h) = has_room app (hold_of state) k.objects None state object access reached.sound h.rest.objects fit
    by_stands (Placing task list b) =
        has_room app (hold_of state) k.objects (Some (decider task list state)) state object access reached.sound b.objects fit

  depth_in : k.sched.depth ≡ depth_of state
  depth_in = by_stands stands where
    by_stands : Stands k state → k.sched.depth ≡ depth_of state
    by_stands (Placed h) = h.sched.depth
    by_stands (Placing task list b) = b.sched.depth

  -- no call holds the scheduler
  module _ (free : state.call_hold ≡ false) where
    placed : StandsFor k state
    placed = by_stands stands where
      by_stands : Stands k state → StandsFor k state
      by_stands (Placed h) = h
      by_stands (Placing task list b) = let held = b.held in absurd (cc)

    no_lock : k.objects.lock ≡ None
    no_lock = unlocked k.objects.lock state.locked placed.rest.objects.locked (reached.locked free)

  -- no `suspend_all` is in force
  module _ (awake : k.sched.suspensions ≡ 0) where
    calm : task_holds_of state ≡ 0
    calm = sym (suspensions_are k state stands) ∙ awake

    not_held : state.call_hold ≡ false → k.sched.depth ≡ 0
    not_held free = none_held (task_holds_of state) state.call_hold k.sched.depth depth_in calm free

    held_once : state.call_hold ≡ true → k.sched.depth ≡ 1
    held_once held = once_held (task_holds_of state) state.call_hold k.sched.depth depth_in calm held

    can_tick : state.call_hold ≡ false → CanTick app k
    can_tick free =
        record {
          advance =
              record {
                agrees = (state, placed free);
                free = no_lock free;
                age = let l = early in let f = elapsed_is k state stands in omega arith;
                depth = not_held free;
              };
          depth = not_held free;
          objects = rooms;
        }

  module _ (task : TaskId) (runs : k.sched.current ≡ Some task) where
    same : progress_in k.progress task ≡ progress_at state task
    same = progress_is k state stands task

    on : state.current ≡ Some task
    on = sym (current_is k state stands) ∙ runs

    running : IsRunning app state task
    running = subst (RunsIn app state) on reached.runs

    free_in : (phase : Phase) → (call_at state task).phase ≡ phase → holds phase ≡ false → state.call_hold ≡ false
    free_in phase e off = sym running.holding ∙ ap holds e ∙ off

    held_in : (phase : Phase) → (call_at state task).phase ≡ phase → holds phase ≡ true → state.call_hold ≡ true
    held_in phase e t = sym running.holding ∙ ap holds e ∙ t

    -- where every task is placed
    in_place : (phase : Phase) → (call_at state task).phase ≡ phase → phase ≢ Place → StandsFor k state
    in_place phase e off = by_stands stands where
      by_stands : Stands k state → StandsFor k state
      by_stands (Placed h) = h
      by_stands (Placing other list b) =
          let one : other ≡ task = same_Some other task (sym b.current ∙ on) in
          let there : (call_at state task).phase ≡ Place = subst (λ (i : ℕ). (call_at state i).phase ≡ Place) one b.phase in
          absurd (off (sym e ∙ there))

    in_call : (phase : Phase) → (call_at state task).phase ≡ phase → phase ≢ Place → IsInCall k task
    in_call phase e off = record { current = runs; agrees = (state, in_place phase e off) }

    -- who is to let go of the scheduler has locked nothing
    none_locked : (call_at state task).phase ≡ Leave → k.objects.lock ≡ None
    none_locked e =
        let there : IsPhaseOf (hold_of state) (course (op_at app task (progress_at state task).op_index)) Leave =
        subst (IsPhaseOf (hold_of state) (course (op_at app task (progress_at state task).op_index))) e
        (reached.sound.calls task).phase in
        unlocked k.objects.lock state.locked (in_place Leave e (λ q. absurd (cc))).rest.objects.locked
        (left_unlocked (hold_of state) (course (op_at app task (progress_at state task).op_index)) there)

    module _ (op : Op) (is : op_at app task (progress_in k.progress task).op_index ≡ Some op) where
      at_op : op_at app task (progress_at state task).op_index ≡ Some op
      at_op = let P : Progress → Type 0 = λ p. op_at app task p.op_index ≡ Some op in subst P same is

      ready_here : state.call_hold ≡ false → is_ready state task ≡ true
      ready_here free = elim (running.ready free) [ inl r ↦ r | inr x ↦ let f : None ≡ Some op = sym x.1 ∙ at_op in absurd (cc) ]

      known : Known app task (progress_at state task).op_index op
      known = known_at app formed task (progress_at state task).op_index op at_op

      low : (progress_in k.progress task).op_index < 256
      low =
          let w = slice_get_within (script_of app task) (progress_in k.progress task).op_index op is in
          let n = (script_formed app formed task).few in omega arith

      used : IsUsedBy (progress_in k.progress task).used (Some op)
      used =
          let W : Option Op → Type 0 = λ o. IsUsedBy (progress_at state task).used o in
          let U : Progress → Type 0 = λ p. IsUsedBy p.used (Some op) in
          subst U (sym same) (subst W at_op (reached.sound.progress task).used)

      nesting : HasLoopRoom op (length (progress_in k.progress task).loops)
      nesting =
          let may =
          stands_at (length (progress_at state task).loops) (progress_at state task).op_index
          (script_of app task) op (reached.sound.progress task).nests at_op in
          let H : Progress → Type 0 = λ p. HasLoopRoom op (length p.loops) in
          subst H (sym same) (subst (HasLoopRoom op) may.count (loop_room op may.blocks may.may))

      -- in this phase the op may be
      fits_phase : (phase : Phase) → (call_at state task).phase ≡ phase → IsPhaseOf (hold_of state) (course (Some op)) phase
      fits_phase phase e =
          let P : Option Op → Type 0 = λ o. IsPhaseOf (hold_of state) (course o) (call_at state task).phase in
          subst (IsPhaseOf (hold_of state) (course (Some op))) e (subst P at_op (reached.sound.calls task).phase)

      in_range : is_in_range op ≡ true
      in_range = range_at (progress_at state task).op_index (script_of app task) op (script_formed app formed task).ranges at_op

      -- where no call holds the scheduler the running task is Ready, and in a set of bits too
      runs_ready : StandsFor k state → is_ready state task ≡ true → Runs k task
      runs_ready h ready = record { current = runs; ready = on_sched.ready_same k.sched state task h.sched ∙ ready; op_index = low }

      runs_on : state.call_hold ≡ false → Runs k task
      runs_on free = runs_ready (placed free) (ready_here free)

      stamped : (progress_in k.progress task).stamp ≤ k.clock.now
      stamped =
          let H : Progress → Type 0 = λ p. p.stamp ≤ k.clock.now in
          subst H (sym same) (rw (now_is k state stands) (reached.sound.progress task).stamped)

      module _ (free : state.call_hold ≡ false) where
        previous : (progress_in k.progress task).previous_wake ≤ k.clock.now
        previous =
            let lower =
            ready_reckoned state.time (progress_at state task).previous_wake
            (status_at state task) (reached.sound.progress task).reckoned (ready_here free) in
            let H : Progress → Type 0 = λ p. p.previous_wake ≤ k.clock.now in
            subst H (sym same) (rw (now_is k state stands) lower)

        can : k.sched.suspensions ≡ 0 → IsBrief op → Can app k task op
        can awake brief = record {
          runs = runs_on free;
          tick = can_tick awake free;
          used = used;
          nesting = nesting;
          object = known_object app task (progress_at state task).op_index op brief known k rooms;
          previous_wake = previous;
          stamp = stamped;
          time = let l = time_low in omega arith;
        }

        can_decide : k.sched.suspensions ≡ 0 → CanDecide k task
        can_decide awake =
            record { runs = runs_on free; agrees = (state, placed free); free = no_lock free; depth = not_held awake free }

      brief_can : k.sched.suspensions ≡ 0 → IsBrief op → Can app k task op
      brief_can awake brief = can (start_only app formed state task reached on op brief at_op) awake brief

      can_leave : k.sched.suspensions ≡ 0 → (call_at state task).phase ≡ Leave → CanLeave k task
      can_leave awake e =
          record {
            call = in_call Leave e (λ q. absurd (cc));
            held = held_once awake (held_in Leave e refl);
            awake = awake;
            free = none_locked e;
            age = let l = early in let f = elapsed_is k state stands in omega arith;
          }

    -- a call on an object that waits there, at most for this many ticks
    module _ (object : ℕ) (access : Access ℕ) (ticks : Option ℕ) (op : Op)
        (is : op_at app task (progress_in k.progress task).op_index ≡ Some op) (way : course (Some op) ≡ OnObject object)
        (fit : fits_object app object access ≡ true) (range : is_wait ticks ≡ true) (awake : k.sched.suspensions ≡ 0) where
      can_try : state.call_hold ≡ false → CanTry k task object access
      can_try free =
          record {
            runs = runs_on op is free;
            agrees = (state, placed free);
            free = no_lock free;
            depth = not_held awake free;
            room = rooms object access fit;
          }

      in_state : (wait : Option Wait) (deadline : Option ℕ)
          → IfSome wait (λ w. IsWaitOf (op_at app task (progress_at state task).op_index) deadline w)
          → IsPlacing state.time (task_at state task) wait
          → IfSome deadline (λ d. d < state.time + 4294967296) → IsAhead state.time deadline
      in_state None deadline w p near = absurd p
      in_state (Some w) None of p near = tt
      in_state (Some w) (Some d) of p near =
          let later : state.time < d = subst (λ (o : Option ℕ). IfSome o (λ time. state.time < time)) of.deadline p.1 in
          (later, omega arith)

      deadline_near : (call_at state task).phase ≡ Place → IsAhead k.clock.now (progress_in k.progress task).call.deadline
      deadline_near e =
          let D : Progress → Type 0 = λ p. IsAhead k.clock.now p.call.deadline in
          subst D (sym same) (subst (λ (now : ℕ). IsAhead now (call_at state task).deadline) (sym (now_is k state stands))
          (in_state (wait_of (status_at state task)) (call_at state task).deadline
          (reached.sound.calls task).wait (running.placing e) (reached.sound.calls task).near))

      -- where it is to be placed, it is this task
      before : (call_at state task).phase ≡ Place → CanPlace k task
      before e = by_stands stands where
        by_stands : Stands k state → CanPlace k task
        by_stands (Placed h) = absurd (h.rest.placed task (ap (λ (p : Progress). p.call.phase) (h.rest.progress task) ∙ e))
        by_stands (Placing other list b) =
            let one : other ≡ task = same_Some other task (sym b.current ∙ on) in
            record {
              state = state;
              list = list;
              stands = subst (λ (i : ℕ). StandsBefore i list k state) one b;
              deadline = deadline_near e;
            }

      goes_on : (phase : Phase) → (call_at state task).phase ≡ phase → CanGoOn k task object access ticks phase
      goes_on Start e = (can_try (free_in Start e refl), short ticks range, let l = time_low in omega arith)
      goes_on Try e = can_try (free_in Try e refl)
      goes_on Decide e = can_decide op is (free_in Decide e refl) awake
      goes_on Place e = before e
      goes_on Unlock e = in_call Unlock e (λ q. absurd (cc))
      goes_on Leave e = can_leave op is awake e

    -- a set of bits, by an op of that course
    sets : (op : Op) → op_at app task (progress_in k.progress task).op_index ≡ Some op → course (Some op) ≡ ToSetBits
        → k.sched.suspensions ≡ 0 → (phase : Phase) → (call_at state task).phase ≡ phase → CanSetBits k task phase
    sets op is goes awake Start e = can_decide op is (free_in Start e refl) awake
    sets op is goes awake Leave e =
        let can = can_leave op is awake e in
        let way : course (op_at app task (progress_at state task).op_index) ≡ ToSetBits = ap course (at_op op is) ∙ goes in
        (runs_placed can.call.agrees (running.setting (held_in Leave e refl) way), can) where
          runs_placed : Agrees k → is_ready state task ≡ true → Runs k task
          runs_placed a ready = by_stands stands where
            by_stands : Stands k state → Runs k task
            by_stands (Placed h) = runs_ready op is h ready
            by_stands (Placing other list b) =
                absurd (a.1.rest.placed other (ap (λ (p : Progress). p.call.phase) (b.progress other) ∙ b.phase))
    sets op is goes awake Try e = absurd (subst (λ (c : Course). IsPhaseOf (hold_of state) c Try) goes (fits_phase op is Try e))
    sets op is goes awake Decide e =
        absurd (subst (λ (c : Course). IsPhaseOf (hold_of state) c Decide) goes (fits_phase op is Decide e))
    sets op is goes awake Place e =
        absurd (subst (λ (c : Course). IsPhaseOf (hold_of state) c Place) goes (fits_phase op is Place e))
    sets op is goes awake Unlock e =
        absurd (subst (λ (c : Course). IsPhaseOf (hold_of state) c Unlock) goes (fits_phase op is Unlock e))

    -- a wait for bits, or for a notification
    waits : (op : Op) (ticks : Option ℕ) → op_at app task (progress_in k.progress task).op_index ≡ Some op
        → course (Some op) ≡ UntilWoken → is_wait ticks ≡ true → k.sched.suspensions ≡ 0 → (phase : Phase)
        → (call_at state task).phase ≡ phase → CanAwaitEvent k task ticks phase
    waits op ticks is goes brief awake Start e =
        (can_decide op is (free_in Start e refl) awake, short ticks brief, let l = time_low in omega arith)
    waits op ticks is goes brief awake Leave e = can_leave op is awake e
    waits op ticks is goes brief awake Try e = can_decide op is (free_in Try e refl) awake
    waits op ticks is goes brief awake Decide e =
        absurd (subst (λ (c : Course). IsPhaseOf (hold_of state) c Decide) goes (fits_phase op is Decide e))
    waits op ticks is goes brief awake Place e =
        absurd (subst (λ (c : Course). IsPhaseOf (hold_of state) c Place) goes (fits_phase op is Place e))
    waits op ticks is goes brief awake Unlock e =
        absurd (subst (λ (c : Course). IsPhaseOf (hold_of state) c Unlock) goes (fits_phase op is Unlock e))

    can_op : k.sched.suspensions ≡ 0 → (op : Op) → op_at app task (progress_in k.progress task).op_index ≡ Some op
        → CanOp app k task op
    can_op awake (Work n) is = brief_can (Work n) is awake refl
    can_op awake (Delay n) is = brief_can (Delay n) is awake refl
    can_op awake (DelayUntil n) is = brief_can (DelayUntil n) is awake refl
    can_op awake Yield is = brief_can Yield is awake refl
    can_op awake Time is = brief_can Time is awake refl
    can_op awake (Mark n) is = brief_can (Mark n) is awake refl
    can_op awake (Expect a) is = brief_can (Expect a) is awake refl
    can_op awake (Repeat n) is = brief_can (Repeat n) is awake refl
    can_op awake EndLoop is = brief_can EndLoop is awake refl
    can_op awake (If c) is = brief_can (If c) is awake refl
    can_op awake Else is = brief_can Else is awake refl
    can_op awake EndIf is = brief_can EndIf is awake refl
    can_op awake Break is = brief_can Break is awake refl
    can_op awake Stamp is = brief_can Stamp is awake refl
    can_op awake Since is = brief_can Since is awake refl
    can_op awake (Value op) is = brief_can (Value op) is awake refl
    can_op awake (Await o a w) is = λ variables answer.
        subst (λ (p : Progress). CanGoOn k task o (with_number variables answer a) w p.call.phase) (sym same)
        (goes_on o (with_number variables answer a) w (Await o a w) is refl
        (fits-number app o variables answer a ∙ and_left (fits_object app o a) _ (known (Await o a w) is))
        (in_range (Await o a w) is) awake (call_at state task).phase refl)
    can_op awake (op.Source j what) is = brief_can (op.Source j what) is awake refl
    can_op awake (Do o a) is = brief_can (Do o a) is awake refl
    can_op awake (GiveMutex o) is = brief_can (GiveMutex o) is awake refl
    can_op awake (MessagesWaiting o) is = brief_can (MessagesWaiting o) is awake refl
    can_op awake (SpacesAvailable o) is = brief_can (SpacesAvailable o) is awake refl
    can_op awake (SetBits g m) is =
        subst (λ (p : Progress). CanSetBits k task p.call.phase) (sym same)
        (sets (SetBits g m) is refl awake (call_at state task).phase refl)
    can_op awake (ClearBits g m) is = brief_can (ClearBits g m) is awake refl
    can_op awake (GetBits g) is = brief_can (GetBits g) is awake refl
    can_op awake (WaitBits g c w) is =
        subst (λ (p : Progress). CanAwaitEvent k task w p.call.phase)
        (sym same) (waits (WaitBits g c w) w is refl (and_right _ (is_wait w) (in_range (WaitBits g c w) is)) awake
        (call_at state task).phase refl)
    can_op awake (Notify j a) is = brief_can (Notify j a) is awake refl
    can_op awake (AwaitNotification w ticks) is =
        subst (λ (p : Progress). CanAwaitEvent k task ticks p.call.phase)
        (sym same) (waits (AwaitNotification w ticks) ticks is refl (in_range (AwaitNotification w ticks) is) awake
        (call_at state task).phase refl)
    can_op awake (ClearNotification x) is = brief_can (ClearNotification x) is awake refl
    can_op awake (Suspend j) is = brief_can (Suspend j) is awake refl
    can_op awake (Resume j) is = brief_can (Resume j) is awake refl
    can_op awake SuspendAll is = brief_can SuspendAll is awake refl
    can_op awake ResumeAll is = brief_can ResumeAll is awake refl
    can_op awake EnterCritical is = brief_can EnterCritical is awake refl
    can_op awake ExitCritical is = brief_can ExitCritical is awake refl
    can_op awake (NextCommand o) is =
        subst (λ (p : Progress). CanGoOn k task o Receive None p.call.phase) (sym same)
        (goes_on o Receive None (NextCommand o) is refl (known (NextCommand o) is).2 refl awake (call_at state task).phase refl)
    can_op awake Obey is =
        subst (λ (p : Progress). CanSetBits k task p.call.phase) (sym same)
        (sets Obey is refl awake (call_at state task).phase refl)

    -- a task holds the scheduler
    can_hold : 0 < k.sched.suspensions → task_holds_of state < 1000000 → (op : Op)
        → op_at app task (progress_in k.progress task).op_index ≡ Some op → CanHold app k task op
    can_hold some few op is =
        let free : state.call_hold ≡ false =
        reached.apart (holds_by_some state (let all = suspensions_are k state stands in omega arith)) in
        let h = placed free in
        let elapsed = elapsed_is k state stands in
        record {
          runs = runs_on op is free;
          agrees = (state, h);
          free = no_lock free;
          age = let l = early in omega arith;
          held = let l = early in omega arith;
          suspensions = let e = suspensions_are k state stands in let l = few in omega arith;
          sections = let e = suspensions_are k state stands in let f = sections_are k state stands in omega arith;
          depth = depth_in ∙ unheld (task_holds_of state) state.call_hold free ∙ sym (suspensions_are k state stands);
          objects = rooms;
          used = used op is;
          nesting = nesting op is;
          stamp = stamped op is;
        }

  -- where idle runs, nothing is held
  idle_held : k.sched.current ≡ None → is_held state ≡ false
  idle_held idle = subst (RunsIn app state) (sym (current_is k state stands) ∙ idle) reached.runs

  idle_free : k.sched.current ≡ None → state.call_hold ≡ false
  idle_free idle = (nothing_holds state (idle_held idle)).0

  idle_awake : k.sched.current ≡ None → k.sched.suspensions ≡ 0
  idle_awake idle =
      let most = ltb-false 0 state.suspensions (nothing_holds state (idle_held idle)).1 in
      let shut = ltb-false 0 state.sections (nothing_holds state (idle_held idle)).2 in
      suspensions_are k state stands ∙ (let none : task_holds_of state ≡ 0 = omega arith in none)

  can_idle : (limits : Limits) → limits.ticks ≤ 281474976710656 → k.sched.current ≡ None → CanIdle app limits k
  can_idle limits most idle = record {
    tick = can_tick (idle_awake idle) (idle_free idle);
    early = let l = early in let e = elapsed_is k state stands in omega arith;
    limit = omega arith;
  }

  pub can_act : (limits : Limits) → limits.ticks ≤ 281474976710656 → task_holds_of state < 1000000 → CanAct app limits k
  can_act limits most few =
      record {
        idle = can_idle limits most;
        op = λ task op runs is. ((λ awake. can_op task runs awake op is), (λ some. can_hold task runs some few op is));
      }

  -- nothing holds the scheduler
  pub tick_at_rest : k.sched.depth ≡ 0 → CanTick app k
  tick_at_rest none =
      let no_holds : task_holds_of state ≡ 0 = nothing_left (task_holds_of state) state.call_hold (sym depth_in ∙ none) in
      let free : state.call_hold ≡ false = no_call (task_holds_of state) state.call_hold (sym depth_in ∙ none) in
      can_tick (suspensions_are k state stands ∙ no_holds) free

  pub held_below : k.clock.held < 2 ^ 62
  held_below = let l = early in let e = elapsed_is k state stands in omega arith

-- The running task is one of those that there are.
pub runs_there : (app : Application) (k : Machine) (s : State) (hold : Hold) → Stands k s
    → IsSound app hold s → IfSome k.sched.current (λ task. task < length app.tasks)
runs_there app k s hold h sound =
    let within : IfSome s.current (λ task. task < length app.tasks) =
    subst (λ (n : ℕ). IfSome s.current (λ task. task < n)) sound.tasks sound.table.current in
    subst (λ (o : Option ℕ). IfSome o (λ task. task < length app.tasks)) (sym (current_is k s h)) within

-- ---- before a step, and after the interrupts that come before it

few_kept : (p : ℕ → Bool) (xs : List ℕ) → length (filter p xs) ≤ length xs
few_kept p [] = omega arith
few_kept p (x ∷ xs) = let few = few_kept p xs in by_test (p x) (λ t. rw t (omega arith)) (λ t. rw t (omega arith))

few_of : (p : ℕ → Bool) (n : ℕ) → length (filter p (range_with_len 0 n)) ≤ n
few_of p n = let few = few_kept p (range_with_len 0 n) in let all = length-range_with_len 0 n in omega arith

module _ (app : Application) (formed : IsWellFormed app) {limits : Limits} (k : Machine) (c : CanStep app limits k) where
  abbrev now : State
  now = c.state

  early_now : now.elapsed < 281474976710656
  early_now = let l = (below_limits app limits now c.goes_on).0 in let m = c.are.1 in omega arith

  within_now : now.elapsed ≤ most_elapsed
  within_now = let l = early_now in omega arith

  -- Where no critical section is open, interrupts can come.
  pub can_come : k.sections ≡ 0 → CanCome app 20 k
  can_come none = record {
    state = now;
    stands = c.stands;
    sound = c.sound;
    closed = let same = sections_are k now c.stands in le-ltb 0 now.sections (omega arith);
    early = let l = early_now in omega arith;
  }

  -- the ticks that come before a step, of which three at most are injected
  few_before : (sources : List ℕ) → length sources ≤ 3 → ticks_before app sources now ≤ 20
  few_before sources few =
      let pending : length (pending_of now) ≤ length now.sources =
      few_of (λ source. (source_at now source).pending) (length now.sources) in
      let ones = few_ticks app (pending_of now) in
      let others = few_ticks app sources in
      let all = c.sound.sound.sources in
      let most = formed.few_handlers in
      omega arith

  pub can_act_after : (sources : List ℕ) → length sources ≤ 3 → (new : Machine) → Stands new (before_step app sources now)
      → CanAct app limits new
  can_act_after sources three new h =
      let k = comes-before_step app sources now in
      let ticks = few_before sources three in
      let passed : (before_step app sources now).elapsed ≤ now.elapsed + ticks_before app sources now = k.elapsed in
      let early : (before_step app sources now).elapsed ≤ most_elapsed = (let l = early_now in omega arith) in
      let count : task_holds_of (before_step app sources now) ≡ task_holds_of now =
      ap₂ (λ (x y : ℕ). x + y) k.suspensions k.sections in
      let few : task_holds_of (before_step app sources now) < 1000000 =
      (let n = c.suspended in let l = (below_limits app limits now c.goes_on).1 in let o = c.are.3 in omega arith) in
      can_act app formed new (before_step app sources now)
      (reached_before_step app formed sources now c.sound) h early limits c.are.1 few

  -- and the task that runs then is there
  pub there_after : (handlers : List ℕ) (new : Machine) → Stands new (before_step app handlers now)
      → IfSome new.sched.current (λ task. task < length app.tasks)
  there_after handlers new h =
      runs_there app new (before_step app handlers now) (hold_of (before_step app handlers now))
      h (reached_before_step app formed handlers now c.sound).sound

  pub can_do : (task : TaskId) → k.sched.current ≡ Some task → k.sched.suspensions ≡ 0 → (op : Op)
      → op_at app task (progress_in k.progress task).op_index ≡ Some op → CanOp app k task op
  can_do task runs awake op at = can_op app formed k now c.sound c.stands within_now task runs awake op at

  pub held_in_call : (task : TaskId) → k.sched.current ≡ Some task → k.sched.suspensions ≡ 0 → (phase : Phase)
      → (progress_in k.progress task).call.phase ≡ phase → holds phase ≡ true → k.sched.depth ≡ 1
  held_in_call task runs awake phase e t =
      held_once app formed k now c.sound c.stands within_now awake
      (held_in app formed k now c.sound c.stands within_now task runs phase
      (ap (λ (p : Progress). p.call.phase) (sym (progress_is k now c.stands task)) ∙ e) t)
