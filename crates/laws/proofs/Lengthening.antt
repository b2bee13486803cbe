-- A step of `work` is a tick: one that is injected before the next such step does the same.
use Rattle.std.proofs.Common.{◌≡◌, ◌+◌, ◌∙◌, ℕ, true, false, eqb, [], ◌∷◌, length, Option, Some, None, refl}
use Rattle.std.proofs.Common.{ap, sym, subst, arith, get_or-set_same, ltb, ◌||◌}
use Rattle.std.specs.Prelude.{if◌then◌else◌}
use Rattle.std.specs.Option.{IfSome, is_some}
use Rattle.model.specs.declared.op.Op.{Op}
use Rattle.model.specs.declared.op.Op.TheVariants.{Work}
use Rattle.model.specs.Application.{Application, Limits}
use Rattle.model.specs.State.{State, Task, no_task, ticket_if_ready, status_at, task_at, progress_at, with_progress}
use Rattle.model.specs.State.{Status, Ready, Awake, Waiting, Asleep, WaitingForBits, WaitingForNotification, Suspended, Ended}
use Rattle.model.specs.Switching.{is_ready, is_off, choose, settle, slice, holds_ticks, is_critical, is_held, unless_held}
use Rattle.model.specs.Switching.{is_held_by_task, is_scheduler_suspended}
use Rattle.model.specs.Time.{increment_tick}
use Rattle.model.specs.Ops.{go_to, use_up}
use Rattle.model.specs.Handlers.{can_come, interrupt, serve, inject, tick_interrupt}
use Rattle.model.specs.declared.event.Misuse.{Misuse}
use Rattle.model.specs.Step.{is_ended, judge, act_if, act_unless, misuse, act_current, before_step, step}
use Rattle.model.specs.Invariant.{Suspension, suspension_of, IsNonePending}
use Rattle.model.proofs.Sorting.{by_test}
use Rattle.model.proofs.Lists.{eqb-apart, eqb-refl}
use Rattle.soundness.proofs.Settled.{IsSettled, when_held, when_free, no_task_holds, unlike}
use Rattle.soundness.proofs.Keeping.{keeps-use_up}
use Rattle.soundness.proofs.Ticking.{held-told, suspension-tick}
use Rattle.soundness.proofs.Pending.{begun_alone, begun_with, none_by}
use Rattle.soundness.proofs.Judging.{judged_calm, not_ended}
use Rattle.soundness.proofs.Going.{spares-interrupt}
use Rattle.soundness.proofs.Ticked.{settled_tick}
use Rattle.laws.proofs.Notifying.{ready_there}
use Rattle.laws.specs.Ticks.{WorksOn, with_steps}

-- ---- the task stays Ready

ready_not_ended : (s : State) (i : ℕ) → is_ready s i ≡ true → is_ended (status_at s i) ≡ false
ready_not_ended s i ready = by_status (status_at s i) ready where
  by_status : (u : Status) → is_some (ticket_if_ready u) ≡ true → is_ended u ≡ false
  by_status (Ready n) r = refl
  by_status (Awake w) r = unlike (sym r)
  by_status (Waiting w) r = unlike (sym r)
  by_status (Asleep w n) r = unlike (sym r)
  by_status (WaitingForBits g m d) r = unlike (sym r)
  by_status (WaitingForNotification m d) r = unlike (sym r)
  by_status Suspended r = unlike (sym r)
  by_status Ended r = unlike (sym r)

module _ (app : Application) (s : State) (i : ℕ) (on : holds_ticks s ≡ true) (held : is_held s ≡ true) where
  -- a held tick leaves a Ready task as it is
  still_ready : is_ready s i ≡ true → is_ready (tick_interrupt app s) i ≡ true
  unfolding tick_interrupt increment_tick
  still_ready ready =
      let come : State = record s { elapsed = s.elapsed + 1; held_ticks = s.held_ticks + 1 } in
      let told : State = interrupt app (increment_tick s) in
      let same : increment_tick s ≡ come = rw on refl in
      let at : task_at (interrupt app come) i ≡ task_at s i = (spares-interrupt app i come).ready i ready in
      subst (λ (t : State). is_ready t i ≡ true) (sym (when_held slice told (held-told app s ∙ held)))
      (subst (λ (c : State). is_ready (interrupt app c) i ≡ true) (sym same)
      (ap (λ (t : Task). is_some (ticket_if_ready t.status)) at ∙ ready))

-- It stays held.
held_after : (app : Application) (s : State) → is_held s ≡ true → is_held (tick_interrupt app s) ≡ true
unfolding tick_interrupt
held_after app s held =
    let told : State = interrupt app (increment_tick s) in
    let still : is_held told ≡ true = held-told app s ∙ held in
    ap is_held (when_held slice told still) ∙ still

-- If the running task is Ready no choice is made.
settles_nothing : (s : State) → IsSettled s → unless_held settle s ≡ s
unfolding settle
settles_nothing s h = by_test (is_held s)
    (λ held. when_held settle s held)
    (λ free. when_free settle s free ∙ by_current s.current h) where
      by_current : (r : Option ℕ) → IfSome r (λ task. is_ready s task ≡ true) → (if is_off s r then choose s else s) ≡ s
      by_current None h = refl
      by_current (Some i) h = rw h refl

-- ---- a step of `work` is a tick

module _ (app : Application) (limits : Limits) (i ticks : ℕ) where
  module _ (s : State) (w : WorksOn app s i ticks) (open_ : is_critical s ≡ false) where
    used : State
    used = use_up app i ticks s

    used_is : used ≡ with_progress i (record (progress_at s i) { used = (progress_at s i).used + 1 }) s
    unfolding used use_up
    used_is =
        let more : eqb ((progress_at s i).used + 1) ticks ≡ false =
        eqb-apart ((progress_at s i).used + 1) ticks (λ e. let l = w.left in omega arith) in
        rw more refl

    used_ready : is_ready used i ≡ true
    unfolding used
    used_ready =
        ap (λ (t : State). is_ready t i) used_is
        ∙ ap (λ (t : Task). is_some (ticket_if_ready t.status)) (get_or-set_same s.tasks i
        (record (task_at s i) { progress = record (progress_at s i) { used = (progress_at s i).used + 1 } }) no_task
        (ready_there s i w.ready))
        ∙ w.ready

    used_runs : used.current ≡ Some i
    unfolding used
    used_runs = ap (λ (t : State). t.current) used_is ∙ w.runs

    same_suspension : suspension_of used ≡ suspension_of s
    unfolding used
    same_suspension = (keeps-use_up app i ticks s).suspension

    used_open : is_critical used ≡ false
    used_open = ap (λ (x : Suspension). ltb 0 x.sections) same_suspension ∙ open_

    ticked : State
    ticked = tick_interrupt app used

    -- when the tick is held
    ends_held : holds_ticks used ≡ true
        → unless_held settle (judge i (progress_at s i).op_index ticked) ≡ ticked
    unfolding ticked
    ends_held on =
        let held : is_held used ≡ true = rw on refl in
        let same : is_held ticked ≡ true = held_after app used held in
        ap (unless_held settle) (not_ended i (progress_at s i).op_index ticked
        (ready_not_ended ticked i (still_ready app used i on held used_ready)))
        ∙ when_held settle ticked same

    -- and when it isn't
    ends_free : holds_ticks used ≡ false
        → unless_held settle (judge i (progress_at s i).op_index ticked) ≡ ticked
    unfolding ticked
    ends_free off =
        let free : is_held used ≡ false = rw (off, used_open) refl in
        let none : is_held_by_task ticked ≡ false =
        ap (λ (x : Suspension). ltb 0 x.suspensions || ltb 0 x.sections) (suspension-tick app used off) ∙ no_task_holds used free in
        let settled : IsSettled ticked = settled_tick app used free off
        (subst (λ (r : Option ℕ). IfSome r (λ task. is_ready used task ≡ true)) (sym used_runs) used_ready) in
        ap (unless_held settle) (judged_calm i (progress_at s i).op_index ticked none)
        ∙ settles_nothing ticked settled

    ends : unless_held settle (judge i (progress_at s i).op_index ticked) ≡ ticked
    ends = by_test (holds_ticks used) ends_held ends_free

    no_misuse : misuse s i (Work ticks) ≡ None
    no_misuse = by_test (is_scheduler_suspended s)
        (λ on. rw (on, open_) refl)
        (λ off. rw (off, open_) refl)

    -- the step, behind its beginning
    works : unless_held settle (act_current app limits s.current s) ≡ ticked
    unfolding ticked used
    works =
        ap (λ (c : Option ℕ). unless_held settle (act_current app limits c s)) w.runs
        ∙ ap (λ (o : Option Op). unless_held settle (act_if app i o s)) w.op
        ∙ ap (λ (kind : Option Misuse). unless_held settle (act_unless app i kind (Work ticks) s)) no_misuse
        ∙ ends

  worked : (s : State) → WorksOn app s i ticks → is_critical s ≡ false
      → unless_held settle (act_current app limits s.current s) ≡ tick_interrupt app (use_up app i ticks s)
  unfolding ticked used
  worked s w open_ = works s w open_

  the_tick : (s : State) → can_come s (length app.handlers) ≡ true → inject app (length app.handlers) s ≡ tick_interrupt app s
  unfolding inject serve
  the_tick s can = rw (can, eqb-refl (length app.handlers)) refl

  -- A step of the work leaves when the tick can come.
  can_still : (s : State) → can_come (use_up app i ticks s) (length app.handlers) ≡ can_come s (length app.handlers)
  unfolding use_up go_to
  can_still s = by_test (eqb ((progress_at s i).used + 1) ticks) (λ t. rw t refl) (λ t. rw t refl)

  unlogged : (s : State) → record (use_up app i ticks s) { log = [] } ≡ use_up app i ticks (record s { log = [] })
  unfolding use_up go_to
  unlogged s = by_test (eqb ((progress_at s i).used + 1) ticks) (λ t. rw t refl) (λ t. rw t refl)

  pub is_a_tick_of_work : (s : State) → WorksOn app s i ticks → can_come s (length app.handlers) ≡ true
      → is_critical s ≡ false → IsNonePending s
      → with_steps (s.steps + 1) (before_step app (length app.handlers ∷ []) (use_up app i ticks s)) ≡ step app limits [] s
  unfolding step
  is_a_tick_of_work s w can open_ none =
      let r : State = record s { log = [] } in
      let on : WorksOn app r i ticks = record { runs = w.runs; ready = w.ready; op = w.op; left = w.left } in
      let k = keeps-use_up app i ticks s in
      let begun : before_step app [] s ≡ r = begun_alone app s none in
      let acted : unless_held settle (act_current app limits (before_step app [] s).current (before_step app [] s))
      ≡ tick_interrupt app (use_up app i ticks r) =
      ap (λ (x : State). unless_held settle (act_current app limits x.current x)) begun ∙ worked r on open_ in
      let open_then : is_critical (use_up app i ticks s) ≡ false =
      ap (λ (x : Suspension). ltb 0 x.sections) k.suspension ∙ open_ in
      let come : before_step app (length app.handlers ∷ []) (use_up app i ticks s) ≡ tick_interrupt app (use_up app i ticks r) =
      begun_with app (length app.handlers ∷ []) (use_up app i ticks s)
      (none_by s (use_up app i ticks s) k.pending none) open_then
      ∙ the_tick (record (use_up app i ticks s) { log = [] }) (can_still s ∙ can)
      ∙ ap (tick_interrupt app) (unlogged s) in
      ap (with_steps (s.steps + 1)) (come ∙ sym acted)
