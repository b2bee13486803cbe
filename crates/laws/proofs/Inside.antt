-- While a critical section is open no step looks at what is pending, and no handler comes. Then what is pending comes.
use Rattle.model.specs.declared.op.Op.TheVariants.{Value}
use Rattle.model.specs.Step.{act_by_value, lacks_value}
use Rattle.soundness.proofs.Passing.{by_value}
use Rattle.model.specs.Ops.{calculate}
use Rattle.std.proofs.Common.{◌≡◌, ◌≢◌, ◌<◌, ◌≤◌, ◌+◌, ◌∙◌, ◌++◌, ◌&&◌, ℕ, zero, suc, Bool, true, false, eqb, leb, ltb, List}
use Rattle.std.proofs.Common.{[], ◌∷◌}
use Rattle.std.proofs.Common.{length, map, get_or, set, Option, Some, None, refl, ap, ap₂, sym, subst, arith}
use Rattle.std.proofs.Common.{get_or-set_same}
use Rattle.std.proofs.Common.{get_or-set_other}
use Rattle.std.specs.List.{AllByRecursion, filter, range_with_len}
use Rattle.std.proofs.Math.ListN.{length-set}
use Rattle.model.specs.declared.answer.AnswerCondition.{AnswerCondition}
use Rattle.model.specs.declared.event.Event.{Event}
use Rattle.model.specs.declared.event.Misuse.{Misuse}
use Rattle.model.specs.declared.loops.Loop.{Loop}
use Rattle.model.specs.declared.op.Op.{Op}
use Rattle.model.specs.declared.op.Op.TheVariants.{Work, Delay, DelayUntil, Yield, Time, Mark, Expect, Repeat, End, If, Else, EndIf}
use Rattle.model.specs.declared.op.Op.TheVariants.{Break, Stamp, Since, Await, Do, GiveMutex, MessagesWaiting, SpacesAvailable}
use Rattle.model.specs.declared.op.Op.TheVariants.{SetBits, ClearBits, GetBits, WaitBits, Suspend, Resume, SuspendAll, ResumeAll}
use Rattle.model.specs.declared.op.Op.TheVariants.{EnterCritical, ExitCritical, Notify, AwaitNotification, ClearNotification}
use Rattle.model.specs.declared.op.Op.TheVariants.{NextCommand, Obey}
use Rattle.model.specs.Notifications.{clear_notification}
use Rattle.model.specs.Answers.{holds}
use Rattle.model.specs.Application.{Application, Limits, op_at}
use Rattle.model.specs.Scripts.{IsWellFormed}
use Rattle.model.specs.State.{State, Source, Progress, no_source, source_at, progress_at, status_at, for_one, for_each}
use Rattle.model.specs.Switching.{is_same, choice, is_off, settle, choose, dispatch, is_held, is_critical, unless_held}
use Rattle.model.specs.Ops.{go_to, answer, called, expect, open_loop, next_turn, turn, close_turn, branch, skip_branch, leave_loop}
use Rattle.model.specs.Ops.{stamp, since, with_sections}
use Rattle.model.specs.Groups.{clear}
use Rattle.model.specs.Handlers.{serve, inject, pend, pending_of, none_pending}
use Rattle.model.specs.Step.{is_ended, end_misuse, misused, judge, act, act_unless, is_barred, misuse, act_if, act_current}
use Rattle.model.specs.Step.{before_step}
use Rattle.model.specs.Step.{step}
use Rattle.model.specs.Invariant.{IsNonePending, IsState, RunsIn}
use Rattle.model.proofs.Sorting.{by_test}
use Rattle.model.proofs.Lists.{eqb-refl, eqb-same}
use Rattle.soundness.proofs.Settled.{when_held, when_free, nothing_holds, unlike}
use Rattle.soundness.proofs.Judging.{by_judgement, not_barred}
use Rattle.soundness.proofs.Pending.{AreNonePending, begun_critical, begun_open, begun_with, none_still, not_pending}
use Rattle.soundness.proofs.Pending.{begun_alone, same_sources}
use Rattle.soundness.proofs.Begun.{reached_step}
use Rattle.std.proofs.lemmas.Option.{slice_get_past}
use Rattle.std.specs.Option.{option_map, unwrap_or}
use Rattle.std.proofs.Common.{◌-◌}
use Rattle.model.specs.declared.op.Op.TheVariants as op
use Rattle.model.specs.declared.source.SourceOp.{SourceOp}
use Rattle.model.specs.declared.source.SourceOp.TheVariants.{Arm, Disarm, Raise, Cancel}
use Rattle.model.specs.Ops.{control, do_to_source}
use Rattle.model.specs.Application.{Handler}
use Rattle.model.specs.Switching.{preempt}
use Rattle.model.specs.Handlers.{apart_of, can_come, come, handle, is_tick, note_coming}
use Rattle.soundness.proofs.Keeping.{keeps-settle, keeps-unless_held}
use Rattle.soundness.proofs.Passing.{by_op, lasts-act, opens}
use Rattle.laws.proofs.Sources.{changed_at, changed_twice, in_either_order, marked, marked_again, noted, noted_again, unchanged_at}
use Rattle.laws.specs.Sections.{alone, are_critical, is_of_handler, made_pending}

-- ---- a source that becomes pending

module _ (app : Application) (handler : ℕ) where
  -- with the source so changed
  abbrev with_mark : ℕ → State → State
  with_mark now s = record s { sources = changed_at (marked app handler now) handler s.sources }

  made_is : (s : State) → made_pending app handler s ≡ with_mark s.elapsed s
  made_is s =
      ap (λ (ys : List Source). record s { sources = ys })
      (changed_twice (noted app handler s.elapsed) (λ (x : Source). record x { pending = true }) s.sources handler)

  pended_is : (s : State) → can_come s handler ≡ true → pend app handler s ≡ with_mark s.elapsed s
  pended_is s can = rw can (made_is s)

  not_pended : (s : State) → can_come s handler ≡ false → pend app handler s ≡ s
  not_pended s not = rw not refl

-- ---- an op does the same whether a source is pending

module _ (mark : Source → Source) (handler : ℕ)
    (armed : (b : Bool) (x : Source) → mark (record x { armed = b }) ≡ record (mark x) { armed = b })
    (raised : (o : Option ℕ) (x : Source) → mark (record x { raised = o }) ≡ record (mark x) { raised = o }) where
  -- the same state with the source so changed
  abbrev resourced : State → State
  resourced s = record s { sources = changed_at mark handler s.sources }

  -- The deed does the same before that change and after it.
  abbrev IsBlind : (State → State) → State → Type 0
  IsBlind deed s = deed (resourced s) ≡ resourced (deed s)

  blind-source : (j : ℕ) (what : SourceOp) (s : State) → IsBlind (do_to_source j what) s
  blind-source j Arm s =
      ap (λ (ys : List Source). record s { sources = ys })
      (in_either_order (λ (x : Source). record x { armed = true }) mark (λ x. sym (armed true x)) s.sources j handler)
  blind-source j Disarm s =
      ap (λ (ys : List Source). record s { sources = ys })
      (in_either_order (λ (x : Source). record x { armed = false }) mark (λ x. sym (armed false x)) s.sources j handler)
  blind-source j (Raise n) s =
      ap (λ (ys : List Source). record s { sources = ys })
      (in_either_order (λ (x : Source). record x { raised = Some (s.elapsed + n) }) mark
      (λ x. sym (raised (Some (s.elapsed + n)) x)) s.sources j handler)
  blind-source j Cancel s =
      ap (λ (ys : List Source). record s { sources = ys })
      (in_either_order (λ (x : Source). record x { raised = None }) mark (λ x. sym (raised None x)) s.sources j handler)

  module _ (app : Application) (i : ℕ) where
    blind-expect : (condition : AnswerCondition) (s : State) → IsBlind (expect app i condition) s
    unfolding expect go_to
    blind-expect condition s = by_test (holds s.variables condition (progress_at s i).answer) (λ t. rw t refl) (λ t. rw t refl)

    blind-next_turn : (p : Progress) (l : Loop) (ls : List Loop) (left : Option ℕ) (s : State)
        → IsBlind (next_turn app i p l ls left) s
    unfolding go_to
    blind-next_turn p l ls None s = refl
    blind-next_turn p l ls (Some left) s = by_test (leb left 1) (λ t. rw t refl) (λ t. rw t refl)

    blind-turn : (p : Progress) (ls : List Loop) (s : State) → IsBlind (turn app i p ls) s
    unfolding go_to
    blind-turn p [] s = refl
    blind-turn p (l ∷ ls) s = blind-next_turn p l ls l.left s

    blind-close_turn : (s : State) → IsBlind (close_turn app i) s
    unfolding close_turn
    blind-close_turn s = blind-turn (progress_at s i) (progress_at s i).loops s

    blind-branch : (condition : AnswerCondition) (s : State) → IsBlind (branch app i condition) s
    unfolding branch go_to
    blind-branch condition s = by_test (holds s.variables condition (progress_at s i).answer) (λ t. rw t refl) (λ t. rw t refl)

    -- an op that has its place in a critical section
    blind-act : (op : Op) (s : State) → is_barred op ≡ false → IsBlind (act app i op) s
    unfolding go_to answer open_loop skip_branch leave_loop stamp since clear with_sections calculate clear_notification control
    blind-act (Work n) s t = absurd (cc)
    blind-act (Delay n) s t = absurd (cc)
    blind-act (DelayUntil n) s t = absurd (cc)
    blind-act Yield s t = absurd (cc)
    blind-act Time s t = refl
    blind-act (Mark value) s t = refl
    blind-act (Value op) s t = refl
    blind-act (Expect c) s t = blind-expect c s
    blind-act (Repeat n) s t = refl
    blind-act End s t = blind-close_turn s
    blind-act (If c) s t = blind-branch c s
    blind-act Else s t = refl
    blind-act EndIf s t = refl
    blind-act Break s t = refl
    blind-act Stamp s t = refl
    blind-act Since s t = refl
    blind-act (Await o a ticks) s t = absurd (cc)
    blind-act (Do o a) s t = absurd (cc)
    blind-act (GiveMutex o) s t = absurd (cc)
    blind-act (MessagesWaiting o) s t = refl
    blind-act (SpacesAvailable o) s t = refl
    blind-act (SetBits g m) s t = absurd (cc)
    blind-act (ClearBits g m) s t = refl
    blind-act (GetBits g) s t = refl
    blind-act (WaitBits g c ticks) s t = absurd (cc)
    blind-act (Notify j action) s t = absurd (cc)
    blind-act (AwaitNotification wait ticks) s t = absurd (cc)
    blind-act (ClearNotification what) s t = refl
    blind-act (Suspend j) s t = absurd (cc)
    blind-act (Resume j) s t = absurd (cc)
    blind-act SuspendAll s t = absurd (cc)
    blind-act ResumeAll s t = absurd (cc)
    blind-act (op.Source j what) s t =
        ap (go_to app i ((progress_at s i).op_index + 1) (progress_at s i)) (blind-source j what s)
    blind-act EnterCritical s t = refl
    blind-act ExitCritical s t = refl
    blind-act (NextCommand o) s t = absurd (cc)
    blind-act Obey s t = absurd (cc)

    blind-act_by_value : (op : Op) (s : State) → is_barred op ≡ false → IsBlind (act_by_value app i op) s
    blind-act_by_value op s t = by_test (lacks_value s i op)
        (λ lacks. rw lacks refl)
        (λ has. rw has (blind-act op s t))

    blind-judge : (op_index : ℕ) (s : State) → IsBlind (judge i op_index) s
    unfolding judge
    blind-judge op_index s = by_test (is_ended (status_at s i))
        (λ t. rw t (by_kind (end_misuse s)))
        (λ t. rw t refl) where
          by_kind : (kind : Option Misuse) → IsBlind (for_one (misused i op_index) kind) s
          by_kind None = refl
          by_kind (Some kind) = refl

    blind-act_if : (o : Option Op) (s : State) → is_critical s ≡ true → IsBlind (act_if app i o) s
    blind-act_if None s open_ = refl
    blind-act_if (Some op) s open_ = by_kind (misuse s i op) refl where
      by_kind : (kind : Option Misuse) → misuse s i op ≡ kind → IsBlind (act_unless app i kind op) s
      by_kind None e =
          ap (judge i (progress_at s i).op_index) (blind-act_by_value op s (not_barred s i op open_ e))
          ∙ blind-judge (progress_at s i).op_index (act_by_value app i op s)
      by_kind (Some kind) e = refl

  blind-settle : (s : State) → IsBlind settle s
  unfolding settle choose dispatch
  blind-settle s = by_test (is_off s s.current)
      (λ t. by_test (is_same (choice s) s.current) (λ u. rw (t, u) refl) (λ u. rw (t, u) refl))
      (λ t. rw t refl)

  blind-settled : (s : State) → IsBlind (unless_held settle) s
  blind-settled s = by_test (is_held s)
      (λ held. when_held settle (resourced s) held ∙ ap (λ (t : State). resourced t) (sym (when_held settle s held)))
      (λ free.
      when_free settle (resourced s) free ∙ blind-settle s ∙ ap (λ (t : State). resourced t) (sym (when_free settle s free)))

-- ---- a step in a critical section

-- what a step does behind its beginning
abbrev body : Application → Limits → State → State
body app limits r = unless_held settle (act_current app limits r.current r)

-- a task runs there: idle holds nothing
runs_inside : (app : Application) (s : State) → IsState app s → is_critical s ≡ true → s.current ≡ None → ⊥
runs_inside app s h open_ idle =
    let free : is_held s ≡ false = subst (RunsIn app s) idle h.runs in
    unlike (sym open_ ∙ (nothing_holds s free).2)

module _ (app : Application) (handler now : ℕ) where
  blind-body : (limits : Limits) (r : State) → is_critical r ≡ true → (r.current ≡ None → ⊥)
      → body app limits (with_mark app handler now r) ≡ with_mark app handler now (body app limits r)
  blind-body limits r open_ runs =
      ap (λ (t : State). unless_held settle t) (by_current r.current refl)
      ∙ blind-settled (marked app handler now) handler (λ b x. refl) (λ o x. refl) (act_current app limits r.current r) where
        by_current : (c : Option ℕ) → r.current ≡ c
            → act_current app limits c (with_mark app handler now r) ≡ with_mark app handler now (act_current app limits c r)
        by_current None e = absurd (runs e)
        by_current (Some i) e =
            blind-act_if (marked app handler now) handler (λ b x. refl) (λ o x. refl) app i
            (op_at app i (progress_at r i).op_index) r open_

-- no tick comes in a section
elapsed-act : (app : Application) (i : ℕ) (op : Op) (s : State) → is_barred op ≡ false → (act app i op s).elapsed ≡ s.elapsed
elapsed-act app i op s allowed =
    by_op (λ (o : Op). is_barred o ≡ false → (act app i o s).elapsed ≡ s.elapsed)
    (λ n t. absurd (cc)) (λ t. absurd (cc)) (λ t. absurd (cc))
    (λ t. (opens app i (s.sections + 1) s).elapsed) (λ t. (opens app i (s.sections - 1) s).elapsed)
    (λ o instant t. (lasts-act app i o s instant).elapsed) op allowed

elapsed-act_if : (app : Application) (i : ℕ) (o : Option Op) (s : State) → is_critical s ≡ true
    → (act_if app i o s).elapsed ≡ s.elapsed
elapsed-act_if app i None s open_ = refl
elapsed-act_if app i (Some op) s open_ = by_kind (misuse s i op) refl where
  by_kind : (kind : Option Misuse) → misuse s i op ≡ kind → (act_unless app i kind op s).elapsed ≡ s.elapsed
  by_kind None e =
      let acted : (act_by_value app i op s).elapsed ≡ s.elapsed =
      by_value (λ (t : State). t.elapsed ≡ s.elapsed) app i op s refl (elapsed-act app i op s (not_barred s i op open_ e)) in
      by_judgement (λ (t : State). t.elapsed ≡ s.elapsed) i (progress_at s i).op_index (act_by_value app i op s) acted
      (λ kind. acted)
  by_kind (Some kind) e = refl

elapsed-body : (app : Application) (limits : Limits) (r : State) → is_critical r ≡ true → (r.current ≡ None → ⊥)
    → (body app limits r).elapsed ≡ r.elapsed
elapsed-body app limits r open_ runs =
    (keeps-unless_held settle (act_current app limits r.current r) keeps-settle).elapsed ∙ by_current r.current refl where
      by_current : (c : Option ℕ) → r.current ≡ c → (act_current app limits c r).elapsed ≡ r.elapsed
      by_current None e = absurd (runs e)
      by_current (Some i) e = elapsed-act_if app i (op_at app i (progress_at r i).op_index) r open_

-- a step by its beginning
step_is : (app : Application) (limits : Limits) (handlers : List ℕ) (s r : State) → before_step app handlers s ≡ r
    → step app limits handlers s ≡ record (body app limits r) { steps = s.steps + 1 }
unfolding step
step_is app limits handlers s r e = ap (λ (x : State). record (body app limits x) { steps = s.steps + 1 }) e

module _ (app : Application) (limits : Limits) (s : State) (h : IsState app s) (open_ : is_critical s ≡ true) where
  alone_inside : step app limits [] s ≡ record (body app limits (record s { log = [] })) { steps = s.steps + 1 }
  alone_inside = step_is app limits [] s (record s { log = [] }) (begun_critical app [] s open_)

  pub elapsed_inside : (step app limits [] s).elapsed ≡ s.elapsed
  elapsed_inside =
      ap (λ (t : State). t.elapsed) alone_inside
      ∙ elapsed-body app limits (record s { log = [] }) open_ (runs_inside app s h open_)

  -- One that is pending stays so.
  still_pending : (handler now : ℕ)
      → step app limits [] (with_mark app handler now s) ≡ with_mark app handler now (step app limits [] s)
  still_pending handler now =
      let r : State = record s { log = [] } in
      step_is app limits [] (with_mark app handler now s) (with_mark app handler now r)
      (begun_critical app [] (with_mark app handler now s) open_)
      ∙ ap (λ (t : State). record t { steps = s.steps + 1 })
      (blind-body app handler now limits r open_ (runs_inside app s h open_))
      ∙ ap (with_mark app handler now) (sym alone_inside)

  -- One that is injected becomes so, if it can come.
  becomes_pending : (handler : ℕ) → can_come s handler ≡ true
      → step app limits (handler ∷ []) s ≡ with_mark app handler s.elapsed (step app limits [] s)
  becomes_pending handler can =
      let r : State = record s { log = [] } in
      step_is app limits (handler ∷ []) s (with_mark app handler s.elapsed r)
      (begun_critical app (handler ∷ []) s open_ ∙ pended_is app handler r can)
      ∙ ap (λ (t : State). record t { steps = s.steps + 1 })
      (blind-body app handler s.elapsed limits r open_ (runs_inside app s h open_))
      ∙ ap (with_mark app handler s.elapsed) (sym alone_inside)

  -- Otherwise nothing comes of it.
  pub comes_to_nothing : (handler : ℕ) → can_come s handler ≡ false → step app limits (handler ∷ []) s ≡ step app limits [] s
  comes_to_nothing handler not =
      let r : State = record s { log = [] } in
      step_is app limits (handler ∷ []) s r (begun_critical app (handler ∷ []) s open_ ∙ not_pended app handler r not)
      ∙ sym alone_inside

and_both : (a b : Bool) → a && b ≡ true → (a ≡ true) × (b ≡ true)
and_both true b e = (refl, e)
and_both false b e = absurd (cc)

module _ (app : Application) (formed : IsWellFormed app) (limits : Limits) (handler : ℕ) where
  stays_pending : (now n : ℕ) (s : State) → IsState app s → are_critical app limits n s ≡ true
      → alone app limits n (with_mark app handler now s) ≡ with_mark app handler now (alone app limits n s)
  stays_pending now zero s h e = refl
  stays_pending now (suc n) s h e =
      let both = and_both (is_critical s) (are_critical app limits n (step app limits [] s)) e in
      ap (alone app limits n) (still_pending app limits s h both.0 handler now)
      ∙ stays_pending now n (step app limits [] s) (reached_step app formed limits [] s h) both.1

  elapsed_alone : (n : ℕ) (s : State) → IsState app s → are_critical app limits n s ≡ true
      → (alone app limits n s).elapsed ≡ s.elapsed
  elapsed_alone zero s h e = refl
  elapsed_alone (suc n) s h e =
      let both = and_both (is_critical s) (are_critical app limits n (step app limits [] s)) e in
      elapsed_alone n (step app limits [] s) (reached_step app formed limits [] s h) both.1
      ∙ elapsed_inside app limits s h both.0

  pub pending_meanwhile : (n : ℕ) (s : State) → IsState app s → are_critical app limits (suc n) s ≡ true
      → can_come s handler ≡ true
      → alone app limits n (step app limits (handler ∷ []) s) ≡ made_pending app handler (alone app limits (suc n) s)
  pending_meanwhile n s h e can =
      let both = and_both (is_critical s) (are_critical app limits n (step app limits [] s)) e in
      let last : State = alone app limits (suc n) s in
      ap (alone app limits n) (becomes_pending app limits s h both.0 handler can)
      ∙ stays_pending s.elapsed n (step app limits [] s) (reached_step app formed limits [] s h) both.1
      ∙ ap (λ (now : ℕ). with_mark app handler now last) (sym (elapsed_alone (suc n) s h e))
      ∙ sym (made_is app handler last)

  pub nothing_meanwhile : (n : ℕ) (s : State) → IsState app s → are_critical app limits (suc n) s ≡ true
      → can_come s handler ≡ false → alone app limits n (step app limits (handler ∷ []) s) ≡ alone app limits (suc n) s
  nothing_meanwhile n s h e not =
      let both = and_both (is_critical s) (are_critical app limits n (step app limits [] s)) e in
      ap (alone app limits n) (comes_to_nothing app limits s h both.0 handler not)

-- ---- the first step behind it

only_one : (p : ℕ → Bool) (a n i : ℕ) → a ≤ i → i < a + n → p i ≡ true → ((j : ℕ) → j ≢ i → p j ≡ false)
    → filter p (range_with_len a n) ≡ i ∷ []
only_one p a zero i le l is none = absurd (omega arith)
only_one p a (suc n) i le l is none = by_test (eqb a i)
    (λ t.
    let e : a ≡ i = eqb-same a i t in
    let here : p a ≡ true = rw e is in
    rw here (ap₂ (λ (k : ℕ) (ks : List ℕ). k ∷ ks) e (none_after (a + 1) n (omega arith))))
    (λ t.
    let apart : a ≢ i = (λ e. let u : eqb a i ≡ true = ap (λ (k : ℕ). eqb k i) e ∙ eqb-refl i in absurd (cc)) in
    rw (none a apart) (only_one p (a + 1) n i (omega arith) (omega arith) is none)) where
      none_after : (b m : ℕ) → i < b → filter p (range_with_len b m) ≡ []
      none_after b zero l = refl
      none_after b (suc m) l = rw (none b (λ e. omega arith)) (none_after (b + 1) m (omega arith))

module _ (app : Application) (handler : ℕ) where
  cleared_again : (now : ℕ) (xs : List Source) (i : ℕ) → AreNonePending xs
      → map (λ (x : Source). record x { pending = false }) (changed_at (marked app handler now) i xs)
      ≡ changed_at (noted app handler now) i xs
  cleared_again now [] i h = refl
  cleared_again now (x ∷ xs) zero h =
      ap (λ (b : Bool). record (noted app handler now x) { pending = b } ∷ map (λ (y : Source). record y { pending = false }) xs)
      (sym h.0)
      ∙ ap (λ (ys : List Source). noted app handler now x ∷ ys) (same_sources xs h.1)
  cleared_again now (x ∷ xs) (suc i) h =
      ap (λ (b : Bool). record x { pending = b } ∷ map (λ (y : Source). record y { pending = false })
      (changed_at (marked app handler now) i xs)) (sym h.0)
      ∙ ap (λ (ys : List Source). x ∷ ys) (cleared_again now xs i h.1)

  -- A coming that is noted twice at an elapsed tick is noted once.
  noted_twice : (s : State) → note_coming app handler (note_coming app handler s) ≡ note_coming app handler s
  noted_twice s =
      ap (λ (ys : List Source). record s { sources = ys })
      (changed_twice (noted app handler s.elapsed) (noted app handler s.elapsed) s.sources handler
      ∙ ap (set s.sources handler) (noted_again app handler s.elapsed (source_at s handler)))

  -- That of the tick isn't noted.
  tick_unnoted : is_tick app handler ≡ true → (s : State) → note_coming app handler s ≡ s
  tick_unnoted is s =
      let last : handler ≡ length app.handlers = eqb-same handler (length app.handlers) is in
      let any : apart_of app handler ≡ 0 =
      ap (λ (o : Option Handler). unwrap_or (option_map (λ (h : Handler). h.apart) o) 0)
      (slice_get_past app.handlers handler (omega arith)) in
      ap (λ (ys : List Source). record s { sources = ys })
      (unchanged_at (noted app handler s.elapsed) (λ x. rw any refl) s.sources handler)

  serves_the_same : (s : State) → serve app handler (note_coming app handler s) ≡ serve app handler s
  unfolding serve come
  serves_the_same s = by_test (is_tick app handler)
      (λ t. ap (serve app handler) (tick_unnoted t s))
      (λ t. rw t (ap (λ (u : State). unless_held preempt (handle app handler u)) (noted_twice s)))

module _ (app : Application) (limits : Limits) (handler : ℕ) (s : State) (there : handler < length s.sources)
    (none : IsNonePending s) (shut : is_critical s ≡ false) where
  abbrev made : State
  made = with_mark app handler s.elapsed s

  alone_pending : pending_of made ≡ handler ∷ []
  alone_pending =
      let mark : Source = marked app handler s.elapsed (source_at s handler) in
      let p : ℕ → Bool = λ source. (get_or (set s.sources handler mark) source no_source).pending in
      let long : length (set s.sources handler mark) ≡ length s.sources = length-set s.sources handler mark in
      only_one p 0 (length (set s.sources handler mark)) handler (omega arith) (omega arith)
      (ap (λ (x : Source). x.pending) (get_or-set_same s.sources handler mark no_source there))
      (λ j apart.
      ap (λ (x : Source). x.pending) (get_or-set_other s.sources handler j mark no_source apart)
      ∙ not_pending s.sources j none)

  as_injected : can_come s handler ≡ true → before_step app [] made ≡ before_step app (handler ∷ []) s
  unfolding inject
  as_injected can =
      let r : State = record s { log = [] } in
      begun_open app [] made shut
      ∙ ap (λ (handlers : List ℕ). for_each (serve app) handlers (none_pending (record made { log = [] }))) alone_pending
      ∙ ap (λ (ys : List Source). serve app handler (record r { sources = ys }))
      (cleared_again app handler s.elapsed s.sources handler none)
      ∙ serves_the_same app handler r
      ∙ sym (begun_with app (handler ∷ []) s none shut ∙ rw can refl)

  not_injected : can_come s handler ≡ false → before_step app [] s ≡ before_step app (handler ∷ []) s
  unfolding inject
  not_injected not = begun_alone app s none ∙ sym (begun_with app (handler ∷ []) s none shut ∙ rw not refl)

  pub comes_at_the_exit : step app limits [] (pend app handler s) ≡ step app limits (handler ∷ []) s
  comes_at_the_exit =
      let begun : State = before_step app (handler ∷ []) s in
      let injected : step app limits (handler ∷ []) s ≡ record (body app limits begun) { steps = s.steps + 1 } =
      step_is app limits (handler ∷ []) s begun refl in
      by_test (can_come s handler)
      (λ can.
      ap (step app limits []) (pended_is app handler s can)
      ∙ step_is app limits [] made begun (as_injected can) ∙ sym injected)
      (λ not.
      ap (step app limits []) (not_pended app handler s not)
      ∙ step_is app limits [] s begun (not_injected not) ∙ sym injected)

-- ---- once

pub pended_once : (app : Application) (handler : ℕ) (s : State) → pend app handler (pend app handler s) ≡ pend app handler s
pended_once app handler s = by_test (can_come s handler)
    (λ can. let once = pended_is app handler s can in ap (pend app handler) once ∙ again ∙ sym once)
    (λ not. ap (pend app handler) (not_pended app handler s not)) where
      made : State
      made = with_mark app handler s.elapsed s

      again : pend app handler made ≡ made
      again = by_test (can_come made handler)
          (λ can.
          pended_is app handler made can
          ∙ ap (λ (ys : List Source). record s { sources = ys })
          (changed_twice (marked app handler s.elapsed) (marked app handler s.elapsed) s.sources handler
          ∙ ap (set s.sources handler) (marked_again app handler s.elapsed (source_at s handler))))
          (λ not. not_pended app handler made not)

-- ---- all that came to nothing else

pub none_alone : (app : Application) (limits : Limits) (n : ℕ) (s : State) → IsNonePending s → IsNonePending (alone app limits n s)
none_alone app limits zero s none = none
none_alone app limits (suc n) s none = none_alone app limits n (step app limits [] s) (none_still app limits s none)

pub state_alone : (app : Application) → IsWellFormed app → (limits : Limits) (n : ℕ) (s : State) → IsState app s
    → IsState app (alone app limits n s)
state_alone app formed limits zero s h = h
state_alone app formed limits (suc n) s h =
    state_alone app formed limits n (step app limits [] s) (reached_step app formed limits [] s h)

-- ---- no handler comes inside

abbrev pub AreTasks : List Event → Type 0
AreTasks es = AllByRecursion (λ (e : Event). is_of_handler e.what ≡ false) es

tells : (es : List Event) (e : Event) → AreTasks es → is_of_handler e.what ≡ false → AreTasks (es ++ e ∷ [])
tells [] e h t = (t, tt)
tells (x ∷ xs) e h t = (h.0, tells xs e h.1 t)

called_by : (i op_index : ℕ) (a : Option ℕ) → is_of_handler (called i op_index a) ≡ false
called_by i op_index (Some n) = refl
called_by i op_index None = refl

log-source : (j : ℕ) (what : SourceOp) (s : State) → (do_to_source j what s).log ≡ s.log
log-source j Arm s = refl
log-source j Disarm s = refl
log-source j (Raise n) s = refl
log-source j Cancel s = refl

module _ (app : Application) (i : ℕ) where
  tells-answer : (a : Option ℕ) (s : State) → AreTasks s.log → AreTasks (answer app i a s).log
  unfolding answer go_to
  tells-answer a s h = tells s.log _ h (called_by i (progress_at s i).op_index a)

  tells-expect : (condition : AnswerCondition) (s : State) → AreTasks s.log → AreTasks (expect app i condition s).log
  unfolding expect go_to
  tells-expect condition s h = by_test (holds s.variables condition (progress_at s i).answer) (λ t. rw t h) (λ t. rw t h)

  tells-next_turn : (p : Progress) (l : Loop) (ls : List Loop) (left : Option ℕ) (s : State) → AreTasks s.log
      → AreTasks (next_turn app i p l ls left s).log
  unfolding go_to
  tells-next_turn p l ls None s h = h
  tells-next_turn p l ls (Some left) s h = by_test (leb left 1) (λ t. rw t h) (λ t. rw t h)

  tells-turn : (p : Progress) (ls : List Loop) (s : State) → AreTasks s.log → AreTasks (turn app i p ls s).log
  unfolding go_to
  tells-turn p [] s h = h
  tells-turn p (l ∷ ls) s h = tells-next_turn p l ls l.left s h

  tells-branch : (condition : AnswerCondition) (s : State) → AreTasks s.log → AreTasks (branch app i condition s).log
  unfolding branch go_to
  tells-branch condition s h = by_test (holds s.variables condition (progress_at s i).answer) (λ t. rw t h) (λ t. rw t h)

  tells-act : (op : Op) (s : State) → is_barred op ≡ false → AreTasks s.log → AreTasks (act app i op s).log
  unfolding go_to open_loop close_turn skip_branch leave_loop stamp since clear with_sections calculate clear_notification control
  tells-act (Work n) s t h = absurd (cc)
  tells-act (Delay n) s t h = absurd (cc)
  tells-act (DelayUntil n) s t h = absurd (cc)
  tells-act Yield s t h = absurd (cc)
  tells-act Time s t h = tells-answer _ s h
  tells-act (Mark value) s t h = tells s.log _ h refl
  tells-act (Value op) s t h = tells-answer _ _ h
  tells-act (Expect c) s t h = tells-expect c s h
  tells-act (Repeat n) s t h = h
  tells-act End s t h = tells-turn (progress_at s i) (progress_at s i).loops s h
  tells-act (If c) s t h = tells-branch c s h
  tells-act Else s t h = h
  tells-act EndIf s t h = h
  tells-act Break s t h = h
  tells-act Stamp s t h = h
  tells-act Since s t h = tells-answer _ s h
  tells-act (Await o a ticks) s t h = absurd (cc)
  tells-act (Do o a) s t h = absurd (cc)
  tells-act (GiveMutex o) s t h = absurd (cc)
  tells-act (MessagesWaiting o) s t h = tells-answer _ s h
  tells-act (SpacesAvailable o) s t h = tells-answer _ s h
  tells-act (SetBits g m) s t h = absurd (cc)
  tells-act (ClearBits g m) s t h = tells-answer _ _ h
  tells-act (GetBits g) s t h = tells-answer _ s h
  tells-act (WaitBits g c ticks) s t h = absurd (cc)
  tells-act (Notify j action) s t h = absurd (cc)
  tells-act (AwaitNotification wait ticks) s t h = absurd (cc)
  tells-act (ClearNotification what) s t h = tells-answer _ _ h
  tells-act (Suspend j) s t h = absurd (cc)
  tells-act (Resume j) s t h = absurd (cc)
  tells-act SuspendAll s t h = absurd (cc)
  tells-act ResumeAll s t h = absurd (cc)
  tells-act (op.Source j what) s t h = subst AreTasks (sym (log-source j what s)) h
  tells-act EnterCritical s t h = h
  tells-act ExitCritical s t h = h
  tells-act (NextCommand o) s t h = absurd (cc)
  tells-act Obey s t h = absurd (cc)

  tells-act_if : (o : Option Op) (s : State) → is_critical s ≡ true → AreTasks s.log → AreTasks (act_if app i o s).log
  tells-act_if None s open_ h = h
  tells-act_if (Some op) s open_ h = by_kind (misuse s i op) refl where
    by_kind : (kind : Option Misuse) → misuse s i op ≡ kind → AreTasks (act_unless app i kind op s).log
    by_kind None e =
        let acted : AreTasks (act_by_value app i op s).log =
        by_value (λ (t : State). AreTasks t.log) app i op s h (tells-act op s (not_barred s i op open_ e) h) in
        by_judgement (λ (t : State). AreTasks t.log) i (progress_at s i).op_index (act_by_value app i op s) acted (λ kind. acted)
    by_kind (Some kind) e = h

tells-settle : (s : State) → AreTasks s.log → AreTasks (settle s).log
unfolding settle choose dispatch
tells-settle s h = by_test (is_off s s.current)
    (λ t. by_test (is_same (choice s) s.current) (λ u. rw (t, u) h) (λ u. rw (t, u) (tells s.log _ h refl)))
    (λ t. rw t h)

tells-settled : (s : State) → AreTasks s.log → AreTasks (unless_held settle s).log
tells-settled s h = by_test (is_held s)
    (λ held. subst (λ (t : State). AreTasks t.log) (sym (when_held settle s held)) h)
    (λ free. subst (λ (t : State). AreTasks t.log) (sym (when_free settle s free)) (tells-settle s h))

-- handlers that become pending report nothing
pended_one : (app : Application) (handler : ℕ) (s : State)
    → ((pend app handler s).log ≡ s.log) × ((pend app handler s).current ≡ s.current)
    × ((pend app handler s).sections ≡ s.sections)
pended_one app handler s = by_test (can_come s handler) (λ t. rw t (refl, refl, refl)) (λ t. rw t (refl, refl, refl))

pended_all : (app : Application) (handlers : List ℕ) (s : State)
    → ((for_each (pend app) handlers s).log ≡ s.log) × ((for_each (pend app) handlers s).current ≡ s.current)
    × ((for_each (pend app) handlers s).sections ≡ s.sections)
pended_all app [] s = (refl, refl, refl)
pended_all app (handler ∷ handlers) s =
    let one = pended_one app handler s in
    let more = pended_all app handlers (pend app handler s) in
    (more.0 ∙ one.0, more.1 ∙ one.1, more.2 ∙ one.2)

pub none_inside : (app : Application) (limits : Limits) (handlers : List ℕ) (s : State) → IsState app s → is_critical s ≡ true
    → AreTasks (step app limits handlers s).log
none_inside app limits handlers s h open_ =
    let r : State = record s { log = [] } in
    let begun : State = for_each (pend app) handlers r in
    let same = pended_all app handlers r in
    subst (λ (t : State). AreTasks t.log) (sym (step_is app limits handlers s begun (begun_critical app handlers s open_)))
    (tells-settled (act_current app limits begun.current begun)
    (by_current begun.current same.1 (ap (λ n. ltb 0 n) same.2 ∙ open_) (subst AreTasks (sym same.0) tt))) where
      by_current : (c : Option ℕ) → c ≡ s.current → is_critical (for_each (pend app) handlers (record s { log = [] })) ≡ true
          → AreTasks (for_each (pend app) handlers (record s { log = [] })).log
          → AreTasks (act_current app limits c (for_each (pend app) handlers (record s { log = [] }))).log
      by_current None e open_now h0 = absurd (runs_inside app s h open_ (sym e))
      by_current (Some i) e open_now h0 =
          let begun : State = for_each (pend app) handlers (record s { log = [] }) in
          tells-act_if app i (op_at app i (progress_at begun i).op_index) begun open_now h0
