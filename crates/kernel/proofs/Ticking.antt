-- Steps in which nothing happens but that a tick passes.
use Rattle.std.proofs.Common.{◌≡◌, ◌≢◌, ◌<◌, ◌≤◌, ◌+◌, ◌^◌, ◌%◌, ℕ, zero, suc, Bool, true, false, not, ◌&&◌, ◌||◌, eqb, leb, ltb}
use Rattle.std.proofs.Common.{List, [], ◌∷◌, length, map, get_or, Option, Some, None, inl, inr, refl, ap, sym, subst, ◌∙◌, arith}
use Rattle.std.proofs.Common.{get_or-set_same}
use Rattle.std.specs.Prelude.{◌==◌, if◌then◌else◌}
use Rattle.std.specs.List.{filter, list_all, list_any}
use Rattle.std.specs.Option.{is_none, is_some}
use Rattle.std.proofs.lemmas.Bool.{eq-eqb, ne_eqb}
use Rattle.std.specs.List.Sorted.{IsNonDecreasingBy}
use Rattle.std.proofs.lemmas.Bool.Decides.{nat_tests}
use Rattle.std.proofs.lemmas.List.{get_or_default}
use Rattle.model.specs.declared.event.Event.{Event}
use Rattle.model.specs.declared.op.Op.{Op}
use Rattle.model.specs.declared.op.Op.TheVariants.{Work}
use Rattle.model.specs.Application.{Application, Definition, Interrupt, Limits, is_any_awaited, op_at, interrupts_at}
use Rattle.model.specs.Coming.{AreComing}
use Rattle.model.specs.State.{State, Task, Progress, for_each, no_progress, progress_at}
use Rattle.model.specs.Switching.{holds_ticks, is_held_by_task, is_ready, slice, settle, unless_held}
use Rattle.model.specs.Time.{increment_tick}
use Rattle.model.specs.Ops.{use_up}
use Rattle.model.specs.Handlers.{interrupt, tick_interrupt}
use Rattle.model.specs.Step.{is_ended, act_if, act_current, before_step, step}
use Rattle.model.specs.Run.{are_all_ended, end_of, is_interrupt_to_come, is_stuck, will_wake}
use Rattle.model.proofs.Sorting.{by_test}
use Rattle.model.proofs.Ticks.{filter-taken}
use Rattle.soundness.proofs.Settled.{when_free}
use Rattle.soundness.proofs.Ticking.{idle_ticks}
use Rattle.soundness.proofs.Judging.{acts_calm}
use Rattle.lists.specs.Lists.{Each, first_of, has_node}
use Rattle.lists.proofs.Entries.{Each-imp}
use Rattle.sched.specs.Schedule.{is_steady, lined_up, is_ready as is_ready_in}
use Rattle.sched.proofs.Standing as on_sched
use Rattle.clock.specs.Timeline.{Timeline, Advances}
use Rattle.clock.proofs.Standing.{due_next, stands_advanced}
use Rattle.model.specs.Handlers as handlers
use Rattle.machine.specs.Arrivals.{arrival_in}
use Rattle.kernel.proofs.Raised.{AreNoneAt, interrupt_alone, nobody_now, none_at, raised_comes}
use Rattle.machine.specs.declared.machine.Machine.{Machine}
use Rattle.machine.specs.StandsFor.{StandsFor, Stands, At, AtAny, progress_in, with_progress}
use Rattle.machine.specs.StandsFor.Stands.{Placed, Placing}
use Rattle.kernel.specs.Quiet.{IsQuiet, Passes, WorksOn, used_by}
use Rattle.ops.proofs.Working.{used_more}
use Rattle.machine.proofs.Acting.{within}
use Rattle.machine.proofs.Either.{any, current_is, elapsed_is, steps_are, stopped_is, not_by_task}
use Rattle.kernel.proofs.Ending.{begun, ends_not, not_passed}
use Rattle.kernel.proofs.Ended.{all_meant, blocked_on, is_everybody_ended, not_over_by, on_by}
use Rattle.kernel.proofs.Ending.{stepped}
use Rattle.kernel.proofs.Ending.{stuck_by}
use Rattle.kernel.proofs.Left.{any_left}
use Rattle.machine.proofs.Switches.{settled_either, settled_idle, settled_on, unheld_by}
use Rattle.machine.proofs.Waking.{groups-jumped, objects-jumped, sched-jumped, ticks_not_held, woken}
use Rattle.machine.proofs.Pending.{none_by}
use Rattle.soundness.proofs.Pending.{begun_alone}
use Rattle.sched.specs.StandsFor.{task_holds_of}

-- ---- nothing is held

zero_left : (n m : ℕ) → n + m ≡ 0 → n ≡ 0
zero_left n m e = omega arith

pub placed_by : (k : Machine) (s : State) → k.sched.depth ≡ 0 → Stands k s → StandsFor k s
placed_by k s z (Placed h) = h
placed_by k s z (Placing task list b) =
    let e : k.sched.depth ≡ task_holds_of s + 1 =
    b.sched.depth ∙ ap (λ (h : Bool). task_holds_of s + (if h then 1 else 0)) b.held in
    absurd (omega arith)

no_task_suspends : (k : Machine) (s : State) → k.sched.depth ≡ 0 → StandsFor k s → is_held_by_task s ≡ false
no_task_suspends k s z h =
    not_by_task k s (Placed h)
    (h.sched.suspensions ∙ zero_left (task_holds_of s) (if s.call_hold then 1 else 0) (sym h.sched.depth ∙ z))

-- ---- no base interrupt comes

-- Among numbers in order, none is this one, which comes after those up to an index and before all others.
pub none_between : {X : Type 0} (n : X → ℕ) (xs : List X) (index e last t : ℕ)
    → ((k : ℕ) (d : X) → 0 ≤ k → k < index → leb (n (get_or xs k d)) e ≡ true)
    → ((k : ℕ) (d : X) → index ≤ k → k < length xs → last < n (get_or xs k d))
    → e < t → t ≤ last → filter (λ x. eqb (n x) t) xs ≡ []
none_between n xs index e last t before after more less =
    filter-taken (λ x. eqb (n x) t) xs 0 (λ k d l m. absurd (omega arith))
    (λ k d l m. by_test (ltb k index)
    (λ b.
    let low : leb (n (get_or xs k d)) e ≡ true = before k d (omega arith) (grind (arith, nat_tests)) in
    let below : n (get_or xs k d) ≤ e = grind (arith, nat_tests) in
    ne_eqb (n (get_or xs k d)) t (λ same. absurd (omega arith)))
    (λ b.
    let from : index ≤ k = grind (arith, nat_tests) in
    let above = after k d from m in
    ne_eqb (n (get_or xs k d)) t (λ same. absurd (omega arith))))

-- One is this one.
pub some_at : {X : Type 0} (n : X → ℕ) (xs : List X) (k t : ℕ) (d : X)
    → k < length xs → n (get_or xs k d) ≡ t → filter (λ x. eqb (n x) t) xs ≢ []
some_at n [] k t d l e none = absurd (omega arith)
some_at n (x ∷ xs) zero t d l e none =
    let w : x ∷ filter (λ x. eqb (n x) t) xs ≡ [] = (rw (eq-eqb (n x) t e) at none) in
    absurd (cc)
some_at n (x ∷ xs) (suc k) t d l e none = by_test (eqb (n x) t)
    (λ b. let w : x ∷ filter (λ x. eqb (n x) t) xs ≡ [] = (rw b at none) in absurd (cc))
    (λ b. some_at n xs k t d (omega arith) e (rw b at none))

-- The first of them after a number e.
module _ {X : Type 0} (n : X → ℕ) (xs : List X) (index e : ℕ) (x : X)
    (l : index < length xs) (is : x ≡ get_or xs index x) (rises : IsNonDecreasingBy n xs)
    (before : (k : ℕ) (d : X) → 0 ≤ k → k < index → leb (n (get_or xs k d)) e ≡ true)
    (after : (k : ℕ) (d : X) → index ≤ k → k < length xs → leb (n (get_or xs k d)) e ≡ false) where
  pub next_is_later : e < n x
  next_is_later =
      let high : leb (n (get_or xs index x)) e ≡ false = after index x (omega arith) l in
      let above : e < n (get_or xs index x) = grind (arith, nat_tests) in
      let same : n x ≡ n (get_or xs index x) = ap n is in
      omega arith

  pub none_before_next : (t : ℕ) → e < t → t < n x → filter (λ y. eqb (n y) t) xs ≡ []
  none_before_next t more less =
      none_between n xs index e t t before
      (λ k d from m.
      let same : n x ≡ n (get_or xs index x) = ap n is in
      let other : n (get_or xs index x) ≡ n (get_or xs index d) = ap n (get_or_default xs index x d l) in
      let up = rises index k d from m in
      omega arith) more (omega arith)

  pub some_at_next : (t : ℕ) → t ≡ n x → filter (λ y. eqb (n y) t) xs ≢ []
  some_at_next t e none = some_at n xs index t x l (sym (ap n is) ∙ sym e) none

-- ---- those that come

module _ (app : Application) (coming : List Interrupt) (are : AreComing app.interrupts coming) (tick : ℕ) where
  -- None comes at a tick where none of these does ..
  pub none_comes : filter (λ (i : Interrupt). i.tick == tick) coming ≡ [] → interrupts_at app tick ≡ []
  none_comes none = ap (map (λ (i : Interrupt). i.handler)) (sym (are.same tick) ∙ none)

  none_mapped : (is : List Interrupt) → map (λ (i : Interrupt). i.handler) is ≡ [] → is ≡ []
  none_mapped [] none = refl
  none_mapped (i ∷ is) none = absurd (cc)

  -- .. and the other way round.
  pub none_of_these : interrupts_at app tick ≡ [] → filter (λ (i : Interrupt). i.tick == tick) coming ≡ []
  none_of_these none = are.same tick ∙ none_mapped (filter (λ (i : Interrupt). i.tick == tick) app.interrupts) none

pub uninterrupted : (app : Application) (s : State) → interrupts_at app s.elapsed ≡ [] → AreNoneAt s.elapsed s
    → interrupt app s ≡ s
uninterrupted app s none unraised =
    interrupt_alone app s (nobody_now s unraised) ∙ ap (λ (those : List ℕ). for_each (handlers.come app) those s) none

-- ---- a tick

module _ (app : Application) (k : Machine) (z : k.sched.depth ≡ 0) (calm : k.sched.pending ≡ []) (steady : is_steady k.sched ≡ true)
    (none : interrupts_at app (k.clock.age + k.clock.held + 1) ≡ [])
    (unraised : (source : ℕ) → (arrival_in k.sources.arrivals source).raised ≢ Some (k.clock.age + k.clock.held + 1))
    (clock : Timeline) (a : Advances k.clock clock []) where
  module _ (log : List Event) (s : State) (h : At k log s) where
    free : holds_ticks s ≡ false
    free = ticks_not_held k.sched s h.stands.sched z

    come : At (record k { clock = clock }) log (increment_tick s)
    come =
        woken k log s h [] k.sched k.objects clock k.groups (due_next k.clock clock s [] a h.stands.rest.clock)
        (sched-jumped k log s h 1) (objects-jumped k log s h 1) (groups-jumped k log s h 1)
        (stands_advanced k.clock clock s [] a h.stands.rest.clock free) free

    elapsed_next : (increment_tick s).elapsed ≡ k.clock.age + k.clock.held + 1
    elapsed_next = let e = come.stands.rest.clock.age in let f = a.age in let g = a.held in omega arith

    alone : interrupts_at app (increment_tick s).elapsed ≡ []
    alone = rw elapsed_next none

    none_raised : AreNoneAt (increment_tick s).elapsed (increment_tick s)
    none_raised =
        none_at (record k { clock = clock }) (increment_tick s) (Placed come.stands) (increment_tick s).elapsed
        (λ source. rw elapsed_next (unraised source))

    ticked_is : tick_interrupt app s ≡ increment_tick s
    unfolding tick_interrupt
    ticked_is =
        ap (unless_held slice) (uninterrupted app (increment_tick s) alone none_raised)
        ∙ when_free slice (increment_tick s) (unheld_by k.sched (increment_tick s) come.stands.sched z)
        ∙ on_sched.slice_none k.sched (increment_tick s) calm come.stands.sched steady

    tick_passed : At (record k { clock = clock }) log (tick_interrupt app s)
    tick_passed = subst (At (record k { clock = clock }) log) (sym ticked_is) come

-- ---- the step

-- a `work` goes on
works_on : (app : Application) (limits : Limits) (s : State) (task n : ℕ) → is_held_by_task s ≡ false
    → s.current ≡ Some task → op_at app task (progress_at s task).op_index ≡ Some (Work n)
    → act_current app limits s.current s ≡ tick_interrupt app (use_up app task n s)
works_on app limits s task n free runs is =
    ap (λ (c : Option ℕ). act_current app limits c s) runs
    ∙ ap (λ (o : Option Op). act_if app task o s) is
    ∙ acts_calm app task (Work n) s free refl refl

module _ (app : Application) (limits : Limits) (count : ℕ) (k : Machine)
    (q : IsQuiet app limits (suc count) k) (clock : Timeline) (a : Advances k.clock clock []) where
  -- what the step comes to, except for its number
  abbrev after : Machine
  after = record k { clock = clock; progress = used_by k.sched.current k.progress }

  acted : (r : State) → At k [] r → (o : Option ℕ) → k.sched.current ≡ o → WorksOn app (suc count) k o
      → At (record k { clock = clock; progress = used_by o k.progress })
      [] (unless_held settle (act_current app limits r.current r))
  acted r h None e w =
      let idle : r.current ≡ None = sym h.stands.sched.current ∙ e in
      let t : State = tick_interrupt app r in
      let at : At (record k { clock = clock }) [] t =
      tick_passed app k q.depth q.pending q.steady
      (q.interrupts (k.clock.age + k.clock.held + 1) (omega arith) (omega arith))
      (λ source. q.raised source (k.clock.age + k.clock.held + 1) (omega arith) (omega arith)) clock a [] r h in
      let still : t.current ≡ None = sym at.stands.sched.current ∙ e in
      let end : At (record k { clock = clock }) [] (unless_held settle t) =
      settled_either (record k { clock = clock }) [] t at (settled_idle (record k { clock = clock }) [] t at still) in
      subst (λ (c : Option ℕ). At (record k { clock = clock }) [] (unless_held settle (act_current app limits c r))) (sym idle)
      (subst (λ (x : State). At (record k { clock = clock }) [] (unless_held settle x)) (sym (idle_ticks app limits r w.1)) end)
  acted r h (Some task) e w =
      let p : Progress = progress_in k.progress task in
      let n : ℕ = w.2 in
      let used = w.4 in
      let mid : Machine = with_progress task (record p { used = p.used + 1 }) k in
      let same : p ≡ progress_at r task = h.stands.rest.progress task in
      let on : At mid [] (use_up app task n r) = used_more app k mid [] r h task e p refl n (λ f. absurd (omega arith)) refl in
      let t : State = tick_interrupt app (use_up app task n r) in
      let at : At (record mid { clock = clock }) [] t =
      tick_passed app mid q.depth q.pending q.steady
      (q.interrupts (k.clock.age + k.clock.held + 1) (omega arith) (omega arith))
      (λ source. q.raised source (k.clock.age + k.clock.held + 1) (omega arith) (omega arith)) clock a []
      (use_up app task n r) on in
      let still : t.current ≡ Some task = sym at.stands.sched.current ∙ e in
      let ready : is_ready t task ≡ true = sym (on_sched.ready_same k.sched t task at.stands.sched) ∙ w.0 in
      let end : At (record mid { clock = clock }) [] (unless_held settle t) =
      settled_either (record mid { clock = clock }) [] t at (settled_on (record mid { clock = clock }) [] t at task still ready) in
      let op : op_at app task (progress_at r task).op_index ≡ Some (Work n) =
      subst (λ (x : Progress). op_at app task x.op_index ≡ Some (Work n)) same w.3 in
      let is : act_current app limits r.current r ≡ t =
      works_on app limits r task n (no_task_suspends k r q.depth h.stands) (sym h.stands.sched.current ∙ e) op in
      subst (λ (x : State). At (record mid { clock = clock }) [] (unless_held settle x)) (sym is) end

  came : (s : State) → Stands k s
      → At after [] (unless_held settle (act_current app limits (before_step app [] s).current (before_step app [] s)))
  came s h =
      let r : State = record s { log = [] } in
      let b : AtAny k [] r = begun k [] s h refl in
      let end : At after [] (unless_held settle (act_current app limits r.current r)) =
      acted r (record { stands = placed_by k r q.depth b.stands; log = b.log }) k.sched.current refl q.works in
      subst (λ (x : State). At after [] (unless_held settle (act_current app limits x.current x)))
      (sym (begun_alone app s (none_by k s q.none h))) end

  passed : (s : State) → Stands k s → Stands (record after { steps = k.steps + 1 }) (step app limits [] s)
  passed s h =
      stepped app limits [] s after [] k.steps (steps_are k s h) (any after []
      (unless_held settle (act_current app limits (before_step app [] s).current (before_step app [] s))) (came s h))

  -- it reports nothing
  pub silent : (s : State) → Stands k s → [] ≡ (step app limits [] s).log
  unfolding step
  silent s h = (came s h).log

  -- what is left is quiet too

  asleep_on : Each (λ e. clock.now + count < e.1) clock.delayed_list
  asleep_on =
      let now = a.now in
      subst (Each (λ e. clock.now + count < e.1)) a.delayed (Each-imp (λ e. k.clock.now + suc count < e.1)
      (λ e. clock.now + count < e.1) k.clock.delayed_list (λ e l. omega (arith, l)) q.asleep)

  turn_on : clock.now % 2 ^ 32 + count < 2 ^ 32
  turn_on = let now = a.now in let t = q.turn in rw now (omega arith)

  interrupts_on : (tick : ℕ) → clock.age + clock.held < tick → tick ≤ clock.age + clock.held + count → interrupts_at app tick ≡ []
  interrupts_on tick from upto =
      let age = a.age in
      let held = a.held in
      q.interrupts tick (omega arith) (omega arith)

  raised_on : (source tick : ℕ) → clock.age + clock.held < tick → tick ≤ clock.age + clock.held + count
      → (arrival_in k.sources.arrivals source).raised ≢ Some tick
  raised_on source tick from upto =
      let age = a.age in
      let held = a.held in
      q.raised source tick (omega arith) (omega arith)

  still_works : (s : State) → StandsFor k s → (o : Option ℕ) → k.sched.current ≡ o → WorksOn app (suc count) k o
      → WorksOn app count (record k { clock = clock; progress = used_by o k.progress; steps = k.steps + 1 }) o
  still_works s h None e w = (elim w.0 [ inl sleeps ↦ inl (λ none. sleeps (a.delayed ∙ none)) | inr raised ↦ inr raised ], w.1)
  still_works s h (Some task) e w =
      let p : Progress = progress_in k.progress task in
      let l : task < length s.tasks = within k s.log s (record { stands = h; log = refl }) task e in
      let few = h.sched.table.few in
      let full = h.rest.full in
      let known : task < length k.progress = omega arith in
      let is : progress_in (used_by (Some task) k.progress) task ≡ record p { used = p.used + 1 } =
      get_or-set_same k.progress task (record p { used = p.used + 1 }) no_progress known in
      let fits = w.1 in
      let less = w.4 in
      rw is (w.0, omega arith, w.2, w.3, omega arith)

  stays : (s : State) → Stands k s → IsQuiet app limits count (record after { steps = k.steps + 1 })
  stays s h =
      let age = a.age in
      let held = a.held in
      let ticks = q.ticks in
      let steps = q.steps in
      record {
        stopped = q.stopped;
        none = q.none;
        depth = q.depth;
        pending = q.pending;
        steady = q.steady;
        asleep = asleep_on;
        turn = turn_on;
        interrupts = interrupts_on;
        raised = raised_on;
        ticks = omega arith;
        steps = omega arith;
        works = still_works s (placed_by k s q.depth h) k.sched.current refl q.works;
        left = λ some awaited.
            let one = q.left some awaited in
            (one.0, one.1, subst (λ (es : List (ℕ × ℕ)). is_ready_in k.sched one.0 || has_node one.0 es ≡ true) a.delayed one.2);
      }

module _ (app : Application) (limits : Limits) (count : ℕ) (k new : Machine)
    (q : IsQuiet app limits (suc count) k) (p : Passes k new) where
  -- A step that only lets a tick pass is the definition's.
  pub stands_passed : (s : State) → Stands k s → Stands new (step app limits [] s)
  stands_passed s h =
      subst (λ (x : Machine). Stands x (step app limits [] s)) (sym p.same) (passed app limits count k q new.clock p.clock s h)

  pub quiet_stays : (s : State) → Stands k s → IsQuiet app limits count new
  quiet_stays s h = subst (IsQuiet app limits count) (sym p.same) (stays app limits count k q new.clock p.clock s h)

  pub one_passed : new.steps ≡ suc k.steps
  one_passed = ap (λ (x : Machine). x.steps) p.same ∙ (let e : k.steps + 1 ≡ suc k.steps = omega arith in e)

-- ---- before it the run goes on

listed_some : (task : ℕ) (es : List (ℕ × ℕ)) → has_node task es ≡ true → is_some (first_of es) ≡ true
listed_some task [] t = absurd (cc)
listed_some task (e ∷ es) t = refl

never : (a b : Bool) → a && b && false ≡ false
never true true = refl
never true false = refl
never false b = refl

and_none : (a : Bool) → not a && false ≡ false
and_none true = refl
and_none false = refl

module _ (app : Application) (limits : Limits) (count : ℕ) (k : Machine)
    (q : IsQuiet app limits (suc count) k) (s : State) (h : Stands k s) where
  abbrev ready : Bool
  ready = is_some (first_of (lined_up k.sched))

  somebody_left : (o : Option ℕ) → WorksOn app (suc count) k o → is_everybody_ended s ≡ false
  somebody_left None w = elim w.0 [
    | inl sleeps ↦ on_by k s ready false refl ((λ t. absurd (cc)), (λ none. absurd (sleeps none))) h (and_none ready)
    | inr raised ↦
        let p : StandsFor k s = placed_by k s q.depth h in
        blocked_on s.tasks (raised.1 s p.rest.objects p.rest.groups p.sched)
  ]
  somebody_left (Some task) w = not_over_by k s ready refl h (listed_some task (lined_up k.sched) w.0)

  not_ended : (o : Option ℕ) → WorksOn app (suc count) k o → are_all_ended app s ≡ false
  not_ended o w = by_test (list_any (λ (d : Definition). d.endless) app.tasks)
      (λ t. by_test (is_any_awaited app)
      (λ u. any_left app k s (placed_by k s q.depth h) (q.left t u))
      (λ u. rw u refl))
      (λ t.
      not_passed app s (ap (λ (ts : List Task). list_all (λ (u : Task). is_ended u.status) ts) (all_meant app.tasks s.tasks t)
      ∙ somebody_left o w))

  not_stuck : (o : Option ℕ) → k.sched.current ≡ o → WorksOn app (suc count) k o → is_stuck app s ≡ false
  not_stuck None e w = elim w.0 [
    | inl sleeps ↦
        sym (stuck_by app k s true false (is_interrupt_to_come app s) h
        (ap is_none (sym e)) ((λ t. absurd (cc)), (λ none. absurd (sleeps none))) refl)
    | inr raised ↦ rw (raised_comes k s h app raised.0) (never (is_none s.current) (not (will_wake s)))
  ]
  not_stuck (Some task) e w = rw (sym (current_is k s h) ∙ e) refl

  pub quiet_on : end_of app limits s ≡ None
  quiet_on =
      let elapsed = elapsed_is k s h in
      let steps = steps_are k s h in
      let ticks = q.ticks in
      let few = q.steps in
      sym (ends_not app limits s (sym (stopped_is k s h) ∙ q.stopped) (not_ended k.sched.current q.works)
      (omega arith) (omega arith) (not_stuck k.sched.current refl q.works))

-- ---- what the step asks

module _ (app : Application) (limits : Limits) (count : ℕ) (k : Machine) (q : IsQuiet app limits (suc count) k) where
  pub asleep_once : Each (λ e. k.clock.now + 1 < e.1) k.clock.delayed_list
  asleep_once =
      Each-imp (λ e. k.clock.now + suc count < e.1) (λ e. k.clock.now + 1 < e.1)
      k.clock.delayed_list (λ e l. omega (arith, l)) q.asleep

  pub turn_once : k.clock.now % 2 ^ 32 + 1 < 2 ^ 32
  turn_once = let t = q.turn in omega arith

  pub used_once : (task : ℕ) → k.sched.current ≡ Some task → (progress_in k.progress task).used + 1 < 2 ^ 32
  used_once task e =
      let w : WorksOn app (suc count) k (Some task) = subst (WorksOn app (suc count) k) e q.works in
      let fits = w.1 in
      omega arith
