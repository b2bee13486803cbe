-- What the ops of a script alone, and those that let time pass, make of the states that the kernel represents.
use Rattle.std.proofs.Common.{◌≡◌, ◌≢◌, ◌<◌, ◌≤◌, ◌+◌, ◌-◌, ℕ, true, false, leb, ltb, List, [], ◌∷◌, length, Option, Some}
use Rattle.std.proofs.Common.{None, refl, ap, ap₂, sym, subst, ◌∙◌, arith, min}
use Rattle.std.specs.Prelude.{Bool, drop, option_map, if◌then◌else◌}
use Rattle.std.proofs.lemmas.Bool.{lt-ltb, le-ltb, eq-eqb, ne_eqb}
use Rattle.model.specs.declared.call.Phase.TheVariants.{Place}
use Rattle.model.specs.declared.loops.Loop.{Loop}
use Rattle.model.specs.declared.event.Event.{Event}
use Rattle.model.specs.declared.event.End.TheVariants as ending
use Rattle.model.specs.declared.answer.AnswerCondition.{AnswerCondition}
use Rattle.model.specs.Answers.{holds}
use Rattle.model.specs.Blocks.{jump_from}
use Rattle.model.specs.Application.{Application, script_of}
use Rattle.model.specs.State.{State, Progress, progress_at}
use Rattle.model.specs.State as state
use Rattle.model.specs.Switching.{yield_now, is_ready}
use Rattle.model.specs.Time.{sleep, set_previous_wake}
use Rattle.model.specs.Ops.{go_to, complete, answer, use_up, delay, delay_until, expect, open_loop, turn, close_turn, branch}
use Rattle.model.specs.Ops.{skip_branch, leave_loop, stamp, since, fail}
use Rattle.model.proofs.Sorting.{by_test}
use Rattle.soundness.proofs.Keeping.{keeps-answer, keeps-sleep}
use Rattle.model.specs.Ops as step
use Rattle.machine.specs.Loops.{after_turn, is_last, next_turn}
use Rattle.machine.specs.declared.machine.Machine.{Machine}
use Rattle.machine.specs.StandsFor.{progress_in, At, with_progress}
use Rattle.machine.proofs.Acting.{within, changed, Goes, Completes, at_mid, goes, completes}

module _ (app : Application) (k new : Machine) (log : List Event) (s : State) (h : At k log s)
    (i : ℕ) (r : k.sched.current ≡ Some i) (v : Progress) (e : v ≡ progress_in k.progress i) where
  same : v ≡ progress_at s i
  same = e ∙ h.stands.rest.progress i

  placed : v.call.phase ≢ Place
  placed = let P : Progress → Type 0 = λ p. p.call.phase ≢ Place in subst P (sym e) (h.stands.rest.placed i)

  pub used_last : (n : ℕ) → v.used + 1 ≡ n → Completes app k i new → At new log (use_up app i n s)
  unfolding use_up
  used_last n l g = rw (eq-eqb ((progress_at s i).used + 1) n (ap (λ (p : Progress). p.used + 1) (sym same) ∙ l)) (g log s h)

  pub used_more : (n : ℕ) → (v.used + 1 ≡ n → ⊥)
      → new ≡ with_progress i (record (progress_in k.progress i) { used = v.used + 1 }) k → At new log (use_up app i n s)
  unfolding use_up
  used_more n l is =
      rw (ne_eqb ((progress_at s i).used + 1) n (λ q. l (ap (λ (p : Progress). p.used + 1) same ∙ q)))
      (at_mid app k new new log s h i r (record (progress_in k.progress i) { used = v.used + 1 })
      (record (progress_at s i) { used = (progress_at s i).used + 1 }) is
      (ap (λ (p : Progress). record p { used = v.used + 1 }) (h.stands.rest.progress i)
      ∙ ap (λ (p : Progress). record (progress_at s i) { used = p.used + 1 }) same)
      (h.stands.rest.placed i) refl)

  -- the condition holds of the state's answer, as of the kernel's, or doesn't
  module _ (values : List ℕ) (are : values ≡ k.variables) where
    held : (condition : AnswerCondition) (is : Bool) → is ≡ holds values condition v.answer
        → holds s.variables condition (progress_at s i).answer ≡ is
    held condition is t =
        ap₂ (λ (xs : List ℕ) (p : Progress). holds xs condition p.answer) (sym (are ∙ h.stands.rest.variables)) (sym same) ∙ sym t

    pub expect_held : (condition : AnswerCondition) → true ≡ holds values condition v.answer
        → Completes app k i new → At new log (expect app i condition s)
    unfolding expect
    expect_held condition t g = rw (held condition true t) (g log s h)

    pub expect_failed : (condition : AnswerCondition) → false ≡ holds values condition v.answer
        → At new log (fail (ending.Check i v.op_index) s) → At new log (expect app i condition s)
    unfolding expect
    expect_failed condition t failed =
        let u : holds s.variables condition (progress_at s i).answer ≡ false = held condition false t in
        rw u (subst (λ (p : Progress). At new log (fail (ending.Check i p.op_index) s)) same failed)

    pub branch_taken : (condition : AnswerCondition) → true ≡ holds values condition v.answer
        → Completes app k i new → At new log (branch app i condition s)
    unfolding branch
    branch_taken condition t g = rw (held condition true t) (g log s h)

  -- the op to which the task's op jumps
  jump_same : (next : ℕ) → next ≡ jump_from (script_of app i) v.op_index
      → next ≡ jump_from (script_of app i) (progress_at s i).op_index
  jump_same next is = is ∙ ap (λ (p : Progress). jump_from (script_of app i) p.op_index) same

  pub branch_skipped : (values : List ℕ) → values ≡ k.variables → (condition : AnswerCondition) (next : ℕ)
      → false ≡ holds values condition v.answer → next ≡ jump_from (script_of app i) v.op_index → Goes app k i next new
      → At new log (branch app i condition s)
  unfolding branch
  branch_skipped values are condition next t is g = rw (held values are condition false t, ← jump_same next is) (g log s h)

  pub jumped : (next : ℕ) → next ≡ jump_from (script_of app i) v.op_index → Goes app k i next new → At new log (skip_branch app i s)
  unfolding skip_branch
  jumped next is g = rw (← jump_same next is) (g log s h)

  pub loop_left : (mid : Machine) (next : ℕ) → next ≡ jump_from (script_of app i) v.op_index
      → mid ≡ with_progress i (record v { loops = drop 1 v.loops }) k → Goes app mid i next new → At new log (leave_loop app i s)
  unfolding leave_loop
  loop_left mid next at is g =
      let left : Progress → Progress = λ (p : Progress). record p { loops = drop 1 p.loops } in
      rw (← jump_same next at)
      (goes app k mid new log s h i r (left v) (left (progress_at s i)) is (ap left same) placed refl next g)

  -- The task notes the time.
  pub stamped_at : (mid : Machine) (now : ℕ) → now ≡ k.clock.now
      → mid ≡ with_progress i (record v { stamp = now }) k → Completes app mid i new → At new log (stamp app i s)
  unfolding stamp
  stamped_at mid now told is g =
      completes app k mid new log s h i r (record v { stamp = now }) (record (progress_at s i) { stamp = s.time }) is
      (ap (λ (n : ℕ). record v { stamp = n }) (told ∙ h.stands.rest.clock.now)
      ∙ ap (λ (p : Progress). record p { stamp = s.time }) same)
      placed refl g

  pub loop_opened : (mid : Machine) (n : Option ℕ)
      → mid ≡ with_progress i (record v { loops = record { start = v.op_index + 1; left = n } ∷ v.loops }) k
      → Completes app mid i new → At new log (open_loop app i n s)
  unfolding open_loop
  loop_opened mid n is g =
      let opened : Progress → Progress = λ (p : Progress).
      record p { loops = record { start = p.op_index + 1; left = n } ∷ p.loops } in
      completes app k mid new log s h i r (opened v) (opened (progress_at s i)) is (ap opened same) placed refl g

  -- an endless loop has no last turn
  after_forever : (l : Loop) (ls : List Loop) → l.left ≡ None → after_turn (l ∷ ls) ≡ l ∷ ls
  after_forever l ls e =
      ap (λ (o : Option ℕ). if is_last o then ls else record l { left = option_map (λ left. left - 1) o } ∷ ls) e
      ∙ ap (λ (o : Option ℕ). record l { left = o } ∷ ls) (sym e)

  -- the innermost loop ends a turn
  module _ (mid : Machine) (is : mid ≡ with_progress i (record v { loops = after_turn v.loops }) k) where
    mid_is : record v { loops = after_turn v.loops } ≡ record (progress_at s i) { loops = after_turn (progress_at s i).loops }
    mid_is = ap (λ (p : Progress). record p { loops = after_turn p.loops }) same

    none_left : (p : Progress) (ls : List Loop) → p.loops ≡ ls → next_turn ls ≡ None
        → turn app i p ls s ≡ complete app i (record p { loops = after_turn ls }) s
    none_left p [] a n = ap (λ (us : List Loop). complete app i (record p { loops = us }) s) a
    none_left p (l ∷ ls) a n = last l.left refl where
      last : (left : Option ℕ) → l.left ≡ left
          → turn app i p (l ∷ ls) s ≡ complete app i (record p { loops = after_turn (l ∷ ls) }) s
      last None e = let f : Some l.start ≡ None = rw e at n in absurd (cc)
      last (Some left) e = by_test (leb left 1)
          (λ t. rw (e, t) refl)
          (λ t. let f = rw (e, t) at n in absurd (cc))

    one_left : (p : Progress) (ls : List Loop) (start : ℕ) → p.loops ≡ ls → next_turn ls ≡ Some start
        → turn app i p ls s ≡ go_to app i start (record p { loops = after_turn ls }) s
    one_left p [] start a n = absurd (cc)
    one_left p (l ∷ ls) start a n = next l.left refl where
      next : (left : Option ℕ) → l.left ≡ left
          → turn app i p (l ∷ ls) s ≡ go_to app i start (record p { loops = after_turn (l ∷ ls) }) s
      next None e =
          let f : Some l.start ≡ Some start = rw e at n in
          let q : l.start ≡ start = cc in
          ap (λ o. step.next_turn app i p l ls o s) e
          ∙ ap (λ us. go_to app i l.start (record p { loops = us }) s) (a ∙ sym (after_forever l ls e))
          ∙ ap (λ k. go_to app i k (record p { loops = after_turn (l ∷ ls) }) s) q
      next (Some left) e = by_test (leb left 1)
          (λ t. let f = rw (e, t) at n in absurd (cc))
          (λ t. let f = rw (e, t) at n in let q : l.start ≡ start = cc in rw (e, t, ← q) refl)

    pub turn_last : next_turn v.loops ≡ None → Completes app mid i new → At new log (close_turn app i s)
    unfolding close_turn
    turn_last n g =
        let m : next_turn (progress_at s i).loops ≡ None = ap (λ (p : Progress). next_turn p.loops) (sym same) ∙ n in
        rw (none_left (progress_at s i) (progress_at s i).loops refl m)
        (completes app k mid new log s h i r (record v { loops = after_turn v.loops })
        (record (progress_at s i) { loops = after_turn (progress_at s i).loops }) is mid_is placed refl g)

    pub turn_next : (start : ℕ) → next_turn v.loops ≡ Some start → Goes app mid i start new → At new log (close_turn app i s)
    unfolding close_turn
    turn_next start n g =
        let m : next_turn (progress_at s i).loops ≡ Some start = ap (λ (p : Progress). next_turn p.loops) (sym same) ∙ n in
        rw (one_left (progress_at s i) (progress_at s i).loops start refl m)
        (goes app k mid new log s h i r (record v { loops = after_turn v.loops })
        (record (progress_at s i) { loops = after_turn (progress_at s i).loops }) is mid_is placed refl start g)

-- `since` returns what the clock and the stamp of the kernel say
pub since_at : (app : Application) (new : Machine) (told : List Event) (s : State) (i now stamp : ℕ)
    → now ≡ s.time → stamp ≡ (progress_at s i).stamp
    → At new told (answer app i (Some (min (now - stamp) 4294967295)) s) → At new told (since app i s)
unfolding since
since_at app new told s i now stamp is_now is_stamp a =
    subst (λ (n : ℕ). At new told (answer app i (Some n) s))
    (ap (λ (n : ℕ). min (n - stamp) 4294967295) is_now ∙ ap (λ (n : ℕ). min (s.time - n) 4294967295) is_stamp) a

-- an answer takes no time
pub time-answer : (app : Application) (i : ℕ) (a : Option ℕ) (s : State) → (answer app i a s).time ≡ s.time
time-answer app i a s = (keeps-answer app i a s).time

-- `delay`: the task yields, or sleeps
module _ (app : Application) (new : Machine) (log : List Event) (s : State) (i : ℕ) where
  pub delay_none : (n : ℕ) → n ≡ 0 → At new log (yield_now (answer app i (Some 0) s)) → At new log (delay app i n s)
  unfolding delay
  delay_none n z a = rw (eq-eqb n 0 z) a

  pub delay_some : (n : ℕ) → (n ≡ 0 → ⊥)
      → At new log (sleep i ((answer app i (Some 0) s).time + n) (answer app i (Some 0) s)) → At new log (delay app i n s)
  unfolding delay
  delay_some n z a =
      let t : State = answer app i (Some 0) s in
      let P : ℕ → Type 0 = λ time. At new log (sleep i (time + n) t) in
      rw (ne_eqb n 0 z) (subst P (time-answer app i (Some 0) s) a)

-- The time of a `delay_until` is in the future, or it isn't.
module _ (app : Application) (k new : Machine) (log told : List Event) (s : State) (h : At k log s) (i : ℕ)
    (v : Progress) (e : v ≡ progress_in k.progress i) (n now : ℕ) (is_now : now ≡ k.clock.now) where
  time_is : now ≡ s.time
  time_is = is_now ∙ h.stands.rest.clock.now

  previous_is : v.previous_wake ≡ (progress_at s i).previous_wake
  previous_is = ap (λ (p : Progress). p.previous_wake) (e ∙ h.stands.rest.progress i)

  pub until_later : now < v.previous_wake + n
      → At new told (set_previous_wake i (v.previous_wake + n) (sleep i (v.previous_wake + n) (answer app i (Some 1) s)))
      → At new told (delay_until app i ((progress_at s i).previous_wake + n) s)
  unfolding delay_until
  until_later l a =
      let later : ltb s.time ((progress_at s i).previous_wake + n) ≡ true =
      lt-ltb s.time ((progress_at s i).previous_wake + n) (rw (time_is, previous_is) at l) in
      rw later (rw previous_is at a)

  pub until_past : v.previous_wake + n ≤ now → At new told (set_previous_wake i (v.previous_wake + n) (answer app i (Some 0) s))
      → At new told (delay_until app i ((progress_at s i).previous_wake + n) s)
  unfolding delay_until
  until_past l a =
      let past : ltb s.time ((progress_at s i).previous_wake + n) ≡ false =
      le-ltb s.time ((progress_at s i).previous_wake + n) (rw (time_is, previous_is) at l) in
      rw past (rw previous_is at a)

pub still_to_come : (app : Application) (i : ℕ) (s : State) (now wake_time : ℕ) → now ≡ s.time
    → now < wake_time → wake_time ≡ (answer app i (Some 1) s).time + (wake_time - now)
still_to_come app i s now wake_time e l = rw (time-answer app i (Some 1) s, ← e) (omega arith)

-- ---- sleep

pub log-sleep : (i wake_time : ℕ) (s : State) → (sleep i wake_time s).log ≡ s.log
unfolding sleep
log-sleep i wake_time s = by_test (is_ready s i) (λ t. rw t refl) (λ t. rw t refl)

pub sleep_none : (k : Machine) (log : List Event) (s : State) → At k log s
    → (i wake_time : ℕ) → is_ready s i ≡ false → At k log (sleep i wake_time s)
unfolding sleep
sleep_none k log s h i wake_time off = rw off h

-- A task's `delay_until` counts from another time.
pub counts : (k new : Machine) (log : List Event) (s : State) → At k log s → (i : ℕ) → i < length s.tasks → (time : ℕ)
    → new ≡ with_progress i (record (progress_in k.progress i) { previous_wake = time }) k → At new log (set_previous_wake i time s)
unfolding set_previous_wake
counts k new log s h i l time is =
    let P : Progress → Type 0 = λ p.
    At (with_progress i (record p { previous_wake = time }) k) log
    (state.with_progress i (record (progress_at s i) { previous_wake = time }) s) in
    rw is (subst P (sym (h.stands.rest.progress i)) (changed k log s h i l (record (progress_at s i) { previous_wake = time })
    (let Q : Progress → Type 0 = λ p. p.call.phase ≢ Place in subst Q (h.stands.rest.progress i) (h.stands.rest.placed i))
    (λ _. refl)))

-- the running task is a task after its call has returned, and when it sleeps
pub still_task : (app : Application) (k : Machine) (log : List Event) (s : State) → At k log s
    → (i : ℕ) → k.sched.current ≡ Some i → (n : ℕ) → i < length (answer app i (Some n) s).tasks
still_task app k log s h i r n = rw (keeps-answer app i (Some n) s).tasks (within k log s h i r)

pub still_task_asleep : (app : Application) (k : Machine) (log : List Event) (s : State) → At k log s → (i : ℕ)
    → k.sched.current ≡ Some i → (n wake_time : ℕ) → i < length (sleep i wake_time (answer app i (Some n) s)).tasks
still_task_asleep app k log s h i r n wake_time =
    rw (keeps-sleep i wake_time (answer app i (Some n) s)).tasks (still_task app k log s h i r n)
