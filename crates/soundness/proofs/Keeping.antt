-- What a deed leaves as it was, as one record: a field more of the state is a field more here. Deeds up to priorities.
use Rattle.std.proofs.Common.{max, ◌≡◌, ◌+◌, ◌-◌, ◌||◌, ℕ, Bool, eqb, leb, ltb, List, ◌∷◌, Option, Some, []}
use Rattle.std.proofs.Common.{None}
use Rattle.std.proofs.Common.{refl, sym, map}
use Rattle.std.proofs.Common.{subst, ◌∙◌, length, drop, min}
use Rattle.std.specs.Option.{option_map}
use Rattle.std.proofs.Math.ListN.{length-set}
use Rattle.model.specs.declared.op.Access.{Access}
use Rattle.model.specs.declared.call.CallProgress.{CallProgress}
use Rattle.model.specs.declared.call.WaitList.{WaitList}
use Rattle.model.specs.declared.call.WaitList.TheVariants.{ToReceive}
use Rattle.model.specs.declared.loops.Loop.{Loop}
use Rattle.model.specs.declared.answer.AnswerCondition.{AnswerCondition}
use Rattle.model.specs.Answers.{holds}
use Rattle.model.specs.Blocks.{jump_from}
use Rattle.model.specs.Application.{Application, op_count, script_of}
use Rattle.model.specs.State.{State, Source}
use Rattle.model.specs.State.{Task, Object, Progress, Status, Ready, Asleep, task_at, status_at, progress_at}
use Rattle.model.specs.State.{call_at, object_at, with_task, with_call, with_object, take_ticket}
use Rattle.model.specs.State.{for_one, for_each}
use Rattle.model.specs.Order.{tasks_of, task_of, first}
use Rattle.model.specs.Switching.{make_ready, to_back, dispatch, choose, choice, is_same, is_ready, yield_now, is_outranked}
use Rattle.model.specs.Switching.{is_sharing, preempt, slice, settle, is_held, unless_held, is_off, write}
use Rattle.model.specs.Time.{wake_due, due, sleep, set_previous_wake}
use Rattle.model.specs.Waiting.{waiters, awake_status, is_locked, wake_one, wake_best, set_deadline}
use Rattle.model.specs.Objects.{possible, object_after, list_woken, fulfil, attempt}
use Rattle.model.specs.Ops.{go_to, moved_to, called, answer, use_up, delay, delay_until, open_loop, next_turn, turn}
use Rattle.model.specs.Ops.{close_turn, branch, skip_branch, leave_loop, stamp, since}
use Rattle.model.specs.Mutexes.{set_priority, mutexes_held, raise, inherits, inherit_from, inherit, best_priority, fall_back}
use Rattle.model.specs.Mutexes.{after_timeout, disinherit, give_mutex, note_inherited}
use Rattle.model.specs.Invariant.{hold_of, suspension_of}
use Rattle.model.proofs.Sorting.{by_test}
use Rattle.soundness.proofs.Settled.{when_held, when_free}

-- of each source, whether it is pending
abbrev pub pending_in : State → List Bool
pending_in s = map (λ (x : Source). x.pending) s.sources

-- No time passes, no step is done, there are as many tasks, the same is held and locked, as many `suspend_all` are in force,
-- as many critical sections are open, and the same interrupts are pending.
pub record Keeps (old new : State) : Type 0 where
  pub time : new.time ≡ old.time
  pub elapsed : new.elapsed ≡ old.elapsed
  pub steps : new.steps ≡ old.steps
  pub tasks : length new.tasks ≡ length old.tasks
  pub hold : hold_of new ≡ hold_of old
  pub suspension : suspension_of new ≡ suspension_of old
  pub pending : pending_in new ≡ pending_in old

pub keeps : (s : State) → Keeps s s
keeps s = record { time = refl; elapsed = refl; steps = refl; tasks = refl; hold = refl; suspension = refl; pending = refl }

-- one deed, and then another
pub keeps_both : (a b c : State) → Keeps a b → Keeps b c → Keeps a c
keeps_both a b c h k =
    record {
      time = k.time ∙ h.time;
      elapsed = k.elapsed ∙ h.elapsed;
      steps = k.steps ∙ h.steps;
      tasks = k.tasks ∙ h.tasks;
      hold = k.hold ∙ h.hold;
      suspension = k.suspension ∙ h.suspension;
      pending = k.pending ∙ h.pending;
    }

-- ---- who runs

pub keeps-with_task : (i : ℕ) (t : Task) (s : State) → Keeps s (with_task i t s)
keeps-with_task i t s =
    record {
      time = refl;
      elapsed = refl;
      steps = refl;
      tasks = length-set s.tasks i t;
      hold = refl;
      suspension = refl;
      pending = refl;
    }

pub keeps-take_ticket : (i : ℕ) (f : ℕ → Status) (s : State) → Keeps s (take_ticket i f s)
keeps-take_ticket i f s =
    record {
      time = refl;
      elapsed = refl;
      steps = refl;
      tasks = length-set s.tasks i (record (task_at s i) { status = f s.next_ticket });
      hold = refl;
      suspension = refl;
      pending = refl;
    }

pub keeps-to_back : (i : ℕ) (s : State) → Keeps s (to_back i s)
unfolding to_back
keeps-to_back i s = by_test (is_ready s i) (λ t. rw t (keeps-take_ticket i Ready s)) (λ t. rw t (keeps s))

keeps-one_back : (o : Option ℕ) (s : State) → Keeps s (for_one to_back o s)
keeps-one_back None s = keeps s
keeps-one_back (Some i) s = keeps-to_back i s

pub keeps-choose : (s : State) → Keeps s (choose s)
unfolding choose dispatch
keeps-choose s =
    by_test (is_same (choice s) s.current) (λ t. rw t (keeps s))
    (λ t. rw t (record { time = refl; elapsed = refl; steps = refl; tasks = refl; hold = refl; suspension = refl; pending = refl }))

pub keeps-yield_now : (s : State) → Keeps s (yield_now s)
unfolding yield_now
keeps-yield_now s =
    let b : State = for_one to_back s.current s in
    keeps_both s b (choose b) (keeps-one_back s.current s) (keeps-choose b)

pub keeps-preempt : (s : State) → Keeps s (preempt s)
unfolding preempt
keeps-preempt s = by_test (is_outranked s) (λ t. rw t (keeps-yield_now s)) (λ t. rw t (keeps s))

pub keeps-slice : (s : State) → Keeps s (slice s)
unfolding slice
keeps-slice s = by_test (is_outranked s || is_sharing s) (λ t. rw t (keeps-yield_now s)) (λ t. rw t (keeps s))

pub keeps-settle : (s : State) → Keeps s (settle s)
unfolding settle
keeps-settle s = by_test (is_off s s.current) (λ t. rw t (keeps-choose s)) (λ t. rw t (keeps s))

pub keeps-unless_held : (deed : State → State) (s : State) → ((t : State) → Keeps t (deed t)) → Keeps s (unless_held deed s)
keeps-unless_held deed s k = by_test (is_held s)
    (λ t. subst (Keeps s) (sym (when_held deed s t)) (keeps s))
    (λ t. subst (Keeps s) (sym (when_free deed s t)) (k s))

-- for each of these, one after another
pub keeps-each : {A : Type 0} (deed : A → State → State) (k : (a : A) (s : State) → Keeps s (deed a s)) (ones : List A) (s : State)
    → Keeps s (for_each deed ones s)
keeps-each deed k [] s = keeps s
keeps-each deed k (a ∷ ones) s = keeps_both s (deed a s) (for_each deed ones (deed a s)) (k a s) (keeps-each deed k ones (deed a s))

pub keeps-all_ready : (is : List ℕ) (s : State) → Keeps s (for_each make_ready is s)
keeps-all_ready [] s = keeps s
keeps-all_ready (i ∷ is) s =
    keeps_both s (make_ready i s) (for_each make_ready is (make_ready i s))
    (keeps-take_ticket i Ready s) (keeps-all_ready is (make_ready i s))

pub keeps-wake_due : (s : State) → Keeps s (wake_due s)
unfolding wake_due
keeps-wake_due s = keeps-all_ready (tasks_of (due s)) s

-- ---- the ops

pub keeps-go_to : (app : Application) (i op_index : ℕ) (p : Progress) (s : State) → Keeps s (go_to app i op_index p s)
unfolding go_to
keeps-go_to app i op_index p s = keeps-with_task i (moved_to (op_count app i) op_index p (task_at s i)) s

pub keeps-answer : (app : Application) (i : ℕ) (a : Option ℕ) (s : State) → Keeps s (answer app i a s)
unfolding answer
keeps-answer app i a s =
    let p : Progress = record (progress_at s i) { answer = a } in
    let k = keeps-go_to app i (p.op_index + 1) p (write (called i p.op_index a) s) in
    record {
      time = k.time;
      elapsed = k.elapsed;
      steps = k.steps;
      tasks = k.tasks;
      hold = k.hold;
      suspension =
          k.suspension;
      pending = k.pending;
    }

pub keeps-use_up : (app : Application) (i n : ℕ) (s : State) → Keeps s (use_up app i n s)
unfolding use_up
keeps-use_up app i n s = by_test (eqb ((progress_at s i).used + 1) n)
    (λ t. rw t (keeps-go_to app i ((progress_at s i).op_index + 1) (progress_at s i) s))
    (λ t.
    rw t (keeps-with_task i (record (task_at s i) { progress = record (progress_at s i) { used = (progress_at s i).used + 1 } }) s))

pub keeps-sleep : (i wake_time : ℕ) (s : State) → Keeps s (sleep i wake_time s)
unfolding sleep
keeps-sleep i wake_time s = by_test (is_ready s i) (λ t. rw t (keeps-take_ticket i (Asleep wake_time) s)) (λ t. rw t (keeps s))

pub keeps-set_previous_wake : (i time : ℕ) (s : State) → Keeps s (set_previous_wake i time s)
unfolding set_previous_wake
keeps-set_previous_wake i time s =
    keeps-with_task i (record (task_at s i) { progress = record (progress_at s i) { previous_wake = time } }) s

pub keeps-delay : (app : Application) (i n : ℕ) (s : State) → Keeps s (delay app i n s)
unfolding delay
keeps-delay app i n s =
    let t : State = answer app i (Some 0) s in
    let k : Keeps s t = keeps-answer app i (Some 0) s in
    by_test (eqb n 0)
    (λ q. rw q (keeps_both s t (yield_now t) k (keeps-yield_now t)))
    (λ q. rw q (keeps_both s t (sleep i (s.time + n) t) k (keeps-sleep i (s.time + n) t)))

pub keeps-delay_until : (app : Application) (i wake_time : ℕ) (s : State) → Keeps s (delay_until app i wake_time s)
unfolding delay_until
keeps-delay_until app i wake_time s =
    let one : State = answer app i (Some 1) s in
    let slept : State = sleep i wake_time one in
    let none : State = answer app i (Some 0) s in
    by_test (ltb s.time wake_time)
    (λ t. rw t (keeps_both s one (set_previous_wake i wake_time slept) (keeps-answer app i (Some 1) s)
    (keeps_both one slept (set_previous_wake i wake_time slept)
    (keeps-sleep i wake_time one) (keeps-set_previous_wake i wake_time slept))))
    (λ t.
    rw t (keeps_both s none (set_previous_wake i wake_time none)
    (keeps-answer app i (Some 0) s) (keeps-set_previous_wake i wake_time none)))

pub keeps-open_loop : (app : Application) (i : ℕ) (n : Option ℕ) (s : State) → Keeps s (open_loop app i n s)
unfolding open_loop
keeps-open_loop app i n s =
    let p : Progress = progress_at s i in
    keeps-go_to app i (p.op_index + 1) (record p { loops = record { start = p.op_index + 1; left = n } ∷ p.loops }) s

keeps-next_turn : (app : Application) (i : ℕ) (p : Progress) (l : Loop) (ls : List Loop) (left : Option ℕ) (s : State)
    → Keeps s (next_turn app i p l ls left s)
keeps-next_turn app i p l ls None s = keeps-go_to app i l.start p s
keeps-next_turn app i p l ls (Some left) s = by_test (leb left 1)
    (λ q. rw q (keeps-go_to app i (p.op_index + 1) (record p { loops = ls }) s))
    (λ q. rw q (keeps-go_to app i l.start (record p { loops = record l { left = Some (left - 1) } ∷ ls }) s))

keeps-turn : (app : Application) (i : ℕ) (p : Progress) (ls : List Loop) (s : State) → Keeps s (turn app i p ls s)
keeps-turn app i p [] s = keeps-go_to app i (p.op_index + 1) p s
keeps-turn app i p (l ∷ ls) s = keeps-next_turn app i p l ls l.left s

pub keeps-close_turn : (app : Application) (i : ℕ) (s : State) → Keeps s (close_turn app i s)
unfolding close_turn
keeps-close_turn app i s = keeps-turn app i (progress_at s i) (progress_at s i).loops s

pub keeps-branch : (app : Application) (i : ℕ) (condition : AnswerCondition) (s : State) → Keeps s (branch app i condition s)
unfolding branch
keeps-branch app i condition s =
    let p : Progress = progress_at s i in
    by_test (holds s.variables condition p.answer)
    (λ q. rw q (keeps-go_to app i (p.op_index + 1) p s))
    (λ q. rw q (keeps-go_to app i (jump_from (script_of app i) p.op_index) p s))

pub keeps-skip_branch : (app : Application) (i : ℕ) (s : State) → Keeps s (skip_branch app i s)
unfolding skip_branch
keeps-skip_branch app i s = keeps-go_to app i (jump_from (script_of app i) (progress_at s i).op_index) (progress_at s i) s

pub keeps-stamp : (app : Application) (i : ℕ) (s : State) → Keeps s (stamp app i s)
unfolding stamp
keeps-stamp app i s = let p : Progress = progress_at s i in keeps-go_to app i (p.op_index + 1) (record p { stamp = s.time }) s

pub keeps-since : (app : Application) (i : ℕ) (s : State) → Keeps s (since app i s)
unfolding since
keeps-since app i s = keeps-answer app i (Some (min (s.time - (progress_at s i).stamp) 4294967295)) s

pub keeps-leave_loop : (app : Application) (i : ℕ) (s : State) → Keeps s (leave_loop app i s)
unfolding leave_loop
keeps-leave_loop app i s =
    let p : Progress = progress_at s i in
    keeps-go_to app i (jump_from (script_of app i) p.op_index) (record p { loops = drop 1 p.loops }) s

-- ---- calls on objects

pub keeps-for_one : {A : Type 0} (deed : A → State → State) (o : Option A) (s : State)
    → ((a : A) → Keeps s (deed a s)) → Keeps s (for_one deed o s)
keeps-for_one deed None s k = keeps s
keeps-for_one deed (Some a) s k = k a

pub keeps-wake_one : (i : ℕ) (list : WaitList) (s : State) → Keeps s (wake_one i list s)
keeps-wake_one i list s = by_test (is_locked s.locked list)
    (λ t. rw t (keeps-with_task i (record (task_at s i) { status = awake_status (status_at s i) }) s))
    (λ t. rw t (keeps-take_ticket i Ready s))

pub keeps-wake_best : (list : WaitList) (s : State) → Keeps s (wake_best list s)
unfolding wake_best
keeps-wake_best list s = keeps-for_one (λ i. wake_one i list) (task_of (first (waiters s list))) s (λ i. keeps-wake_one i list s)

pub keeps-fulfil : (caller : Option ℕ) (o : ℕ) (a : Access ℕ) (s : State) → Keeps s (fulfil caller o a s)
unfolding fulfil
keeps-fulfil caller o a s =
    let t : State = with_object o (object_after caller a (object_at s o)) s in
    let k : Keeps t (for_one wake_best (list_woken caller o a) t) =
    keeps-for_one wake_best (list_woken caller o a) t (λ list. keeps-wake_best list t) in
    record {
      time = k.time;
      elapsed = k.elapsed;
      steps = k.steps;
      tasks = k.tasks;
      hold = k.hold;
      suspension =
          k.suspension;
      pending = k.pending;
    }

pub keeps-attempt : (caller : Option ℕ) (o : ℕ) (a : Access ℕ) (s : State) → Keeps s (attempt caller o a s)
unfolding attempt
keeps-attempt caller o a s = by_test (possible s o a) (λ t. rw t (keeps-fulfil caller o a s)) (λ t. rw t (keeps s))

pub keeps-with_call : (i : ℕ) (call : CallProgress) (s : State) → Keeps s (with_call i call s)
keeps-with_call i call s = keeps-with_task i (record (task_at s i) { progress = record (progress_at s i) { call = call } }) s

pub keeps-set_deadline : (i : ℕ) (ticks : Option ℕ) (s : State) → Keeps s (set_deadline i ticks s)
unfolding set_deadline
keeps-set_deadline i ticks s = keeps-with_call i (record (call_at s i) { deadline = option_map (λ n. s.time + n) ticks }) s

-- ---- priorities

pub keeps-set_priority : (i priority : ℕ) (s : State) → Keeps s (set_priority i priority s)
unfolding set_priority
keeps-set_priority i priority s =
    let t : State = with_task i (record (task_at s i) { priority = priority }) s in
    by_test (eqb (task_at s i).priority priority)
    (λ e. rw e (keeps s))
    (λ e.
    rw e (keeps_both s t (to_back i t) (keeps-with_task i (record (task_at s i) { priority = priority }) s) (keeps-to_back i t)))

pub keeps-raise : (holder priority : ℕ) (s : State) → Keeps s (raise holder priority s)
keeps-raise holder priority s = by_test (ltb (task_at s holder).priority priority)
    (λ t. rw t (keeps-set_priority holder priority s))
    (λ t. rw t (keeps s))

keeps-inherit_from : (i holder : ℕ) (s : State) → Keeps s (inherit_from i holder s)
keeps-inherit_from i holder s =
    let t : State = note_inherited i holder s in
    keeps_both s t (raise holder (task_at s i).priority t)
    (keeps-with_call i (record (call_at s i) { inherited = inherits i holder s }) s)
    (keeps-raise holder (task_at s i).priority t)

pub keeps-inherit : (i o : ℕ) (s : State) → Keeps s (inherit i o s)
unfolding inherit
keeps-inherit i o s = keeps-for_one (inherit_from i) (object_at s o).holder s (λ holder. keeps-inherit_from i holder s)

keeps-fall_back : (o holder : ℕ) (s : State) → Keeps s (fall_back o holder s)
keeps-fall_back o holder s = by_test (eqb (mutexes_held s holder) 1)
    (λ t. rw t (keeps-set_priority holder (max (task_at s holder).base_priority (best_priority s (ToReceive o))) s))
    (λ t. rw t (keeps s))

pub keeps-after_timeout : (i o : ℕ) (s : State) → Keeps s (after_timeout i o s)
unfolding after_timeout
keeps-after_timeout i o s = by_test (call_at s i).inherited
    (λ t. rw t (keeps-for_one (fall_back o) (object_at s o).holder s (λ holder. keeps-fall_back o holder s)))
    (λ t. rw t (keeps s))

pub keeps-disinherit : (i : ℕ) (s : State) → Keeps s (disinherit i s)
unfolding disinherit
keeps-disinherit i s = by_test (eqb (mutexes_held s i) 0)
    (λ t. rw t (keeps-set_priority i (task_at s i).base_priority s))
    (λ t. rw t (keeps s))

pub keeps-with_object : (o : ℕ) (x : Object) (s : State) → Keeps s (with_object o x s)
keeps-with_object o x s = record {
  time = refl;
  elapsed = refl;
  steps = refl;
  tasks = refl;
  hold = refl;
  suspension =
      refl;
  pending = refl;
}

pub keeps-give_mutex : (app : Application) (i o : ℕ) (s : State) → Keeps s (give_mutex app i o s)
unfolding give_mutex
keeps-give_mutex app i o s =
    let x : Object = record (object_at s o) { holder = None } in
    let a : State = with_object o x s in
    let b : State = disinherit i a in
    let c : State = wake_best (ToReceive o) b in
    let d : State = answer app i (Some 1) c in
    keeps_both s a (preempt d) (keeps-with_object o x s) (keeps_both a b (preempt d) (keeps-disinherit i a)
    (keeps_both b c (preempt d) (keeps-wake_best (ToReceive o) b)
    (keeps_both c d (preempt d) (keeps-answer app i (Some 1) c) (keeps-preempt d))))
