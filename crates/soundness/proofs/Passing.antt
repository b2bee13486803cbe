-- What each op makes of the ticks and of the suspension of the scheduler: most leave both as they were.
use Rattle.model.specs.declared.op.Op.TheVariants as op
use Rattle.model.specs.declared.op.Op.TheVariants.{Value}
use Rattle.model.specs.Ops.{fail}
use Rattle.model.specs.declared.event.End.TheVariants.{Check}
use Rattle.model.specs.Step.{act_by_value, call_with_number, notify_by_number, lacks_value}
use Rattle.model.specs.Values.{number_of}
use Rattle.soundness.proofs.Frames.{keeps-control}
use Rattle.soundness.proofs.Keeping.{pending_in}
use Rattle.soundness.proofs.Frames.{keeps-calculate}
use Rattle.std.proofs.Common.{Bool, ap, ap₂, ◌≡◌, ◌≤◌, ◌+◌, ◌-◌, ℕ, true, false, eqb}
use Rattle.std.proofs.Common.{Some, refl, ◌∙◌, arith, length}
use Rattle.model.specs.declared.op.Op.{Op}
use Rattle.model.specs.declared.op.Op.TheVariants.{Work, Delay, DelayUntil, Yield, Time, Mark, Expect, Repeat, End, If, Else, EndIf}
use Rattle.model.specs.declared.op.Op.TheVariants.{Break, Stamp, Since, Await, Do, GiveMutex, MessagesWaiting, SpacesAvailable}
use Rattle.model.specs.declared.op.Op.TheVariants.{SetBits, ClearBits, GetBits, WaitBits, Suspend, Resume, SuspendAll, ResumeAll}
use Rattle.model.specs.declared.op.Op.TheVariants.{EnterCritical, ExitCritical, NextCommand, Obey}
use Rattle.model.specs.declared.op.Op.TheVariants.{Notify, AwaitNotification, ClearNotification}
use Rattle.model.specs.declared.event.What.TheVariants as what
use Rattle.model.specs.Answers.{holds}
use Rattle.model.specs.Application.{Application}
use Rattle.model.specs.State.{State, progress_at, call_at, object_at, bits_at, printed}
use Rattle.model.specs.Switching.{preempt}
use Rattle.model.specs.Switching.{unless_held, write}
use Rattle.model.specs.Ops.{answer, use_up, with_sections}
use Rattle.model.specs.Suspension.{suspend_all, resume_scheduler, resume_all}
use Rattle.model.specs.Daemon.{command_at}
use Rattle.model.specs.Step.{act}
use Rattle.model.specs.Invariant.{hold_of, InOne, course, Suspension, suspension_of}
use Rattle.model.proofs.Sorting.{by_test}
use Rattle.soundness.proofs.Keeping.{Keeps, keeps_both, keeps-yield_now, keeps-preempt}
use Rattle.soundness.proofs.Keeping.{keeps-unless_held, keeps-go_to, keeps-answer}
use Rattle.soundness.proofs.Keeping.{keeps-use_up, keeps-delay, keeps-delay_until, keeps-open_loop, keeps-close_turn, keeps-branch}
use Rattle.soundness.proofs.Keeping.{keeps-skip_branch, keeps-leave_loop, keeps-stamp, keeps-since}
use Rattle.soundness.proofs.Frames.{keeps-do_now, keeps-clear}
use Rattle.soundness.proofs.Keeping.{keeps-give_mutex}
use Rattle.soundness.proofs.Frames.{keeps-call_suspend, keeps-call_resume}
use Rattle.soundness.proofs.Frames.{keeps-call_notify}
use Rattle.soundness.proofs.Frames.{keeps-clear_notification}
use Rattle.soundness.proofs.Ticking.{applies, Lasts, lasts, lasts-await, lasts-set_bits, lasts-wait_bits}
use Rattle.soundness.proofs.Ticking.{lasts-await_notification, lasts-next_command, lasts-obey, Ends, ends_by, ends, ends-expect}
use Rattle.soundness.proofs.Ticking.{elapsed-tick, hold-tick, suspensions-tick, sections-tick, pending-tick}

-- ---- the scheduler suspended and resumed

-- one `suspend_all` less, and after the last no tick is held
pub record Resumes (old new : State) : Type 0 where
  pub elapsed : new.elapsed ≡ old.elapsed
  pub hold : hold_of new ≡ hold_of old
  pub suspensions : new.suspensions ≡ old.suspensions - 1
  pub held : old.suspensions ≡ 1 → new.held_ticks ≡ 0
  pub no_more : new.held_ticks ≤ old.held_ticks
  pub sections : new.sections ≡ old.sections
  pub pending : pending_in new ≡ pending_in old

pub resumes : (s : State) → Resumes s (resume_scheduler s)
unfolding resume_scheduler
resumes s = by_test (eqb s.suspensions 1)
    (λ t. rw t (let k = applies s.held_ticks (record s { suspensions = s.suspensions - 1 }) in
    record {
      elapsed = k.elapsed;
      hold = k.hold;
      suspensions = k.suspensions;
      held = λ _. let e = k.held in omega arith;
      no_more = let e = k.held in omega arith;
      sections = k.sections;
      pending = k.pending;
    }))
    (λ t.
    rw t (record {
      elapsed = refl;
      hold = refl;
      suspensions = refl;
      held = λ e. let u : eqb s.suspensions 1 ≡ true = rw e refl in absurd (cc);
      no_more = omega arith;
      sections = refl;
      pending = refl;
    }))

pub resumes-all : (app : Application) (i : ℕ) (s : State) → Resumes s (resume_all app i s)
unfolding resume_all
resumes-all app i s =
    let t : State = resume_scheduler s in
    let r = resumes s in
    let u : State = answer app i (Some 0) t in
    let k : Keeps t (unless_held preempt u) =
    keeps_both t u (unless_held preempt u) (keeps-answer app i (Some 0) t) (keeps-unless_held preempt u keeps-preempt) in
    record {
      elapsed = k.elapsed ∙ r.elapsed;
      hold = k.hold ∙ r.hold;
      suspensions = ap (λ (x : Suspension). x.suspensions) k.suspension ∙ r.suspensions;
      held = λ e. ap (λ (x : Suspension). x.held_ticks) k.suspension ∙ r.held e;
      no_more =
          (let e : (unless_held preempt u).held_ticks ≡ t.held_ticks = ap (λ (x : Suspension). x.held_ticks) k.suspension in
          let less = r.no_more in
          omega arith);
      sections = ap (λ (x : Suspension). x.sections) k.suspension ∙ r.sections;
      pending = k.pending ∙ r.pending;
    }

pub record Suspends (old new : State) : Type 0 where
  pub elapsed : new.elapsed ≡ old.elapsed
  pub hold : hold_of new ≡ hold_of old
  pub suspensions : new.suspensions ≡ old.suspensions + 1
  pub held : new.held_ticks ≡ old.held_ticks
  pub sections : new.sections ≡ old.sections
  pub pending : pending_in new ≡ pending_in old

pub suspends-all : (app : Application) (i : ℕ) (s : State) → Suspends s (suspend_all app i s)
unfolding suspend_all
suspends-all app i s =
    let k = keeps-answer app i (Some 0) (record s { suspensions = s.suspensions + 1 }) in
    record {
      elapsed = k.elapsed;
      hold = k.hold;
      suspensions = ap (λ (x : Suspension). x.suspensions) k.suspension;
      held = ap (λ (x : Suspension). x.held_ticks) k.suspension;
      sections = ap (λ (x : Suspension). x.sections) k.suspension;
      pending = k.pending;
    }

-- So many critical sections are open, and nothing else that is counted changes.
pub record Opens (n : ℕ) (old new : State) : Type 0 where
  pub elapsed : new.elapsed ≡ old.elapsed
  pub hold : hold_of new ≡ hold_of old
  pub suspensions : new.suspensions ≡ old.suspensions
  pub held : new.held_ticks ≡ old.held_ticks
  pub sections : new.sections ≡ n
  pub pending : pending_in new ≡ pending_in old

pub opens : (app : Application) (i n : ℕ) (s : State) → Opens n s (with_sections app i n s)
unfolding with_sections
opens app i n s =
    let k = keeps-go_to app i ((progress_at s i).op_index + 1) (progress_at s i) (record s { sections = n }) in
    record {
      elapsed = k.elapsed;
      hold = k.hold;
      suspensions = ap (λ (x : Suspension). x.suspensions) k.suspension;
      held = ap (λ (x : Suspension). x.held_ticks) k.suspension;
      sections = ap (λ (x : Suspension). x.sections) k.suspension;
      pending = k.pending;
    }

-- ---- the ops

-- The op lets no tick pass, and neither holds the scheduler for its task nor lets go of it.
abbrev pub is_instant : Op → Bool
is_instant (Work n) = false
is_instant SuspendAll = false
is_instant ResumeAll = false
is_instant EnterCritical = false
is_instant ExitCritical = false
is_instant _ = true

-- what is true of those five, and of all others, is true of every op
pub by_op : (P : Op → Type 0) → ((n : ℕ) → P (Work n)) → P SuspendAll → P ResumeAll
    → P EnterCritical → P ExitCritical → ((op : Op) → is_instant op ≡ true → P op) → (op : Op) → P op
by_op P w s r e x f (Work n) = w n
by_op P w s r e x f (Delay n) = f (Delay n) refl
by_op P w s r e x f (DelayUntil n) = f (DelayUntil n) refl
by_op P w s r e x f Yield = f Yield refl
by_op P w s r e x f Time = f Time refl
by_op P w s r e x f (Mark n) = f (Mark n) refl
by_op P w s r e x f (Expect c) = f (Expect c) refl
by_op P w s r e x f (Repeat n) = f (Repeat n) refl
by_op P w s r e x f End = f End refl
by_op P w s r e x f (If c) = f (If c) refl
by_op P w s r e x f Else = f Else refl
by_op P w s r e x f EndIf = f EndIf refl
by_op P w s r e x f Break = f Break refl
by_op P w s r e x f Stamp = f Stamp refl
by_op P w s r e x f Since = f Since refl
by_op P w s r e x f (Await o a ticks) = f (Await o a ticks) refl
by_op P w s r e x f (Do o a) = f (Do o a) refl
by_op P w s r e x f (GiveMutex o) = f (GiveMutex o) refl
by_op P w s r e x f (MessagesWaiting o) = f (MessagesWaiting o) refl
by_op P w s r e x f (SpacesAvailable o) = f (SpacesAvailable o) refl
by_op P w s r e x f (SetBits g m) = f (SetBits g m) refl
by_op P w s r e x f (ClearBits g m) = f (ClearBits g m) refl
by_op P w s r e x f (GetBits g) = f (GetBits g) refl
by_op P w s r e x f (WaitBits g c ticks) = f (WaitBits g c ticks) refl
by_op P w s r e x f (Notify j a) = f (Notify j a) refl
by_op P w s r e x f (AwaitNotification a ticks) = f (AwaitNotification a ticks) refl
by_op P w s r e x f (ClearNotification c) = f (ClearNotification c) refl
by_op P w s r e x f (Suspend j) = f (Suspend j) refl
by_op P w s r e x f (Resume j) = f (Resume j) refl
by_op P w s r e x f SuspendAll = s
by_op P w s r e x f ResumeAll = r
by_op P w s r e x f EnterCritical = e
by_op P w s r e x f ExitCritical = x
by_op P w s r e x f (Value op) = f (Value op) refl
by_op P w s r e x f (op.Source j what) = f (op.Source j what) refl
by_op P w s r e x f (NextCommand o) = f (NextCommand o) refl
by_op P w s r e x f Obey = f Obey refl

-- an instant op in one phase
pub ends-act : (app : Application) (i : ℕ) (op : Op) (s : State)
    → is_instant op ≡ true → course (Some op) ≡ InOne → Ends s (act app i op s)
ends-act app i (Work n) s t w = absurd (cc)
ends-act app i (Delay n) s t w = ends s _ (keeps-delay app i n s)
ends-act app i (DelayUntil n) s t w = ends s _ (keeps-delay_until app i ((progress_at s i).previous_wake + n) s)
ends-act app i Yield s t w = ends s _ (keeps_both s _ _ (keeps-answer app i (Some 0) s) (keeps-yield_now (answer app i (Some 0) s)))
ends-act app i Time s t w = ends s _ (keeps-answer app i (Some (printed s.time)) s)
ends-act app i (Mark value) s t w =
    let n : ℕ = number_of s.variables (progress_at s i).answer value in
    let k = keeps-go_to app i ((progress_at s i).op_index + 1) (progress_at s i) (write (what.Mark i n) s) in
    ends_by s _ k.elapsed k.suspension k.pending k.hold
ends-act app i (Expect c) s t w = ends-expect app i c s
ends-act app i (Repeat n) s t w = ends s _ (keeps-open_loop app i n s)
ends-act app i End s t w = ends s _ (keeps-close_turn app i s)
ends-act app i (If c) s t w = ends s _ (keeps-branch app i c s)
ends-act app i Else s t w = ends s _ (keeps-skip_branch app i s)
ends-act app i EndIf s t w = ends s _ (keeps-go_to app i ((progress_at s i).op_index + 1) (progress_at s i) s)
ends-act app i Break s t w = ends s _ (keeps-leave_loop app i s)
ends-act app i Stamp s t w = ends s _ (keeps-stamp app i s)
ends-act app i Since s t w = ends s _ (keeps-since app i s)
ends-act app i (Await o a ticks) s t w = absurd (cc)
ends-act app i (Do o a) s t w = ends s _ (keeps-do_now app i o (call_with_number s i a) s)
ends-act app i (GiveMutex o) s t w = ends s _ (keeps-give_mutex app i o s)
ends-act app i (MessagesWaiting o) s t w = ends s _ (keeps-answer app i (Some (length (object_at s o).items)) s)
ends-act app i (SpacesAvailable o) s t w =
    ends s _ (keeps-answer app i (Some ((object_at s o).size - length (object_at s o).items)) s)
ends-act app i (SetBits g m) s t w = absurd (cc)
ends-act app i (ClearBits g m) s t w = ends s _ (keeps-clear app i g m s)
ends-act app i (GetBits g) s t w = ends s _ (keeps-answer app i (Some (bits_at s g)) s)
ends-act app i (WaitBits g c ticks) s t w = absurd (cc)
ends-act app i (Notify j a) s t w = ends s _ (keeps-call_notify app i j (notify_by_number s i a) s)
ends-act app i (AwaitNotification a ticks) s t w = absurd (cc)
ends-act app i (ClearNotification c) s t w = ends s _ (keeps-clear_notification app i c s)
ends-act app i (Suspend j) s t w = ends s _ (keeps-call_suspend app i j s)
ends-act app i (Resume j) s t w = ends s _ (keeps-call_resume app i j s)
ends-act app i SuspendAll s t w = absurd (cc)
ends-act app i ResumeAll s t w = absurd (cc)
ends-act app i EnterCritical s t w = absurd (cc)
ends-act app i ExitCritical s t w = absurd (cc)
ends-act app i (Value op) s t w = ends s _ (keeps-calculate app i op s)
ends-act app i (op.Source j what) s t w = ends s _ (keeps-control app i j what s)
ends-act app i (NextCommand o) s t w = absurd (cc)
ends-act app i Obey s t w = absurd (cc)

pub lasts-act : (app : Application) (i : ℕ) (op : Op) (s : State) → is_instant op ≡ true → Lasts s (act app i op s)
lasts-act app i (Work n) s t = absurd (cc)
lasts-act app i (Delay n) s t = (ends-act app i (Delay n) s refl refl).lasts
lasts-act app i (DelayUntil n) s t = (ends-act app i (DelayUntil n) s refl refl).lasts
lasts-act app i Yield s t = (ends-act app i Yield s refl refl).lasts
lasts-act app i Time s t = (ends-act app i Time s refl refl).lasts
lasts-act app i (Mark n) s t = (ends-act app i (Mark n) s refl refl).lasts
lasts-act app i (Expect c) s t = (ends-act app i (Expect c) s refl refl).lasts
lasts-act app i (Repeat n) s t = (ends-act app i (Repeat n) s refl refl).lasts
lasts-act app i End s t = (ends-act app i End s refl refl).lasts
lasts-act app i (If c) s t = (ends-act app i (If c) s refl refl).lasts
lasts-act app i Else s t = (ends-act app i Else s refl refl).lasts
lasts-act app i EndIf s t = (ends-act app i EndIf s refl refl).lasts
lasts-act app i Break s t = (ends-act app i Break s refl refl).lasts
lasts-act app i Stamp s t = (ends-act app i Stamp s refl refl).lasts
lasts-act app i Since s t = (ends-act app i Since s refl refl).lasts
lasts-act app i (Await o a ticks) s t = lasts-await app i o (call_with_number s i a) ticks (call_at s i).phase s
lasts-act app i (Do o a) s t = (ends-act app i (Do o a) s refl refl).lasts
lasts-act app i (GiveMutex o) s t = (ends-act app i (GiveMutex o) s refl refl).lasts
lasts-act app i (MessagesWaiting o) s t = (ends-act app i (MessagesWaiting o) s refl refl).lasts
lasts-act app i (SpacesAvailable o) s t = (ends-act app i (SpacesAvailable o) s refl refl).lasts
lasts-act app i (SetBits g m) s t = lasts-set_bits app i g m (call_at s i).phase s
lasts-act app i (ClearBits g m) s t = (ends-act app i (ClearBits g m) s refl refl).lasts
lasts-act app i (GetBits g) s t = (ends-act app i (GetBits g) s refl refl).lasts
lasts-act app i (WaitBits g c ticks) s t = lasts-wait_bits app i g c ticks (call_at s i).phase s
lasts-act app i (Notify j a) s t = (ends-act app i (Notify j a) s refl refl).lasts
lasts-act app i (AwaitNotification a ticks) s t = lasts-await_notification app i a ticks (call_at s i).phase s
lasts-act app i (ClearNotification c) s t = (ends-act app i (ClearNotification c) s refl refl).lasts
lasts-act app i (Suspend j) s t = (ends-act app i (Suspend j) s refl refl).lasts
lasts-act app i (Resume j) s t = (ends-act app i (Resume j) s refl refl).lasts
lasts-act app i SuspendAll s t = absurd (cc)
lasts-act app i ResumeAll s t = absurd (cc)
lasts-act app i EnterCritical s t = absurd (cc)
lasts-act app i ExitCritical s t = absurd (cc)
lasts-act app i (Value op) s t = (ends-act app i (Value op) s refl refl).lasts
lasts-act app i (op.Source j what) s t = (ends-act app i (op.Source j what) s refl refl).lasts
lasts-act app i (NextCommand o) s t = lasts-next_command app i o (call_at s i).phase s
lasts-act app i Obey s t = lasts-obey app i (command_at s i) (call_at s i).phase s

-- an op in one phase holds nothing, and lets go of nothing
pub hold-act : (app : Application) (i : ℕ) (op : Op) (s : State) → course (Some op) ≡ InOne → hold_of (act app i op s) ≡ hold_of s
hold-act app i op s = by_op (λ op. course (Some op) ≡ InOne → hold_of (act app i op s) ≡ hold_of s)
    (λ n w. hold-tick app (use_up app i n s) ∙ (keeps-use_up app i n s).hold)
    (λ w. (suspends-all app i s).hold)
    (λ w. (resumes-all app i s).hold)
    (λ w. (opens app i (s.sections + 1) s).hold)
    (λ w. (opens app i (s.sections - 1) s).hold)
    (λ op t w. (ends-act app i op s t w).hold) op

pub elapsed-act : (app : Application) (i : ℕ) (op : Op) (s : State) → (act app i op s).elapsed ≤ s.elapsed + 1
elapsed-act app i op s = by_op (λ op. (act app i op s).elapsed ≤ s.elapsed + 1)
    (λ n. let e = elapsed-tick app (use_up app i n s) in let f = (keeps-use_up app i n s).elapsed in omega arith)
    (let e = (suspends-all app i s).elapsed in omega arith)
    (let e = (resumes-all app i s).elapsed in omega arith)
    (let e = (opens app i (s.sections + 1) s).elapsed in omega arith)
    (let e = (opens app i (s.sections - 1) s).elapsed in omega arith)
    (λ op t. let e = (lasts-act app i op s t).elapsed in omega arith) op

-- how many `suspend_all` are in force after it
pub suspensions-act : (app : Application) (i : ℕ) (op : Op) (s : State) → (act app i op s).suspensions ≤ s.suspensions + 1
suspensions-act app i op s = by_op (λ op. (act app i op s).suspensions ≤ s.suspensions + 1)
    (λ n. let e = suspensions-tick app (use_up app i n s) in
    let f : (use_up app i n s).suspensions ≡ s.suspensions =
    ap (λ (x : Suspension). x.suspensions) (keeps-use_up app i n s).suspension in
    omega arith)
    (let e = (suspends-all app i s).suspensions in omega arith)
    (let e = (resumes-all app i s).suspensions in omega arith)
    (let e = (opens app i (s.sections + 1) s).suspensions in omega arith)
    (let e = (opens app i (s.sections - 1) s).suspensions in omega arith)
    (λ op t.
    let e : (act app i op s).suspensions ≡ s.suspensions = (lasts-act app i op s t).suspensions in
    omega arith)
    op

-- how many ticks are held after it
-- how often a task holds the scheduler, by `suspend_all` and by critical sections
abbrev pub task_holds : State → ℕ
task_holds s = s.suspensions + s.sections

pub task_holds_by : (s t : State) → suspension_of t ≡ suspension_of s → task_holds t ≡ task_holds s
task_holds_by s t same = ap (λ (x : Suspension). x.suspensions + x.sections) same

-- and how often after it
pub task_holds-act : (app : Application) (i : ℕ) (op : Op) (s : State) → task_holds (act app i op s) ≤ task_holds s + 1
task_holds-act app i op s = by_op (λ op. task_holds (act app i op s) ≤ task_holds s + 1)
    (λ n.
    let e : (act app i (Work n) s).suspensions ≡ (use_up app i n s).suspensions = suspensions-tick app (use_up app i n s) in
    let f : (act app i (Work n) s).sections ≡ (use_up app i n s).sections = sections-tick app (use_up app i n s) in
    let g : task_holds (use_up app i n s) ≡ task_holds s = task_holds_by s (use_up app i n s) (keeps-use_up app i n s).suspension in
    omega arith)
    (let e = (suspends-all app i s).suspensions in let f = (suspends-all app i s).sections in omega arith)
    (let e = (resumes-all app i s).suspensions in let f = (resumes-all app i s).sections in omega arith)
    (let e = (opens app i (s.sections + 1) s).suspensions in let f = (opens app i (s.sections + 1) s).sections in omega arith)
    (let e = (opens app i (s.sections - 1) s).suspensions in let f = (opens app i (s.sections - 1) s).sections in omega arith)
    (λ op t.
    let k = lasts-act app i op s t in
    let e : task_holds (act app i op s) ≡ task_holds s = ap₂ (λ (a b : ℕ). a + b) k.suspensions k.sections in
    omega arith)
    op

-- what is kept of the interrupt sources stays
pub pending-act : (app : Application) (i : ℕ) (op : Op) (s : State) → pending_in (act app i op s) ≡ pending_in s
pending-act app i op s = by_op (λ op. pending_in (act app i op s) ≡ pending_in s)
    (λ n. pending-tick app (use_up app i n s) ∙ (keeps-use_up app i n s).pending)
    (suspends-all app i s).pending
    (resumes-all app i s).pending
    (opens app i (s.sections + 1) s).pending
    (opens app i (s.sections - 1) s).pending
    (λ op t. (lasts-act app i op s t).pending)
    op

-- an op that has no value to work with is a failed check, and any other is done
pub by_value : (P : State → Type 0) (app : Application) (i : ℕ) (op : Op) (s : State)
    → P (fail (Check i (progress_at s i).op_index) s) → P (act app i op s) → P (act_by_value app i op s)
by_value P app i op s failed done = by_test (lacks_value s i op) (λ t. rw t failed) (λ t. rw t done)
