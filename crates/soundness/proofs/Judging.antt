-- When an op is a misuse, and when the end of a script is: only while a task holds the scheduler, or by the op itself.
use Rattle.model.specs.declared.op.Op.TheVariants as op
use Rattle.model.specs.declared.op.Op.TheVariants.{Value}
use Rattle.soundness.proofs.Passing.{by_value}
use Rattle.std.proofs.Common.{ap₂, Bool, ap, ◌≡◌, ◌||◌, ◌&&◌, ℕ, true, false, ltb}
use Rattle.std.proofs.Common.{sym, subst, Option, Some, None, refl, ◌∙◌}
use Rattle.std.specs.Prelude.{if◌then◌else◌}
use Rattle.std.specs.Option.{option_or}
use Rattle.model.specs.declared.op.Op.{Op}
use Rattle.model.specs.declared.op.Op.TheVariants.{Work, Delay, DelayUntil, Yield, Time, Mark, Expect, Repeat, End, If, Else, EndIf}
use Rattle.model.specs.declared.op.Op.TheVariants.{Break, Stamp, Since, Await, Do, GiveMutex, MessagesWaiting, SpacesAvailable}
use Rattle.model.specs.declared.op.Op.TheVariants.{SetBits, ClearBits, GetBits, WaitBits, Suspend, Resume, SuspendAll, ResumeAll}
use Rattle.model.specs.declared.op.Op.TheVariants.{EnterCritical, ExitCritical, NextCommand, Obey}
use Rattle.model.specs.declared.op.Op.TheVariants.{Notify, AwaitNotification, ClearNotification}
use Rattle.model.specs.declared.event.Misuse.{Misuse}
use Rattle.model.specs.declared.event.Misuse.TheVariants.{WhileSuspended, NotSuspended, EndedSuspended, WhileCritical, NotCritical}
use Rattle.model.specs.declared.event.Misuse.TheVariants.{EndedCritical}
use Rattle.model.specs.Application.{Application}
use Rattle.model.specs.State.{State, status_at, progress_at}
use Rattle.model.specs.Switching.{is_scheduler_suspended, is_critical, is_held_by_task}
use Rattle.model.specs.Ops.{use_up}
use Rattle.model.specs.Step.{is_ended, judge, misused, act, act_by_value, act_unless, may_switch, is_barred, own_misuse, misuse}
use Rattle.model.specs.Invariant.{Suspension, suspension_of}
use Rattle.model.proofs.Sorting.{by_test}
use Rattle.soundness.proofs.Settled.{unlike, neither, by_section}
use Rattle.soundness.proofs.Keeping.{keeps-use_up}
use Rattle.soundness.proofs.Passing.{by_op, lasts-act}
use Rattle.soundness.proofs.Ticking.{Ends, ends_by, sections-tick, suspensions-tick}

-- ---- a judgement

-- It leaves everything as it is where no task holds the scheduler, or the task isn't at its end.
pub not_ended : (i op_index : ℕ) (s : State) → is_ended (status_at s i) ≡ false → judge i op_index s ≡ s
unfolding judge
not_ended i op_index s on = rw on refl

pub judged_calm : (i op_index : ℕ) (s : State) → is_held_by_task s ≡ false → judge i op_index s ≡ s
unfolding judge
judged_calm i op_index s free =
    let off = neither s free in
    by_test (is_ended (status_at s i)) (λ t. rw (t, off.0, off.1) refl) (λ t. rw t refl)

-- Otherwise it is a misuse.
pub judged_held : (i op_index : ℕ) (s : State) → is_held_by_task s ≡ true → is_ended (status_at s i) ≡ true
    → (kind : Misuse) × (judge i op_index s ≡ misused i op_index kind s)
unfolding judge
judged_held i op_index s held t = by_test (is_scheduler_suspended s)
    (λ sus. (EndedSuspended, rw (t, sus) refl))
    (λ off. (EndedCritical, rw (t, off, by_section s held off) refl))

-- So what is true of the state, and of each misuse in it, is true after it.
pub by_judgement : (P : State → Type 0) (i op_index : ℕ) (s : State) → P s → ((kind : Misuse) → P (misused i op_index kind s))
    → P (judge i op_index s)
by_judgement P i op_index s h m = by_test (is_held_by_task s)
    (λ held. by_test (is_ended (status_at s i))
    (λ t. let j = judged_held i op_index s held t in subst P (sym j.1) (m j.0))
    (λ on. subst P (sym (not_ended i op_index s on)) h))
    (λ free. subst P (sym (judged_calm i op_index s free)) h)

pub judged : (i op_index : ℕ) (s : State) → Ends s (judge i op_index s)
judged i op_index s =
    by_judgement (Ends s) i op_index s (ends_by s s refl refl refl refl)
    (λ kind. ends_by s (misused i op_index kind s) refl refl refl refl)

-- ---- where no task holds the scheduler

-- The op has its task hold it.
abbrev pub takes_hold : Op → Bool
takes_hold SuspendAll = true
takes_hold EnterCritical = true
takes_hold _ = false

calm_still : (app : Application) (i : ℕ) (op : Op) (s : State) → is_held_by_task s ≡ false
    → own_misuse s i op ≡ None → takes_hold op ≡ false → is_held_by_task (act app i op s) ≡ false
calm_still app i op s free = by_op
    (λ op. own_misuse s i op ≡ None → takes_hold op ≡ false → is_held_by_task (act app i op s) ≡ false)
    (λ n m ne.
    let u : State = use_up app i n s in
    let k : is_held_by_task u ≡ false = by_suspension s u (keeps-use_up app i n s).suspension ∙ free in
    ap₂ (λ a b. ltb 0 a || ltb 0 b) (suspensions-tick app u) (sections-tick app u) ∙ k)
    (λ m ne. unlike ne)
    (λ m ne. let f : Some NotSuspended ≡ None = rw off.0 at m in absurd (cc))
    (λ m ne. unlike ne)
    (λ m ne. let f : Some NotCritical ≡ None = rw off.1 at m in absurd (cc))
    (λ op t m ne.
    let k = lasts-act app i op s t in
    ap₂ (λ (a b : ℕ). ltb 0 a || ltb 0 b) k.suspensions k.sections ∙ free)
    op where
      off : (is_scheduler_suspended s ≡ false) × (is_critical s ≡ false)
      off = neither s free

      by_suspension : (s t : State) → suspension_of t ≡ suspension_of s → is_held_by_task t ≡ is_held_by_task s
      by_suspension s t same = ap (λ (x : Suspension). ltb 0 x.suspensions || ltb 0 x.sections) same

or_none : {A : Type 0} (o : Option A) → option_or o None ≡ o
or_none None = refl
or_none (Some x) = refl

-- Then an op does what it does, and is no misuse but by itself.
pub misuse_calm : (s : State) (i : ℕ) (op : Op) → is_held_by_task s ≡ false → misuse s i op ≡ own_misuse s i op
misuse_calm s i op free = let off = neither s free in rw (off.0, off.1) (or_none (own_misuse s i op))

pub acts_calm : (app : Application) (i : ℕ) (op : Op) (s : State) → is_held_by_task s ≡ false
    → own_misuse s i op ≡ None → takes_hold op ≡ false → act_unless app i (misuse s i op) op s ≡ act_by_value app i op s
acts_calm app i op s free fine ne =
    ap (λ (kind : Option Misuse). act_unless app i kind op s) (misuse_calm s i op free ∙ fine)
    ∙ judged_calm i (progress_at s i).op_index (act_by_value app i op s)
    (by_value (λ t. is_held_by_task t ≡ false) app i op s free (calm_still app i op s free fine ne))

-- ---- which ops are no misuse while a task holds the scheduler

switching_barred : (op : Op) → may_switch op ≡ true → is_barred op ≡ true
switching_barred (Work n) t = refl
switching_barred (Delay n) t = refl
switching_barred (DelayUntil n) t = refl
switching_barred Yield t = refl
switching_barred Time t = absurd (cc)
switching_barred (Mark n) t = absurd (cc)
switching_barred (Expect c) t = absurd (cc)
switching_barred (Repeat n) t = absurd (cc)
switching_barred End t = absurd (cc)
switching_barred (If c) t = absurd (cc)
switching_barred Else t = absurd (cc)
switching_barred EndIf t = absurd (cc)
switching_barred Break t = absurd (cc)
switching_barred Stamp t = absurd (cc)
switching_barred Since t = absurd (cc)
switching_barred (Value op) t = absurd (cc)
switching_barred (op.Source j what) t = absurd (cc)
switching_barred (Await o a ticks) t = refl
switching_barred (Do o a) t = refl
switching_barred (GiveMutex o) t = refl
switching_barred (MessagesWaiting o) t = absurd (cc)
switching_barred (SpacesAvailable o) t = absurd (cc)
switching_barred (SetBits g m) t = refl
switching_barred (ClearBits g m) t = absurd (cc)
switching_barred (GetBits g) t = absurd (cc)
switching_barred (WaitBits g c ticks) t = refl
switching_barred (Notify j a) t = refl
switching_barred (AwaitNotification a ticks) t = refl
switching_barred (ClearNotification c) t = absurd (cc)
switching_barred (Suspend j) t = refl
switching_barred (Resume j) t = refl
switching_barred SuspendAll t = refl
switching_barred ResumeAll t = refl
switching_barred EnterCritical t = absurd (cc)
switching_barred ExitCritical t = absurd (cc)
switching_barred (NextCommand o) t = refl
switching_barred Obey t = refl

never : {A : Type 0} (b : Bool) (x y : A) (o : Option A) → (if b then Some x else option_or o (Some y)) ≡ None → ⊥
never true x y o e = absurd (cc)
never false x y None e = absurd (cc)
never false x y (Some z) e = absurd (cc)

pub not_barred : (s : State) (i : ℕ) (op : Op) → is_critical s ≡ true → misuse s i op ≡ None → is_barred op ≡ false
not_barred s i op open_ n = by_test (is_barred op)
    (λ t.
    absurd (never (is_scheduler_suspended s && may_switch op) WhileSuspended WhileCritical (own_misuse s i op)
    (rw (open_, t) at n)))
    (λ t. t)

pub switches_not : (s : State) (i : ℕ) (op : Op) → is_held_by_task s ≡ true → misuse s i op ≡ None → may_switch op ≡ false
switches_not s i op held n = by_test (may_switch op)
    (λ t. by_test (is_scheduler_suspended s)
    (λ sus. let f : Some WhileSuspended ≡ None = (rw (sus, t) at n) in absurd (cc))
    (λ off. unlike (sym (switching_barred op t) ∙ not_barred s i op (by_section s held off) n)))
    (λ t. t)
