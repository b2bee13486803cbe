-- Ticks that come, and calls in whose phases none does.
use Rattle.soundness.proofs.Keeping.{pending_in}
use Rattle.std.proofs.Common.{Bool, ap, ap₂, ◌≡◌, ◌≤◌, ◌+◌, ◌-◌, ◌<◌, ◌||◌, ℕ, zero, suc, true, false, eqb, min, []}
use Rattle.std.proofs.Common.{fold, List, ◌∷◌, ◌++◌, Option, Some, None, refl, ◌∙◌, arith, length}
use Rattle.std.specs.Prelude.{if◌then◌else◌}
use Rattle.std.specs.Option.{option_eq}
use Rattle.std.proofs.Math.Nat.{max-le}
use Rattle.model.specs.declared.op.Access.{Access}
use Rattle.model.specs.declared.op.Access.TheVariants.{Receive}
use Rattle.model.specs.declared.op.Command.{Command}
use Rattle.model.specs.declared.call.Condition.{Condition}
use Rattle.model.specs.declared.notification.NotificationWait.{NotificationWait}
use Rattle.model.specs.declared.call.Phase.{Phase}
use Rattle.model.specs.declared.call.Phase.TheVariants.{Start, Try, Decide, Place, Unlock, Leave}
use Rattle.model.specs.declared.call.WaitList.TheVariants.{ToReceive, ToSend}
use Rattle.model.specs.declared.answer.AnswerCondition.{AnswerCondition}
use Rattle.model.specs.Answers.{holds}
use Rattle.model.specs.Application.{Application, Limits}
use Rattle.model.specs.State.{State, progress_at, call_at, bits_at, notification_at, with_notification, for_one}
use Rattle.model.specs.Order.{tasks_of}
use Rattle.model.specs.Switching.{choose, preempt, slice, holds_ticks, is_held}
use Rattle.model.specs.Switching.{unless_held}
use Rattle.model.specs.Waiting.{awakened, wait_in, set_deadline, is_expired, end_hold, unlock_object, unlock}
use Rattle.model.specs.Waiting.{let_go}
use Rattle.model.specs.Time.{advance, increment_tick, jump, apply_one, apply_held}
use Rattle.model.specs.Ops.{answer, expect}
use Rattle.model.specs.Objects.{possible}
use Rattle.model.specs.Calls.{decide, leave_call, await}
use Rattle.model.specs.Groups.{is_met, begin_set, set_bits, wait_for_bits, begin_bits_wait, check, final_bits, wait_bits}
use Rattle.model.specs.Notifications.{entered, is_there, wait_for_notification, begin_notification_wait, check_notification}
use Rattle.model.specs.Notifications.{await_notification}
use Rattle.model.specs.Daemon.{next_command, obeyed, end_set_by_daemon, obey}
use Rattle.model.specs.Handlers.{interrupt, tick_interrupt, idle, ticks_ahead, ticks_to_wake, ticks_to_interrupt, ticks_to_raised}
use Rattle.model.specs.Invariant.{hold_of, Suspension, suspension_of}
use Rattle.model.proofs.Sorting.{by_test}
use Rattle.soundness.proofs.Settled.{held_as_it_was}
use Rattle.soundness.proofs.Keeping.{Keeps, keeps, keeps_both, keeps-choose, keeps-preempt, keeps-slice}
use Rattle.soundness.proofs.Keeping.{keeps-unless_held, keeps-all_ready, keeps-wake_due, keeps-go_to, keeps-answer}
use Rattle.soundness.proofs.Keeping.{keeps-set_deadline}
use Rattle.soundness.proofs.Frames.{keeps-try, keeps-set}
use Rattle.soundness.proofs.Keeping.{keeps-inherit}
use Rattle.soundness.proofs.Frames.{keeps-answer_bits, keeps-take_command, keeps-obeyed}
use Rattle.soundness.proofs.Frames.{keeps-clear_by_daemon, keeps-interrupt, keeps-end_notification_wait}

-- ---- ticks that were held

-- a held tick more is applied
applied : (s : State) → Keeps (record s { time = s.time + 1; held_ticks = s.held_ticks - 1 }) (apply_one s)
unfolding apply_one advance
applied s = keeps-wake_due (record s { time = s.time + 1; held_ticks = s.held_ticks - 1 })

-- when this many have been applied
pub record Applies (n : ℕ) (old new : State) : Type 0 where
  pub elapsed : new.elapsed ≡ old.elapsed
  pub hold : hold_of new ≡ hold_of old
  pub suspensions : new.suspensions ≡ old.suspensions
  pub held : new.held_ticks ≡ old.held_ticks - n
  pub sections : new.sections ≡ old.sections
  pub pending : pending_in new ≡ pending_in old
  pub tasks : length new.tasks ≡ length old.tasks

pub applies : (n : ℕ) (s : State) → Applies n s (apply_held n s)
applies zero s =
    record {
      elapsed = refl;
      hold = refl;
      suspensions = refl;
      held = omega arith;
      sections = refl;
      pending = refl;
      tasks = refl;
    }
applies (suc n) s =
    let k = applied s in
    let h = applies n (apply_one s) in
    let one : (apply_one s).held_ticks ≡ s.held_ticks - 1 = ap (λ (x : Suspension). x.held_ticks) k.suspension in
    record {
      elapsed = h.elapsed ∙ k.elapsed;
      hold = h.hold ∙ k.hold;
      suspensions = h.suspensions ∙ ap (λ (x : Suspension). x.suspensions) k.suspension;
      held = let e = h.held in omega arith;
      sections = h.sections ∙ ap (λ (x : Suspension). x.sections) k.suspension;
      pending = h.pending ∙ k.pending;
      tasks = h.tasks ∙ k.tasks;
    }

-- ---- a call in its phases lets no tick pass

-- No tick comes, and no more are held; as many `suspend_all` are in force, as many critical sections are open, and what is kept of
-- the interrupt sources stays.
pub record Lasts (old new : State) : Type 0 where
  pub elapsed : new.elapsed ≡ old.elapsed
  pub suspensions : new.suspensions ≡ old.suspensions
  pub held : new.held_ticks ≤ old.held_ticks
  pub sections : new.sections ≡ old.sections
  pub pending : pending_in new ≡ pending_in old

lasts_by : (s t : State) → t.elapsed ≡ s.elapsed → suspension_of t ≡ suspension_of s → pending_in t ≡ pending_in s → Lasts s t
lasts_by s t elapsed suspension sources =
    let held : t.held_ticks ≡ s.held_ticks = ap (λ (x : Suspension). x.held_ticks) suspension in
    record {
      elapsed = elapsed;
      suspensions = ap (λ (x : Suspension). x.suspensions) suspension;
      held = omega arith;
      sections = ap (λ (x : Suspension). x.sections) suspension;
      pending = sources;
    }

pub lasts : (s t : State) → Keeps s t → Lasts s t
lasts s t k = lasts_by s t k.elapsed k.suspension k.pending

lasts_both : (a b c : State) → Lasts a b → Keeps b c → Lasts a c
lasts_both a b c h k =
    let still : c.held_ticks ≡ b.held_ticks = ap (λ (x : Suspension). x.held_ticks) k.suspension in
    let less = h.held in
    record {
      elapsed = k.elapsed ∙ h.elapsed;
      suspensions = ap (λ (x : Suspension). x.suspensions) k.suspension ∙ h.suspensions;
      held = omega arith;
      sections = ap (λ (x : Suspension). x.sections) k.suspension ∙ h.sections;
      pending = k.pending ∙ h.pending;
    }

-- where a call lets go of the scheduler
lasts-end_hold : (i : ℕ) (phase : Phase) (s : State) → Lasts s (end_hold i phase s)
lasts-end_hold i phase s =
    let k = applies s.held_ticks (let_go i phase s) in
    let less = k.held in
    record {
      elapsed = k.elapsed;
      suspensions = k.suspensions;
      held = omega arith;
      sections = k.sections;
      pending = k.pending;
    }

-- After that no tick is held.
pub suspension-end_hold : (i : ℕ) (phase : Phase) (s : State) → suspension_of (end_hold i phase s) ≡ record
    { suspensions = s.suspensions; held_ticks = 0; sections = s.sections }
suspension-end_hold i phase s =
    let k = applies s.held_ticks (let_go i phase s) in
    let none : (end_hold i phase s).held_ticks ≡ 0 = let e = k.held in omega arith in
    ap₂ (λ (a b : ℕ). record { suspensions = a; held_ticks = b; sections = (end_hold i phase s).sections }) k.suspensions none
    ∙ ap (λ (n : ℕ). record { suspensions = s.suspensions; held_ticks = 0; sections = n }) k.sections

pub hold-end_hold : (i : ℕ) (phase : Phase) (s : State) → hold_of (end_hold i phase s) ≡ record
    { held = false; locked = s.locked }
hold-end_hold i phase s = (applies s.held_ticks (let_go i phase s)).hold

pub lasts-unlock : (s : State) → Lasts s (unlock s)
unfolding unlock
lasts-unlock s = by_locked s.locked where
  by_locked : (o : Option ℕ) → Lasts s (for_one unlock_object o s)
  by_locked None = lasts s s (keeps s)
  by_locked (Some o) =
      let k =
      keeps-all_ready (tasks_of (awakened s (ToReceive o)) ++ tasks_of (awakened s (ToSend o))) (record s { locked = None }) in
      lasts_by s _ k.elapsed k.suspension k.pending

pub lasts-decide : (i o : ℕ) (a : Access ℕ) (s : State) → Lasts s (decide i o a s)
unfolding decide wait_in
lasts-decide i o a s = by_test (possible s o a || is_expired s i)
    (λ t. rw t (lasts_by s _ refl refl refl))
    (λ t. rw t (let k = keeps-inherit i o s in lasts_by s _ k.elapsed k.suspension k.pending))

pub lasts-leave_call : (i : ℕ) (s : State) → Lasts s (leave_call i s)
unfolding leave_call
lasts-leave_call i s =
    let free : State = end_hold i Try s in
    let ended : Lasts s free = lasts-end_hold i Try s in
    by_test (call_at s i).waits
    (λ t. rw t (lasts_both s free (choose free) ended (keeps-choose free)))
    (λ t. rw t (lasts_both s free (preempt free) ended (keeps-preempt free)))

pub lasts-await : (app : Application) (i o : ℕ) (a : Access ℕ) (ticks : Option ℕ) (phase : Phase) (s : State)
    → Lasts s (await app i o a ticks phase s)
lasts-await app i o a ticks Start s =
    let t : State = set_deadline i ticks s in
    lasts s _ (keeps_both s t _ (keeps-set_deadline i ticks s) (keeps-try app i o a t))
lasts-await app i o a ticks Try s = lasts s _ (keeps-try app i o a s)
lasts-await app i o a ticks Decide s = lasts-decide i o a s
lasts-await app i o a ticks Place s = lasts_by s _ refl refl refl
lasts-await app i o a ticks Unlock s = let k = lasts-unlock s in record {
  elapsed = k.elapsed;
  suspensions = k.suspensions;
  held = k.held;
  sections = k.sections;
  pending = k.pending;
}
lasts-await app i o a ticks Leave s = lasts-leave_call i s

pub lasts-begin_set : (i group mask : ℕ) (s : State) → Lasts s (begin_set i group mask s)
unfolding begin_set
lasts-begin_set i group mask s =
    let k = keeps-set group mask (record s { call_hold = true }) in lasts_by s _ k.elapsed k.suspension k.pending

pub lasts-end_set : (app : Application) (i : ℕ) (s : State)
    → Lasts s (preempt (answer app i (call_at s i).kept (end_hold i Start s)))
lasts-end_set app i s =
    let free : State = end_hold i Start s in
    let told : State = answer app i (call_at s i).kept free in
    lasts_both s free (preempt told) (lasts-end_hold i Start s)
    (keeps_both free told (preempt told) (keeps-answer app i (call_at s i).kept free) (keeps-preempt told))

pub lasts-set_bits : (app : Application) (i group mask : ℕ) (phase : Phase) (s : State)
    → Lasts s (set_bits app i group mask phase s)
lasts-set_bits app i group mask Start s = lasts-begin_set i group mask s
lasts-set_bits app i group mask Try s = lasts-end_set app i s
lasts-set_bits app i group mask Decide s = lasts-end_set app i s
lasts-set_bits app i group mask Place s = lasts-end_set app i s
lasts-set_bits app i group mask Unlock s = lasts-end_set app i s
lasts-set_bits app i group mask Leave s = lasts-end_set app i s

pub lasts-check : (app : Application) (i group : ℕ) (c : Condition) (ticks : Option ℕ) (s : State)
    → Lasts s (check app i group c ticks s)
unfolding check begin_bits_wait wait_for_bits set_deadline
lasts-check app i group c ticks s = by_test (is_met (bits_at s group) c || option_eq eqb ticks (Some 0))
    (λ t. rw t (lasts s _ (keeps-answer_bits app i group c s)))
    (λ t. rw t (lasts_by s _ refl refl refl))

pub lasts-final_bits : (app : Application) (i group : ℕ) (c : Condition) (kept : Option ℕ) (s : State)
    → Keeps s (final_bits app i group c kept s)
lasts-final_bits app i group c None s = keeps-answer_bits app i group c s
lasts-final_bits app i group c (Some bits) s = keeps-answer app i (Some bits) s

-- a wait until one is woken goes on
lasts-held_no_more : (i : ℕ) (s : State) → Lasts s (choose (end_hold i Try s))
lasts-held_no_more i s =
    lasts_both s (end_hold i Try s) (choose (end_hold i Try s)) (lasts-end_hold i Try s) (keeps-choose (end_hold i Try s))

pub lasts-wait_bits : (app : Application) (i group : ℕ) (c : Condition) (ticks : Option ℕ) (phase : Phase) (s : State)
    → Lasts s (wait_bits app i group c ticks phase s)
lasts-wait_bits app i group c ticks Start s = lasts-check app i group c ticks s
lasts-wait_bits app i group c ticks Leave s = lasts-held_no_more i s
lasts-wait_bits app i group c ticks Try s = lasts s _ (lasts-final_bits app i group c (call_at s i).kept s)
lasts-wait_bits app i group c ticks Decide s = lasts s _ (lasts-final_bits app i group c (call_at s i).kept s)
lasts-wait_bits app i group c ticks Place s = lasts s _ (lasts-final_bits app i group c (call_at s i).kept s)
lasts-wait_bits app i group c ticks Unlock s = lasts s _ (lasts-final_bits app i group c (call_at s i).kept s)

pub lasts-check_notification : (app : Application) (i : ℕ) (wait : NotificationWait) (ticks : Option ℕ) (s : State)
    → Lasts s (check_notification app i wait ticks s)
unfolding check_notification begin_notification_wait wait_for_notification set_deadline
lasts-check_notification app i wait ticks s = by_test (is_there wait (notification_at s i) || option_eq eqb ticks (Some 0))
    (λ t. rw t (lasts s _ (keeps-end_notification_wait app i wait s)))
    (λ t. rw t (lasts_by s _ refl refl refl))

pub lasts-await_notification : (app : Application) (i : ℕ) (wait : NotificationWait) (ticks : Option ℕ) (phase : Phase) (s : State)
    → Lasts s (await_notification app i wait ticks phase s)
lasts-await_notification app i wait ticks Start s =
    let k = lasts-check_notification app i wait ticks (with_notification i (entered wait (notification_at s i)) s) in
    record {
      elapsed = k.elapsed;
      suspensions = k.suspensions;
      held = k.held;
      sections = k.sections;
      pending = k.pending;
    }
lasts-await_notification app i wait ticks Leave s = lasts-held_no_more i s
lasts-await_notification app i wait ticks Try s = lasts s _ (keeps-end_notification_wait app i wait s)
lasts-await_notification app i wait ticks Decide s = lasts s _ (keeps-end_notification_wait app i wait s)
lasts-await_notification app i wait ticks Place s = lasts s _ (keeps-end_notification_wait app i wait s)
lasts-await_notification app i wait ticks Unlock s = lasts s _ (keeps-end_notification_wait app i wait s)

pub lasts-next_command : (app : Application) (i o : ℕ) (phase : Phase) (s : State) → Lasts s (next_command app i o phase s)
lasts-next_command app i o Start s = lasts s _ (keeps-take_command app i o s)
lasts-next_command app i o Try s = lasts s _ (keeps-take_command app i o s)
lasts-next_command app i o Decide s = lasts-await app i o Receive None Decide s
lasts-next_command app i o Place s = lasts-await app i o Receive None Place s
lasts-next_command app i o Unlock s = lasts-await app i o Receive None Unlock s
lasts-next_command app i o Leave s = lasts-await app i o Receive None Leave s

pub lasts-end_command : (app : Application) (i group : ℕ) (s : State) → Lasts s (end_set_by_daemon app i group s)
lasts-end_command app i group s =
    let free : State = end_hold i Start s in
    let told : State = obeyed app i false (bits_at s group) free in
    lasts_both s free (preempt told) (lasts-end_hold i Start s)
    (keeps_both free told (preempt told) (keeps-obeyed app i false (bits_at s group) free) (keeps-preempt told))

pub lasts-obey : (app : Application) (i : ℕ) (c : Command) (phase : Phase) (s : State) → Lasts s (obey app i c phase s)
lasts-obey app i c Start s = by_test c.clear
    (λ t. rw t (lasts s _ (keeps-clear_by_daemon app i c.group c.mask s)))
    (λ t. rw t (lasts-begin_set i c.group c.mask s))
lasts-obey app i c Try s = lasts-end_command app i c.group s
lasts-obey app i c Decide s = lasts-end_command app i c.group s
lasts-obey app i c Place s = lasts-end_command app i c.group s
lasts-obey app i c Unlock s = lasts-end_command app i c.group s
lasts-obey app i c Leave s = lasts-end_command app i c.group s

-- An op that ends in the phase in which it begins leaves what is held as it is, and the held ticks too.
pub record Ends (old new : State) : Type 0 where
  pub lasts : Lasts old new
  pub hold : hold_of new ≡ hold_of old
  pub suspension : suspension_of new ≡ suspension_of old

pub ends_by : (s t : State) → t.elapsed ≡ s.elapsed → suspension_of t ≡ suspension_of s → pending_in t ≡ pending_in s
    → hold_of t ≡ hold_of s → Ends s t
ends_by s t elapsed suspension sources hold =
    record { lasts = lasts_by s t elapsed suspension sources; hold = hold; suspension = suspension }

pub ends : (s t : State) → Keeps s t → Ends s t
ends s t k = ends_by s t k.elapsed k.suspension k.pending k.hold

pub ends-expect : (app : Application) (i : ℕ) (condition : AnswerCondition) (s : State) → Ends s (expect app i condition s)
unfolding expect
ends-expect app i condition s = by_test (holds s.variables condition (progress_at s i).answer)
    (λ t. rw t (ends s _ (keeps-go_to app i ((progress_at s i).op_index + 1) (progress_at s i) s)))
    (λ t. rw t (ends_by s _ refl refl refl refl))

-- ---- the tick: it alone lets time pass

-- a tick that has come, and has not been acted upon
abbrev pub tick_come : State → State
tick_come s =
    if holds_ticks s
    then record s { elapsed = s.elapsed + 1; held_ticks = s.held_ticks + 1 }
    else record s { time = s.time + 1; elapsed = s.elapsed + 1 }

keeps-increment : (s : State) → Keeps (tick_come s) (increment_tick s)
unfolding increment_tick advance
keeps-increment s = by_test (holds_ticks s)
    (λ t. rw t (keeps (record s { elapsed = s.elapsed + 1; held_ticks = s.held_ticks + 1 })))
    (λ t. rw t (keeps-wake_due (record s { time = s.time + 1; elapsed = s.elapsed + 1 })))

pub hold-increment : (s : State) → hold_of (increment_tick s) ≡ hold_of s
hold-increment s = (keeps-increment s).hold ∙ by_test (holds_ticks s) (λ t. rw t refl) (λ t. rw t refl)

-- from when it has come on, no more time passes
pub keeps-tick : (app : Application) (s : State) → Keeps (tick_come s) (tick_interrupt app s)
unfolding tick_interrupt
keeps-tick app s =
    let come : State = increment_tick s in
    let told : State = interrupt app come in
    keeps_both (tick_come s) come (unless_held slice told) (keeps-increment s)
    (keeps_both come told (unless_held slice told) (keeps-interrupt app come) (keeps-unless_held slice told keeps-slice))

-- a tick and its base interrupts hold nothing, and let go of nothing
pub held-told : (app : Application) (s : State) → is_held (interrupt app (increment_tick s)) ≡ is_held s
held-told app s =
    let come : State = increment_tick s in
    let told : State = interrupt app come in
    let k : Keeps (tick_come s) told = keeps_both (tick_come s) come told (keeps-increment s) (keeps-interrupt app come) in
    held_as_it_was (tick_come s) told k.hold k.suspension ∙ still (holds_ticks s) where
      still : (b : Bool)
          → is_held (if b then record s { elapsed = s.elapsed + 1; held_ticks = s.held_ticks + 1 }
          else record s { time = s.time + 1; elapsed = s.elapsed + 1 }) ≡ is_held s
      still true = refl
      still false = refl

pub elapsed-tick : (app : Application) (s : State) → (tick_interrupt app s).elapsed ≡ s.elapsed + 1
elapsed-tick app s = (keeps-tick app s).elapsed ∙ by_test (holds_ticks s) (λ t. rw t refl) (λ t. rw t refl)

pub hold-tick : (app : Application) (s : State) → hold_of (tick_interrupt app s) ≡ hold_of s
hold-tick app s = (keeps-tick app s).hold ∙ by_test (holds_ticks s) (λ t. rw t refl) (λ t. rw t refl)

pub suspension-tick : (app : Application) (s : State) → holds_ticks s ≡ false
    → suspension_of (tick_interrupt app s) ≡ suspension_of s
suspension-tick app s none = (keeps-tick app s).suspension ∙ rw none refl

pub suspensions-tick : (app : Application) (s : State) → (tick_interrupt app s).suspensions ≡ s.suspensions
suspensions-tick app s =
    ap (λ (x : Suspension). x.suspensions) (keeps-tick app s).suspension
    ∙ by_test (holds_ticks s) (λ t. rw t refl) (λ t. rw t refl)

pub sections-tick : (app : Application) (s : State) → (tick_interrupt app s).sections ≡ s.sections
sections-tick app s =
    ap (λ (x : Suspension). x.sections) (keeps-tick app s).suspension
    ∙ by_test (holds_ticks s) (λ t. rw t refl) (λ t. rw t refl)

pub pending-tick : (app : Application) (s : State) → pending_in (tick_interrupt app s) ≡ pending_in s
pending-tick app s = (keeps-tick app s).pending ∙ by_test (holds_ticks s) (λ t. rw t refl) (λ t. rw t refl)

-- ---- a jump: idle lets several ticks pass

-- they have come, and have not been acted upon
abbrev pub jump_come : ℕ → State → State
jump_come n s = record s { time = s.time + n; elapsed = s.elapsed + n }

keeps-jump : (n : ℕ) (s : State) → Keeps (jump_come n s) (jump n s)
unfolding jump
keeps-jump n s = keeps-wake_due (jump_come n s)

pub hold-jump : (n : ℕ) (s : State) → hold_of (jump n s) ≡ hold_of s
hold-jump n s = (keeps-jump n s).hold

abbrev pub jumped : Application → ℕ → State → State
jumped app n s = unless_held slice (interrupt app (jump n s))

keeps-jumped : (app : Application) (n : ℕ) (s : State) → Keeps (jump_come n s) (jumped app n s)
keeps-jumped app n s =
    let come : State = jump n s in
    let told : State = interrupt app come in
    keeps_both (jump_come n s) come (unless_held slice told) (keeps-jump n s)
    (keeps_both come told (unless_held slice told) (keeps-interrupt app come) (keeps-unless_held slice told keeps-slice))

least : (a : ℕ) (xs : List ℕ) → fold min a xs ≤ a
least a [] = omega arith
least a (x ∷ xs) = let l = least (min a x) xs in omega arith

pub either_way : (P : State → Type 0) (b : Bool) (x y : State) → P x → P y → P (if b then x else y)
either_way P true x y p q = p
either_way P false x y p q = q

when_off : (b : Bool) (x y : State) → b ≡ false → (if b then x else y) ≡ y
when_off true x y e = absurd (cc)
when_off false x y e = refl

when_on : (b : Bool) (x y : State) → b ≡ true → (if b then x else y) ≡ x
when_on true x y e = refl
when_on false x y e = absurd (cc)

-- Where it may jump, it does.
pub idle_jumps : (app : Application) (limits : Limits) (s : State)
    → app.tickless ≡ true → idle app limits s ≡ jumped app (ticks_ahead app limits s) s
unfolding idle
idle_jumps app limits s on = when_on app.tickless (jumped app (ticks_ahead app limits s) s) (tick_interrupt app s) on

-- Where it may not jump, it lets one tick pass.
pub idle_ticks : (app : Application) (limits : Limits) (s : State) → app.tickless ≡ false → idle app limits s ≡ tick_interrupt app s
unfolding idle
idle_ticks app limits s off = when_off app.tickless (jumped app (ticks_ahead app limits s) s) (tick_interrupt app s) off

pub elapsed-idle : (app : Application) (limits : Limits) (s : State)
    → app.tickless ≡ false → (idle app limits s).elapsed ≡ s.elapsed + 1
elapsed-idle app limits s off = ap (λ (t : State). t.elapsed) (idle_ticks app limits s off) ∙ elapsed-tick app s

-- Idle lets no tick pass after the limit, if that is still to come.
pub most-idle : (app : Application) (limits : Limits) (s : State) (most : ℕ) → limits.ticks ≤ most
    → s.elapsed < most → (idle app limits s).elapsed ≤ most
unfolding idle
most-idle app limits s most few l =
    either_way (λ t. t.elapsed ≤ most) app.tickless (jumped app (ticks_ahead app limits s) s) (tick_interrupt app s)
    (let n : ℕ = ticks_ahead app limits s in
    let first = least (limits.ticks - s.elapsed) (ticks_to_wake s ++ ticks_to_interrupt app s ++ ticks_to_raised s) in
    let within : n ≤ most - s.elapsed = max-le (omega arith) (omega arith) in
    let e : (jumped app n s).elapsed ≡ s.elapsed + n = (keeps-jumped app n s).elapsed in
    omega arith)
    (let e = elapsed-tick app s in omega arith)

pub hold-idle : (app : Application) (limits : Limits) (s : State) → hold_of (idle app limits s) ≡ hold_of s
unfolding idle
hold-idle app limits s =
    either_way (λ t. hold_of t ≡ hold_of s) app.tickless (jumped app (ticks_ahead app limits s) s) (tick_interrupt app s)
    (keeps-jumped app (ticks_ahead app limits s) s).hold (hold-tick app s)

pub suspension-idle : (app : Application) (limits : Limits) (s : State)
    → holds_ticks s ≡ false → suspension_of (idle app limits s) ≡ suspension_of s
unfolding idle
suspension-idle app limits s none =
    either_way (λ t. suspension_of t ≡ suspension_of s) app.tickless
    (jumped app (ticks_ahead app limits s) s) (tick_interrupt app s)
    (keeps-jumped app (ticks_ahead app limits s) s).suspension (suspension-tick app s none)

pub suspensions-idle : (app : Application) (limits : Limits) (s : State) → (idle app limits s).suspensions ≡ s.suspensions
unfolding idle
suspensions-idle app limits s =
    either_way (λ t. t.suspensions ≡ s.suspensions) app.tickless (jumped app (ticks_ahead app limits s) s) (tick_interrupt app s)
    (ap (λ (x : Suspension). x.suspensions) (keeps-jumped app (ticks_ahead app limits s) s).suspension) (suspensions-tick app s)

pub sections-idle : (app : Application) (limits : Limits) (s : State) → (idle app limits s).sections ≡ s.sections
unfolding idle
sections-idle app limits s =
    either_way (λ t. t.sections ≡ s.sections) app.tickless (jumped app (ticks_ahead app limits s) s) (tick_interrupt app s)
    (ap (λ (x : Suspension). x.sections) (keeps-jumped app (ticks_ahead app limits s) s).suspension) (sections-tick app s)

pub pending-idle : (app : Application) (limits : Limits) (s : State) → pending_in (idle app limits s) ≡ pending_in s
unfolding idle
pending-idle app limits s =
    either_way (λ t. pending_in t ≡ pending_in s) app.tickless (jumped app (ticks_ahead app limits s) s) (tick_interrupt app s)
    (keeps-jumped app (ticks_ahead app limits s) s).pending (pending-tick app s)
