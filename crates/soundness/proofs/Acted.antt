-- What an op of one phase keeps.
use Rattle.model.specs.declared.value.ValueOp.{ValueOp}
use Rattle.model.specs.Ops.{calculate, store, control, do_to_source, complete}
use Rattle.model.specs.declared.source.SourceOp.TheVariants.{Arm, Disarm, Raise, Cancel}
use Rattle.model.specs.declared.source.SourceOp.{SourceOp}
use Rattle.model.specs.Values.{answer_of, number_of, stored}
use Rattle.soundness.proofs.Sound.{revalued, done_to_source}
use Rattle.model.specs.declared.op.Op.TheVariants as op
use Rattle.model.specs.declared.op.Op.TheVariants.{Value}
use Rattle.model.specs.Step.{call_with_number, notify_by_number}
use Rattle.soundness.proofs.Sparing.{fits-number}
use Rattle.std.proofs.Common.{◌≡◌, ◌<◌, ◌+◌, ◌-◌, ℕ, true, length, Option, Some, None, refl, ap, ◌∙◌}
use Rattle.model.specs.declared.op.Op.{Op}
use Rattle.model.specs.declared.op.Op.TheVariants.{Work, Delay, DelayUntil, Yield, Time, Mark, Expect, Repeat, End, If, Else, EndIf}
use Rattle.model.specs.declared.op.Op.TheVariants.{Break, Stamp, Since, Await, Do, GiveMutex, MessagesWaiting, SpacesAvailable}
use Rattle.model.specs.declared.op.Op.TheVariants.{SetBits, ClearBits, GetBits, WaitBits, Suspend, Resume, SuspendAll, ResumeAll}
use Rattle.model.specs.declared.op.Op.TheVariants.{EnterCritical, ExitCritical, NextCommand, Obey, Notify, AwaitNotification}
use Rattle.model.specs.declared.op.Op.TheVariants.{ClearNotification}
use Rattle.model.specs.declared.event.What.TheVariants as what
use Rattle.model.specs.Application.{Application, op_at}
use Rattle.model.specs.Scripts.{IsWellFormed, fits_object}
use Rattle.model.specs.State.{State, progress_at, status_at}
use Rattle.model.specs.Switching.{is_ready, write}
use Rattle.model.specs.Step.{act}
use Rattle.model.specs.Invariant.{Hold, InOne, course, IsSound}
use Rattle.model.proofs.Statuses.{ready_free}
use Rattle.soundness.proofs.InScripts.{known_at}
use Rattle.soundness.proofs.Keeping.{keeps-use_up}
use Rattle.soundness.proofs.Sound.{logged, yielded, answered, used_up, expected, opened, closed, branched, skipped, loop_left}
use Rattle.soundness.proofs.Sound.{stamped, since_stamped, plain, delayed, delayed_until}
use Rattle.soundness.proofs.Sparing.{and_left, ticked}
use Rattle.soundness.proofs.Trying.{gave}
use Rattle.soundness.proofs.Called.{done_now}
use Rattle.soundness.proofs.Phases.{free}
use Rattle.soundness.proofs.Bits.{cleared}
use Rattle.soundness.proofs.Notified.{notification_cleared}
use Rattle.soundness.proofs.Obeyed.{call_suspended, call_resumed, call_notified, all_suspended, all_resumed, sections_put}

module _ (app : Application) (formed : IsWellFormed app) where
  calculated : (s : State) (i : ℕ) (op : ValueOp) → IsSound app free s → is_ready s i ≡ true
      → op_at app i (progress_at s i).op_index ≡ Some (Value op) → IsSound app free (calculate app i op s)
  unfolding calculate
  calculated s i op h r is =
      let a : Option ℕ = answer_of s.variables (progress_at s i).answer op in
      answered app formed free (store op a s) i (Value op) (revalued app formed free s (stored op a s.variables) h)
      (ready_free (status_at s i) r) is a refl

  controlled : (s : State) (i handler : ℕ) (what : SourceOp) → IsSound app free s → is_ready s i ≡ true
      → op_at app i (progress_at s i).op_index ≡ Some (op.Source handler what) → IsSound app free (control app i handler what s)
  unfolding control
  controlled s i handler what h r is = by_what what is where
    by_what : (what : SourceOp) → op_at app i (progress_at s i).op_index ≡ Some (op.Source handler what)
        → IsSound app free (complete app i (progress_at s i) (do_to_source handler what s))
    by_what Arm is =
        plain app formed free (do_to_source handler Arm s) i (done_to_source app formed free handler Arm s h)
        (ready_free (status_at s i) r) (op.Source handler Arm) is (progress_at s i).answer refl
    by_what Disarm is =
        plain app formed free (do_to_source handler Disarm s) i (done_to_source app formed free handler Disarm s h)
        (ready_free (status_at s i) r) (op.Source handler Disarm) is (progress_at s i).answer refl
    by_what (Raise n) is =
        plain app formed free (do_to_source handler (Raise n) s) i (done_to_source app formed free handler (Raise n) s h)
        (ready_free (status_at s i) r) (op.Source handler (Raise n)) is (progress_at s i).answer refl
    by_what Cancel is =
        plain app formed free (do_to_source handler Cancel s) i (done_to_source app formed free handler Cancel s h)
        (ready_free (status_at s i) r) (op.Source handler Cancel) is (progress_at s i).answer refl

  -- an op of one phase
  pub acted : (s : State) (i : ℕ) (op : Op) → IsSound app free s → s.locked ≡ None → i < length s.tasks → is_ready s i ≡ true
      → op_at app i (progress_at s i).op_index ≡ Some op → course (Some op) ≡ InOne → IsSound app free (act app i op s)
  acted s i (Work n) h u l r is w =
      ticked app formed free _ (used_up app formed free s i (Work n) h (ready_free (status_at s i) r) is n refl)
      (ap (λ (x : Hold). x.locked) (keeps-use_up app i n s).hold ∙ u)
  acted s i (Delay n) h u l r is w = delayed app formed free s i n h l r is
  acted s i (DelayUntil n) h u l r is w = delayed_until app formed free s i n h l r is
  acted s i Yield h u l r is w =
      yielded app formed free _ (answered app formed free s i Yield h (ready_free (status_at s i) r) is (Some 0) refl)
  acted s i Time h u l r is w = answered app formed free s i Time h (ready_free (status_at s i) r) is _ refl
  acted s i (Mark value) h u l r is w =
      let n : ℕ = number_of s.variables (progress_at s i).answer value in
      plain app formed free (write (what.Mark i n) s) i (logged app formed free s _ s.steps s.stopped h)
      (ready_free (status_at s i) r) (Mark value) is (progress_at s i).answer refl
  acted s i (Expect c) h u l r is w = expected app formed free s i (Expect c) h (ready_free (status_at s i) r) is c refl
  acted s i (Repeat n) h u l r is w = opened app formed free s i (Repeat n) h (ready_free (status_at s i) r) is n refl
  acted s i End h u l r is w = closed app formed free s i End h (ready_free (status_at s i) r) is refl
  acted s i (If c) h u l r is w = branched app formed free s i (If c) h (ready_free (status_at s i) r) is c refl
  acted s i Else h u l r is w = skipped app formed free s i Else h (ready_free (status_at s i) r) is refl
  acted s i EndIf h u l r is w = plain app formed free s i h (ready_free (status_at s i) r) EndIf is (progress_at s i).answer refl
  acted s i Break h u l r is w = loop_left app formed free s i Break h (ready_free (status_at s i) r) is refl
  acted s i Stamp h u l r is w = stamped app formed free s i Stamp h (ready_free (status_at s i) r) is refl
  acted s i Since h u l r is w = since_stamped app formed free s i Since h (ready_free (status_at s i) r) is refl
  acted s i (Await o a ticks) h u l r is w = absurd (cc)
  acted s i (Value op) h u l r is w = calculated s i op h r is
  acted s i (op.Source j what) h u l r is w = controlled s i j what h r is
  acted s i (Do o v) h u l r is w =
      done_now app formed free s i o v (call_with_number s i v) h u l r is
      (fits-number app o s.variables (progress_at s i).answer v
      ∙ and_left (fits_object app o v) _ (known_at app formed i (progress_at s i).op_index (Do o v) is))
  acted s i (GiveMutex o) h u l r is w = gave app formed free s i o h u l r is
  acted s i (MessagesWaiting o) h u l r is w =
      answered app formed free s i (MessagesWaiting o) h (ready_free (status_at s i) r) is _ refl
  acted s i (SpacesAvailable o) h u l r is w =
      answered app formed free s i (SpacesAvailable o) h (ready_free (status_at s i) r) is _ refl
  acted s i (SetBits g m) h u l r is w = absurd (cc)
  acted s i (ClearBits g m) h u l r is w =
      cleared app formed free s i (ClearBits g m) h (ready_free (status_at s i) r) is (λ n. refl) g m
  acted s i (GetBits g) h u l r is w = answered app formed free s i (GetBits g) h (ready_free (status_at s i) r) is _ refl
  acted s i (WaitBits g c ticks) h u l r is w = absurd (cc)
  acted s i (Notify j a) h u l r is w = call_notified app formed free s i h l r j a (notify_by_number s i a) is
  acted s i (AwaitNotification a ticks) h u l r is w = absurd (cc)
  acted s i (ClearNotification c) h u l r is w =
      notification_cleared app formed free s i (ClearNotification c) h (ready_free (status_at s i) r) is (λ n. refl) c
  acted s i (Suspend j) h u l r is w = call_suspended app formed free s i h l r j is
  acted s i (Resume j) h u l r is w = call_resumed app formed free s i h l r j is
  acted s i SuspendAll h u l r is w = all_suspended app formed free s i h l r is
  acted s i ResumeAll h u l r is w = all_resumed app formed free s i h l r is
  acted s i EnterCritical h u l r is w = sections_put app formed free s i h l r (s.sections + 1) EnterCritical is refl
  acted s i ExitCritical h u l r is w = sections_put app formed free s i h l r (s.sections - 1) ExitCritical is refl
  acted s i (NextCommand o) h u l r is w = absurd (cc)
  acted s i Obey h u l r is w = absurd (cc)
