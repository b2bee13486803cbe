-- A task's last answer changes only in a step of its own, and not while a call of it goes on.
use Rattle.std.proofs.Common.{◌≡◌, ◌<◌, ◌+◌, not, ℕ, Bool, true, eqb, length, List, [], ◌∷◌, get_or, inl, inr}
use Rattle.std.proofs.Common.{Option, Some, None, refl, ap, sym, subst, ◌∙◌}
use Rattle.model.specs.declared.event.Misuse.{Misuse}
use Rattle.model.specs.declared.op.Access.{Access}
use Rattle.model.specs.declared.op.Op.{Op}
use Rattle.model.specs.declared.op.Op.TheVariants.{Await}
use Rattle.model.specs.declared.value.Value.{Value}
use Rattle.model.specs.Application.{Application, Limits, op_at}
use Rattle.model.specs.Order.{tasks_of}
use Rattle.model.specs.State.{State, Task, Progress, Status, Ready, call_at, no_task, for_each, progress_at, status_at}
use Rattle.model.specs.State.{task_at, take_ticket}
use Rattle.model.specs.State.{with_task}
use Rattle.model.specs.Step.{act_by_value, act_current, act_unless, before_step, call_with_number, misuse, step}
use Rattle.model.specs.Switching.{is_held, is_off, make_ready, settle, unless_held}
use Rattle.model.specs.Time.{due, wake_due}
use Rattle.model.proofs.Lists.{eqb-refl, eqb-same}
use Rattle.model.proofs.Sorting.{by_test}
use Rattle.soundness.proofs.Coming.{comes-before_step}
use Rattle.soundness.proofs.Judging.{by_judgement}
use Rattle.soundness.proofs.Passing.{by_value}
use Rattle.laws.proofs.Answering.{Same, StaysWithin, same-choose, stays_within}
use Rattle.laws.proofs.Deeds.{Keeping}
use Rattle.laws.proofs.Changes.{anyone, kept-before_step, kept-step}
use Rattle.laws.proofs.Staying.{AreLeft, Remains, Stays, Stops, one_task}
use Rattle.laws.proofs.Sleeping.{NoneBetween}

module _ (i : ℕ) (last : Option ℕ) where
  -- The task's last answer is this.
  abbrev HasAnswer : State → Type 0
  HasAnswer s = (progress_at s i).answer ≡ last

  has-framed : (s t : State) → t.tasks ≡ s.tasks → t.next_ticket ≡ s.next_ticket
      → t.time ≡ s.time → Stops s.stopped t.stopped → AreLeft 0 true 0 true true s t → HasAnswer s → HasAnswer t
  has-framed s t e n m stops left h = ap (λ (ts : List Task). (get_or ts i no_task).progress.answer) e ∙ h

  -- one task changes, and this one's last answer stays
  has-changed : (s : State) (j : ℕ) (t : Task) → (i ≡ j → t.progress.answer ≡ (progress_at s j).answer)
      → HasAnswer s → HasAnswer (with_task j t s)
  has-changed s j t stays h = elim (one_task s.tasks j t i) [
    | inl e ↦ ap (λ (u : Task). u.progress.answer) e.0 ∙ stays e.1 ∙ ap (λ k. (progress_at s k).answer) (sym e.1) ∙ h
    | inr e ↦ ap (λ (u : Task). u.progress.answer) e ∙ h
  ]

  has-taken : (s : State) (j : ℕ) (status : ℕ → Status) → HasAnswer s → HasAnswer (take_ticket j status s)
  has-taken s j status h = has-changed s j (record (task_at s j) { status = status s.next_ticket }) (λ e. refl) h

  has-all_ready : (js : List ℕ) (s : State) → HasAnswer s → HasAnswer (for_each make_ready js s)
  has-all_ready [] s h = h
  has-all_ready (j ∷ js) s h = has-all_ready js (make_ready j s) (has-taken s j Ready h)

  has-passed : (n : ℕ) (s : State) → NoneBetween n s → HasAnswer s → HasAnswer (wake_due (record s { time = s.time + n }))
  unfolding wake_due
  has-passed n s none h = let t : State = record s { time = s.time + n } in has-all_ready (tasks_of (due t)) t h

  -- all may answer but this one
  abbrev others : ℕ → Bool
  others j = not (eqb i j)

  has-moved : (s : State) (j : ℕ) (t : Task) → Stays (status_at s j) t.status
      → Remains true (others j) (task_at s j) t → HasAnswer s → HasAnswer (with_task j t s)
  has-moved s j t u remains h = has-changed s j t (λ e. remains.2 (rw e (ap not (eqb-refl j)))) h

  another_runs : (running : Option ℕ) → (running ≡ Some i → ⊥) → (j : ℕ) → running ≡ Some j → others j ≡ true
  another_runs running elsewhere j runs = by_test (eqb i j)
      (λ t. let here : running ≡ Some i = runs ∙ ap Some (sym (eqb-same i j t)) in absurd (elsewhere here))
      (λ t. ap not t)

  has-kept : Keeping HasAnswer anyone others 0 true 0 true true
  has-kept = record {
    framed = has-framed;
    moved = has-moved;
    taken = λ s j status is later. has-taken s j status;
    passed = has-passed;
  }

  has_before_step : (app : Application) (handlers : List ℕ) (s : State) → HasAnswer s → HasAnswer (before_step app handlers s)
  has_before_step app handlers s h =
      kept-before_step has-kept app (λ no. absurd (cc)) handlers s h

  has_after_step : (app : Application) (limits : Limits) (handlers : List ℕ) (s : State)
      → ((before_step app handlers s).current ≡ Some i → ⊥) → HasAnswer s → HasAnswer (step app limits handlers s)
  has_after_step app limits handlers s elsewhere h =
      kept-step has-kept app (λ no. absurd (cc)) limits handlers s
      (λ j runs. (
        λ is. refl,
        λ no. absurd (cc),
        another_runs (before_step app handlers s).current elsewhere j runs,
        λ no. absurd (cc),
      )) h

pub others_stay : (app : Application) (limits : Limits) (handlers : List ℕ) (i : ℕ) (s : State)
    → ((before_step app handlers s).current ≡ Some i → ⊥)
    → (progress_at (step app limits handlers s) i).answer ≡ (progress_at s i).answer
others_stay app limits handlers i s elsewhere = has_after_step i (progress_at s i).answer app limits handlers s elsewhere refl

-- ---- a step of the task's own

within-op : (app : Application) (i o : ℕ) (a : Access Value) (ticks : Option ℕ) (kind : Option Misuse) (s : State)
    → i < length s.tasks → StaysWithin i s (act_unless app i kind (Await o a ticks) s)
within-op app i o a ticks None s l =
    let op : Op = Await o a ticks in
    let done : StaysWithin i s (act_by_value app i op s) =
    by_value (StaysWithin i s) app i op s (λ here. refl)
    (stays_within i app o (call_with_number s i a) ticks (call_at s i).phase s l) in
    by_judgement (StaysWithin i s) i (progress_at s i).op_index (act_by_value app i op s) done (λ kind. done)
within-op app i o a ticks (Some kind) s l = λ here. refl

within-act : (app : Application) (limits : Limits) (i o : ℕ) (a : Access Value) (ticks : Option ℕ) (s : State) → i < length s.tasks
    → s.current ≡ Some i → op_at app i (progress_at s i).op_index ≡ Some (Await o a ticks)
    → StaysWithin i s (act_current app limits s.current s)
within-act app limits i o a ticks s l runs is =
    subst (λ running. StaysWithin i s (act_current app limits running s)) (sym runs)
    (rw is (within-op app i o a ticks (misuse s i (Await o a ticks)) s l))

settled : (i : ℕ) (s : State) → Same i s (unless_held settle s)
unfolding settle
settled i s = by_test (is_held s)
    (λ t. rw t refl)
    (λ t. rw t (by_test (is_off s s.current) (λ q. rw q (same-choose i s)) (λ q. rw q refl)))

pub stays_in_call : (app : Application) (limits : Limits) (handlers : List ℕ)
    (i o : ℕ) (a : Access Value) (ticks : Option ℕ) (s : State) → i < length s.tasks
    → (before_step app handlers s).current ≡ Some i
    → op_at app i (progress_at (before_step app handlers s) i).op_index ≡ Some (Await o a ticks)
    → (progress_at (step app limits handlers s) i).op_index ≡ (progress_at (before_step app handlers s) i).op_index
    → (progress_at (step app limits handlers s) i).answer ≡ (progress_at s i).answer
unfolding step
stays_in_call app limits handlers i o a ticks s l runs is here =
    let begun : State = before_step app handlers s in
    let acted : State = act_current app limits begun.current begun in
    let within : i < length begun.tasks = rw (comes-before_step app handlers s).tasks l in
    let same : Same i acted (unless_held settle acted) = settled i acted in
    ap (λ (p : Progress). p.answer) same
    ∙ within-act app limits i o a ticks begun within runs is (sym (ap (λ (p : Progress). p.op_index) same) ∙ here)
    ∙ has_before_step i (progress_at s i).answer app handlers s refl
