-- A task goes on, and its call returns: what that makes of the states that the kernel represents.
use Rattle.std.proofs.Common.{◌≡◌, ◌≢◌, ◌<◌, ◌+◌, ℕ, Bool, true, set, List, length, get_or-set_same, Option, Some, refl, ap, sym}
use Rattle.std.proofs.Common.{subst, ◌∙◌}
use Rattle.std.specs.Option.{is_some, option_or, IfSome}
use Rattle.std.proofs.lemmas.Bool.{eq-eqb, ne_eqb}
use Rattle.std.proofs.lemmas.List.{set-set}
use Rattle.model.specs.declared.call.Phase.TheVariants.{Place}
use Rattle.model.specs.declared.event.Event.{Event}
use Rattle.model.specs.declared.event.What.{What}
use Rattle.model.specs.declared.event.What.TheVariants as what
use Rattle.model.specs.declared.event.End.{End}
use Rattle.model.specs.Application.{Application, op_count}
use Rattle.model.specs.State.{no_call, State, Task, Progress, task_at, progress_at, status_at, call_at, with_task, no_task}
use Rattle.model.specs.State as state
use Rattle.model.specs.Switching.{write, is_ready}
use Rattle.model.specs.Ops.{go_to, moved_to, complete, called, answer, fail}
use Rattle.model.specs.Daemon.{received, obeyed}
use Rattle.machine.specs.declared.machine.Machine.{Machine}
use Rattle.sched.specs.Schedule.{Schedule, block}
use Rattle.sched.proofs.Standing as on_sched
use Rattle.groups.specs.StandsFor.{event_wait}
use Rattle.machine.specs.StandsFor.{progress_in, At, with_progress, IsPlaced}
use Rattle.machine.specs.Can.{Agrees, Runs}
use Rattle.machine.proofs.Parts.{stands-changed, stands-gone, stands-ended, stands-unseen, stands-told}

-- the kernel's running task is a task
pub within : (k : Machine) (log : List Event) (s : State) → At k log s → (i : ℕ) → k.sched.current ≡ Some i → i < length s.tasks
within k log s h i r =
    let L : Option ℕ → Type 0 = λ o. IfSome o (λ j. j < length s.tasks) in
    subst L (sym h.stands.sched.current ∙ r) h.stands.sched.table.current

-- A task's progress changes, in the kernel and in its state.
pub changed : (k : Machine) (log : List Event) (s : State) → At k log s → (i : ℕ) → i < length s.tasks → (p : Progress)
    → p.call.phase ≢ Place → (is_some (event_wait (status_at s i)) ≡ true → p.call.wants ≡ (call_at s i).wants)
    → At (with_progress i p k) log (state.with_progress i p s)
changed k log s h i l p off wants = record { stands = stands-changed k s h.stands i l p off wants; log = h.log }

-- To change a task's progress and let it go on is to let it go on with the changed progress.
go_to_after : (app : Application) (s : State) (i op_index : ℕ) (p : Progress) → i < length s.tasks
    → go_to app i op_index (progress_at (state.with_progress i p s) i) (state.with_progress i p s) ≡ go_to app i op_index p s
unfolding go_to
go_to_after app s i op_index p l =
    let t : Task = record (task_at s i) { progress = p } in
    let n : ℕ = op_count app i in
    let same : task_at (state.with_progress i p s) i ≡ t = get_or-set_same s.tasks i t no_task l in
    ap (λ (u : Task). with_task i (moved_to n op_index u.progress u) (with_task i t s)) same
    ∙ ap (λ (ts : List Task). record s { tasks = ts }) (set-set s.tasks i t (moved_to n op_index p t))

-- The kernel is what it is after its running task went on at an op.
abbrev pub Goes : Application → Machine → ℕ → ℕ → Machine → Type 0
Goes app k i op_index new = (log : List Event) (s : State) → At k log s → At new log (go_to app i op_index (progress_at s i) s)

-- or after the op that it was at is complete
abbrev pub Completes : Application → Machine → ℕ → Machine → Type 0
Completes app k i new = (log : List Event) (s : State) → At k log s → At new log (complete app i (progress_at s i) s)

-- If the task makes progress, and is placed then, all in all it is placed.
pub placed_then : (k mid new : Machine) (i : ℕ) (p : Progress) → mid ≡ with_progress i p k → IsPlaced mid new i → IsPlaced k new i
placed_then k mid new i p is n =
    (n.0, n.1 ∙ ap (with_progress i n.0) is ∙ ap (λ (ps : List Progress). record k { progress = ps }) (set-set k.progress i p n.0))

-- The running task of the kernel makes progress, and then goes on.
module _ (app : Application) (k mid new : Machine) (log : List Event) (s : State) (h : At k log s)
    (i : ℕ) (r : k.sched.current ≡ Some i) (p q : Progress) (is : mid ≡ with_progress i p k)
    (same : p ≡ q) (off : p.call.phase ≢ Place) (wants : q.call.wants ≡ (call_at s i).wants) where
  pub at_mid : At mid log (state.with_progress i q s)
  at_mid =
      let Q : Progress → Type 0 = λ x. At mid log (state.with_progress i x s) in
      subst Q same
      (rw is (changed k log s h i (within k log s h i r) p off (λ _. ap (λ (x : Progress). x.call.wants) same ∙ wants)))

  pub goes : (op_index : ℕ) → Goes app mid i op_index new → At new log (go_to app i op_index q s)
  goes op_index g =
      subst (λ (x : State). At new log x) (go_to_after app s i op_index q (within k log s h i r))
      (g log (state.with_progress i q s) at_mid)

  pub completes : Completes app mid i new → At new log (complete app i q s)
  completes g =
      let l = within k log s h i r in
      let P : Progress → Type 0 = λ x.
      At new log (go_to app i (x.op_index + 1) (progress_at (state.with_progress i q s) i) (state.with_progress i q s)) in
      let one : progress_at (state.with_progress i q s) i ≡ q =
      ap (λ (t : Task). t.progress) (get_or-set_same s.tasks i (record (task_at s i) { progress = q }) no_task l) in
      subst (λ (x : State). At new log x) (go_to_after app s i (q.op_index + 1) q l)
      (subst P one (g log (state.with_progress i q s) at_mid))

-- a call is complete, and its event is reported
pub answered : (app : Application) (k mid new : Machine) (log told : List Event) (s : State) → At k log s
    → (i : ℕ) → k.sched.current ≡ Some i → (v : Progress) → v ≡ progress_in k.progress i → (a : Option ℕ)
    → (w : What) → w ≡ called i v.op_index a → At k told (write w s)
    → mid ≡ with_progress i (record (progress_in k.progress i) { answer = a }) k
    → Completes app mid i new → At new told (answer app i a s)
unfolding answer
answered app k mid new log told s h i r v e a w one written is g =
    let p : Progress = progress_at s i in
    let same : v ≡ p = e ∙ h.stands.rest.progress i in
    let W : What → Type 0 = λ x. At k told (write x s) in
    let told_is : w ≡ called i p.op_index a = one ∙ ap (λ (x : Progress). called i x.op_index a) same in
    completes app k mid new told (write (called i p.op_index a) s) (subst W told_is written)
    i r (record (progress_in k.progress i) { answer = a }) (record p { answer = a }) is
    (ap (λ (x : Progress). record x { answer = a }) (h.stands.rest.progress i)) (h.stands.rest.placed i) refl g

-- an op is complete with an answer, and reports nothing
pub received_at : (app : Application) (k mid new : Machine) (log : List Event) (s : State)
    → At k log s → (i : ℕ) → k.sched.current ≡ Some i → (a : Option ℕ)
    → mid ≡ with_progress i (record (progress_in k.progress i) { answer = a }) k
    → Completes app mid i new → At new log (received app i a s)
unfolding received
received_at app k mid new log s h i r a is g =
    completes app k mid new log s h i r (record (progress_in k.progress i) { answer = a })
    (record (progress_at s i) { answer = a }) is
    (ap (λ (x : Progress). record x { answer = a }) (h.stands.rest.progress i)) (h.stands.rest.placed i) refl g

-- a command is done, and its event is reported
pub obeyed_at : (app : Application) (k mid new : Machine) (told : List Event) (s : State) (i : ℕ)
    → k.sched.current ≡ Some i → (clear : Bool) (bits : ℕ) → At k told (write (what.Obeyed i clear bits) s)
    → mid ≡ with_progress i (record (progress_in k.progress i) { answer = Some bits }) k
    → Goes app mid i 0 new → At new told (obeyed app i clear bits s)
unfolding obeyed
obeyed_at app k mid new told s i r clear bits h is g =
    goes app k mid new told (write (what.Obeyed i clear bits) s) h i r
    (record (progress_in k.progress i) { answer = Some bits }) (record (progress_at s i) { answer = Some bits }) is
    (ap (λ (x : Progress). record x { answer = Some bits }) (h.stands.rest.progress i)) (h.stands.rest.placed i) refl 0 g

-- the step brings about an end
pub stopped_at : (k : Machine) (log : List Event) (s : State) → At k log s → (end same : End)
    → end ≡ same → At (record k { stopped = Some end }) log (record s { stopped = Some same })
stopped_at k log s h end same e =
    record {
      stands = stands-unseen k s h.stands s.log s.steps k.steps (Some same) (Some end) h.stands.rest.steps (ap Some e);
      log = h.log;
    }

-- a check fails in the step
pub failed_at : (k : Machine) (log : List Event) (s : State) → At k log s → (check same : End)
    → check ≡ same → At (record k { stopped = option_or k.stopped (Some check) }) log (fail same s)
failed_at k log s h check same e =
    let is : option_or k.stopped (Some check) ≡ option_or s.stopped (Some same) =
    ap (λ (o : Option End). option_or o (Some check)) h.stands.rest.stopped ∙ ap (λ (x : End). option_or s.stopped (Some x)) e in
    record {
      stands =
          stands-unseen k s h.stands s.log s.steps k.steps (option_or s.stopped (Some same))
          (option_or k.stopped (Some check)) h.stands.rest.steps is;
      log = h.log;
    }

-- ---- the parts agree after a deed too

pub agrees_after : (k new : Machine) (log new_log : List Event) → Agrees k
    → (deed : State → State) → ((s : State) → At k log s → At new new_log (deed s)) → Agrees new
agrees_after k new log new_log a deed does =
    let s : State = record (a.0) { log = log } in
    (deed s, (does s (record { stands = stands-told k a.0 a.1 log; log = refl })).stands)

-- ---- the task goes on at an op

module _ (app : Application) (k moved : Machine) (log : List Event) (s : State) (h : At k log s) (i : ℕ) (r : Runs k i)
    (op_index count : ℕ)
    (is : moved ≡ with_progress i (record (progress_in k.progress i) { op_index = op_index; used = 0; call = no_call }) k)
    (many : count ≡ op_count app i) where
  l : i < length s.tasks
  l = within k log s h i r.current

  p_is : progress_in k.progress i ≡ progress_at s i
  p_is = h.stands.rest.progress i

  ready : is_ready s i ≡ true
  ready = sym (on_sched.ready_same k.sched s i h.stands.sched) ∙ r.ready

  pub goes_on : (op_index ≡ count → ⊥) → At moved log (go_to app i op_index (progress_at s i) s)
  unfolding go_to
  goes_on off =
      let P : Progress → Type 0 = λ p.
      At (with_progress i (record p { op_index = op_index; used = 0; call = no_call }) k)
      log (with_task i (moved_to count op_index (progress_at s i) (task_at s i)) s) in
      rw (is, ← many) (subst P (sym p_is) (record {
        stands = stands-gone k s h.stands i l count op_index (progress_at s i) (ne_eqb op_index count off) ready;
        log = h.log;
      }))

  pub ends : op_index ≡ count → (v : Schedule) → v ≡ block i moved.sched
      → At (record moved { sched = v }) log (go_to app i op_index (progress_at s i) s)
  unfolding go_to
  ends on v blocks =
      let Q : Machine → Type 0 = λ m.
      v ≡ block i m.sched
      → At (record m { sched = v }) log (with_task i (moved_to (op_count app i) op_index (progress_at s i) (task_at s i)) s) in
      let P : Progress → Type 0 = λ p.
      At (record k { progress = set k.progress i (record p { op_index = op_index; used = 0; call = no_call }); sched = v })
      log (with_task i (moved_to (op_count app i) op_index (progress_at s i) (task_at s i)) s) in
      subst Q (sym is)
      (λ b.
      subst P (sym p_is) (rw (← many) (record {
        stands = stands-ended k s h.stands i l count op_index (progress_at s i) (eq-eqb op_index count on) ready v b;
        log = h.log;
      })))
      blocks
