-- How far a step moves the ticks, and how often a task holds the scheduler after it.
use Rattle.soundness.proofs.Passing.{by_value}
use Rattle.std.proofs.Common.{ap, ap₂, ◌≡◌, ◌≤◌, ◌+◌, ◌<◌, ℕ, false}
use Rattle.std.proofs.Common.{List, Option, Some, None, refl, ◌∙◌, arith}
use Rattle.model.specs.declared.op.Op.{Op}
use Rattle.model.specs.declared.event.Misuse.{Misuse}
use Rattle.model.specs.Application.{Application, Limits, op_at}
use Rattle.model.specs.State.{State, progress_at}
use Rattle.model.specs.Switching.{settle}
use Rattle.model.specs.Switching.{unless_held}
use Rattle.model.specs.Step.{judge, act_by_value, act_unless, misuse, act_if}
use Rattle.model.specs.Step.{act_current, before_step, step, reset}
use Rattle.model.specs.Step.{nobody_ready, ready_at_reset, with_ops}
use Rattle.model.specs.Invariant.{Suspension, suspension_of}
use Rattle.soundness.proofs.Keeping.{pending_in}
use Rattle.soundness.proofs.Keeping.{keeps-settle, keeps-unless_held, keeps-all_ready}
use Rattle.soundness.proofs.Coming.{comes-before_step, ticks_before}
use Rattle.soundness.proofs.Passing.{elapsed-act, pending-act}
use Rattle.soundness.proofs.Ticking.{elapsed-idle, most-idle, sections-idle}
use Rattle.soundness.proofs.Passing.{suspensions-act, task_holds, task_holds-act, task_holds_by}
use Rattle.soundness.proofs.Ticking.{pending-idle, suspensions-idle}
use Rattle.soundness.proofs.Judging.{judged}

-- ---- an op, or idle

-- Beside this many that come before it no more than one tick passes, except where idle may jump; and none after the limit. No more
-- than one `suspend_all` comes into force, or critical section is opened.
pub record Moves (app : Application) (limits : Limits) (before : ℕ) (old new : State) : Type 0 where
  pub elapsed : app.tickless ≡ false → new.elapsed ≤ old.elapsed + before + 1
  pub most : (most : ℕ) → limits.ticks ≤ most → old.elapsed < most → new.elapsed ≤ most + before
  pub suspensions : new.suspensions ≤ old.suspensions + 1
  pub by_tasks : task_holds new ≤ task_holds old + 1

moves-act_unless : (app : Application) (limits : Limits) (i : ℕ) (kind : Option Misuse) (op : Op) (s : State)
    → Moves app limits 0 s (act_unless app i kind op s)
moves-act_unless app limits i None op s =
    let t : State = act_by_value app i op s in
    let j = judged i (progress_at s i).op_index t in
    let e = j.lasts.elapsed in
    let f : (judge i (progress_at s i).op_index t).suspensions ≡ t.suspensions =
    ap (λ (x : Suspension). x.suspensions) j.suspension in
    let a : t.elapsed ≤ s.elapsed + 1 =
    by_value (λ t. t.elapsed ≤ s.elapsed + 1) app i op s (omega arith) (elapsed-act app i op s) in
    let b : t.suspensions ≤ s.suspensions + 1 =
    by_value (λ t. t.suspensions ≤ s.suspensions + 1) app i op s (omega arith) (suspensions-act app i op s) in
    let c : task_holds (judge i (progress_at s i).op_index t) ≡ task_holds t =
    task_holds_by t (judge i (progress_at s i).op_index t) j.suspension in
    let d : task_holds t ≤ task_holds s + 1 =
    by_value (λ t. task_holds t ≤ task_holds s + 1) app i op s (omega arith) (task_holds-act app i op s) in
    record {
      elapsed = λ off. omega arith;
      most = λ most few l. omega arith;
      suspensions = omega arith;
      by_tasks = omega (arith, c, d);
    }
moves-act_unless app limits i (Some kind) op s =
    record {
      elapsed = λ off. omega arith;
      most = λ most few l. omega arith;
      suspensions = omega arith;
      by_tasks = omega arith;
    }

moves-act_if : (app : Application) (limits : Limits) (i : ℕ) (o : Option Op) (s : State) → Moves app limits 0 s (act_if app i o s)
moves-act_if app limits i None s =
    record {
      elapsed = λ off. omega arith;
      most = λ most few l. omega arith;
      suspensions = omega arith;
      by_tasks = omega arith;
    }
moves-act_if app limits i (Some op) s = moves-act_unless app limits i (misuse s i op) op s

moves-act_current : (app : Application) (limits : Limits) (r : Option ℕ) (s : State)
    → Moves app limits 0 s (act_current app limits r s)
moves-act_current app limits None s =
    let f = suspensions-idle app limits s in
    record {
      elapsed = λ off. (let e = elapsed-idle app limits s off in omega arith);
      most = λ most few l. (let e = most-idle app limits s most few l in omega arith);
      suspensions = omega arith;
      by_tasks = (let g = sections-idle app limits s in omega arith);
    }
moves-act_current app limits (Some i) s = moves-act_if app limits i (op_at app i (progress_at s i).op_index) s

-- what is kept of the interrupt sources stays
pending-act_unless : (app : Application) (i : ℕ) (kind : Option Misuse) (op : Op) (s : State)
    → pending_in (act_unless app i kind op s) ≡ pending_in s
pending-act_unless app i None op s =
    (judged i (progress_at s i).op_index (act_by_value app i op s)).lasts.pending
    ∙ by_value (λ t. pending_in t ≡ pending_in s) app i op s refl (pending-act app i op s)
pending-act_unless app i (Some kind) op s = refl

pending-act_if : (app : Application) (i : ℕ) (o : Option Op) (s : State) → pending_in (act_if app i o s) ≡ pending_in s
pending-act_if app i None s = refl
pending-act_if app i (Some op) s = pending-act_unless app i (misuse s i op) op s

pub pending-act_current : (app : Application) (limits : Limits) (r : Option ℕ) (s : State)
    → pending_in (act_current app limits r s) ≡ pending_in s
pending-act_current app limits None s = pending-idle app limits s
pending-act_current app limits (Some i) s = pending-act_if app i (op_at app i (progress_at s i).op_index) s

-- ---- a step, and reset

pub moves-step : (app : Application) (limits : Limits) (sources : List ℕ) (s : State)
    → Moves app limits (ticks_before app sources s) s (step app limits sources s)
unfolding step
moves-step app limits sources s =
    let begun : State = before_step app sources s in
    let acted : State = act_current app limits begun.current begun in
    let b = comes-before_step app sources s in
    let k = keeps-unless_held settle acted keeps-settle in
    let m = moves-act_current app limits begun.current begun in
    let b1 : begun.elapsed ≤ s.elapsed + ticks_before app sources s = b.elapsed in
    let b2 : begun.suspensions ≡ s.suspensions = b.suspensions in
    let k1 : (unless_held settle acted).elapsed ≡ acted.elapsed = k.elapsed in
    let k2 : (unless_held settle acted).suspensions ≡ acted.suspensions = ap (λ (x : Suspension). x.suspensions) k.suspension in
    let m2 : acted.suspensions ≤ begun.suspensions + 1 = m.suspensions in
    record {
      elapsed = λ off. (let m1 : acted.elapsed ≤ begun.elapsed + 0 + 1 = m.elapsed off in omega arith);
      most = λ most few l. (let m3 : acted.elapsed ≤ most + ticks_before app sources s + 0 =
          m.most (most + ticks_before app sources s) (omega arith) (omega arith) in omega arith);
      suspensions = omega arith;
      by_tasks =
          (let b4 : task_holds begun ≡ task_holds s = ap₂ (λ (x y : ℕ). x + y) b.suspensions b.sections in
          let k4 : task_holds (unless_held settle acted) ≡ task_holds acted =
          task_holds_by acted (unless_held settle acted) k.suspension in
          let m4 : task_holds acted ≤ task_holds begun + 1 = m.by_tasks in
          omega (arith, b4, k4, m4));
    }

suspension-nobody : (app : Application) → suspension_of (nobody_ready app) ≡ record
    { suspensions = 0; held_ticks = 0; sections = 0 }
unfolding nobody_ready
suspension-nobody app = refl

pub suspension-reset : (app : Application) → suspension_of (reset app) ≡ record { suspensions = 0; held_ticks = 0; sections = 0 }
unfolding reset ready_at_reset
suspension-reset app = (keeps-all_ready (with_ops 0 app.tasks) (nobody_ready app)).suspension ∙ suspension-nobody app
