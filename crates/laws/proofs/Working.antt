-- A step in which a task runs lets one tick pass at most beside those that come before it: only idle sleeps.
use Rattle.model.specs.Step.{act_by_value}
use Rattle.soundness.proofs.Passing.{by_value}
use Rattle.std.proofs.Common.{◌≡◌, ◌<◌, ◌≤◌, ◌+◌, ◌-◌, ◌++◌, ◌∙◌, ℕ, true, false, List, [], ◌∷◌, length, Option, Some, None}
use Rattle.std.proofs.Common.{ap, refl, arith}
use Rattle.std.specs.Option.{is_some}
use Rattle.model.specs.declared.op.Op.{Op}
use Rattle.model.specs.declared.event.Misuse.{Misuse}
use Rattle.model.specs.Application.{Application, Limits, op_at}
use Rattle.model.specs.State.{State, progress_at}
use Rattle.model.specs.Switching.{settle, unless_held}
use Rattle.model.specs.Ops.{use_up}
use Rattle.model.specs.Step.{act, act_unless, misuse, act_if, act_current, before_step, step}
use Rattle.soundness.proofs.Keeping.{keeps-use_up, keeps-settle, keeps-unless_held}
use Rattle.soundness.proofs.Coming.{comes-before_step, ticks_before, ticks_in}
use Rattle.soundness.proofs.Moving.{moves-step}
use Rattle.model.specs.Handlers.{is_tick, pending_of}
use Rattle.model.proofs.Sorting.{by_test}
use Rattle.laws.specs.Ticks.{ticks_among}
use Rattle.std.specs.List.{filter}
use Rattle.std.proofs.lemmas.List.{length-append}
use Rattle.std.proofs.lemmas.List.Elements.{filter-append}
use Rattle.soundness.proofs.Passing.{by_op, suspends-all, resumes-all, opens, lasts-act}
use Rattle.soundness.proofs.Ticking.{elapsed-tick}
use Rattle.soundness.proofs.Judging.{judged}

one-act : (app : Application) (i : ℕ) (op : Op) (s : State) → (act app i op s).elapsed ≤ s.elapsed + 1
one-act app i op s = by_op (λ op. (act app i op s).elapsed ≤ s.elapsed + 1)
    (λ n. let e = elapsed-tick app (use_up app i n s) in let f = (keeps-use_up app i n s).elapsed in omega arith)
    (let e = (suspends-all app i s).elapsed in omega arith)
    (let e = (resumes-all app i s).elapsed in omega arith)
    (let e = (opens app i (s.sections + 1) s).elapsed in omega arith)
    (let e = (opens app i (s.sections - 1) s).elapsed in omega arith)
    (λ op t. let e = (lasts-act app i op s t).elapsed in omega arith) op

one-act_unless : (app : Application) (i : ℕ) (kind : Option Misuse) (op : Op) (s : State)
    → (act_unless app i kind op s).elapsed ≤ s.elapsed + 1
one-act_unless app i None op s =
    let e = (judged i (progress_at s i).op_index (act_by_value app i op s)).lasts.elapsed in
    let one : (act_by_value app i op s).elapsed ≤ s.elapsed + 1 =
    by_value (λ t. t.elapsed ≤ s.elapsed + 1) app i op s (omega arith) (one-act app i op s) in
    omega arith
one-act_unless app i (Some kind) op s = omega arith

one-act_if : (app : Application) (i : ℕ) (o : Option Op) (s : State) → (act_if app i o s).elapsed ≤ s.elapsed + 1
one-act_if app i None s = omega arith
one-act_if app i (Some op) s = one-act_unless app i (misuse s i op) op s

one-act_current : (app : Application) (limits : Limits) (r : Option ℕ) (s : State)
    → is_some r ≡ true → (act_current app limits r s).elapsed ≤ s.elapsed + 1
one-act_current app limits None s on = absurd (cc)
one-act_current app limits (Some i) s on = one-act_if app i (op_at app i (progress_at s i).op_index) s

-- ---- the ticks that come before it

ticks_in_among : (app : Application) (xs : List ℕ) → ticks_in app xs ≡ ticks_among app xs
ticks_in_among app [] = refl
ticks_in_among app (x ∷ xs) =
    let rest = ticks_in_among app xs in by_test (is_tick app x) (λ t. rw t (omega arith)) (λ t. rw t (omega arith))

both_among : (app : Application) (sources : List ℕ) (s : State)
    → ticks_before app sources s ≡ ticks_among app (pending_of s ++ sources)
both_among app sources s =
    let a = ticks_in_among app (pending_of s) in
    let b = ticks_in_among app sources in
    let all : ticks_among app (pending_of s ++ sources) ≡ ticks_among app (pending_of s) + ticks_among app sources =
    ap (λ (xs : List ℕ). length xs) (filter-append (is_tick app) (pending_of s) sources)
    ∙ length-append (filter (is_tick app) (pending_of s)) (filter (is_tick app) sources) in
    omega arith

pub one_tick : (app : Application) (limits : Limits) (sources : List ℕ) (s : State) → app.tickless ≡ false
    → (step app limits sources s).elapsed ≤ s.elapsed + ticks_among app (pending_of s ++ sources) + 1
one_tick app limits sources s off =
    let m = (moves-step app limits sources s).elapsed off in let n = both_among app sources s in omega arith

pub up_to_limit : (app : Application) (limits : Limits) (sources : List ℕ) (s : State) → s.elapsed < limits.ticks
    → (step app limits sources s).elapsed ≤ limits.ticks + ticks_among app (pending_of s ++ sources)
up_to_limit app limits sources s low =
    let m = (moves-step app limits sources s).most limits.ticks (omega arith) low in let n = both_among app sources s in omega arith

pub one_by_task : (app : Application) (limits : Limits) (sources : List ℕ) (s : State)
    → is_some (before_step app sources s).current ≡ true
    → (step app limits sources s).elapsed ≤ s.elapsed + ticks_among app (pending_of s ++ sources) + 1
unfolding step
one_by_task app limits sources s on =
    let begun : State = before_step app sources s in
    let acted : State = act_current app limits begun.current begun in
    let b : begun.elapsed ≤ s.elapsed + ticks_before app sources s = (comes-before_step app sources s).elapsed in
    let n = both_among app sources s in
    let m : acted.elapsed ≤ begun.elapsed + 1 = one-act_current app limits begun.current begun on in
    let k : (unless_held settle acted).elapsed ≡ acted.elapsed = (keeps-unless_held settle acted keeps-settle).elapsed in
    omega arith
