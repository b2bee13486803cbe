-- What the holds of a state say of its schedule and of its ops.
use Rattle.model.specs.declared.op.Op.TheVariants as op
use Rattle.model.specs.declared.op.Op.TheVariants.{Value}
use Rattle.model.specs.Values.{with_number}
use Rattle.soundness.proofs.Sparing.{fits-number}
use Rattle.std.proofs.Common.{◌≡◌, ◌<◌, ◌+◌, ◌||◌, ltb-false, ℕ, Bool, true, false, cond, leb, List}
use Rattle.std.proofs.Common.{Option, Some, None, refl, ◌∙◌, arith, ltb}
use Rattle.std.specs.Prelude.{if◌then◌else◌}
use Rattle.std.proofs.lemmas.Bool.{ltb-true, lt-ltb}
use Rattle.model.specs.Switching.{is_held_by_task, is_scheduler_suspended}
use Rattle.std.proofs.lemmas.Bool.Decides.{nat_tests}
use Rattle.std.specs.Option.{option_or}
use Rattle.model.specs.declared.call.Phase.TheVariants.{Leave}
use Rattle.model.specs.declared.event.End.{End}
use Rattle.model.specs.declared.event.End.TheVariants as ending
use Rattle.model.specs.declared.op.Op.{Op}
use Rattle.model.specs.declared.op.Op.TheVariants.{Work, Delay, DelayUntil, Yield, Time, Mark, Expect, Repeat, End as EndLoop, If}
use Rattle.model.specs.declared.op.Op.TheVariants.{Else, EndIf, Break, Stamp, Since, Await, Do, GiveMutex, MessagesWaiting}
use Rattle.model.specs.declared.op.Op.TheVariants.{SpacesAvailable, SetBits, ClearBits, GetBits, WaitBits, Notify}
use Rattle.model.specs.declared.op.Op.TheVariants.{AwaitNotification, ClearNotification, Suspend, Resume}
use Rattle.model.specs.declared.op.Op.TheVariants.{SuspendAll, ResumeAll, EnterCritical, ExitCritical, NextCommand, Obey}
use Rattle.model.specs.Application.{Application, Limits}
use Rattle.model.specs.declared.block.Block.{Block}
use Rattle.model.specs.Blocks.{edge_of, loops_in, may_stand}
use Rattle.model.specs.Scripts.{fits_object, is_wait}
use Rattle.model.specs.State.{State}
use Rattle.model.specs.Run.{end_of, are_all_ended, is_stuck}
use Rattle.model.specs.Invariant.{Hold, Course, InOne, OnObject}
use Rattle.model.specs.Invariant.{ToSetBits, UntilWoken, course, IsPhaseOf, holds}
use Rattle.soundness.proofs.InScripts.{Known}
use Rattle.objects.specs.declared.lock.Lock.{Lock}
use Rattle.objects.specs.Objects.{locked_by}
use Rattle.soundness.proofs.Sparing.{and_left}
use Rattle.machine.specs.declared.machine.Machine.{Machine}
use Rattle.ops.specs.Can.{HasLoopRoom, HasObject, HasObjects, IsShort}
use Rattle.sched.specs.StandsFor.{task_holds_of}
use Rattle.model.proofs.Sorting.{by_test}
use Rattle.soundness.proofs.Settled.{section_holds}
use Rattle.soundness.proofs.Going.{suspended_held}

leb-less : (a b : ℕ) → leb a b ≡ false → b < a
leb-less a b e = grind (arith, nat_tests)

unended : (o : Option End) (a t p k : Bool)
    → option_or o
    (cond a (Some ending.Pass) (cond t (Some ending.Ticks) (cond p (Some ending.Steps) (cond k (Some ending.Stuck) None))))
    ≡ None
    → (t ≡ false) × (p ≡ false) × (k ≡ false)
unended (Some e) a t p k h = absurd (cc)
unended None true t p k h = absurd (cc)
unended None false true p k h = absurd (cc)
unended None false false true k h = absurd (cc)
unended None false false false true h = absurd (cc)
unended None false false false false h = (refl, refl, refl)

or_left : (a b : Bool) → (a || b) ≡ false → a ≡ false
or_left false b e = refl
or_left true b e = absurd (cc)

or_right : (a b : Bool) → (a || b) ≡ false → b ≡ false
or_right false b e = e
or_right true b e = absurd (cc)

pub below_limits : (app : Application) (limits : Limits) (s : State)
    → end_of app limits s ≡ None → (s.elapsed < limits.ticks) × (s.steps < limits.steps)
below_limits app limits s h =
    let u = unended s.stopped (are_all_ended app s) (leb limits.ticks s.elapsed) (leb limits.steps s.steps) (is_stuck app s) h in
    (leb-less limits.ticks s.elapsed u.0, leb-less limits.steps s.steps u.1)

pub loop_room : (op : Op) (blocks : List Block) → may_stand (edge_of op) blocks ≡ true → HasLoopRoom op (loops_in blocks)
loop_room (Work n) nesting h = tt
loop_room (Delay n) nesting h = tt
loop_room (DelayUntil n) nesting h = tt
loop_room Yield nesting h = tt
loop_room Time nesting h = tt
loop_room (Mark n) nesting h = tt
loop_room (Expect a) nesting h = tt
loop_room (Repeat n) blocks h = ltb-true (loops_in blocks) 4 (and_left (ltb (loops_in blocks) 4) _ h)
loop_room EndLoop nesting h = tt
loop_room (If c) nesting h = tt
loop_room Else nesting h = tt
loop_room EndIf nesting h = tt
loop_room Break nesting h = tt
loop_room Stamp nesting h = tt
loop_room Since nesting h = tt
loop_room (Value op) nesting h = tt
loop_room (op.Source j what) nesting h = tt
loop_room (Await o a w) nesting h = tt
loop_room (Do o a) nesting h = tt
loop_room (GiveMutex o) nesting h = tt
loop_room (MessagesWaiting o) nesting h = tt
loop_room (SpacesAvailable o) nesting h = tt
loop_room (SetBits g m) nesting h = tt
loop_room (ClearBits g m) nesting h = tt
loop_room (GetBits g) nesting h = tt
loop_room (WaitBits g c w) nesting h = tt
loop_room (Notify j a) nesting h = tt
loop_room (AwaitNotification w ticks) nesting h = tt
loop_room (ClearNotification x) nesting h = tt
loop_room (Suspend j) nesting h = tt
loop_room (Resume j) nesting h = tt
loop_room EnterCritical nesting h = tt
loop_room ExitCritical nesting h = tt
loop_room SuspendAll nesting h = tt
loop_room ResumeAll nesting h = tt
loop_room (NextCommand o) nesting h = tt
loop_room Obey nesting h = tt

-- an op of one phase
abbrev pub IsBrief : Op → Type 0
IsBrief op = course (Some op) ≡ InOne

pub known_object : (app : Application) (task op_index : ℕ) (op : Op) → IsBrief op
    → Known app task op_index op → (k : Machine) → HasObjects app k → HasObject k op
known_object app i p (Work n) brief t k room = tt
known_object app i p (Delay n) brief t k room = tt
known_object app i p (DelayUntil n) brief t k room = tt
known_object app i p Yield brief t k room = tt
known_object app i p Time brief t k room = tt
known_object app i p (Mark n) brief t k room = tt
known_object app i p (Expect a) brief t k room = tt
known_object app i p (Repeat n) brief t k room = tt
known_object app i p EndLoop brief t k room = tt
known_object app i p (If c) brief t k room = tt
known_object app i p Else brief t k room = tt
known_object app i p EndIf brief t k room = tt
known_object app i p Break brief t k room = tt
known_object app i p Stamp brief t k room = tt
known_object app i p Since brief t k room = tt
known_object app i p (Await o a w) brief t k room = absurd (cc)
known_object app i p (Value op) brief t k room = tt
known_object app i p (op.Source j what) brief t k room = tt
known_object app i p (Do o a) brief t k room = λ variables answer.
    room o (with_number variables answer a) (fits-number app o variables answer a ∙ and_left (fits_object app o a) _ t)
known_object app i p (GiveMutex o) brief t k room = tt
known_object app i p (MessagesWaiting o) brief t k room = tt
known_object app i p (SpacesAvailable o) brief t k room = tt
known_object app i p (SetBits g m) brief t k room = absurd (cc)
known_object app i p (ClearBits g m) brief t k room = tt
known_object app i p (GetBits g) brief t k room = tt
known_object app i p (WaitBits g c w) brief t k room = absurd (cc)
known_object app i p (Notify j a) brief t k room = tt
known_object app i p (AwaitNotification w ticks) brief t k room = absurd (cc)
known_object app i p (ClearNotification x) brief t k room = tt
known_object app i p (Suspend j) brief t k room = tt
known_object app i p (Resume j) brief t k room = tt
known_object app i p SuspendAll brief t k room = tt
known_object app i p ResumeAll brief t k room = tt
known_object app i p EnterCritical brief t k room = tt
known_object app i p ExitCritical brief t k room = tt
known_object app i p (NextCommand o) brief t k room = absurd (cc)
known_object app i p Obey brief t k room = absurd (cc)

pub short : (ticks : Option ℕ) → is_wait ticks ≡ true → IsShort ticks
short None t = tt
short (Some n) t = let l = ltb-true n 4294967295 t in omega arith

pub left_unlocked : (hold : Hold) (way : Course) → IsPhaseOf hold way Leave → hold.locked ≡ None
left_unlocked hold InOne p = absurd p
left_unlocked hold (OnObject object) p = p.1
left_unlocked hold UntilWoken p = p.1
left_unlocked hold ToSetBits p = p.1

pub unlocked : (lock : Option Lock) (locked : Option ℕ) → locked_by lock ≡ locked → locked ≡ None → lock ≡ None
unlocked None locked e none = refl
unlocked (Some l) locked e none = let f = e ∙ none in absurd (cc)

pub none_held : (n : ℕ) (b : Bool) (depth : ℕ) → depth ≡ n + (if b then 1 else 0) → n ≡ 0 → b ≡ false → depth ≡ 0
none_held n true depth e z t = absurd (cc)
none_held n false depth e z t = omega (arith, e, z)

pub unheld : (n : ℕ) (b : Bool) → b ≡ false → n + (if b then 1 else 0) ≡ n
unheld n true t = absurd (cc)
unheld n false t = omega arith

-- A task that has come to hold the scheduler holds it.
pub holds_by_some : (s : State) → 0 < task_holds_of s → is_held_by_task s ≡ true
holds_by_some s some = by_test (is_scheduler_suspended s)
    (λ t. suspended_held s t)
    (λ t. section_holds s (let most = ltb-false 0 s.suspensions t in lt-ltb 0 s.sections (omega arith)))

pub nothing_left : (n : ℕ) (b : Bool) → n + (if b then 1 else 0) ≡ 0 → n ≡ 0
nothing_left n true e = absurd (omega arith)
nothing_left n false e = omega arith

pub no_call : (n : ℕ) (b : Bool) → n + (if b then 1 else 0) ≡ 0 → b ≡ false
no_call n true e = absurd (omega arith)
no_call n false e = refl

pub once_held : (n : ℕ) (b : Bool) (depth : ℕ) → depth ≡ n + (if b then 1 else 0) → n ≡ 0 → b ≡ true → depth ≡ 1
once_held n true depth e z t = omega (arith, e, z)
once_held n false depth e z t = absurd (cc)
