-- The op at an index of a well formed script.
use Rattle.model.specs.declared.op.Op.TheVariants as op
use Rattle.model.specs.declared.op.Op.TheVariants.{Value}
use Rattle.std.proofs.Common.{◌≡◌, ◌≢◌, ◌<◌, ◌≤◌, ◌+◌, ◌-◌, ℕ, zero, suc, true, eqb, ltb, List, [], ◌∷◌, drop, take, length, Option}
use Rattle.std.proofs.Common.{Some, None, refl, ap, sym, subst, ◌∙◌, arith, add-one}
use Rattle.std.specs.List.{AllByRecursion, slice_get}
use Rattle.std.specs.Option.{IfSome, option_map, unwrap_or}
use Rattle.std.proofs.lemmas.Bool.{ltb-true, ltb-false}
use Rattle.model.specs.declared.op.Op.{Op}
use Rattle.model.specs.declared.op.Op.TheVariants.{Work, Delay, DelayUntil, Yield, Time, Mark, Expect, Repeat, End, If, Else, EndIf}
use Rattle.model.specs.declared.op.Op.TheVariants.{Break, Stamp, Since, Await, Do, GiveMutex, MessagesWaiting, SpacesAvailable}
use Rattle.model.specs.declared.op.Op.TheVariants.{SetBits, ClearBits, GetBits, WaitBits, Suspend, Resume, SuspendAll, ResumeAll}
use Rattle.model.specs.declared.op.Op.TheVariants.{EnterCritical, ExitCritical, NextCommand, Obey}
use Rattle.model.specs.declared.op.Op.TheVariants.{Notify, AwaitNotification, ClearNotification}
use Rattle.model.specs.declared.op.Access.TheVariants.{Receive}
use Rattle.model.specs.declared.op.IsrOp.{IsrOp}
use Rattle.model.specs.Application.{Application, Handler, Definition, of_file, commands_of, script_of, op_at, ops_of}
use Rattle.model.specs.declared.block.Block.{Block}
use Rattle.model.specs.declared.block.Block.TheVariants as block
use Rattle.model.specs.declared.block.Edge.{Edge}
use Rattle.model.specs.declared.block.Edge.TheVariants.{OpensLoop, EndsLoop, OpensIf, OpensElse, EndsIf, Breaks, Inside}
use Rattle.model.specs.Blocks.{edge_of, edges_of, loops_in, blocks_past, may_stand, Nests}
use Rattle.model.specs.Scripts.{InRange, IsScript, IsDefinition, IsHandler, IsDaemon, IsWellFormed, fits_object, knows, KnowsAll}
use Rattle.model.specs.Scripts.{knows_isr}
use Rattle.model.specs.declared.loops.Loop.{Loop}
use Rattle.model.specs.Invariant.{AreOpenAt, LoopsNest, IsUsedBy}
use Rattle.model.proofs.Sorting.{by_test}
use Rattle.model.proofs.Lists.{eqb-refl, eqb-same}
use Rattle.model.proofs.Nesting.{least_work}

none_formed : IsScript []
none_formed = record { ranges = tt; nests = refl; few = omega arith }

formed_at : (i : ℕ) (ds : List Definition) → AllByRecursion IsDefinition ds
    → IsScript (unwrap_or (option_map (λ (d : Definition). d.script) (slice_get ds i)) [])
formed_at i [] h = none_formed
formed_at zero (d ∷ ds) h = h.0.script
formed_at (suc i) (d ∷ ds) h = formed_at i ds h.1

pub script_formed : (app : Application) → IsWellFormed app → (i : ℕ) → IsScript (script_of app i)
script_formed app h i = formed_at i app.tasks h.tasks

-- the edge of the op of an index, and those behind it
pub edges_at : (p : ℕ) (ops : List Op) (op : Op) → slice_get ops p ≡ Some op
    → drop p (edges_of ops) ≡ edge_of op ∷ drop (suc p) (edges_of ops)
edges_at p [] op e = absurd (cc)
edges_at zero (o ∷ ops) op e = let same : o ≡ op = cc in ap (λ x. edge_of x ∷ edges_of ops) same
edges_at (suc p) (o ∷ ops) op e = edges_at p ops op e

-- An op is where these blocks are open, and behind it come ops that end those that are open there.
pub record Stands (loops : ℕ) (edge : Edge) (behind : List Edge) : Type 0 where
  pub blocks : List Block
  pub count : loops_in blocks ≡ loops
  pub may : may_stand edge blocks ≡ true
  pub nests : Nests (blocks_past edge blocks) behind

pub stands_at : (loops p : ℕ) (ops : List Op) (op : Op) → AreOpenAt ops p loops → slice_get ops p ≡ Some op
    → Stands loops (edge_of op) (drop (p + 1) (edges_of ops))
stands_at loops p ops op h e =
    let n : Nests h.blocks (edge_of op ∷ drop (suc p) (edges_of ops)) = subst (Nests h.blocks) (edges_at p ops op e) h.nests in
    let next : drop (suc p) (edges_of ops) ≡ drop (p + 1) (edges_of ops) = rw add-one refl in
    record { blocks = h.blocks; count = h.count; may = n.0; nests = subst (Nests (blocks_past (edge_of op) h.blocks)) next n.1 }

-- how many loops are open behind an op, where this many are open before it and it doesn't jump
abbrev pub loops_past : ℕ → Edge → ℕ
loops_past loops OpensLoop = loops + 1
loops_past loops EndsLoop = loops - 1
loops_past loops _ = loops

abbrev pub nesting_past : ℕ → Op → ℕ
nesting_past loops op = loops_past loops (edge_of op)

counted_past : (e : Edge) (bs : List Block) → may_stand e bs ≡ true → loops_in (blocks_past e bs) ≡ loops_past (loops_in bs) e
counted_past OpensLoop bs m = omega arith
counted_past EndsLoop [] m = absurd (cc)
counted_past EndsLoop (block.Loop ∷ bs) m = omega arith
counted_past EndsLoop (block.If ∷ bs) m = absurd (cc)
counted_past EndsLoop (block.Else ∷ bs) m = absurd (cc)
counted_past OpensIf bs m = refl
counted_past OpensElse [] m = absurd (cc)
counted_past OpensElse (block.Loop ∷ bs) m = absurd (cc)
counted_past OpensElse (block.If ∷ bs) m = refl
counted_past OpensElse (block.Else ∷ bs) m = absurd (cc)
counted_past EndsIf [] m = absurd (cc)
counted_past EndsIf (block.Loop ∷ bs) m = absurd (cc)
counted_past EndsIf (block.If ∷ bs) m = refl
counted_past EndsIf (block.Else ∷ bs) m = refl
counted_past Breaks bs m = refl
counted_past Inside bs m = refl

-- behind an op that doesn't jump
pub nests_past : (loops p : ℕ) (ops : List Op) (op : Op) → AreOpenAt ops p loops
    → slice_get ops p ≡ Some op → AreOpenAt ops (p + 1) (nesting_past loops op)
nests_past loops p ops op h e =
    let t = stands_at loops p ops op h e in
    record {
      blocks = blocks_past (edge_of op) t.blocks;
      count = counted_past (edge_of op) t.blocks t.may ∙ ap (λ n. loops_past n (edge_of op)) t.count;
      nests = t.nests;
    }

-- an `end` is in a loop
pub no_end : (p : ℕ) (ops : List Op) → AreOpenAt ops p 0 → slice_get ops p ≡ Some End → ⊥
no_end p ops h e =
    let t = stands_at 0 p ops End h e in
    by_blocks t.blocks t.count t.may where
      by_blocks : (bs : List Block) → loops_in bs ≡ 0 → may_stand EndsLoop bs ≡ true → ⊥
      by_blocks [] c m = absurd (cc)
      by_blocks (block.Loop ∷ bs) c m = omega arith
      by_blocks (block.If ∷ bs) c m = absurd (cc)
      by_blocks (block.Else ∷ bs) c m = absurd (cc)

pub one_less : (loops : List Loop) → 0 < length loops → length loops - 1 ≡ length (drop 1 loops)
one_less [] l = absurd (omega arith)
one_less (l ∷ ls) lt = omega arith

pub without_first : (ops : List Op) (loops : List Loop) → LoopsNest ops loops → LoopsNest ops (drop 1 loops)
without_first ops [] h = tt
without_first ops (l ∷ ls) h = h.1

-- At the first op nothing is open.
pub open_at_first : (app : Application) → IsWellFormed app → (i : ℕ) → AreOpenAt (script_of app i) 0 0
open_at_first app formed i = record { blocks = []; count = refl; nests = (script_formed app formed i).nests }

pub used_none : (p : ℕ) (ops : List Op) → AllByRecursion InRange ops → IsUsedBy 0 (slice_get ops p)
used_none p [] h = tt
used_none zero ((Work n) ∷ ops) h = let low = least_work n h.0 in omega arith
used_none zero ((Delay n) ∷ ops) h = tt
used_none zero ((DelayUntil n) ∷ ops) h = tt
used_none zero (Yield ∷ ops) h = tt
used_none zero (Time ∷ ops) h = tt
used_none zero ((Mark n) ∷ ops) h = tt
used_none zero ((Expect c) ∷ ops) h = tt
used_none zero ((Repeat n) ∷ ops) h = tt
used_none zero (End ∷ ops) h = tt
used_none zero ((If c) ∷ ops) h = tt
used_none zero (Else ∷ ops) h = tt
used_none zero (EndIf ∷ ops) h = tt
used_none zero (Break ∷ ops) h = tt
used_none zero (Stamp ∷ ops) h = tt
used_none zero (Since ∷ ops) h = tt
used_none zero ((Await o a w) ∷ ops) h = tt
used_none zero ((Do o a) ∷ ops) h = tt
used_none zero ((GiveMutex o) ∷ ops) h = tt
used_none zero ((MessagesWaiting o) ∷ ops) h = tt
used_none zero ((SpacesAvailable o) ∷ ops) h = tt
used_none zero ((SetBits g m) ∷ ops) h = tt
used_none zero ((ClearBits g m) ∷ ops) h = tt
used_none zero ((GetBits g) ∷ ops) h = tt
used_none zero ((WaitBits g c w) ∷ ops) h = tt
used_none zero ((Notify j a) ∷ ops) h = tt
used_none zero ((AwaitNotification a w) ∷ ops) h = tt
used_none zero ((ClearNotification c) ∷ ops) h = tt
used_none zero ((Suspend j) ∷ ops) h = tt
used_none zero ((Resume j) ∷ ops) h = tt
used_none zero (SuspendAll ∷ ops) h = tt
used_none zero (ResumeAll ∷ ops) h = tt
used_none zero (EnterCritical ∷ ops) h = tt
used_none zero (ExitCritical ∷ ops) h = tt
used_none zero ((Value op) ∷ ops) h = tt
used_none zero ((op.Source handler what) ∷ ops) h = tt
used_none zero ((NextCommand o) ∷ ops) h = tt
used_none zero (Obey ∷ ops) h = tt
used_none (suc p) (o ∷ ops) h = used_none p ops h.1

-- its numbers are in their ranges
pub range_at : (p : ℕ) (ops : List Op) (op : Op) → AllByRecursion InRange ops → slice_get ops p ≡ Some op → InRange op
range_at p [] op h e = absurd (cc)
range_at zero (o ∷ ops) op h e = let same : o ≡ op = cc in rw (← same) h.0
range_at (suc p) (o ∷ ops) op h e = range_at p ops op h.1 e

known_in : (app : Application) (p : ℕ) (ops : List Op) (op : Op)
    → AllByRecursion (λ o. knows app o ≡ true) ops → slice_get ops p ≡ Some op → knows app op ≡ true
known_in app p [] op h e = absurd (cc)
known_in app zero (o ∷ ops) op h e = let same : o ≡ op = cc in rw (← same) h.0
known_in app (suc p) (o ∷ ops) op h e = known_in app p ops op h.1 e

known_of : (app : Application) (i p : ℕ) (ds : List Definition) (op : Op) → AllByRecursion (KnowsAll app) ds
    → slice_get (unwrap_or (option_map (λ (d : Definition). d.script) (slice_get ds i)) []) p ≡ Some op → knows app op ≡ true
known_of app i p [] op h e = absurd (cc)
known_of app zero p (d ∷ ds) op h e = known_in app p d.script op h.0 e
known_of app (suc i) p (d ∷ ds) op h e = known_of app i p ds op h.1 e

-- What is known of an op of a task: of one of the file, that the application has what it speaks of;
-- of one of the daemon, where it is.
abbrev pub Known : Application → (task op_index : ℕ) → Op → Type 0
Known app task op_index (NextCommand object) =
    (app.daemon ≡ Some task) × (op_index ≡ 0) × (fits_object {Item = ℕ} app object Receive ≡ true)
Known app task op_index Obey = (app.daemon ≡ Some task) × (op_index ≡ 1)
Known app task op_index op = knows app op ≡ true

known_if : (app : Application) (i p : ℕ) (op : Op) → knows app op ≡ true → Known app i p op
known_if app i p (Work n) e = e
known_if app i p (Delay n) e = e
known_if app i p (DelayUntil n) e = e
known_if app i p Yield e = e
known_if app i p Time e = e
known_if app i p (Mark n) e = e
known_if app i p (Expect c) e = e
known_if app i p (Repeat n) e = e
known_if app i p End e = e
known_if app i p (If c) e = e
known_if app i p Else e = e
known_if app i p EndIf e = e
known_if app i p Break e = e
known_if app i p Stamp e = e
known_if app i p Since e = e
known_if app i p (Await o a w) e = e
known_if app i p (Do o a) e = e
known_if app i p (GiveMutex o) e = e
known_if app i p (MessagesWaiting o) e = e
known_if app i p (SpacesAvailable o) e = e
known_if app i p (SetBits g m) e = e
known_if app i p (ClearBits g m) e = e
known_if app i p (GetBits g) e = e
known_if app i p (WaitBits g c w) e = e
known_if app i p (Notify j a) e = e
known_if app i p (AwaitNotification a w) e = e
known_if app i p (ClearNotification c) e = e
known_if app i p (Suspend j) e = e
known_if app i p (Resume j) e = e
known_if app i p SuspendAll e = e
known_if app i p ResumeAll e = e
known_if app i p EnterCritical e = e
known_if app i p ExitCritical e = e
known_if app i p (Value op) e = e
known_if app i p (op.Source handler what) e = e
known_if app i p (NextCommand o) e = absurd (cc)
known_if app i p Obey e = absurd (cc)

taken_at : {X : Type 0} (n i : ℕ) (xs : List X) → i < n → slice_get (take n xs) i ≡ slice_get xs i
taken_at zero i xs l = absurd (omega arith)
taken_at (suc n) i [] l = refl
taken_at (suc n) zero (x ∷ xs) l = refl
taken_at (suc n) (suc i) (x ∷ xs) l = taken_at n i xs (omega arith)

none_past : {X : Type 0} (i : ℕ) (xs : List X) → length xs ≤ i → slice_get xs i ≡ None
none_past i [] l = refl
none_past zero (x ∷ xs) l = absurd (omega arith)
none_past (suc i) (x ∷ xs) l = none_past i xs (omega arith)

pub known_at : (app : Application) → IsWellFormed app → (i p : ℕ) (op : Op) → op_at app i p ≡ Some op → Known app i p op
known_at app formed i p op is = by_daemon app.daemon refl formed.daemon formed.known where
  Has : Option Definition → Type 0
  Has o = slice_get (unwrap_or (option_map (λ (d : Definition). d.script) o) []) p ≡ Some op

  in_daemon : app.daemon ≡ Some i → fits_object {Item = ℕ} app (commands_of app) Receive ≡ true → (q : ℕ)
      → slice_get (NextCommand (commands_of app) ∷ Obey ∷ []) q ≡ Some op → Known app i q op
  in_daemon e fits zero at = let same : NextCommand (commands_of app) ≡ op = cc in subst (Known app i 0) same (e, refl, fits)
  in_daemon e fits (suc zero) at = let same : Obey ≡ op = cc in subst (Known app i 1) same (e, refl)
  in_daemon e fits (suc (suc q)) at = absurd (cc)

  by_daemon : (o : Option ℕ) → app.daemon ≡ o → IfSome o (IsDaemon app)
      → AllByRecursion (KnowsAll app) (of_file o app.tasks) → Known app i p op
  by_daemon None e d known = known_if app i p op (known_of app i p app.tasks op known is)
  by_daemon (Some n) e d known = by_test (ltb i n)
      (λ t.
      let at : slice_get (take n app.tasks) i ≡ slice_get app.tasks i = taken_at n i app.tasks (ltb-true i n t) in
      known_if app i p op (known_of app i p (take n app.tasks) op known (subst Has (sym at) is)))
      (λ t. by_test (eqb i n)
      (λ u.
      let same : i ≡ n = eqb-same i n u in
      let at : script_of app i ≡ NextCommand (commands_of app) ∷ Obey ∷ [] =
      subst (λ j. script_of app j ≡ NextCommand (commands_of app) ∷ Obey ∷ []) (sym same) d.script in
      in_daemon (e ∙ ap Some (sym same)) d.queue p (subst (λ ops. slice_get ops p ≡ Some op) at is))
      (λ u.
      let le : n ≤ i = ltb-false i n t in
      let apart : i ≢ n = (λ q. let w : eqb i n ≡ true = rw q (eqb-refl n) in absurd (cc)) in
      let last = d.last in
      let none : slice_get app.tasks i ≡ None = none_past i app.tasks (omega arith) in
      let f : Has None = subst Has none is in absurd (cc)))

isr_known_of : (app : Application) (i : ℕ) (hs : List Handler) → AllByRecursion (IsHandler app) hs
    → AllByRecursion (λ (op : IsrOp). knows_isr app op ≡ true) (unwrap_or (option_map (λ (h : Handler). h.ops) (slice_get hs i)) [])
isr_known_of app i [] a = tt
isr_known_of app zero (h ∷ hs) a = a.0.known
isr_known_of app (suc i) (h ∷ hs) a = isr_known_of app i hs a.1

-- the same of the ops of a handler
pub isr_known : (app : Application) → IsWellFormed app → (handler : ℕ)
    → AllByRecursion (λ (op : IsrOp). knows_isr app op ≡ true) (ops_of app handler)
isr_known app formed handler = isr_known_of app handler app.handlers formed.handlers
