-- Ops that an application knows if it has given objects, two event groups, four variables, four tasks of the file and three
-- handlers.
use Rattle.std.proofs.Common.{◌≡◌, ◌&&◌, not, ◌≤◌, ◌<◌, ◌+◌, ℕ, Bool, ap, arith, length, length-append, refl, true, false, List, []}
use Rattle.std.proofs.Common.{◌∷◌, ◌++◌, Option, Some, None, sym, subst}
use Rattle.std.specs.Prelude.{Result, Ok, Err, IfOk, IsTrue, OnOk, OnErr, filter, is_ok, nat_eq, nat_lt, unwrap_or, if◌then◌else◌}
use Rattle.std.specs.List.{AllByRecursion}
use Rattle.std.specs.Option.{is_some}
use Rattle.std.specs.Result.{result_ok}
use Rattle.model.specs.declared.object.ObjectKind.{ObjectKind}
use Rattle.model.specs.declared.block.Block.{Block}
use Rattle.model.specs.declared.op.Op.{Op}
use Rattle.model.specs.Blocks.{Nests, edge_of, isr_edges_of, ending, ends_loop, is_innermost, is_loop, open_behind}
use Rattle.std.proofs.lemmas.Bool.{lt-ltb}
use Rattle.std.proofs.lemmas.List.{length-map}
use Rattle.model.specs.declared.op.Command.{Command}
use Rattle.model.specs.declared.op.IsrOp.{IsrOp}
use Rattle.model.specs.declared.op.IsrOp.TheVariants as isr
use Rattle.model.specs.declared.op.Op.TheVariants as op
use Rattle.model.specs.declared.ids.VariableId.{VariableId}
use Rattle.model.specs.declared.source.SourceOp.{SourceOp}
use Rattle.model.specs.declared.answer.AnswerCondition.{AnswerCondition}
use Rattle.model.specs.declared.answer.AnswerCondition.TheVariants.{Is, IsNot, Below, Above}
use Rattle.model.specs.declared.value.Value.{Value}
use Rattle.model.specs.declared.value.Value.TheVariants.{Number, Answer, Variable}
use Rattle.model.specs.declared.value.Arithmetic.{Arithmetic}
use Rattle.model.specs.declared.value.ValueOp.{ValueOp}
use Rattle.model.specs.declared.value.ValueOp.TheVariants.{Load, Store, Compute}
use Rattle.model.specs.Application.{Application, Definition, Handler, Interrupt, interrupts_at, of_file}
use Rattle.model.specs.Scripts.{IsHandler, IsInterrupt, KnowsAll, is_defined, is_mask, knows, knows_isr, most_handler_ops}
use Rattle.model.specs.Scripts.{is_near, most_apart, most_name_bytes}
use Rattle.model.proofs.Nesting.{all-append}
use Rattle.model.proofs.Sorting.{by_test}
use Rattle.random_apps.specs.Known.{AreInterrupts, AreKnown, AreKnownValues, IsKnown, IsKnownAnswer, IsKnownCondition}
use Rattle.random_apps.specs.Known.{IsKnownHandler, IsKnownIsr, IsKnownIsrWith, IsKnownValue}

-- an `end` is known, whatever it ends
known-ending : (objects : List ObjectKind) (blocks : List Block) (op : Op) → IsKnown objects op → IsKnown objects (ending blocks op)
known-ending objects blocks op k = by_test (ends_loop (edge_of op) && is_innermost (λ b. not (is_loop b)) blocks)
    (λ t. rw t (λ app same two four more three. refl))
    (λ t. rw t k)

-- a script to which an op was pushed, or not
pub known-pushed : {A B : Type 0} (objects : List ObjectKind) (old new : List Op) (op : Op) (result : Result A B)
    → OnOk result (new ≡ old ++ ending (open_behind old) op ∷ [])
    → OnErr result (new ≡ old) → AreKnown objects old → IsKnown objects op
    → AreKnown objects new
known-pushed objects old new op (Ok x) ok err h k =
    let pushed : Op = ending (open_behind old) op in
    let is : IsKnown objects pushed = known-ending objects (open_behind old) op k in
    subst (AreKnown objects) (sym ok)
    (λ app same two four more three.
    all-append (λ op. knows app op ≡ true) old pushed (h app same two four more three) (is app same two four more three))
known-pushed objects old new op (Err e) ok err h k = subst (AreKnown objects) (sym err) h

pub few-pushed : {A B : Type 0} (old new : List Op) (op : Op) (result : Result A B)
    → OnOk result (new ≡ old ++ ending (open_behind old) op ∷ []) → OnErr result (new ≡ old) → length new ≤ length old + 1
few-pushed old new op (Ok x) ok err = let n = ap length ok in omega (arith, n, length-append old (ending (open_behind old) op ∷ []))
few-pushed old new op (Err e) ok err = let n = ap length err in omega (arith, n)

-- such an application knows all ops of such tasks
pub known_all : (app : Application) → app.group_count ≡ 2 → length (of_file app.daemon app.tasks) ≡ 4
    → 4 ≤ length app.variables → length app.handlers ≡ 3 → (tasks : List Definition)
    → AllByRecursion (λ (d : Definition). AreKnown app.objects d.script) tasks → AllByRecursion (KnowsAll app) tasks
known_all app two four more three [] h = tt
known_all app two four more three (d ∷ ds) h = (h.0 app refl two four more three, known_all app two four more three ds h.1)

-- ---- groups and tasks

-- one of two event groups
pub knows_group : (app : Application) (group : ℕ) → app.group_count ≡ 2 → group < 2 → nat_lt group app.group_count ≡ true
knows_group app group two first = lt-ltb group app.group_count (omega arith)

-- one of four tasks of the file
pub knows_task : (app : Application) (task : ℕ) → length (of_file app.daemon app.tasks) ≡ 4 → task < 4
    → nat_lt task (length (of_file app.daemon app.tasks)) ≡ true
knows_task app task four first = lt-ltb task (length (of_file app.daemon app.tasks)) (omega arith)

-- one of three handlers
has_handler : (app : Application) (handler : ℕ) → length app.handlers ≡ 3 → handler < 3
    → nat_lt handler (length app.handlers) ≡ true
has_handler app handler three first = lt-ltb handler (length app.handlers) (omega arith)

pub known_source : (objects : List ObjectKind) (handler : ℕ) (what : SourceOp) → handler < 3
    → IsKnown objects (op.Source handler what)
known_source objects handler what first app same two four more three = has_handler app handler three first

pub known_isr_source : (objects : List ObjectKind) (handler : ℕ) (what : SourceOp) → handler < 3 → is_near what ≡ true
    → IsKnownIsr objects (isr.Source handler what)
known_isr_source objects handler what first near app same two four more three =
    rw (has_handler app handler three first, near) refl

-- ---- values

pub known_number : (number : ℕ) → IsKnownValue (Number number)
known_number number app more = refl

pub known_answer : IsKnownValue Answer
known_answer app more = refl

-- one of four variables
has_one : (app : Application) (number : ℕ) → number < 4 → 4 ≤ length app.variables → nat_lt number (length app.variables) ≡ true
has_one app number first more = lt-ltb number (length app.variables) (omega arith)

pub known_variable : (variable : VariableId) → variable.number < 4 → IsKnownValue (Variable variable)
known_variable variable first app more = has_one app variable.number first more

pub known_none : IsKnownAnswer None
known_none app more = refl

pub known_some : (value : Value) → IsKnownValue value → IsKnownAnswer (Some value)
known_some value known app more = known app more

pub known_is : (wanted : Option Value) → IsKnownAnswer wanted → IsKnownCondition (Is wanted)
known_is wanted known app more = known app more

pub known_is_not : (other : Option Value) → IsKnownAnswer other → IsKnownCondition (IsNot other)
known_is_not other known app more = known app more

pub known_below : (bound : Value) → IsKnownValue bound → IsKnownCondition (Below bound)
known_below bound known app more = known app more

pub known_above : (bound : Value) → IsKnownValue bound → IsKnownCondition (Above bound)
known_above bound known app more = known app more

pub known_load : (variable : VariableId) → variable.number < 4 → AreKnownValues (Load variable)
known_load variable first app more = has_one app variable.number first more

pub known_store : (variable : VariableId) (value : Value) → variable.number < 4 → IsKnownValue value
    → AreKnownValues (Store variable value)
known_store variable value first known app more = rw (has_one app variable.number first more, known app more) refl

pub known_result : (kind : Arithmetic) (value : Value) → IsKnownValue value → AreKnownValues (Compute kind value)
known_result kind value known app more = known app more

-- ---- ops with values

pub known_expect : (objects : List ObjectKind) (condition : AnswerCondition) → IsKnownCondition condition
    → IsKnown objects (op.Expect condition)
known_expect objects condition known app same two four more three = known app more

pub known_if : (objects : List ObjectKind) (condition : AnswerCondition) → IsKnownCondition condition
    → IsKnown objects (op.If condition)
known_if objects condition known app same two four more three = known app more

pub known_values : (objects : List ObjectKind) (values : ValueOp) → AreKnownValues values → IsKnown objects (op.Value values)
known_values objects values known app same two four more three = known app more

pub known_isr_expect : (objects : List ObjectKind) (condition : AnswerCondition) → IsKnownCondition condition
    → IsKnownIsr objects (isr.Expect condition)
known_isr_expect objects condition known app same two four more three = known app more

pub known_isr_if : (objects : List ObjectKind) (condition : AnswerCondition) → IsKnownCondition condition
    → IsKnownIsr objects (isr.If condition)
known_isr_if objects condition known app same two four more three = known app more

pub known_isr_values : (objects : List ObjectKind) (values : ValueOp) → AreKnownValues values → is_defined values ≡ true
    → IsKnownIsr objects (isr.Value values)
known_isr_values objects values known defined app same two four more three = rw (known app more, defined) refl

-- ---- handlers

-- a command of one of two event groups, if there is a daemon
pub known_command : (app : Application) (has_daemon : Bool) (c : Command) → is_some app.daemon ≡ has_daemon → IsTrue has_daemon
    → app.group_count ≡ 2 → c.group < 2 → is_mask c.mask ≡ true → knows_isr app (isr.Command c) ≡ true
known_command app true c has is two first mask = rw (has, knows_group app c.group two first, mask) refl
known_command app false c has is two first mask = absurd (cc)

known_ops : (app : Application) (has_daemon : Bool) (objects : List ObjectKind) → app.objects ≡ objects → app.group_count ≡ 2
    → length (of_file app.daemon app.tasks) ≡ 4 → 4 ≤ length app.variables → length app.handlers ≡ 3
    → is_some app.daemon ≡ has_daemon → (ops : List IsrOp)
    → AllByRecursion (IsKnownIsrWith has_daemon objects) ops → AllByRecursion (λ op. knows_isr app op ≡ true) ops
known_ops app has_daemon objects same two four more three has [] h = tt
known_ops app has_daemon objects same two four more three has (op ∷ ops) h =
    (h.0 app same two four more three has, known_ops app has_daemon objects same two four more three has ops h.1)

-- a handler with a short name, few ops that nest and are known, and a minimum distance within its limit
pub known_handler : (has_daemon : Bool) (objects : List ObjectKind) (handler : Handler) → length handler.name ≤ most_name_bytes
    → length handler.ops ≤ most_handler_ops → handler.apart ≤ most_apart → Nests [] (isr_edges_of handler.ops)
    → AllByRecursion (IsKnownIsrWith has_daemon objects) handler.ops
    → IsKnownHandler has_daemon objects handler
known_handler has_daemon objects handler name few near nests known app same two four more three has = record {
  name = name;
  few = few;
  near = near;
  nests = nests;
  known = known_ops app has_daemon objects same two four more three has handler.ops known;
}

pub are_handlers : (app : Application) (has_daemon : Bool) (objects : List ObjectKind) → app.objects ≡ objects → app.group_count ≡ 2
    → length (of_file app.daemon app.tasks) ≡ 4 → 4 ≤ length app.variables → length app.handlers ≡ 3
    → is_some app.daemon ≡ has_daemon → (handlers : List Handler)
    → AllByRecursion (IsKnownHandler has_daemon objects) handlers → AllByRecursion (IsHandler app) handlers
are_handlers app has_daemon objects same two four more three has [] h = tt
are_handlers app has_daemon objects same two four more three has (handler ∷ handlers) h =
    (h.0 app same two four more three has, are_handlers app has_daemon objects same two four more three has handlers h.1)

-- ---- base interrupts

up_to_more : (m n : ℕ) → m ≤ n → (is : List Interrupt) → AllByRecursion (λ (i : Interrupt). i.tick ≤ m) is
    → AllByRecursion (λ (i : Interrupt). i.tick ≤ n) is
up_to_more m n more [] h = tt
up_to_more m n more (i ∷ is) h = (let here = h.0 in omega arith, up_to_more m n more is h.1)

pub none_yet : (tick : ℕ) → AreInterrupts tick []
none_yet tick = record { first = tt; last = tt; known = tt }

-- one more, which is not before that tick
pub one_more : (tick : ℕ) (is : List Interrupt) (i : Interrupt) → AreInterrupts tick is → 1 ≤ i.tick → tick ≤ i.tick → i.handler < 3
    → AreInterrupts i.tick (is ++ i ∷ [])
one_more tick is i h first later known =
    let before = up_to_more tick i.tick later is h.last in
    record {
      first = all-append (λ (j : Interrupt). 1 ≤ j.tick) is i h.first first;
      last = all-append (λ (j : Interrupt). j.tick ≤ i.tick) is i before (omega arith);
      known = all-append (λ (j : Interrupt). j.handler < 3) is i h.known known;
    }

-- the same, with a later bound
pub up_to_later : (m n : ℕ) → m ≤ n → (is : List Interrupt) → AreInterrupts m is → AreInterrupts n is
up_to_later m n more is h = record {
  first = h.first;
  last = up_to_more m n more is h.last;
  known = h.known;
}

pub are_interrupts : (app : Application) → length app.handlers ≡ 3 → (is : List Interrupt)
    → AllByRecursion (λ (i : Interrupt). 1 ≤ i.tick) is → AllByRecursion (λ (i : Interrupt). i.tick ≤ 800001) is
    → AllByRecursion (λ (i : Interrupt). i.handler < 3) is → AllByRecursion (IsInterrupt app) is
are_interrupts app three [] first last known = tt
are_interrupts app three (i ∷ is) first last known = (
  record {
    first = first.0;
    last = let here = last.0 in omega arith;
    handler = subst (λ n. i.handler < n) (sym three) known.0;
  },
  are_interrupts app three is first.1 last.1 known.1,
)

few_pass : (p : Interrupt → Bool) (is : List Interrupt) → length (filter p is) ≤ length is
few_pass p [] = omega arith
few_pass p (i ∷ is) = by_test (p i)
    (λ t. let others = few_pass p is in rw t (omega arith))
    (λ t. let others = few_pass p is in rw t (omega arith))

-- at one tick there are at most as many as in all
pub few_at : (app : Application) (tick : ℕ) → length (interrupts_at app tick) ≤ length app.interrupts
few_at app tick =
    let passing = few_pass (λ (i : Interrupt). nat_eq i.tick tick) app.interrupts in
    let same = length-map (filter (λ (i : Interrupt). nat_eq i.tick tick) app.interrupts) (λ (i : Interrupt). i.handler) in
    omega arith

-- ---- the value of a call that succeeds

pub of_ok : {T E : Type 0} (r : Result T E) (P : T → Type 0) (x : T) → Some x ≡ result_ok r → IfOk r P → P x
of_ok {T} (Ok y) P x e h = subst P (sym (ap (λ (o : Option T). unwrap_or o x) e)) h
of_ok {T} (Err y) P x e h = let f = ap (λ (o : Option T). is_some o) e in absurd (cc)

-- the list after a call that could have failed and did not
pub if_ok : {T E X : Type 0} (r : Result T E) (new more old : X) (x : T)
    → Some x ≡ result_ok r → new ≡ (if is_ok r then more else old) → new ≡ more
if_ok (Ok y) new more old x e h = h
if_ok {T} (Err y) new more old x e h = let f = ap (λ (o : Option T). is_some o) e in absurd (cc)
