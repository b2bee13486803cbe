-- Ops on values: what they answer, and what they change.
use Rattle.std.proofs.Common.{◌≡◌, ◌≢◌, ◌<◌, ◌+◌, ◌-◌, ◌*◌, ◌%◌, ◌/◌, ℕ, true, false, eqb, length, List, ◌∷◌, Option, Some, None}
use Rattle.std.proofs.Common.{refl, ap, ap₂, sym, subst, ◌∙◌, arith, get_or-set_same, ltb, ltb-false}
use Rattle.std.proofs.lemmas.Bool.{ltb-true}
use Rattle.std.proofs.Math.Nat.{add-mod_right, mod-eq_of_lt, mod-lt}
use Rattle.std.proofs.Math.ListN.{length-set}
use Rattle.std.proofs.lemmas.Nat.{div-add-mod'}
use Rattle.std.specs.Prelude.{if◌then◌else◌, option_and_then}
use Rattle.std.specs.Option.{IfSome, is_some, option_or}
use Rattle.model.specs.declared.event.End.{End}
use Rattle.model.specs.declared.event.End.TheVariants.{Check, HandlerCheck}
use Rattle.model.specs.declared.ids.VariableId.{VariableId}
use Rattle.model.specs.declared.event.Misuse.{Misuse}
use Rattle.model.specs.declared.op.IsrOp.{IsrOp}
use Rattle.model.specs.declared.op.Op.{Op}
use Rattle.model.specs.declared.value.Arithmetic.TheVariants.{Add, Sub, Div, Mod}
use Rattle.model.specs.declared.value.Value.{Value}
use Rattle.model.specs.declared.value.ValueOp.{ValueOp}
use Rattle.model.specs.declared.value.ValueOp.TheVariants.{Load, Store}
use Rattle.model.specs.Application.{Application, Limits, op_at}
use Rattle.model.specs.Handlers.{is_failed, isr_each}
use Rattle.model.specs.Ops.{answer, calculate, called, fail, go_to, store}
use Rattle.model.specs.State.{State, Progress, Status, Ready, Awake, Waiting, Asleep, WaitingForBits, WaitingForNotification}
use Rattle.model.specs.State.{Suspended, Ended}
use Rattle.model.specs.State.{progress_at, status_at}
use Rattle.model.specs.State.{ticket_if_ready}
use Rattle.model.specs.Step.{act_current, is_ended, judge, lacks_value, misuse, misused}
use Rattle.model.specs.Switching.{is_ready, write}
use Rattle.model.specs.Values.{answer_of, computed, stored, value_of, variable_in}
use Rattle.model.proofs.Sorting.{by_test}
use Rattle.laws.proofs.Blocks.{at-go_to}

-- ---- ops without a value

ready_goes_on : (status : Status) → is_some (ticket_if_ready status) ≡ true → is_ended status ≡ false
ready_goes_on (Ready n) h = refl
ready_goes_on (Awake w) h = refl
ready_goes_on (Waiting w) h = refl
ready_goes_on (Asleep w n) h = refl
ready_goes_on (WaitingForBits g n d) h = refl
ready_goes_on (WaitingForNotification n d) h = refl
ready_goes_on Suspended h = refl
ready_goes_on Ended h = absurd (cc)

pub not_done : (app : Application) (limits : Limits) (i : ℕ) (op : Op) (s : State) → is_ready s i ≡ true
    → op_at app i (progress_at s i).op_index ≡ Some op → misuse s i op ≡ None → lacks_value s i op ≡ true
    → act_current app limits (Some i) s ≡ fail (Check i (progress_at s i).op_index) s
unfolding judge
not_done app limits i op s ready is fits lacks =
    rw is (rw fits (rw lacks (rw (ready_goes_on (status_at s i) ready) refl)))

pub misuse_alone : (app : Application) (limits : Limits) (i : ℕ) (op : Op) (kind : Misuse) (s : State)
    → op_at app i (progress_at s i).op_index ≡ Some op → misuse s i op ≡ Some kind
    → act_current app limits (Some i) s ≡ misused i (progress_at s i).op_index kind s
misuse_alone app limits i op kind s is fits = rw is (rw fits refl)

pub ends_the_handler : (app : Application) (handler op_index : ℕ) (op : IsrOp) (answer : Option ℕ) (ops : List IsrOp) (s : State)
    → is_failed s op answer ≡ true
    → isr_each app handler op_index 0 answer (op ∷ ops) s ≡ fail (HandlerCheck handler op_index) s
ends_the_handler app handler op_index op answer ops s h = rw h refl

pub ends_the_run : (check : End) (s : State) → s.stopped ≡ None → (fail check s).stopped ≡ Some check
ends_the_run check s none = rw none refl

pub first_counts : (check end : End) (s : State) → s.stopped ≡ Some end → fail check s ≡ s
first_counts check end s some =
    let same : option_or s.stopped (Some check) ≡ s.stopped = rw some refl in
    ap (λ o. record s { stopped = o }) same

-- ---- loads and stores

-- what an op on values answers
pub answers_value : (app : Application) (i : ℕ) (op : ValueOp) (s : State) → i < length s.tasks
    → (progress_at (calculate app i op s) i).answer ≡ answer_of s.variables (progress_at s i).answer op
unfolding calculate answer
answers_value app i op s l =
    let a : Option ℕ = answer_of s.variables (progress_at s i).answer op in
    let t : State = store op a s in
    let p : Progress = record (progress_at s i) { answer = a } in
    ap (λ (q : Progress). q.answer) (at-go_to app i (p.op_index + 1) p (write (called i p.op_index a) t) l)

-- what the variables are after it
after_value : (app : Application) (i : ℕ) (op : ValueOp) (s : State)
    → (calculate app i op s).variables ≡ stored op (answer_of s.variables (progress_at s i).answer op) s.variables
unfolding calculate answer go_to
after_value app i op s = refl

-- there are as many tasks after it
as_many : (app : Application) (i : ℕ) (op : ValueOp) (s : State) → length (calculate app i op s).tasks ≡ length s.tasks
unfolding calculate answer go_to
as_many app i op s = length-set s.tasks i _

stored_there : (x : VariableId) (value : Value) (a : Option ℕ) (n : ℕ) (variables : List ℕ) → x.number < length variables
    → a ≡ Some n → variable_in (stored (Store x value) a variables) x.number ≡ n
stored_there x value a n variables l is = rw is (get_or-set_same variables x.number n 0 l)

pub loaded : (app : Application) (i j n : ℕ) (x : VariableId) (value : Value) (s : State) → j < length s.tasks
    → x.number < length s.variables → value_of s.variables (progress_at s i).answer value ≡ Some n
    → (progress_at (calculate app j (Load x) (calculate app i (Store x value) s)) j).answer ≡ Some n
loaded app i j n x value s l there is =
    let t : State = calculate app i (Store x value) s in
    let within : j < length t.tasks = rw (as_many app i (Store x value) s) l in
    answers_value app j (Load x) t within
    ∙ ap (λ variables. Some (variable_in variables x.number)) (after_value app i (Store x value) s)
    ∙ ap Some (stored_there x value (value_of s.variables (progress_at s i).answer value) n s.variables there is)

-- ---- arithmetic

pub below_2_32 : (a b : ℕ) → IfSome (computed Add a b) (λ n. n < 4294967296)
below_2_32 a b = mod-lt (a + b) (omega arith)

pub gives_back : (a b : ℕ) → a < 4294967296 → b < 4294967296
    → option_and_then (λ sum. computed Sub sum b) (computed Add a b) ≡ Some a
gives_back a b l m = ap Some (by_test (ltb (a + b) 4294967296)
    (λ t.
    let less : a + b < 4294967296 = ltb-true (a + b) 4294967296 t in
    let sum : (a + b) % 4294967296 ≡ a + b = mod-eq_of_lt less in
    let back : a + b + 4294967296 - b ≡ a + 4294967296 = omega arith in
    rw (sum, back) (add-mod_right a 4294967296 ∙ mod-eq_of_lt l))
    (λ t.
    let more = ltb-false (a + b) 4294967296 t in
    let over : a + b ≡ a + b - 4294967296 + 4294967296 = omega arith in
    let sum : (a + b) % 4294967296 ≡ a + b - 4294967296 =
    ap (λ n. n % 4294967296) over ∙ add-mod_right (a + b - 4294967296) 4294967296 ∙ mod-eq_of_lt (omega arith) in
    let back : a + b - 4294967296 + 4294967296 - b ≡ a = omega arith in
    rw (sum, back) (mod-eq_of_lt l)))

pub fit_together : (a b quotient rest : ℕ) → computed Div a b ≡ Some quotient → computed Mod a b ≡ Some rest
    → (a ≡ quotient * b + rest) × (rest < b)
fit_together a b quotient rest d m = by_test (eqb b 0)
    (λ t.
    let none : None ≡ Some quotient = subst (λ z. (if z then None else Some (a / b)) ≡ Some quotient) t d in absurd (cc))
    (λ t.
    let q : Some (a / b) ≡ Some quotient = subst (λ z. (if z then None else Some (a / b)) ≡ Some quotient) t d in
    let r : Some (a % b) ≡ Some rest = subst (λ z. (if z then None else Some (a % b)) ≡ Some rest) t m in
    let same_quotient : a / b ≡ quotient = cc in
    let same_rest : a % b ≡ rest = cc in
    let some : b ≢ 0 = (λ e. let f : eqb b 0 ≡ true = rw e refl in absurd (cc)) in (
      sym (div-add-mod' a b) ∙ ap₂ (λ x y. x * b + y) same_quotient same_rest,
      subst (λ n. n < b) same_rest (mod-lt a (omega arith)),
    ))
