-- A call on a queue: what it makes of the states that the kernel represents, whether or not a task is still to be placed.
use Rattle.std.proofs.Common.{IfSome, length, ◌≡◌, ◌<◌, ℕ, zero, suc, Bool, true, false, List, [], ◌∷◌, set, Option, Some, None}
use Rattle.std.proofs.Common.{refl, ap, sym, subst, ◌∙◌, arith}
use Rattle.model.specs.declared.call.WaitList.{WaitList}
use Rattle.model.specs.declared.op.Access.{Access}
use Rattle.model.specs.declared.op.Access.TheVariants.{Send, SendFront, Overwrite, Receive, Peek, Take, Give, Lock}
use Rattle.model.specs.declared.event.Event.{Event}
use Rattle.model.specs.State.{State, Object, object_at, with_object, for_one, Progress, call_at}
use Rattle.model.specs.Waiting.{wake_best}
use Rattle.model.specs.Objects.{allows, object_after, list_woken, possible, answer_to, reply, fulfil, attempt}
use Rattle.objects.specs.Items.{object_in}
use Rattle.objects.specs.WaitersStand.{Decider}
use Rattle.objects.specs.Objects as objects
use Rattle.objects.specs.Objects.{CanHold, Objects}
use Rattle.machine.specs.declared.machine.Machine.{Machine}
use Rattle.machine.specs.StandsFor.{Stands, At, AtAny, decider, DoesAny, progress_in}
use Rattle.machine.specs.StandsFor.Stands.{Placed, Placing}
use Rattle.machine.specs.Can.{HasRoom, StandsForSome, Leaves}
use Rattle.ops.specs.Can.{IsCaller}
use Rattle.ops.specs.InCall.{without_item}
use Rattle.ops.proofs.Before.{stored_before}
use Rattle.machine.proofs.Either.{any, either, progress_is}
use Rattle.ops.proofs.Waits.{stored_at}
use Rattle.model.specs.declared.call.Phase.{Phase}
use Rattle.model.specs.Application.{Application}
use Rattle.model.specs.Calls.{await, decide}
use Rattle.machine.specs.Logged.{Logged}
use Rattle.std.proofs.Common.{◌+◌, get_or, slice_set, option_map}
use Rattle.model.specs.declared.value.Value.{Value}
use Rattle.model.specs.State.{Task, no_task, progress_at, task_at}
use Rattle.model.specs.Step.{call_with_number}
use Rattle.model.specs.Values.{with_number}
use Rattle.model.specs.Waiting.{set_deadline}

-- ---- what is in an object

pub objects_are : (k : Machine) (s : State) → Stands k s → (o : ℕ) → object_in k.objects.objects o ≡ object_at s o
objects_are k s (Placed h) o = h.rest.objects.objects o
objects_are k s (Placing task list b) o = b.objects.objects o

pub answers : (k : Machine) (s : State) (o : ℕ) (a : Access ℕ) (given : Option ℕ)
    → Stands k s → given ≡ reply (object_in k.objects.objects o) a → given ≡ answer_to s o a
answers k s o a given h e = e ∙ ap (λ (x : Object). reply x a) (objects_are k s h o)

pub is_possible : (k : Machine) (s : State) (o : ℕ) (a : Access ℕ) (b : Bool)
    → Stands k s → allows (object_in k.objects.objects o) a ≡ b → possible s o a ≡ b
is_possible k s o a b h e = ap (λ (x : Object). allows x a) (sym (objects_are k s h o)) ∙ e

-- ---- what doesn't depend on a call's item

allowed_alike : (o : Object) (variables : List ℕ) (answer : Option ℕ) (a : Access Value)
    → allows o (without_item a) ≡ allows o (with_number variables answer a)
allowed_alike o variables answer (Send v) = refl
allowed_alike o variables answer (SendFront v) = refl
allowed_alike o variables answer (Overwrite v) = refl
allowed_alike o variables answer Receive = refl
allowed_alike o variables answer Peek = refl
allowed_alike o variables answer Take = refl
allowed_alike o variables answer Give = refl
allowed_alike o variables answer Lock = refl

-- whether it is possible
pub allowed_by_number : (o : Object) (variables : List ℕ) (answer : Option ℕ) (a : Access Value) (any_item : Access ℕ) (b : Bool)
    → any_item ≡ without_item a → allows o any_item ≡ b → allows o (with_number variables answer a) ≡ b
allowed_by_number o variables answer a any_item b e h =
    sym (allowed_alike o variables answer a) ∙ ap (λ (x : Access ℕ). allows o x) (sym e) ∙ h

-- what it returns if it is not
pub replied_alike : (o : Object) (variables : List ℕ) (answer : Option ℕ) (a : Access Value)
    → reply o (without_item a) ≡ reply o (with_number variables answer a)
replied_alike o variables answer (Send v) = refl
replied_alike o variables answer (SendFront v) = refl
replied_alike o variables answer (Overwrite v) = refl
replied_alike o variables answer Receive = refl
replied_alike o variables answer Peek = refl
replied_alike o variables answer Take = refl
replied_alike o variables answer Give = refl
replied_alike o variables answer Lock = refl

-- and how it decides
pub decided_alike : (task object : ℕ) (variables : List ℕ) (answer : Option ℕ) (a : Access Value) (s : State)
    → decide task object (without_item a) s ≡ decide task object (with_number variables answer a) s
unfolding decide
decided_alike task object variables answer (Send v) s = refl
decided_alike task object variables answer (SendFront v) s = refl
decided_alike task object variables answer (Overwrite v) s = refl
decided_alike task object variables answer Receive s = refl
decided_alike task object variables answer Peek s = refl
decided_alike task object variables answer Take s = refl
decided_alike task object variables answer Give s = refl
decided_alike task object variables answer Lock s = refl

-- ---- for what there is room

same_size : (caller : Option ℕ) (a : Access ℕ) (x : Object) → (object_after caller a x).size ≡ x.size
same_size caller (Send n) x = refl
same_size caller (SendFront n) x = refl
same_size caller (Overwrite n) x = refl
same_size caller Receive x = refl
same_size caller Peek x = refl
same_size caller Take x = refl
same_size caller Give x = refl
same_size caller Lock x = refl

-- there is room for what a call puts in, whatever is in it
room_by_size : (a : Access ℕ) (x y : Object) → y.size ≡ x.size → CanHold a x → CanHold a y
room_by_size (Overwrite n) x y e h = rw e h
room_by_size (Send n) x y e h = tt
room_by_size (SendFront n) x y e h = tt
room_by_size Receive x y e h = tt
room_by_size Peek x y e h = tt
room_by_size Take x y e h = tt
room_by_size Give x y e h = tt
room_by_size Lock x y e h = tt

size_set : (os : List Object) (o j : ℕ) (x : Object) → x.size ≡ (object_in os o).size
    → (object_in (set os o x) j).size ≡ (object_in os j).size
size_set [] o j x e = refl
size_set (y ∷ ys) zero zero x e = e
size_set (y ∷ ys) zero (suc j) x e = refl
size_set (y ∷ ys) (suc o) zero x e = refl
size_set (y ∷ ys) (suc o) (suc j) x e = size_set ys o j x e

pub room_still : (k : Machine) (q : Objects) (caller : Option ℕ) (o : ℕ) (a : Access ℕ)
    → q ≡ record k.objects { objects = set k.objects.objects o (object_after caller a (object_in k.objects.objects o)) }
    → (j : ℕ) (b : Access ℕ) → HasRoom k j b → HasRoom (record k { objects = q }) j b
room_still k q caller o a is j b room = (
  let same = ap (λ (v : Objects). v.number) is in let below = room.0 in omega (arith, same, below),
  room_by_size b (object_in k.objects.objects j) (object_in q.objects j)
      (ap (λ (v : Objects). (object_in v.objects j).size) is
      ∙ size_set k.objects.objects o j (object_after caller a (object_in k.objects.objects o))
      (same_size caller a (object_in k.objects.objects o)))
      room.1,
)

-- ---- the object changes

-- who makes the call is a task, or none
pub caller_within : (k : Machine) (s : State) → Stands k s → (caller : Option ℕ)
    → IsCaller k caller → IfSome caller (λ i. i < length s.tasks)
caller_within k s h None r = tt
caller_within k s (Placed h) (Some i) r =
    let L : Option ℕ → Type 0 = λ o. IfSome o (λ j. j < length s.tasks) in
    subst L (sym h.sched.current ∙ r) h.sched.table.current
caller_within k s (Placing task list b) (Some i) r =
    let L : Option ℕ → Type 0 = λ o. IfSome o (λ j. j < length s.tasks) in
    subst L (sym b.sched.current ∙ r) b.sched.table.current

module _ (k : Machine) (q : Objects) (caller : Option ℕ) (o : ℕ) (a : Access ℕ) (calls : IsCaller k caller)
    (stores : (s : State) (d : Option Decider) → objects.StandsFor k.objects d s → IfSome caller (λ i. i < length s.tasks)
    → objects.StandsFor q d (with_object o (object_after caller a (object_at s o)) s)) where
  abbrev stored : State → State
  stored s = with_object o (object_after caller a (object_at s o)) s

  pub stored_placed : (log : List Event) (s : State) → At k log s
      → At (record k { objects = q }) log (with_object o (object_after caller a (object_at s o)) s)
  stored_placed log s p =
      stored_at k log s p o (object_after caller a (object_at s o)) q
      (stores s None p.stands.rest.objects (caller_within k s (Placed p.stands) caller calls))

  pub stored_any : (log : List Event) (s : State) → AtAny k log s
      → AtAny (record k { objects = q }) log (with_object o (object_after caller a (object_at s o)) s)
  stored_any log s h = either k log s h
      (λ p. any (record k { objects = q }) log (stored s) (stored_placed log s p))
      (λ task list b.
      record {
        stands =
            Placing task list (stored_before task list k s b o (object_after caller a (object_at s o)) q
            (stores s (Some (decider task list s)) b.objects (caller_within k s h.stands caller calls)));
        log = h.log;
      })

  pub stored_some : StandsForSome k → StandsForSome (record k { objects = q })
  stored_some h = let there = stored_any (h.0).log h.0 (record { stands = h.1; log = refl }) in (stored h.0, there.stands)

  -- and one waiter is woken, or nobody
  module _ (new : Machine) (log : List Event) (s : State) where
    pub fulfilled : (list : WaitList) → Some list ≡ list_woken caller o a
        → At new log (wake_best list (with_object o (object_after caller a (object_at s o)) s)) → At new log (fulfil caller o a s)
    unfolding fulfil
    fulfilled list is h = subst (λ (x : Option WaitList). At new log (for_one wake_best x (stored s))) is h

    pub fulfilled_any : (list : WaitList) → Some list ≡ list_woken caller o a
        → AtAny new log (wake_best list (with_object o (object_after caller a (object_at s o)) s))
        → AtAny new log (fulfil caller o a s)
    unfolding fulfil
    fulfilled_any list is h = subst (λ (x : Option WaitList). AtAny new log (for_one wake_best x (stored s))) is h

    pub fulfilled_none : None ≡ list_woken caller o a
        → At new log (with_object o (object_after caller a (object_at s o)) s) → At new log (fulfil caller o a s)
    unfolding fulfil
    fulfilled_none is h = subst (λ (x : Option WaitList). At new log (for_one wake_best x (stored s))) is h

    pub fulfilled_none_any : None ≡ list_woken caller o a
        → AtAny new log (with_object o (object_after caller a (object_at s o)) s) → AtAny new log (fulfil caller o a s)
    unfolding fulfil
    fulfilled_none_any is h = subst (λ (x : Option WaitList). AtAny new log (for_one wake_best x (stored s))) is h

-- ---- it is done if it is possible

module _ (new : Machine) (log : List Event) (s : State) (caller : Option ℕ) (o : ℕ) (a : Access ℕ) where
  pub attempted : possible s o a ≡ true → At new log (fulfil caller o a s) → At new log (attempt caller o a s)
  unfolding attempt
  attempted t h = rw t h

  pub attempted_any : possible s o a ≡ true → AtAny new log (fulfil caller o a s) → AtAny new log (attempt caller o a s)
  unfolding attempt
  attempted_any t h = rw t h

  pub declined : possible s o a ≡ false → At new log s → At new log (attempt caller o a s)
  unfolding attempt
  declined t h = rw t h

  pub declined_any : possible s o a ≡ false → AtAny new log s → AtAny new log (attempt caller o a s)
  unfolding attempt
  declined_any t h = rw t h

-- What the op of a call that waits does is what the call does in its phase.
pub in_phase : (app : Application) (old new : Machine) (old_log new_log : Logged)
    (task object : ℕ) (access : Access ℕ) (ticks : Option ℕ) (phase : Phase)
    → (progress_in old.progress task).call.phase ≡ phase
    → DoesAny 2 old old_log new new_log (await app task object access ticks phase)
    → DoesAny 2 old old_log new new_log (λ s. await app task object access ticks (call_at s task).phase s)
in_phase app old new old_log new_log task object access ticks phase e d = record {
  at = λ s h.
      let now : (call_at s task).phase ≡ phase = ap (λ (p : Progress). p.call.phase) (sym (progress_is old s h.stands task)) ∙ e in
      subst (λ (p : Phase). AtAny new new_log.told (await app task object access ticks p s)) (sym now) (d.at s h);
  few = d.few;
  before = d.before;
}

-- The same of a call whose item is a value.
pub in_phase_by_value : (app : Application) (old new : Machine) (old_log new_log : Logged)
    (task object : ℕ) (access : Access Value) (ticks : Option ℕ) (phase : Phase)
    → (progress_in old.progress task).call.phase ≡ phase
    → DoesAny 2 old old_log new new_log (λ s. await app task object (call_with_number s task access) ticks phase s)
    → DoesAny 2 old old_log new new_log
    (λ s. await app task object (call_with_number s task access) ticks (call_at s task).phase s)
in_phase_by_value app old new old_log new_log task object access ticks phase e d = record {
  at = λ s h.
      let now : (call_at s task).phase ≡ phase = ap (λ (p : Progress). p.call.phase) (sym (progress_is old s h.stands task)) ∙ e in
      subst (λ (p : Phase). AtAny new new_log.told (await app task object (call_with_number s task access) ticks p s))
      (sym now) (d.at s h);
  few = d.few;
  before = d.before;
}

-- A task that is another one with the same last answer has it in its place.
same_answer : (ts : List Task) (i : ℕ) (t : Task) → t.progress.answer ≡ (get_or ts i no_task).progress.answer
    → (get_or (slice_set ts i t) i no_task).progress.answer ≡ (get_or ts i no_task).progress.answer
same_answer [] i t e = refl
same_answer (x ∷ ts) zero t e = e
same_answer (x ∷ ts) (suc i) t e = same_answer ts i t e

-- The deadline of a call changes neither its task's last answer nor a variable, and so not the number of its value.
pub same_number : (s : State) (task : ℕ) (ticks : Option ℕ) (access : Access Value)
    → call_with_number (set_deadline task ticks s) task access ≡ call_with_number s task access
unfolding set_deadline
same_number s task ticks access =
    ap (λ (a : Option ℕ). with_number s.variables a access)
    (same_answer s.tasks task
    (record (task_at s task) {
      progress = record (progress_at s task) {
        call = record (call_at s task) { deadline = option_map (λ n. s.time + n) ticks };
      };
    }) refl)

-- ---- what is left as it was

pub leaves_same : (k : Machine) → Leaves k k
leaves_same k = record { depth = refl; objects = λ o a h. h }

pub leaves_both : (a b c : Machine) → Leaves a b → Leaves b c → Leaves a c
leaves_both a b c h g = record { depth = g.depth ∙ h.depth; objects = λ o a room. g.objects o a (h.objects o a room) }
