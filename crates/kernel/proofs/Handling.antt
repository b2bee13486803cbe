-- Handlers: what their ops, and one handler after another, make of a state.
use Rattle.model.specs.declared.op.IsrOp.TheVariants as isr_op
use Rattle.model.specs.declared.value.Value as value
use Rattle.model.specs.declared.value.ValueOp.{ValueOp}
use Rattle.model.specs.declared.op.IsrOp.TheVariants.{Value}
use Rattle.model.specs.Values.{answer_of, number_of, with_number}
use Rattle.model.specs.Ops.{store}
use Rattle.soundness.proofs.Sparing.{fits-number}
use Rattle.std.proofs.lemmas.Bool.{leb-true}
use Rattle.std.proofs.Common.{◌≡◌, ◌<◌, ◌≤◌, ◌+◌, ◌&&◌, leb, ℕ, zero, suc, List, [], ◌∷◌, ◌++◌, length, map, get_or, take, drop}
use Rattle.std.proofs.Common.{false, true, Option, None, ap, refl, sym, subst, ◌-◌, ◌∙◌, arith, Some}
use Rattle.std.specs.List.{AllByRecursion, filter, range_with_len}
use Rattle.std.specs.Prelude.{Bool, if◌then◌else◌}
use Rattle.model.proofs.Sorting.{by_test}
use Rattle.machine.specs.Sources.{Sources, is_pending}
use Rattle.std.proofs.lemmas.List.{drop_all, drop_more, length-drop, take_all, take_more}
use Rattle.model.specs.declared.event.What.{What}
use Rattle.model.specs.declared.event.What.TheVariants.{IsrMark}
use Rattle.model.specs.declared.notification.NotifyAction.{NotifyAction}
use Rattle.model.specs.Notifications.{notify, notify_answer, notify_with_number}
use Rattle.model.specs.declared.op.IsrOp.{IsrOp}
use Rattle.model.specs.declared.op.Command as command
use Rattle.model.specs.declared.op.IsrOp.TheVariants.{Do, Command, Resume, GetBits, Notify, Mark, Expect, If, Else, EndIf}
use Rattle.model.specs.declared.op.Access.TheVariants.{Send}
use Rattle.model.specs.declared.op.Access.{Access}
use Rattle.std.specs.Prelude.{option_map, slice_get, unwrap_or}
use Rattle.model.specs.Application.{Application, Handler, commands_of, ops_of}
use Rattle.model.specs.Daemon.{item_of}
use Rattle.model.specs.Scripts.{fits_object, has_group, is_mask, IsHandler, IsWellFormed, knows_isr}
use Rattle.model.specs.State.{State, for_each, status_at, bits_at, notification_at}
use Rattle.model.specs.declared.event.Event.{Event}
use Rattle.model.specs.Switching.{is_held, preempt, unless_held, write}
use Rattle.soundness.proofs.Settled.{when_free, when_held, held_by_call}
use Rattle.model.specs.Objects.{answer_to, attempt}
use Rattle.model.specs.declared.event.End.TheVariants.{HandlerCheck}
use Rattle.model.specs.Placements.{can_come_so}
use Rattle.model.specs.Handlers.{can_come, isr_told, isr, isr_answer, isr_jump, is_failed, isr_each, handle, come, serve}
use Rattle.model.proofs.Chosen.{each-end}
use Rattle.soundness.proofs.InScripts.{isr_known}
use Rattle.machine.specs.declared.machine.Machine.{Machine}
use Rattle.machine.specs.Logged.{Logged}
use Rattle.machine.specs.StandsFor.{Stands, At, AtAny, Does, DoesAny, Moves, MovesAny}
use Rattle.machine.proofs.Parts.{rest_again}
use Rattle.machine.proofs.Either.{any, either, steps_are}
use Rattle.machine.proofs.Renewed.{renewed}
use Rattle.soundness.proofs.Sparing.{and_left, and_right, commands_fit}
use Rattle.ops.specs.Can.{HasIsrObject, HasObjects}
use Rattle.ops.proofs.Calling.{leaves_both, leaves_same}
use Rattle.machine.specs.Can.{Leaves, StandsForSome}
use Rattle.std.specs.Option.{option_map, is_some}
use Rattle.model.specs.Suspension.{can_resume, resume}
use Rattle.objects.proofs.Kept.{same}
use Rattle.groups.specs.StandsFor as groups
use Rattle.machine.specs.StandsFor.Stands.{Placed, Placing}
use Rattle.model.specs.Ops.{answer, fail, one_if}

-- ---- an op

pub did_op : (P : State → Type 0) (app : Application) (s : State) (handler op_index : ℕ) (op : IsrOp) (last : Option ℕ)
    (o : ℕ) (call : Access value.Value) (a : Access ℕ) (given : Option ℕ) (what : What)
    → op ≡ Do o call → a ≡ with_number s.variables last call → what ≡ isr_told handler op_index given → given ≡ answer_to s o a
    → P (write what (attempt None o a s)) → P (isr app handler op_index op last s)
did_op P app s handler op_index op last o call a given what is number told answer h =
    let one : what ≡ isr_told handler op_index (answer_to s o a) = told ∙ ap (isr_told handler op_index) answer in
    rw is (subst (λ (x : Access ℕ). P (write (isr_told handler op_index (answer_to s o x)) (attempt None o x s))) number
    (subst (λ (w : What). P (write w (attempt None o a s))) one h))

pub did_command : (P : State → Type 0) (app : Application) (s : State) (handler op_index : ℕ)
    (op : IsrOp) (answered : Option ℕ) (c : command.Command) (o item : ℕ) (given : Option ℕ) (what : What)
    → op ≡ Command c → o ≡ commands_of app → item ≡ item_of c → what ≡ isr_told handler op_index given
    → given ≡ answer_to s o (Send item)
    → P (write what (attempt None o (Send item) s)) → P (isr app handler op_index op answered s)
did_command P app s handler op_index op answered c o item given what is last same told answer h =
    let one : what ≡ isr_told handler op_index (answer_to s o (Send item)) = told ∙ ap (isr_told handler op_index) answer in
    let Q : ℕ → ℕ → Type 0 = λ x n. P (write (isr_told handler op_index (answer_to s x (Send n))) (attempt None x (Send n) s)) in
    rw is (subst (λ (x : ℕ). Q x (item_of c)) last
    (subst (λ (n : ℕ). Q o n) same (subst (λ (w : What). P (write w (attempt None o (Send item) s))) one h)))

pub did_mark : (P : State → Type 0) (app : Application) (s : State) (handler op_index : ℕ) (op : IsrOp) (last : Option ℕ)
    (marked : value.Value) (n : ℕ) → op ≡ Mark marked → n ≡ number_of s.variables last marked
    → P (write (IsrMark handler n) s) → P (isr app handler op_index op last s)
did_mark P app s handler op_index op last marked n is number h =
    rw is (subst (λ (m : ℕ). P (write (IsrMark handler m) s)) number h)

pub did_notify : (P : State → Type 0) (app : Application) (s : State) (handler op_index : ℕ) (op : IsrOp) (last : Option ℕ)
    (task : ℕ) (action : NotifyAction value.Value) (given : Option ℕ) (what : What) → op ≡ Notify task action
    → what ≡ isr_told handler op_index given
    → given ≡ notify_answer (notify_with_number s.variables last action) (notification_at s task)
    → P (write what (notify task (notify_with_number s.variables last action) s)) → P (isr app handler op_index op last s)
did_notify P app s handler op_index op last task action given what is told answer h =
    let done : State = notify task (notify_with_number s.variables last action) s in
    rw is (subst (λ (w : What). P (write w done)) (told ∙ ap (isr_told handler op_index) answer) h)

pub did_value : (P : State → Type 0) (app : Application) (s : State) (handler op_index : ℕ) (op : IsrOp) (last : Option ℕ)
    (values : ValueOp) (given : Option ℕ) (what : What) → op ≡ Value values → what ≡ isr_told handler op_index given
    → given ≡ answer_of s.variables last values → P (write what (store values given s)) → P (isr app handler op_index op last s)
did_value P app s handler op_index op last values given what is told answer h =
    rw is (subst (λ (a : Option ℕ). P (write (isr_told handler op_index a) (store values a s))) answer
    (subst (λ (w : What). P (write w (store values given s))) told h))

-- its object has room for what it puts in
pub op_fits : (app : Application) (formed : IsWellFormed app) (k : Machine) (handler i : ℕ) (op : IsrOp)
    → HasObjects app k → i < length (ops_of app handler) → op ≡ get_or (ops_of app handler) i op → HasIsrObject app k op
op_fits app formed k handler i op room l e = by_op op (at (ops_of app handler) i (isr_known app formed handler) l e) where
  at : (ops : List IsrOp) (i : ℕ) → AllByRecursion (λ (x : IsrOp). knows_isr app x ≡ true) ops
      → i < length ops → op ≡ get_or ops i op → knows_isr app op ≡ true
  at [] i known l e = absurd (omega arith)
  at (x ∷ xs) zero known l e = rw e known.0
  at (x ∷ xs) (suc i) known l e = at xs i known.1 (omega arith) e

  by_op : (x : IsrOp) → knows_isr app x ≡ true → HasIsrObject app k x
  by_op (Do o a) known = λ variables answer.
      room o (with_number variables answer a) (fits-number app o variables answer a ∙ and_left (fits_object app o a) _ known)
  by_op (Command c) known =
      let some : is_some app.daemon ≡ true = and_left (is_some app.daemon) (has_group app c.group && is_mask c.mask) known in
      let mask : is_mask c.mask ≡ true =
      and_right (has_group app c.group) (is_mask c.mask)
      (and_right (is_some app.daemon) (has_group app c.group && is_mask c.mask) known) in
      let most : leb c.mask 16777215 ≡ true = and_right (leb 1 c.mask) (leb c.mask 16777215) mask in
      let low = leb-true c.mask 16777215 most in
      (room (commands_of app) (Send (item_of c)) (commands_fit app formed (item_of c) some), omega arith)
  by_op (Resume i) known = tt
  by_op (GetBits g) known = tt
  by_op (Notify i a) known = tt
  by_op (Mark n) known = tt
  by_op (Value op) known = tt
  by_op (isr_op.Source j what) known = tt
  by_op (Expect c) known = tt
  by_op (If c) known = tt
  by_op Else known = tt
  by_op EndIf known = tt

-- and there are few
pub handler_short : (app : Application) → IsWellFormed app → (handler : ℕ) → length (ops_of app handler) ≤ 16
handler_short app formed handler = by_index app.handlers handler formed.handlers where
  by_index : (hs : List Handler) (i : ℕ) → AllByRecursion (IsHandler app) hs
      → length (unwrap_or (option_map (λ (h : Handler). h.ops) (slice_get hs i)) []) ≤ 16
  by_index [] i all = omega arith
  by_index (h ∷ hs) zero all = all.0.few
  by_index (h ∷ hs) (suc i) all = by_index hs i all.1

-- ---- one op after another

-- The ops behind one are what is left of them.
pub behind_is : (ops : List IsrOp) (i : ℕ) → i < length ops → take (length ops - (i + 1)) (drop (i + 1) ops) ≡ drop (i + 1) ops
behind_is ops i l = take_all (length ops - (i + 1)) (drop (i + 1) ops) (let e = length-drop (i + 1) ops in omega (arith, e))

pub behind_short : (ops : List IsrOp) (i : ℕ) → i < length ops → length ops ≤ 16
    → length (take (length ops - (i + 1)) (drop (i + 1) ops)) ≤ 16
behind_short ops i l few = rw (behind_is ops i l) (let e = length-drop (i + 1) ops in omega (arith, e))

-- A handler whose ops before this index are done goes on so:
-- it jumps over this many ops, this is its last answer, and this the state.
abbrev pub GoesOnSo : Application → (handler : ℕ) → List IsrOp → State → (op_index over : ℕ) → (last : Option ℕ) → State → Type 0
GoesOnSo app handler ops s op_index over last t =
    isr_each app handler 0 0 None ops s ≡ isr_each app handler op_index over last (drop op_index ops) t

module _ (app : Application) (handler : ℕ) (ops : List IsrOp) (i : ℕ) (op : IsrOp)
    (l : i < length ops) (is : op ≡ get_or ops i op) (last : Option ℕ) (s t : State) where
  ahead : (over : ℕ) → GoesOnSo app handler ops s i over last t
      → isr_each app handler 0 0 None ops s ≡ isr_each app handler i over last (op ∷ drop (i + 1) ops) t
  ahead over h =
      h
      ∙ ap (λ (xs : List IsrOp). isr_each app handler i over last xs t)
      (drop_more ops i op l ∙ ap (λ (x : IsrOp). x ∷ drop (i + 1) ops) (sym is))

  -- the op is jumped over
  jumped_over : (over left : ℕ) → over ≡ suc left → GoesOnSo app handler ops s i over last t
      → GoesOnSo app handler ops s (i + 1) left last t
  jumped_over over left e h = ahead over h ∙ rw e refl

  -- it is a check that fails
  check_failed : true ≡ is_failed t op last → GoesOnSo app handler ops s i 0 last t
      → isr_each app handler 0 0 None ops s ≡ fail (HandlerCheck handler i) t
  check_failed f h = ahead 0 h ∙ rw (sym f) refl

  -- it is done
  op_done : false ≡ is_failed t op last → GoesOnSo app handler ops s i 0 last t
      → GoesOnSo app handler ops s (i + 1) (isr_jump t op last (drop (i + 1) ops)) (isr_answer app t op last)
      (isr app handler i op last t)
  op_done f h = ahead 0 h ∙ rw (sym f) refl

-- The kernel represents such states, and at most this many events are reported.
pub record IsAmid (app : Application) (handler : ℕ) (ops : List IsrOp) (old : Machine) (old_log : Logged)
    (op_index over : ℕ) (last : Option ℕ) (new : Machine) (new_log : Logged) : Type 0 where
  pub at : (s : State) → At old old_log.told s
      → (t : State) × At new new_log.told t × GoesOnSo app handler ops s op_index over last t
  pub any : (s : State) → AtAny old old_log.told s
      → (t : State) × AtAny new new_log.told t × GoesOnSo app handler ops s op_index over last t
  pub few : old_log.room ≤ new_log.room + op_index
  pub before : new_log.before ≡ old_log.before
  pub leaves : Leaves old new

module _ (app : Application) (handler : ℕ) (ops : List IsrOp) (old : Machine) (old_log : Logged) where
  pub amid_begins : IsAmid app handler ops old old_log 0 0 None old old_log
  amid_begins =
      record { at = λ s h. (s, h, refl); any = λ s h. (s, h, refl); few = omega arith; before = refl; leaves = leaves_same old }

  module _ (i over : ℕ) (last : Option ℕ) (mid : Machine) (mid_log : Logged)
      (so : IsAmid app handler ops old old_log i over last mid mid_log) where
    pub amid_stands : StandsForSome old → StandsForSome mid
    amid_stands h =
        let s : State = record (h.0) { log = old_log.told } in
        let after =
        so.any s (record { stands = renewed old h.0 h.1 old_log.told (h.0).steps old.steps (steps_are old h.0 h.1); log = refl }) in
        (after.0, (after.1).stands)

    -- all ops are done
    all_done : length ops ≤ i → (s t : State) → GoesOnSo app handler ops s i over last t → isr_each app handler 0 0 None ops s ≡ t
    all_done l s t h = h ∙ ap (λ (xs : List IsrOp). isr_each app handler i over last xs t) (drop_all i ops l)

    module _ (l : length ops ≤ i) (few : i ≤ 16) (all : ops ≡ ops_of app handler) where
      pub amid_handled : Does 16 old old_log mid mid_log (handle app handler)
      unfolding handle
      amid_handled = record {
        at = λ s h.
            let a = so.at s h in
            subst (λ (x : State). At mid mid_log.told x)
            (sym (all_done l s a.0 a.2) ∙ ap (λ (xs : List IsrOp). isr_each app handler 0 0 None xs s) all) a.1;
        few = let f = so.few in omega arith;
        before = so.before;
      }

      pub amid_handled_any : DoesAny 16 old old_log mid mid_log (handle app handler)
      unfolding handle
      amid_handled_any = record {
        at = λ s h.
            let a = so.any s h in
            subst (λ (x : State). AtAny mid mid_log.told x)
            (sym (all_done l s a.0 a.2) ∙ ap (λ (xs : List IsrOp). isr_each app handler 0 0 None xs s) all) a.1;
        few = let f = so.few in omega arith;
        before = so.before;
      }

    module _ (op : IsrOp) (l : i < length ops) (is : op ≡ get_or ops i op) where
      -- the op is jumped over
      pub amid_jumped : 0 < over → IsAmid app handler ops old old_log (i + 1) (over - 1) last mid mid_log
      amid_jumped some =
          let e : over ≡ suc (over - 1) = omega arith in
          record {
            at = λ s h. let a = so.at s h in (a.0, a.1, jumped_over app handler ops i op l is last s a.0 over (over - 1) e a.2);
            any = λ s h. let a = so.any s h in (a.0, a.1, jumped_over app handler ops i op l is last s a.0 over (over - 1) e a.2);
            few = let f = so.few in omega arith;
            before = so.before;
            leaves = so.leaves;
          }

      module _ (none : over ≡ 0) where
        here : (s t : State) → GoesOnSo app handler ops s i over last t → GoesOnSo app handler ops s i 0 last t
        here s t h = rw none at h

        -- it is done
        pub amid_did : ((t : State) → Stands mid t → false ≡ is_failed t op last)
            → (new : Machine) (new_log : Logged) (given : Option ℕ) (next : ℕ)
            → Does 1 mid mid_log new new_log (isr app handler i op last)
            → DoesAny 1 mid mid_log new new_log (isr app handler i op last)
            → Leaves mid new → ((s : State) → Stands mid s → given ≡ isr_answer app s op last)
            → ((s : State) → Stands mid s → next ≡ isr_jump s op last (drop (i + 1) ops))
            → IsAmid app handler ops old old_log (i + 1) next given new new_log
        amid_did f new new_log given next does any leaves answer jump = record {
          at = λ s h.
              let a = so.at s h in
              (isr app handler i op last a.0, does.at a.0 a.1, with_answer s a.0 (Placed (a.1).stands) (here s a.0 a.2));
          any = λ s h.
              let a = so.any s h in
              (isr app handler i op last a.0, any.at a.0 a.1, with_answer s a.0 (a.1).stands (here s a.0 a.2));
          few = let a = so.few in let b = does.few in omega arith;
          before = does.before ∙ so.before;
          leaves = leaves_both old mid new so.leaves leaves;
        } where
          with_answer : (s t : State) → Stands mid t → GoesOnSo app handler ops s i 0 last t
              → GoesOnSo app handler ops s (i + 1) next given (isr app handler i op last t)
          with_answer s t stands h =
              subst (λ (x : Option ℕ). GoesOnSo app handler ops s (i + 1) next x (isr app handler i op last t))
              (sym (answer t stands))
              (subst (λ (n : ℕ). GoesOnSo app handler ops s (i + 1) n (isr_answer app t op last) (isr app handler i op last t))
              (sym (jump t stands)) (op_done app handler ops i op l is last s t (f t stands) h))

        -- it is a check that fails
        module _ (f : (t : State) → Stands mid t → true ≡ is_failed t op last)
            (all : ops ≡ ops_of app handler) (few : i ≤ 16) (new : Machine) where
          ends : (s t : State) → Stands mid t → GoesOnSo app handler ops s i over last t
              → fail (HandlerCheck handler i) t ≡ isr_each app handler 0 0 None (ops_of app handler) s
          ends s t stands h =
              sym (check_failed app handler ops i op l is last s t (f t stands) (here s t h))
              ∙ ap (λ (xs : List IsrOp). isr_each app handler 0 0 None xs s) all

          pub amid_failed : Moves mid new (fail (HandlerCheck handler i)) → Does 16 old old_log new mid_log (handle app handler)
          unfolding handle
          amid_failed moves = record {
            at = λ s h.
                let a = so.at s h in
                subst (λ (x : State). At new mid_log.told x) (ends s a.0 (Placed (a.1).stands) a.2) (moves mid_log.told a.0 a.1);
            few = let a = so.few in omega arith;
            before = so.before;
          }

          pub amid_failed_any : MovesAny mid new (fail (HandlerCheck handler i))
              → DoesAny 16 old old_log new mid_log (handle app handler)
          unfolding handle
          amid_failed_any moves = record {
            at = λ s h.
                let a = so.any s h in
                subst (λ (x : State). AtAny new mid_log.told x) (ends s a.0 (a.1).stands a.2) (moves mid_log.told a.0 a.1);
            few = let a = so.few in omega arith;
            before = so.before;
          }

-- ---- one after another

pub one_more : {A : Type 0} (deed : A → State → State) (P : State → Type 0) (xs : List A) (s : State) (i : ℕ) (x : A)
    → i < length xs → x ≡ get_or xs i x → P (deed x (for_each deed (take i xs) s)) → P (for_each deed (take (i + 1) xs) s)
one_more {A} deed P xs s i x l e h =
    let more : take (i + 1) xs ≡ take i xs ++ x ∷ [] = take_more xs i x l ∙ ap (λ (y : A). take i xs ++ y ∷ []) (sym e) in
    rw (more, each-end deed s (take i xs) x) h

-- whether each can come in its turn, from this one on
module _ (deed : ℕ → State → State) (sources : List ℕ) (i : ℕ) (s : State) where
  pub so_from : (x : ℕ) → i < length sources → x ≡ get_or sources i x
      → can_come_so deed (drop i sources) (for_each deed (take i sources) s)
      ≡ can_come (for_each deed (take i sources) s) x
      && can_come_so deed (drop (i + 1) sources) (for_each deed (take (i + 1) sources) s)
  so_from x l is =
      let more : take (i + 1) sources ≡ take i sources ++ x ∷ [] =
      take_more sources i x l ∙ ap (λ (y : ℕ). take i sources ++ y ∷ []) (sym is) in
      let t : State = for_each deed (take i sources) s in
      ap (λ (xs : List ℕ). can_come_so deed xs t)
      (drop_more sources i x l ∙ ap (λ (y : ℕ). y ∷ drop (i + 1) sources) (sym is))
      ∙ ap (λ (u : State). can_come t x && can_come_so deed (drop (i + 1) sources) u)
      (sym (ap (λ (xs : List ℕ). for_each deed xs s) more ∙ each-end deed s (take i sources) x))

  -- one more is asked
  pub so_more : (x : ℕ) → i < length sources → x ≡ get_or sources i x → (all came : Bool)
      → came ≡ can_come (for_each deed (take i sources) s) x
      → can_come_so deed sources s ≡ all && can_come_so deed (drop i sources) (for_each deed (take i sources) s)
      → can_come_so deed sources s
      ≡ (all && came) && can_come_so deed (drop (i + 1) sources) (for_each deed (take (i + 1) sources) s)
  so_more x l is all came asked so =
      let rest : Bool = can_come_so deed (drop (i + 1) sources) (for_each deed (take (i + 1) sources) s) in
      so ∙ ap (λ (b : Bool). all && b) (so_from x l is ∙ ap (λ (b : Bool). b && rest) (sym asked)) ∙ together all came rest where
        together : (a b c : Bool) → a && (b && c) ≡ (a && b) && c
        together true b c = refl
        together false b c = refl

  -- all are
  pub so_all : length sources ≤ i → (all : Bool)
      → can_come_so deed sources s ≡ all && can_come_so deed (drop i sources) (for_each deed (take i sources) s)
      → all ≡ can_come_so deed sources s
  so_all l all so =
      sym (so ∙ ap (λ (xs : List ℕ). all && can_come_so deed xs (for_each deed (take i sources) s)) (drop_all i sources l)
      ∙ alone all) where
        alone : (a : Bool) → a && true ≡ a
        alone true = refl
        alone false = refl

pub room_after : (app : Application) (old new : Machine) → HasObjects app old → Leaves old new → HasObjects app new
room_after app old new room h o a fit = h.objects o a (room o a fit)

-- ---- a higher task may run after a handler that comes, unless the scheduler is held

module _ (app : Application) (handler : ℕ) (s : State) (mid : Machine) where
  abbrev t : State
  t = come app handler s

  pub served_free : (new : Machine) (log new_log : List Event)
      → (Stands mid (come app handler s) → is_held (come app handler s) ≡ false) → AtAny mid log (come app handler s)
      → (At mid log (come app handler s) → At new new_log (preempt (come app handler s)))
      → AtAny new new_log (unless_held preempt (come app handler s))
  served_free new log new_log free h goes =
      let off : is_held t ≡ false = free h.stands in
      either mid log t h
      (λ p. subst (AtAny new new_log) (sym (when_free preempt t off)) (any new new_log (preempt t) (goes p)))
      (λ task list b. let on : is_held t ≡ true = held_by_call t b.held in absurd (cc))

  pub served_held : (log : List Event) → (Stands mid (come app handler s) → is_held (come app handler s) ≡ true)
      → AtAny mid log (come app handler s) → AtAny mid log (unless_held preempt (come app handler s))
  served_held log held h = let on : is_held t ≡ true = held h.stands in subst (AtAny mid log) (sym (when_held preempt t on)) h

-- an element of what a function makes of each
pub mapped_at : {A B : Type 0} (f : A → B) (xs : List A) (i : ℕ) (x : A)
    → i < length xs → x ≡ get_or xs i x → f x ≡ get_or (map f xs) i (f x)
mapped_at f [] i x l e = absurd (omega arith)
mapped_at f (y ∷ ys) zero x l e = ap f e
mapped_at f (y ∷ ys) (suc i) x l e = mapped_at f ys i x (omega arith) e

-- ---- the guess at the next base interrupt is no part of what the kernel represents

pub guessed : (k : Machine) (n : ℕ) (log : List Event) (s : State) → At k log s → At (record k { next_interrupt = n }) log s
guessed k n log s h =
    record {
      stands =
          record {
            sched = h.stands.sched;
            rest = rest_again h.stands.rest h.stands.rest.clock h.stands.rest.objects h.stands.rest.groups;
          };
      log = h.log;
    }

-- nor is it while a task is still to be placed
pub guessed_any : (k : Machine) (n : ℕ) (log : List Event) (s : State) → AtAny k log s
    → AtAny (record k { next_interrupt = n }) log s
guessed_any k n log s h = record { stands = by_stands h.stands; log = h.log } where
  by_stands : Stands k s → Stands (record k { next_interrupt = n }) s
  by_stands (Placed p) = Placed (guessed k n s.log s (record { stands = p; log = refl })).stands
  by_stands (Placing task list b) = Placing task list (record {
    sched = b.sched;
    clock = b.clock;
    objects = b.objects;
    groups = b.groups;
    awake = b.awake;
    progress = b.progress;
    full = b.full;
    notifications = b.notifications;
    variables = b.variables;
    sources = b.sources;
    sections = b.sections;
    steps = b.steps;
    stopped = b.stopped;
    current = b.current;
    held = b.held;
    phase = b.phase;
    wait_list = b.wait_list;
    placed = b.placed;
  })

-- ---- the bits of a group

-- The groups represent the state, whether or not a task is still to be placed.
pub groups_stand : (k : Machine) (s : State) → Stands k s → groups.StandsFor k.groups s
groups_stand k s (Placed h) = h.rest.groups
groups_stand k s (Placing task list b) = b.groups

-- ---- in a handler

pub told_bits : (P : State → Type 0) (app : Application) (s : State)
    (handler op_index : ℕ) (op : IsrOp) (last : Option ℕ) (group bits : ℕ) (what : What)
    → op ≡ GetBits group → what ≡ isr_told handler op_index (Some bits) → bits ≡ bits_at s group → P (write what s)
    → P (isr app handler op_index op last s)
told_bits P app s handler op_index op last group bits what is told same h =
    let one : what ≡ isr_told handler op_index (Some (bits_at s group)) =
    told ∙ ap (λ (n : ℕ). isr_told handler op_index (Some n)) same in
    rw is (subst (λ (w : What). P (write w s)) one h)

pub told_resume : (P : State → Type 0) (app : Application) (s : State) (handler op_index : ℕ) (op : IsrOp) (last : Option ℕ)
    (i n : ℕ) (what : What)
    → op ≡ Resume i → what ≡ isr_told handler op_index (Some n) → Some n ≡ one_if (can_resume (status_at s i))
    → P (write what (resume i s)) → P (isr app handler op_index op last s)
told_resume P app s handler op_index op last i n what is told same h =
    let one : what ≡ isr_told handler op_index (one_if (can_resume (status_at s i))) = told ∙ ap (isr_told handler op_index) same in
    rw is (subst (λ (w : What). P (write w (resume i s))) one h)

-- ---- what is pending

-- The source comes if it is among these.
abbrev pub serve_if : Application → Sources → ℕ → State → State
serve_if app pending source s = if is_pending pending source then serve app source s else s

-- The handler comes if it is among these.
abbrev pub come_if : Application → List Bool → ℕ → State → State
come_if app raised handler s = if get_or raised handler false then come app handler s else s

-- A deed is done with one number more.
each_more : (deed : ℕ → State → State) (a n : ℕ) (s : State)
    → for_each deed (range_with_len a (suc n)) s ≡ deed (a + n) (for_each deed (range_with_len a n) s)
each_more deed a zero s = ap (λ (k : ℕ). deed k s) (let z : a ≡ a + 0 = omega arith in z)
each_more deed a (suc n) s =
    each_more deed (a + 1) n (deed a s)
    ∙ ap (λ (k : ℕ). deed k (for_each deed (range_with_len (a + 1) n) (deed a s)))
    (let e : a + 1 + n ≡ a + suc n = omega arith in e)

pub each_next : (deed : ℕ → State → State) (n : ℕ) (s : State)
    → for_each deed (range_with_len 0 (n + 1)) s ≡ deed n (for_each deed (range_with_len 0 n) s)
each_next deed n s =
    ap (λ (k : ℕ). for_each deed (range_with_len 0 k) s) (let e : n + 1 ≡ suc n = omega arith in e)
    ∙ each_more deed 0 n s
    ∙ ap (λ (k : ℕ). deed k (for_each deed (range_with_len 0 n) s)) (let e : 0 + n ≡ n = omega arith in e)

-- It is done with those that pass a test.
pub each_if : (deed : ℕ → State → State) (p : ℕ → Bool) (is : List ℕ) (s : State)
    → for_each deed (filter p is) s ≡ for_each (λ i t. if p i then deed i t else t) is s
each_if deed p [] s = refl
each_if deed p (i ∷ is) s = by_test (p i)
    (λ t. rw t (each_if deed p is (deed i s)))
    (λ t. rw t (each_if deed p is s))
