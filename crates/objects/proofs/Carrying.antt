-- A call that is carried out: in the definitions the same object changes in the same way.
use Rattle.std.proofs.Common.{◌≡◌, ℕ, zero, suc, ◌+◌, ◌<◌, inl, inr, true, false, Bool, Option, Some, None, List, [], ◌∷◌}
use Rattle.std.proofs.Common.{get_or, set, length, sym, ◌∙◌, ap, subst, refl, arith}
use Rattle.std.specs.Prelude.{nat_lt, not}
use Rattle.std.specs.Option.{IfSome, is_none}
use Rattle.std.proofs.lemmas.Bool.{cases_eq, cases_lt, le-ltb, lt-ltb}
use Rattle.std.proofs.lemmas.List.{length-set, get_or-set_same, get_or-set_other}
use Rattle.model.specs.declared.op.Access.{Access}
use Rattle.model.specs.State.{State, Object, no_object, object_at, with_object}
use Rattle.model.specs.Objects.{object_after}
use Rattle.model.proofs.Tables.{held_after, each-set}
use Rattle.objects.specs.Items.{object_in}
use Rattle.objects.specs.WaitersStand.{Decider}
use Rattle.objects.specs.Objects.{Objects, StandsFor}

-- the room that is left, and whether there is any
pub some_room : (left n size : ℕ) → left + n ≡ size → nat_lt 0 left ≡ nat_lt n size
some_room left n size e = elim (cases_lt 0 left) [
  | inl some ↦ lt-ltb 0 left some ∙ sym (lt-ltb n size (omega (arith, e, some)))
  | inr none ↦ le-ltb 0 left none ∙ sym (le-ltb n size (omega (arith, e, none)))
]

-- nobody holds what is free
pub free_of : (holder : Option ℕ) → is_none holder ≡ true → holder ≡ None
free_of None e = refl
free_of (Some task) e = absurd cc

pub turned : (a b : Bool) → a ≡ not b → b ≡ not a
turned a true e = sym (ap not e)
turned a false e = sym (ap not e)

-- An object that somebody holds is one that there is.
there_held : (xs : List Object) (o task : ℕ) → (get_or xs o no_object).holder ≡ Some task → o < length xs
there_held [] o task e = absurd cc
there_held (x ∷ xs) zero task e = omega arith
there_held (x ∷ xs) (suc o) task e = let h = there_held xs o task e in omega (arith, h)

module _ (v : Objects) (d : Option Decider) (s : State) (o : ℕ) (h : StandsFor v d s) (known : o < length v.objects) where
  -- an object is another now
  stands_put : o < length s.objects → (x : Object) → IfSome x.holder (λ i. i < length s.tasks)
      → StandsFor (record v { objects = set v.objects o x }) d (with_object o x s)
  stands_put there x held = record {
    number = length-set s.objects o x ∙ h.number;
    objects = λ k. elim (cases_eq k o) [
      | inl same ↦
          subst (λ (j : ℕ). object_in (set v.objects o x) j ≡ object_at (with_object o x s) j) (sym same)
          (get_or-set_same v.objects o x no_object known ∙ sym (get_or-set_same s.objects o x no_object there))
      | inr other ↦
          get_or-set_other v.objects o k x no_object other ∙ h.objects k ∙ sym (get_or-set_other s.objects o k x no_object other)
    ];
    waiters = record {
      lists = h.waiters.lists;
      table = record {
        tickets = h.waiters.table.tickets;
        few = h.waiters.table.few;
        current = h.waiters.table.current;
        holders = each-set no_object (λ _ u. IfSome u.holder (λ i. i < length s.tasks)) s.objects o x held h.waiters.table.holders;
      };
    };
    locked = h.locked;
    counts = h.counts;
  }

  -- a possible call is carried out
  pub stands_carried : (new : Objects) (caller : Option ℕ) (a : Access ℕ) → o < v.number
      → new ≡ record v { objects = set v.objects o (object_after caller a (object_in v.objects o)) }
      → IfSome caller (λ i. i < length s.tasks)
      → StandsFor new d (with_object o (object_after caller a (object_at s o)) s)
  stands_carried new caller a there e l =
      subst (λ (w : Objects). StandsFor w d (with_object o (object_after caller a (object_at s o)) s)) (sym e)
      (subst (λ (x : Object).
      StandsFor (record v { objects = set v.objects o (object_after caller a x) })
      d (with_object o (object_after caller a (object_at s o)) s))
      (sym (h.objects o))
      (stands_put (let many = h.number in omega (arith, many, there)) (object_after caller a (object_at s o))
      (held_after caller a (object_at s o) (length s.tasks) l (h.waiters.table.holders o))))

  -- a mutex that a task holds is freed
  pub stands_freed : (new : Objects) (task : ℕ) → (object_at s o).holder ≡ Some task
      → new ≡ record v { objects = set v.objects o (record (object_in v.objects o) { holder = None }) }
      → StandsFor new d (with_object o (record (object_at s o) { holder = None }) s)
  stands_freed new task held e =
      let freed : Object → Object = λ x. record x { holder = None } in
      subst (λ (w : Objects). StandsFor w d (with_object o (freed (object_at s o)) s)) (sym e)
      (subst
      (λ (x : Object). StandsFor (record v { objects = set v.objects o (freed x) }) d (with_object o (freed (object_at s o)) s))
      (sym (h.objects o))
      (stands_put (there_held s.objects o task held) (freed (object_at s o)) tt))
