-- The objects at reset.
use Rattle.std.proofs.Common.{◌≡◌, ℕ, zero, suc, ◌≤◌, inl, inr, List, [], ◌∷◌, Option, None, refl, ap, sym, ◌∙◌, arith, length}
use Rattle.std.proofs.Common.{get_or, map, replicate}
use Rattle.std.specs.List.{AllByRecursion}
use Rattle.std.specs.Option.{option_and_then}
use Rattle.std.proofs.lemmas.Bool.{cases_lt}
use Rattle.std.proofs.lemmas.List.{get_or_past, length-map}
use Rattle.model.specs.declared.object.ObjectKind.{ObjectKind}
use Rattle.model.specs.declared.object.ObjectKind.TheVariants.{Queue, Semaphore, Mutex}
use Rattle.model.specs.declared.call.WaitList.{WaitList}
use Rattle.model.specs.Application.{Application}
use Rattle.model.specs.State.{State, Object, Task, Ready, no_object, no_task, status_at, task_at, for_each}
use Rattle.model.specs.Order.{Entry}
use Rattle.model.specs.Switching.{make_ready}
use Rattle.model.specs.Step.{nobody_ready, object_at_reset, ready_at_reset, reset, with_ops}
use Rattle.model.specs.Waiting.{wait_key}
use Rattle.model.specs.Invariant.{IsTable, wait_of}
use Rattle.model.proofs.Chosen.{choice_within}
use Rattle.model.proofs.Lists.{HasKey, list_has}
use Rattle.model.proofs.Resets.{call-reset, holders-reset, none_taken}
use Rattle.model.proofs.Tables.{each-set, table-make_ready}
use Rattle.model.proofs.Unlocking.{locked-all_ready}
use Rattle.objects.specs.Places.{object_places}
use Rattle.objects.specs.Items.{object_in}
use Rattle.objects.specs.Semaphores.{Counts, count_in, max_count_in}
use Rattle.objects.specs.Mutexes.{holder_in}
use Rattle.objects.specs.Together.{objects_of_all}
use Rattle.objects.specs.WaitersStand.{WaitersStand, standing}
use Rattle.objects.specs.Objects.{StandsFor}
use Rattle.objects.proofs.Keys.{standing_key}
use Rattle.objects.proofs.Locking.{objects-all_ready}
use Rattle.objects.proofs.Together.{object_is, object_past}

-- ---- nobody waits

nobody_keyed : (s : State) (list : WaitList) → ((task : ℕ) → wait_of (status_at s task) ≡ None)
    → (es : List Entry) → AllByRecursion (HasKey (standing_key list) s.tasks) es → es ≡ []
nobody_keyed s list none [] h = refl
nobody_keyed s list none (e ∷ es) h =
    absurd (let k = h.0.key in
    let n : standing_key list (task_at s e.task) ≡ None = ap (option_and_then (wait_key list)) (none e.task) in
    cc)

pub nobody_stands : (s : State) (list : WaitList) → ((task : ℕ) → wait_of (status_at s task) ≡ None) → standing s list ≡ []
nobody_stands s list none = nobody_keyed s list none (standing s list) (list_has (standing_key list) s.tasks)

pub nobody_waits-all_ready : (is : List ℕ) (s : State) → ((task : ℕ) → wait_of (status_at s task) ≡ None)
    → (task : ℕ) → wait_of (status_at (for_each make_ready is s) task) ≡ None
nobody_waits-all_ready [] s none task = none task
nobody_waits-all_ready (i ∷ is) s none task =
    let P : ℕ → Task → Type 0 = λ j u. wait_of u.status ≡ None in
    nobody_waits-all_ready is (make_ready i s)
    (each-set no_task P s.tasks i (record (task_at s i) { status = Ready s.next_ticket }) refl none) task

pub nobody_waits-reset : (app : Application) (task : ℕ) → wait_of (status_at (reset app) task) ≡ None
unfolding reset ready_at_reset nobody_ready
nobody_waits-reset app task =
    nobody_waits-all_ready (with_ops 0 app.tasks) (nobody_ready app) (λ i. (call-reset app.start i app.tasks).1) task

-- ---- the table

table-all_ready : (is : List ℕ) (s : State) → IsTable s → IsTable (for_each make_ready is s)
table-all_ready [] s h = h
table-all_ready (i ∷ is) s h = table-all_ready is (make_ready i s) (table-make_ready s i h)

table-nobody : (app : Application) → length app.tasks ≤ 32 → IsTable (nobody_ready app)
unfolding nobody_ready
table-nobody app few =
    record {
      tickets = none_taken app.start app.tasks;
      few = rw length-map few;
      current = tt;
      holders = λ o. holders-reset _ o app.objects;
    }

pub table-reset : (app : Application) → length app.tasks ≤ 32 → IsTable (reset app)
unfolding reset ready_at_reset
table-reset app few =
    let s : State = ready_at_reset app in
    let h : IsTable s = table-all_ready (with_ops 0 app.tasks) (nobody_ready app) (table-nobody app few) in
    record { tickets = h.tickets; few = h.few; current = choice_within s; holders = h.holders }

-- ---- the objects

-- An object at reset has no items and no holder.
bare : (kinds : List ObjectKind) (o : ℕ)
    → record no_object {
      size = (get_or (map object_at_reset kinds) o no_object).size;
      max_count = (get_or (map object_at_reset kinds) o no_object).max_count;
      count = (get_or (map object_at_reset kinds) o no_object).count;
    } ≡ get_or (map object_at_reset kinds) o no_object
bare [] o = refl
bare (Queue size ∷ kinds) zero = refl
bare (Semaphore most first ∷ kinds) zero = refl
bare (Mutex ∷ kinds) zero = refl
bare (kind ∷ kinds) (suc o) = bare kinds o

none_held : (n o : ℕ) → holder_in (replicate n None) o ≡ None
none_held zero o = refl
none_held (suc n) zero = refl
none_held (suc n) (suc o) = none_held n o

pub objects_fresh : (kinds : List ObjectKind) (queues : List Object) (semaphores : Counts) (mutexes : List (Option ℕ))
    → length kinds ≤ object_places
    → ((o : ℕ) → object_in queues o ≡ record no_object { size = (get_or (map object_at_reset kinds) o no_object).size })
    → ((o : ℕ) → max_count_in semaphores o ≡ (get_or (map object_at_reset kinds) o no_object).max_count)
    → ((o : ℕ) → count_in semaphores o ≡ (get_or (map object_at_reset kinds) o no_object).count)
    → mutexes ≡ replicate object_places None
    → (o : ℕ) → object_in (objects_of_all queues semaphores mutexes) o ≡ get_or (map object_at_reset kinds) o no_object
objects_fresh kinds queues semaphores mutexes few empty most first free o = elim (cases_lt o object_places) [
  | inl below ↦
      let held : holder_in mutexes o ≡ None = ap (λ (hs : List (Option ℕ)). holder_in hs o) free ∙ none_held object_places o in
      object_is queues semaphores mutexes o below ∙ rw (empty o, most o, first o, held) (bare kinds o)
  | inr past ↦
      object_past queues semaphores mutexes o past
      ∙ sym (get_or_past (map object_at_reset kinds) o no_object (rw length-map (omega (arith, few, past))))
]

objects-reset : (app : Application) → (reset app).objects ≡ map object_at_reset app.objects
unfolding reset ready_at_reset nobody_ready
objects-reset app = objects-all_ready (with_ops 0 app.tasks) (nobody_ready app)

locked-reset : (app : Application) → (reset app).locked ≡ None
unfolding reset ready_at_reset nobody_ready
locked-reset app = locked-all_ready (nobody_ready app) (with_ops 0 app.tasks)

-- ---- the whole

pub stands_reset : (app : Application) (kinds : List ObjectKind) (objects : List Object) (waiting : List (List (ℕ × ℕ)))
    → app.objects ≡ kinds → length app.tasks ≤ 32
    → ((o : ℕ) → object_in objects o ≡ get_or (map object_at_reset kinds) o no_object)
    → ((s : State) → IsTable s → ((list : WaitList) → standing s list ≡ []) → WaitersStand waiting None s)
    → StandsFor (record { number = length kinds; objects = objects; waiting = waiting; lock = None }) None (reset app)
stands_reset app kinds objects waiting own few fresh stand = record {
  number = ap length (objects-reset app) ∙ length-map app.objects object_at_reset ∙ ap length own;
  objects = λ o.
      fresh o ∙ ap (λ (ks : List ObjectKind). get_or (map object_at_reset ks) o no_object) (sym own)
      ∙ sym (ap (λ (os : List Object). object_in os o) (objects-reset app));
  waiters = stand (reset app) (table-reset app few) (λ list. nobody_stands (reset app) list (nobody_waits-reset app));
  locked = sym (locked-reset app);
  counts = tt;
}
