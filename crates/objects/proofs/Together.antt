-- The objects, put together of what is kept of queues, semaphores and mutexes: what a write to one part does to them.
use Rattle.std.proofs.Common.{◌≡◌, ◌≢◌, ℕ, suc, ◌<◌, ◌≤◌, inl, inr, true, false, Bool, Option, Some, None, List, [], ◌∷◌, get_or}
use Rattle.std.proofs.Common.{set, length, filter, sym, ◌∙◌, ap, refl, arith}
use Rattle.std.proofs.lemmas.Bool.{cases_lt}
use Rattle.std.proofs.lemmas.List.{get_or-set_same, get_or-set_other, get_or_past, length-set}
use Rattle.model.specs.State.{Object, no_object}
use Rattle.model.specs.Switching.{is_same}
use Rattle.model.proofs.Sorting.{by_test}
use Rattle.objects.specs.Places.{object_places}
use Rattle.objects.specs.declared.objects.Objects.TheInside.{Inside}
use Rattle.objects.specs.contracts.objects.Objects.{the_view}
use Rattle.objects.specs.Items.{holding, object_in}
use Rattle.objects.specs.Semaphores.{AreSemaphores, Counts, count_in, max_count_in}
use Rattle.objects.specs.Mutexes.{count_held, holder_in}
use Rattle.objects.specs.Together.{held_of, object_of_all, objects_of_all}
use Rattle.objects.specs.Objects.{Objects}
use Rattle.objects.proofs.Listed.{get_or-listed, length-listed, listed-set}

module _ (queues : List Object) (semaphores : Counts) (mutexes : List (Option ℕ)) where
  pub object_is : (o : ℕ) → o < object_places
      → object_in (objects_of_all queues semaphores mutexes) o ≡ object_of_all queues semaphores mutexes o
  unfolding objects_of_all
  object_is o h = get_or-listed (object_of_all queues semaphores mutexes) object_places o no_object h

  pub object_past : (o : ℕ) → object_places ≤ o → object_in (objects_of_all queues semaphores mutexes) o ≡ no_object
  unfolding objects_of_all
  object_past o past = get_or_past (objects_of_all queues semaphores mutexes) o no_object (rw length-listed past)

-- The objects, as a clause sees them, and an object of this number.
module _ (q : Inside) (v : Objects) (is : the_view q ≡ v) (n o : ℕ) (same : n ≡ o) (known : n < object_places) where
  pub seen : object_of_all q.items q.semaphores q.mutexes n ≡ object_in v.objects o
  seen =
      sym (object_is q.items q.semaphores q.mutexes n known)
      ∙ ap (λ (w : Objects). object_in w.objects n) is ∙ ap (object_in v.objects) same

  pub many_seen : o < length v.objects
  unfolding objects_of_all
  many_seen =
      let many : length v.objects ≡ object_places =
      ap (λ (w : Objects). length w.objects) (sym is)
      ∙ length-listed (object_of_all q.items q.semaphores q.mutexes) object_places in
      omega (arith, many, same, known)

  -- another object is there, and the others stay
  put : (qs : List Object) (c : Counts) (hs : List (Option ℕ)) (f : Object → Object)
      → ((k : ℕ) → k ≢ n → object_of_all qs c hs k ≡ object_of_all q.items q.semaphores q.mutexes k)
      → object_of_all qs c hs n ≡ f (object_of_all q.items q.semaphores q.mutexes n)
      → record { number = q.number; objects = objects_of_all qs c hs; waiting = q.waiting; lock = q.lock }
      ≡ record v { objects = set v.objects o (f (object_in v.objects o)) }
  unfolding objects_of_all
  put qs c hs f others own =
      let here : objects_of_all qs c hs ≡ set (objects_of_all q.items q.semaphores q.mutexes) n (f (object_in v.objects o)) =
      listed-set (object_of_all q.items q.semaphores q.mutexes)
      (object_of_all qs c hs) object_places n known (λ k l ne. others k ne)
      ∙ ap (set (objects_of_all q.items q.semaphores q.mutexes) n) (own ∙ ap f seen) in
      ap (λ (os : List Object). record { number = q.number; objects = os; waiting = q.waiting; lock = q.lock })
      (here ∙ ap (λ (k : ℕ). set (objects_of_all q.items q.semaphores q.mutexes) k (f (object_in v.objects o))) same)
      ∙ ap (λ (w : Objects). record w { objects = set w.objects o (f (object_in v.objects o)) }) is

  -- ---- a queue has other items

  pub queue_put : (qs : List Object) (f : List ℕ → List ℕ)
      → qs ≡ set q.items n (holding (object_in q.items n) (f (object_in q.items n).items)) → length qs ≡ object_places
      → record { number = q.number; objects = objects_of_all qs q.semaphores q.mutexes; waiting = q.waiting; lock = q.lock }
      ≡ record v { objects = set v.objects o (record (object_in v.objects o) { items = f (object_in v.objects o).items }) }
  queue_put qs f e many =
      let x : Object = holding (object_in q.items n) (f (object_in q.items n).items) in
      let within : n < length q.items = let l = length-set q.items n x in let m = ap length e in omega (arith, l, m, many, known) in
      let at : (k : ℕ) → object_in qs k ≡ object_in (set q.items n x) k = λ k. ap (λ (os : List Object). object_in os k) e in
      put qs q.semaphores q.mutexes (λ y. record y { items = f y.items })
      (λ k ne.
      ap (λ (y : Object). record (object_of_all q.items q.semaphores q.mutexes k) { size = y.size; items = y.items })
      (at k ∙ get_or-set_other q.items n k x no_object ne))
      (ap (λ (y : Object). record (object_of_all q.items q.semaphores q.mutexes n) { size = y.size; items = y.items })
      (at n ∙ get_or-set_same q.items n x no_object within))

  -- ---- a semaphore has another count

  pub count_put : (c : Counts) (f : ℕ → ℕ)
      → c ≡ record q.semaphores { counts = set q.semaphores.counts n (f (count_in q.semaphores n)) } → AreSemaphores c
      → record { number = q.number; objects = objects_of_all q.items c q.mutexes; waiting = q.waiting; lock = q.lock }
      ≡ record v { objects = set v.objects o (record (object_in v.objects o) { count = f (object_in v.objects o).count }) }
  count_put c f e sound =
      let m : ℕ = f (count_in q.semaphores n) in
      let many = sound.as_many in
      let within : n < length q.semaphores.counts =
      let l = length-set q.semaphores.counts n m in
      let k = ap (λ (x : Counts). length x.counts) e in
      omega (arith, l, k, many, known) in
      let most : (k : ℕ) → max_count_in c k ≡ max_count_in q.semaphores k = λ k. ap (λ (x : Counts). max_count_in x k) e in
      let at : (k : ℕ) → count_in c k ≡ get_or (set q.semaphores.counts n m) k 0 = λ k. ap (λ (x : Counts). count_in x k) e in
      put q.items c q.mutexes (λ y. record y { count = f y.count })
      (λ k ne. rw (most k, at k, get_or-set_other q.semaphores.counts n k m 0 ne) refl)
      (rw (most n, at n, get_or-set_same q.semaphores.counts n m 0 within) refl)

  -- ---- a mutex has another holder

  pub holder_put : (hs : List (Option ℕ)) (holder : Option ℕ) → hs ≡ set q.mutexes n holder → length hs ≡ object_places
      → record { number = q.number; objects = objects_of_all q.items q.semaphores hs; waiting = q.waiting; lock = q.lock }
      ≡ record v { objects = set v.objects o (record (object_in v.objects o) { holder = holder }) }
  holder_put hs holder e many =
      let within : n < length q.mutexes =
      let l = length-set q.mutexes n holder in
      let m = ap length e in
      omega (arith, l, m, many, known) in
      let at : (k : ℕ) → holder_in hs k ≡ holder_in (set q.mutexes n holder) k = λ k.
      ap (λ (xs : List (Option ℕ)). holder_in xs k) e in
      put q.items q.semaphores hs (λ y. record y { holder = holder })
      (λ k ne.
      ap (λ (x : Option ℕ). record (object_of_all q.items q.semaphores q.mutexes k) { holder = x })
      (at k ∙ get_or-set_other q.mutexes n k holder None ne))
      (ap (λ (x : Option ℕ). record (object_of_all q.items q.semaphores q.mutexes n) { holder = x })
      (at n ∙ get_or-set_same q.mutexes n holder None within))

-- ---- how many are held

-- Two lists that agree at each place, and past their ends, have as many.
pub count_alike : {X Y : Type 0} (p : X → Bool) (q : Y → Bool) (x : X) (y : Y) → p x ≡ false → q y ≡ false
    → (xs : List X) (ys : List Y) → ((i : ℕ) → p (get_or xs i x) ≡ q (get_or ys i y)) → length (filter p xs) ≡ length (filter q ys)
count_alike p q x y a b [] [] h = refl
count_alike p q x y a b [] (v ∷ ys) h = let e : q v ≡ false = sym (h 0) ∙ a in rw e (count_alike p q x y a b [] ys (λ i. h (suc i)))
count_alike p q x y a b (u ∷ xs) [] h = let e : p u ≡ false = h 0 ∙ b in rw e (count_alike p q x y a b xs [] (λ i. h (suc i)))
count_alike p q x y a b (u ∷ xs) (v ∷ ys) h =
    let rest = count_alike p q x y a b xs ys (λ i. h (suc i)) in
    let e : p u ≡ q v = h 0 in
    by_test (q v)
    (λ t. let s : p u ≡ true = e ∙ t in rw (s, t) (ap suc rest))
    (λ t. let s : p u ≡ false = e ∙ t in rw (s, t) rest)

pub held_is : (queues : List Object) (semaphores : Counts) (mutexes : List (Option ℕ)) (task : ℕ)
    → length mutexes ≡ object_places → held_of (objects_of_all queues semaphores mutexes) task ≡ count_held task mutexes
held_is queues semaphores mutexes task n =
    count_alike (λ (o : Object). is_same o.holder (Some task)) (λ holder. is_same holder (Some task)) no_object
    None refl refl (objects_of_all queues semaphores mutexes) mutexes (λ i. elim (cases_lt i object_places) [
      | inl below ↦ ap (λ (o : Object). is_same o.holder (Some task)) (object_is queues semaphores mutexes i below)
      | inr past ↦
          ap (λ (o : Object). is_same o.holder (Some task)) (object_past queues semaphores mutexes i past)
          ∙ ap (λ holder. is_same holder (Some task)) (sym (get_or_past mutexes i None (rw n past)))
    ])
