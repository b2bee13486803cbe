-- What is kept of when interrupt sources come, in the kernel and in each state that it represents.
use Rattle.std.proofs.Common.{◌≡◌, ◌≢◌, ◌∙◌, ◌<◌, ◌≤◌, ◌+◌, ◌-◌, ℕ, zero, suc, Bool, true, false, eqb, List, [], ◌∷◌, ◌++◌, get_or}
use Rattle.std.proofs.Common.{set}
use Rattle.std.proofs.Common.{length, map, take, ltb, ltb-false, refl, ap, ap₂, sym, subst, arith}
use Rattle.std.proofs.Common.{get_or-set_same, get_or-set_other}
use Rattle.std.proofs.Common.{Option, Some, None, leb, ◌⊎◌, inl, inr}
use Rattle.std.specs.Prelude.{fold, min, if◌then◌else◌, ◌&&◌, nat_le}
use Rattle.std.specs.List.{filter, range_with_len}
use Rattle.std.proofs.Math.ListN.{get_or-map, length-map, length-set}
use Rattle.std.proofs.lemmas.Bool.{ltb-true, le-leb, lt-leb, leb-true, leb-false}
use Rattle.std.proofs.lemmas.Option.{same_Some}
use Rattle.std.proofs.lemmas.List.{get_or_past, set_past, set-get_or}
use Rattle.model.specs.State.{State, Source, no_source, source_at, with_source}
use Rattle.model.specs.declared.event.Event.{Event}
use Rattle.model.specs.declared.source.SourceOp.{SourceOp}
use Rattle.model.specs.declared.source.SourceOp.TheVariants.{Arm, Disarm, Raise, Cancel}
use Rattle.model.specs.Application.{Application}
use Rattle.model.specs.Handlers.{apart_of, can_come, is_raised_for, none_raised_now, note_coming, raised_now}
use Rattle.model.specs.Ops.{do_to_source}
use Rattle.model.proofs.Sorting.{by_test}
use Rattle.model.proofs.Lists.{eqb-same, eqb-refl}
use Rattle.machine.specs.declared.machine.Machine.{Machine}
use Rattle.machine.specs.declared.arrivals.Arrival.{Arrival}
use Rattle.machine.specs.Arrivals.{after_op, arrival_in, at_any_time, is_due, lowered, sooner, soonest}
use Rattle.machine.specs.Sources.{Sources, is_pending, source_from, source_in, source_of}
use Rattle.machine.specs.StandsFor.{AreSources, At, AtAny, Stands, released_ticks}
use Rattle.machine.proofs.AlikeSources.{later_same}
use Rattle.machine.proofs.Beside.{sourced_at, sourced_any}
use Rattle.machine.proofs.Either.{elapsed_is, sources_are}
use Rattle.machine.proofs.Pending.{none_past, same_filter}

-- ---- lists

-- An element that is there is the same whatever stands for those that aren't.
pub is_there : {X : Type 0} (xs : List X) (i : ℕ) (d e : X) → i < length xs → get_or xs i d ≡ get_or xs i e
is_there [] i d e l = absurd (omega arith)
is_there (x ∷ xs) zero d e l = refl
is_there (x ∷ xs) (suc i) d e l = is_there xs i d e (omega arith)

-- Lists of the same length with the same elements are the same.
pub same_each : {X : Type 0} (xs ys : List X) (d : X) → length xs ≡ length ys
    → ((i : ℕ) → i < length xs → get_or xs i d ≡ get_or ys i d) → xs ≡ ys
same_each [] [] d long same = refl
same_each [] (y ∷ ys) d long same = absurd (cc)
same_each (x ∷ xs) [] d long same = absurd (cc)
same_each {X} (x ∷ xs) (y ∷ ys) d long same =
    ap₂ (λ (z : X) (zs : List X). z ∷ zs) (same 0 (omega arith))
    (same_each xs ys d (omega (arith, long)) (λ i l. same (suc i) (omega arith)))

-- What stands for those that aren't there may be there.
pub with_last : {X : Type 0} (xs : List X) (d : X) (i : ℕ) → get_or xs i d ≡ get_or (xs ++ d ∷ []) i d
with_last [] d zero = refl
with_last [] d (suc i) = refl
with_last (x ∷ xs) d zero = refl
with_last (x ∷ xs) d (suc i) = with_last xs d i

pub last_is : {X : Type 0} (xs : List X) (y d : X) (i : ℕ) → i ≡ length xs → get_or (xs ++ y ∷ []) i d ≡ y
last_is [] y d zero e = refl
last_is [] y d (suc i) e = absurd (cc)
last_is (x ∷ xs) y d zero e = absurd (cc)
last_is (x ∷ xs) y d (suc i) e = last_is xs y d i (omega (arith, e))

pub not_last : {X : Type 0} (xs : List X) (y d : X) (i : ℕ) → i ≢ length xs → get_or (xs ++ y ∷ []) i d ≡ get_or xs i d
not_last [] y d zero apart = absurd (apart refl)
not_last [] y d (suc i) apart = refl
not_last (x ∷ xs) y d zero apart = refl
not_last (x ∷ xs) y d (suc i) apart = not_last xs y d i (λ e. apart (omega (arith, e)))

-- Up to this index each is now another.
pub made_to : {X : Type 0} (xs : List X) (n : ℕ) (x d : X) (P : ℕ → X → Type 0) → n < length xs
    → ((i : ℕ) → i < n → P i (get_or xs i d)) → P n x → (i : ℕ) → i < n + 1 → P i (get_or (set xs n x) i d)
made_to xs n x d P l before here i less = by_test (eqb i n)
    (λ t. let e : i ≡ n = eqb-same i n t in rw (e, get_or-set_same xs n x d l) here)
    (λ t.
    let apart : i ≢ n = (λ e. let u : eqb i n ≡ true = ap (λ (k : ℕ). eqb k n) e ∙ eqb-refl n in absurd (cc)) in
    rw (get_or-set_other xs n i x d apart) (before i (omega arith)))

-- ---- a source

-- What is kept of one source is another, if there is such a source.
pub are_arrived : (now : ℕ) (v w : Sources) (xs : List Source) (i : ℕ) (a : Arrival) (x : Source) → AreSources now v xs
    → source_from now (source_of (is_pending v i) a) ≡ source_from now x
    → (i < v.number → w ≡ record v { arrivals = set v.arrivals i a }) → (v.number ≤ i → w ≡ v) → AreSources now w (set xs i x)
are_arrived now v w xs i a x are made sets past = by_test (ltb i (length xs))
    (λ t.
    let l : i < length xs = ltb-true i (length xs) t in
    subst (λ (u : Sources). AreSources now u (set xs i x)) (sym (sets (rw are.number l))) (arrived l))
    (λ t.
    let le : length xs ≤ i = ltb-false i (length xs) t in
    subst (λ (u : Sources). AreSources now u (set xs i x)) (sym (past (rw are.number le)))
    (subst (AreSources now v) (sym (set_past xs i x le)) are)) where
      arrived : i < length xs → AreSources now (record v { arrivals = set v.arrivals i a }) (set xs i x)
      arrived l = record {
        number = are.number ∙ sym (length-set xs i x);
        same = λ source. by_test (eqb source i)
            (λ t.
            rw (eqb-same source i t)
            (ap (λ (b : Arrival). source_from now (source_of (is_pending v i) b))
            (get_or-set_same v.arrivals i a at_any_time (let full = are.full.1 in let few = are.few in omega arith))
            ∙ made
            ∙ ap (source_from now) (sym (get_or-set_same xs i x no_source l))))
            (λ t.
            let apart : source ≢ i = (λ e. let u : eqb source i ≡ true = ap (λ (k : ℕ). eqb k i) e ∙ eqb-refl i in absurd (cc)) in
            ap (λ (b : Arrival). source_from now (source_of (is_pending v source) b))
            (get_or-set_other v.arrivals i source a at_any_time apart)
            ∙ are.same source
            ∙ ap (source_from now) (sym (get_or-set_other xs i source x no_source apart)));
        full = (are.full.0, length-set v.arrivals i a ∙ are.full.1);
        few = let n = length-set xs i x in let few = are.few in omega arith;
      }

-- One can come already if nothing is left until then.
free_alike : (m n now : ℕ) → m - now ≡ n - now → nat_le m now ≡ nat_le n now
free_alike m n now same = by_test (nat_le n now)
    (λ t. let l = leb-true n now t in le-leb m now (omega (arith, same)) ∙ sym t)
    (λ t. let l = leb-false n now t in lt-leb m now (omega (arith, same)) ∙ sym t)

-- Whether one can come.
pub comes : (k : Machine) (s : State) (source now : ℕ) (a : Arrival) → Stands k s → a ≡ arrival_in k.sources.arrivals source
    → now ≡ k.clock.age + k.clock.held → (a.armed && nat_le a.free_from now) ≡ can_come s source
comes k s source now a h is time =
    let kept : source_from s.elapsed (source_of (is_pending k.sources source) a) ≡ source_from s.elapsed (source_at s source) =
    ap (λ (b : Arrival). source_from s.elapsed (source_of (is_pending k.sources source) b)) is
    ∙ later_same (released_ticks s) s.elapsed (source_in k.sources source) (source_at s source) (omega arith)
    ((sources_are k s h).same source) in
    let free : a.free_from - s.elapsed ≡ (source_at s source).free_from - s.elapsed = ap (λ (x : Source). x.free_from) kept in
    ap (λ (n : ℕ). a.armed && nat_le a.free_from n) (time ∙ elapsed_is k s h)
    ∙ ap₂ (λ (x : Source) (b : Bool). x.armed && b) kept (free_alike a.free_from (source_at s source).free_from s.elapsed free)

-- what an op makes of one
pub done_to : (from : ℕ) (op : SourceOp) (s : State) (i : ℕ) (pending : Bool) (a : Arrival) (now : ℕ)
    → source_from from (source_of pending a) ≡ source_from from (source_at s i) → now ≡ s.elapsed
    → (x : Source) × (source_from from (source_of pending (after_op op now a)) ≡ source_from from x)
    × (with_source i x s ≡ do_to_source i op s)
done_to from Arm s i pending a now same time =
    (record (source_at s i) { armed = true }, ap (λ (y : Source). record y { armed = true }) same, refl)
done_to from Disarm s i pending a now same time =
    (record (source_at s i) { armed = false }, ap (λ (y : Source). record y { armed = false }) same, refl)
done_to from (Raise ticks) s i pending a now same time = (
  record (source_at s i) { raised = Some (s.elapsed + ticks) },
  ap₂ (λ (y : Source) (n : ℕ). record y { raised = Some (n + ticks) }) same time,
  refl,
)
done_to from Cancel s i pending a now same time =
    (record (source_at s i) { raised = None }, ap (λ (y : Source). record y { raised = None }) same, refl)

-- that it comes, if its comings have to be apart
pub noted : (from : ℕ) (app : Application) (s : State) (i apart : ℕ) (pending : Bool) (a : Arrival) (now : ℕ)
    → source_from from (source_of pending a) ≡ source_from from (source_at s i) → now ≡ s.elapsed
    → 0 < apart → apart ≡ apart_of app i
    → (x : Source) × (source_from from (source_of pending (record a { free_from = now + apart })) ≡ source_from from x)
    × (with_source i x s ≡ note_coming app i s)
noted from app s i apart pending a now same time some is =
    let off : eqb apart 0 ≡ false = by_test (eqb apart 0) (λ t. let e = eqb-same apart 0 t in absurd (omega arith)) (λ t. t) in
    let apart_off : eqb (apart_of app i) 0 ≡ false = subst (λ (n : ℕ). eqb n 0 ≡ false) is off in (
      record (source_at s i) { free_from = s.elapsed + apart_of app i },
      ap₂ (λ (y : Source) (n : ℕ). record y { free_from = n - from }) same (ap₂ (λ (n m : ℕ). n + m) time is),
      rw apart_off refl,
    )

-- and if they aren't
pub not_noted : (app : Application) (s : State) (i : ℕ) → 0 ≡ apart_of app i → note_coming app i s ≡ s
not_noted app s i none =
    rw (sym none) (ap (λ (xs : List Source). record s { sources = xs }) (set-get_or s.sources i no_source))

-- ---- those that come by themselves at a tick

abbrev pub lower_source : ℕ → Source → Source
lower_source tick x = if is_raised_for tick x then record x { raised = None } else x

lowers : (now tick : ℕ) (pending : Bool) (a : Arrival)
    → source_from now (source_of pending (lowered tick a)) ≡ lower_source tick (source_from now (source_of pending a))
lowers now tick pending a = by_test (is_due tick a) (λ t. rw t refl) (λ t. rw t refl)

lowers_from : (now tick : ℕ) (x : Source) → lower_source tick (source_from now x) ≡ source_from now (lower_source tick x)
lowers_from now tick x = by_test (is_raised_for tick x) (λ t. rw t refl) (λ t. rw t refl)

pub are_lowered : (now : ℕ) (v w : Sources) (xs : List Source) (tick : ℕ) → AreSources now v xs
    → w ≡ record v { arrivals = w.arrivals }
    → ((source : ℕ) → arrival_in w.arrivals source ≡ lowered tick (arrival_in v.arrivals source)) → length w.arrivals ≡ 17
    → AreSources now w (map (lower_source tick) xs)
are_lowered now v w xs tick are rest low full =
    let many : length (map (lower_source tick) xs) ≡ length xs = length-map xs (lower_source tick) in
    let kept : w.pending ≡ v.pending = ap (λ (u : Sources). u.pending) rest in
    record {
      number = ap (λ (u : Sources). u.number) rest ∙ are.number ∙ sym many;
      same = λ source.
          ap₂ (λ (b : Bool) (a : Arrival). source_from now (source_of b a))
          (ap (λ (ps : List Bool). get_or ps source false) kept) (low source)
          ∙ lowers now tick (is_pending v source) (arrival_in v.arrivals source)
          ∙ ap (lower_source tick) (are.same source)
          ∙ lowers_from now tick (get_or xs source no_source)
          ∙ ap (source_from now) (sym (get_or-map (lower_source tick) xs source no_source));
      full = (ap (λ (ps : List Bool). length ps) kept ∙ are.full.0, full);
      few = rw many are.few;
    }

module _ (k : Machine) (log : List Event) (s : State) (v : Sources) (tick : ℕ) (time : tick ≡ s.elapsed)
    (rest : v ≡ record k.sources { arrivals = v.arrivals })
    (low : (source : ℕ) → arrival_in v.arrivals source ≡ lowered tick (arrival_in k.sources.arrivals source))
    (full : length v.arrivals ≡ 17) where
  now_lowered : AreSources (released_ticks s) k.sources s.sources
      → AreSources (released_ticks s) v (map (lower_source s.elapsed) s.sources)
  now_lowered are =
      are_lowered (released_ticks s) k.sources v s.sources s.elapsed are rest
      (λ source. low source ∙ ap (λ (n : ℕ). lowered n (arrival_in k.sources.arrivals source)) time) full

  pub lowered_at : At k log s → At (record k { sources = v }) log (none_raised_now s)
  lowered_at h = sourced_at k log s v (map (lower_source s.elapsed) s.sources) now_lowered h

  pub lowered_any : AtAny k log s → AtAny (record k { sources = v }) log (none_raised_now s)
  lowered_any h = sourced_any k log s v (map (lower_source s.elapsed) s.sources) now_lowered h

pub raised_are : (k : Machine) (s : State) (tick : ℕ) (due : List Bool) → Stands k s → tick ≡ s.elapsed
    → ((source : ℕ) → get_or due source false ≡ is_due tick (arrival_in k.sources.arrivals source))
    → raised_now s ≡ filter (λ source. get_or due source false) (range_with_len 0 17)
raised_are k s tick due h time were =
    let are : AreSources (released_ticks s) k.sources s.sources = sources_are k s h in
    let p : ℕ → Bool = λ source. is_raised_for s.elapsed (source_at s source) in
    sym (none_past p 0 (length s.sources) 17
    (λ j l. ap (is_raised_for s.elapsed) (get_or_past s.sources j no_source (omega arith))) are.few)
    ∙ same_filter p (λ source. get_or due source false) (range_with_len 0 17)
    (λ i. sym (were i ∙ ap (λ (n : ℕ). is_due n (arrival_in k.sources.arrivals i)) time
    ∙ ap (is_raised_for s.elapsed) (are.same i)))

-- ---- the first of them

-- No source is raised, or this is the first tick at which one comes by itself.
abbrev pub IsFirst : List Arrival → Option ℕ → Type 0
IsFirst each None = (i : ℕ) → (arrival_in each i).raised ≡ None
IsFirst each (Some first) =
    ((i tick : ℕ) → (arrival_in each i).raised ≡ Some tick → first ≤ tick)
    × ((i : ℕ) × ((arrival_in each i).raised ≡ Some first))

-- This is the first tick among those of some sources and this one.
abbrev IsFirstWith : Option ℕ → List Arrival → Option ℕ → Type 0
IsFirstWith before each None = (before ≡ None) × ((i : ℕ) → (arrival_in each i).raised ≡ None)
IsFirstWith before each (Some first) =
    ((tick : ℕ) → before ≡ Some tick → first ≤ tick) × ((i tick : ℕ) → (arrival_in each i).raised ≡ Some tick → first ≤ tick)
    × ((before ≡ Some first) ⊎ ((i : ℕ) × ((arrival_in each i).raised ≡ Some first)))

first_with : (before : Option ℕ) (each : List Arrival)
    → IsFirstWith before each (fold (λ soonest_yet a. sooner soonest_yet a.raised) before each)
first_with None [] = (refl, λ i. refl)
first_with (Some tick) [] = (λ t e. omega (arith, same_Some tick t e), λ i t e. absurd (cc), inl refl)
first_with before (a ∷ each) =
    with_one (fold (λ soonest_yet x. sooner soonest_yet x.raised) (sooner before a.raised) each)
    (first_with (sooner before a.raised) each) where
      apart_of_sooner : (o r : Option ℕ) → sooner o r ≡ None → (o ≡ None) × (r ≡ None)
      apart_of_sooner None None e = (refl, refl)
      apart_of_sooner None (Some t) e = absurd (cc)
      apart_of_sooner (Some t) None e = absurd (cc)
      apart_of_sooner (Some t) (Some u) e = absurd (cc)

      least_of_sooner : (o r : Option ℕ) (first : ℕ) → ((t : ℕ) → sooner o r ≡ Some t → first ≤ t)
          → ((t : ℕ) → o ≡ Some t → first ≤ t) × ((t : ℕ) → r ≡ Some t → first ≤ t)
      least_of_sooner None None first h = (λ t e. absurd (cc), λ t e. absurd (cc))
      least_of_sooner None (Some u) first h = (λ t e. absurd (cc), λ t e. h t e)
      least_of_sooner (Some u) None first h = (λ t e. h t e, λ t e. absurd (cc))
      least_of_sooner (Some u) (Some w) first h =
          let l = h (min u w) refl in
          (λ t e. omega (arith, same_Some u t e), λ t e. omega (arith, same_Some w t e))

      one_of_sooner : (o r : Option ℕ) (first : ℕ) → sooner o r ≡ Some first → (o ≡ Some first) ⊎ (r ≡ Some first)
      one_of_sooner None None first e = absurd (cc)
      one_of_sooner None (Some u) first e = inr e
      one_of_sooner (Some u) None first e = inl e
      one_of_sooner (Some u) (Some w) first e =
          let is : min u w ≡ first = same_Some (min u w) first e in
          by_test (ltb u w)
          (λ t. let l = ltb-true u w t in inl (ap Some (omega (arith, l, is))))
          (λ t. let l = ltb-false u w t in inr (ap Some (omega (arith, l, is))))

      with_one : (o : Option ℕ) → IsFirstWith (sooner before a.raised) each o → IsFirstWith before (a ∷ each) o
      with_one None h =
          let two = apart_of_sooner before a.raised h.0 in
          (two.0, λ i. by_index i two.1) where
            by_index : (i : ℕ) → a.raised ≡ None → (arrival_in (a ∷ each) i).raised ≡ None
            by_index zero e = e
            by_index (suc i) e = h.1 i
      with_one (Some first) h =
          let two = least_of_sooner before a.raised first h.0 in
          (two.0, λ i tick e. by_index i tick two.1 e, among h.2) where
            by_index : (i tick : ℕ) → ((t : ℕ) → a.raised ≡ Some t → first ≤ t)
                → (arrival_in (a ∷ each) i).raised ≡ Some tick → first ≤ tick
            by_index zero tick l e = l tick e
            by_index (suc i) tick l e = h.1 i tick e

            among : (sooner before a.raised ≡ Some first) ⊎ ((i : ℕ) × ((arrival_in each i).raised ≡ Some first))
                → (before ≡ Some first) ⊎ ((i : ℕ) × ((arrival_in (a ∷ each) i).raised ≡ Some first))
            among (inl e) = elim (one_of_sooner before a.raised first e) [ inl b ↦ inl b | inr r ↦ inr (0, r) ]
            among (inr one) = inr (suc one.0, one.1)

pub first_is : (each : List Arrival) → IsFirst each (soonest each)
first_is each = by_first (soonest each) (first_with None each) where
  by_first : (o : Option ℕ) → IsFirstWith None each o → IsFirst each o
  by_first None h = h.1
  by_first (Some first) h = (h.1, elim h.2 [ inl e ↦ absurd (cc) | inr one ↦ one ])

-- ---- one of them is raised

sooner_than : (o r x : Option ℕ) → sooner (sooner o r) x ≡ sooner (sooner o x) r
sooner_than None None None = refl
sooner_than None None (Some u) = refl
sooner_than None (Some t) None = refl
sooner_than None (Some t) (Some u) = ap Some (omega arith)
sooner_than (Some s) None None = refl
sooner_than (Some s) None (Some u) = refl
sooner_than (Some s) (Some t) None = refl
sooner_than (Some s) (Some t) (Some u) = ap Some (omega arith)

sooner_before : (m r : Option ℕ) (each : List Arrival)
    → fold (λ soonest_yet a. sooner soonest_yet a.raised) (sooner m r) each
    ≡ sooner (fold (λ soonest_yet a. sooner soonest_yet a.raised) m each) r
sooner_before m r [] = refl
sooner_before m r (a ∷ each) =
    ap (λ (o : Option ℕ). fold (λ soonest_yet x. sooner soonest_yet x.raised) o each) (sooner_than m r a.raised)
    ∙ sooner_before (sooner m a.raised) r each

sooner_none : (o : Option ℕ) → o ≡ sooner o None
sooner_none None = refl
sooner_none (Some t) = refl

raised_from : (m : Option ℕ) (each : List Arrival) (i : ℕ) (a : Arrival) → i < length each → (arrival_in each i).raised ≡ None
    → fold (λ soonest_yet x. sooner soonest_yet x.raised) m (set each i a)
    ≡ sooner (fold (λ soonest_yet x. sooner soonest_yet x.raised) m each) a.raised
raised_from m [] i a l none = absurd (omega arith)
raised_from m (x ∷ each) zero a l none =
    sooner_before m a.raised each
    ∙ ap (λ (o : Option ℕ). sooner (fold (λ soonest_yet y. sooner soonest_yet y.raised) o each) a.raised)
    (sooner_none m ∙ ap (sooner m) (sym none))
raised_from m (x ∷ each) (suc i) a l none = raised_from (sooner m x.raised) each i a (omega arith) none

-- If a source wasn't raised, the first is it or the one before.
pub soonest_with_one : (each : List Arrival) (i : ℕ) (a : Arrival) → i < length each → (arrival_in each i).raised ≡ None
    → soonest (set each i a) ≡ sooner (soonest each) a.raised
soonest_with_one each i a l none = raised_from None each i a l none

-- One more of them.
soonest_to : (m : Option ℕ) (each : List Arrival) (n : ℕ) (a : Arrival) → n < length each
    → fold (λ soonest_yet x. sooner soonest_yet x.raised) m (take (suc n) (set each n a))
    ≡ sooner (fold (λ soonest_yet x. sooner soonest_yet x.raised) m (take n each)) a.raised
soonest_to m [] n a l = absurd (omega arith)
soonest_to m (x ∷ each) zero a l = refl
soonest_to m (x ∷ each) (suc n) a l = soonest_to (sooner m x.raised) each n a (omega arith)

pub soonest_more : (each : List Arrival) (n : ℕ) (a : Arrival) → n < length each
    → sooner (soonest (take n each)) a.raised ≡ soonest (take (n + 1) (set each n a))
soonest_more each n a l =
    sym (soonest_to None each n a l)
    ∙ ap (λ (k : ℕ). soonest (take k (set each n a))) (let e : suc n ≡ n + 1 = omega arith in e)

-- ---- if nothing was done with the sources from one on

-- Those with which nothing was done are not raised.
none_more : (m : Option ℕ) (each : List Arrival) → ((i : ℕ) → arrival_in each i ≡ at_any_time)
    → m ≡ fold (λ soonest_yet a. sooner soonest_yet a.raised) m each
none_more m [] past = refl
none_more m (a ∷ each) past =
    sooner_none m ∙ ap (λ (r : Option ℕ). sooner m r) (sym (ap (λ (x : Arrival). x.raised) (past 0)))
    ∙ none_more (sooner m a.raised) each (λ i. past (suc i))

soonest_with : (n : ℕ) (m : Option ℕ) (each : List Arrival) → ((i : ℕ) → n ≤ i → arrival_in each i ≡ at_any_time)
    → fold (λ soonest_yet a. sooner soonest_yet a.raised) m (take n each)
    ≡ fold (λ soonest_yet a. sooner soonest_yet a.raised) m each
soonest_with zero m each past = none_more m each (λ i. past i (omega arith))
soonest_with (suc n) m [] past = refl
soonest_with (suc n) m (a ∷ each) past = soonest_with n (sooner m a.raised) each (λ i l. past (suc i) (omega (arith, l)))

-- So the first tick at which one comes by itself is that of those before.
pub soonest_of_used : (n : ℕ) (each : List Arrival) → ((i : ℕ) → n ≤ i → arrival_in each i ≡ at_any_time)
    → soonest (take n each) ≡ soonest each
soonest_of_used n each past = soonest_with n None each past
