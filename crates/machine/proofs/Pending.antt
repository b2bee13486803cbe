-- Which interrupts are pending, in the kernel and in each state that it represents.
use Rattle.std.proofs.Common.{◌≡◌, ◌≢◌, ◌∙◌, ◌<◌, ◌≤◌, ◌+◌, ℕ, zero, suc, Bool, true, false, eqb, List, [], ◌∷◌, get_or, set}
use Rattle.std.proofs.Common.{length, map}
use Rattle.std.proofs.Common.{ltb, ltb-false, refl, ap, ap₂, sym, subst, arith, get_or-set_same, get_or-set_other}
use Rattle.std.specs.List.{filter, range_with_len, list_any}
use Rattle.std.proofs.Math.ListN.{length-set}
use Rattle.std.proofs.lemmas.Bool.{ltb-true}
use Rattle.std.proofs.Math.ListN.{get_or-map}
use Rattle.std.proofs.lemmas.List.{get_or_past, length-map, set_past}
use Rattle.model.specs.State.{State, Source, no_source, source_at}
use Rattle.model.specs.Handlers.{pending_of}
use Rattle.model.specs.Invariant.{IsNonePending}
use Rattle.model.proofs.Sorting.{by_test}
use Rattle.model.proofs.Lists.{eqb-same, eqb-refl}
use Rattle.soundness.proofs.Pending.{AreNonePending, not_pending}
use Rattle.machine.specs.declared.machine.Machine.{Machine}
use Rattle.machine.specs.declared.arrivals.Arrival.{Arrival}
use Rattle.machine.specs.Arrivals.{arrival_in}
use Rattle.machine.specs.Sources.{Sources, is_pending, source_from, source_of}
use Rattle.machine.specs.StandsFor.{AreSources, Stands, released_ticks}
use Rattle.machine.specs.Can.{NonePends}
use Rattle.machine.proofs.Either.{sources_are}

-- ---- nothing is pending

each_none : (xs : List Source) → ((source : ℕ) → (get_or xs source no_source).pending ≡ false) → AreNonePending xs
each_none [] h = tt
each_none (x ∷ xs) h = (h 0, each_none xs (λ source. h (suc source)))

pending_same : (now : ℕ) (v : Sources) (xs : List Source) → AreSources now v xs → (source : ℕ)
    → is_pending v source ≡ (get_or xs source no_source).pending
pending_same now v xs are source = ap (λ (x : Source). x.pending) (are.same source)

pub none_by : (k : Machine) (s : State) → NonePends k → Stands k s → IsNonePending s
none_by k s none h =
    each_none s.sources (λ source. sym (pending_same (released_ticks s) k.sources s.sources (sources_are k s h) source)
    ∙ none source)

pub none_pends : (k : Machine) (s : State) → Stands k s → IsNonePending s → NonePends k
none_pends k s h none =
    λ source. pending_same (released_ticks s) k.sources s.sources (sources_are k s h) source ∙ not_pending s.sources source none

-- The code looks at one flag for it.
pub none_of_any : (ps : List Bool) → list_any (λ p. p) ps ≡ false → (source : ℕ) → get_or ps source false ≡ false
none_of_any [] e source = refl
none_of_any (true ∷ ps) e source = absurd (cc)
none_of_any (false ∷ ps) e zero = refl
none_of_any (false ∷ ps) e (suc source) = none_of_any ps e source

-- ---- a handler becomes pending

pub are_pended : (now : ℕ) (v w : Sources) (xs : List Source) (i : ℕ) → AreSources now v xs
    → (i < v.number → w ≡ record v { pending = set v.pending i true }) → (v.number ≤ i → w ≡ v)
    → AreSources now w (set xs i (record (get_or xs i no_source) { pending = true }))
are_pended now v w xs i are pends past = by_test (ltb i (length xs))
    (λ t.
    let l : i < length xs = ltb-true i (length xs) t in
    subst (λ (u : Sources). AreSources now u (set xs i x)) (sym (pends (rw are.number l))) (pended l))
    (λ t.
    let le : length xs ≤ i = ltb-false i (length xs) t in
    subst (λ (u : Sources). AreSources now u (set xs i x)) (sym (past (rw are.number le)))
    (subst (AreSources now v) (sym (set_past xs i x le)) are)) where
      x : Source
      x = record (get_or xs i no_source) { pending = true }

      new : Sources
      new = record v { pending = set v.pending i true }

      pended : i < length xs → AreSources now new (set xs i x)
      pended l = record {
        number = are.number ∙ sym (length-set xs i x);
        same = λ source. by_test (eqb source i)
            (λ t.
            rw (eqb-same source i t)
            (ap (λ (b : Bool). source_from now (source_of b (arrival_in v.arrivals i)))
            (get_or-set_same v.pending i true false (let full = are.full.0 in let few = are.few in omega arith))
            ∙ ap (λ (y : Source). record y { pending = true }) (are.same i)
            ∙ ap (source_from now) (sym (get_or-set_same xs i x no_source l))))
            (λ t.
            let apart : source ≢ i = (λ e. let u : eqb source i ≡ true = ap (λ (k : ℕ). eqb k i) e ∙ eqb-refl i in absurd (cc)) in
            ap (λ (b : Bool). source_from now (source_of b (arrival_in v.arrivals source)))
            (get_or-set_other v.pending i source true false apart)
            ∙ are.same source
            ∙ ap (source_from now) (sym (get_or-set_other xs i source x no_source apart)));
        full = (length-set v.pending i true ∙ are.full.0, are.full.1);
        few = let n = length-set xs i x in let few = are.few in omega arith;
      }

-- ---- nothing is pending any more

pub are_cleared : (now : ℕ) (v w : Sources) (xs : List Source) → AreSources now v xs
    → w ≡ record v { pending = w.pending } → ((source : ℕ) → is_pending w source ≡ false) → length w.pending ≡ 17
    → AreSources now w (map (λ (x : Source). record x { pending = false }) xs)
are_cleared now v w xs are rest none full =
    let ys : List Source = map (λ (x : Source). record x { pending = false }) xs in
    let many : length ys ≡ length xs = length-map xs (λ (x : Source). record x { pending = false }) in
    let kept : w.arrivals ≡ v.arrivals = ap (λ (u : Sources). u.arrivals) rest in
    record {
      number = ap (λ (u : Sources). u.number) rest ∙ are.number ∙ sym many;
      same = λ source.
          ap₂ (λ (b : Bool) (a : Arrival). source_from now (source_of b a)) (none source)
          (ap (λ (each : List Arrival). arrival_in each source) kept)
          ∙ ap (λ (y : Source). record y { pending = false }) (are.same source)
          ∙ ap (source_from now) (sym (get_or-map (λ (x : Source). record x { pending = false }) xs source no_source));
      full = (full, ap (λ (each : List Arrival). length each) kept ∙ are.full.1);
      few = rw many are.few;
    }

-- ---- which are

pub same_filter : (p q : ℕ → Bool) (is : List ℕ) → ((i : ℕ) → p i ≡ q i) → filter p is ≡ filter q is
same_filter p q [] same = refl
same_filter p q (i ∷ is) same =
    by_test (q i)
    (λ t. rw (same i, t) (ap (λ (js : List ℕ). i ∷ js) (same_filter p q is same)))
    (λ t. rw (same i, t) (same_filter p q is same))

none_from : (p : ℕ → Bool) (i m : ℕ) → ((j : ℕ) → i ≤ j → p j ≡ false) → filter p (range_with_len i m) ≡ []
none_from p i zero none = refl
none_from p i (suc m) none = rw (none i (omega arith)) (none_from p (i + 1) m (λ j l. none j (omega arith)))

pub none_past : (p : ℕ → Bool) (i n m : ℕ) → ((j : ℕ) → i + n ≤ j → p j ≡ false) → n ≤ m
    → filter p (range_with_len i m) ≡ filter p (range_with_len i n)
none_past p i zero m none le = none_from p i m (λ j l. none j (omega arith))
none_past p i (suc n) zero none le = absurd (omega arith)
none_past p i (suc n) (suc m) none le =
    let more : filter p (range_with_len (i + 1) m) ≡ filter p (range_with_len (i + 1) n) =
    none_past p (i + 1) n m (λ j l. none j (omega arith)) (omega arith) in
    by_test (p i) (λ t. rw t (ap (λ (js : List ℕ). i ∷ js) more)) (λ t. rw t more)

pub pending_are : (k : Machine) (s : State) → Stands k s
    → pending_of s ≡ filter (λ source. is_pending k.sources source) (range_with_len 0 17)
pending_are k s h =
    let are : AreSources (released_ticks s) k.sources s.sources = sources_are k s h in
    let p : ℕ → Bool = λ source. (source_at s source).pending in
    sym (none_past p 0 (length s.sources) 17
    (λ j l. ap (λ (x : Source). x.pending) (get_or_past s.sources j no_source (omega arith))) are.few)
    ∙ same_filter p (λ source. is_pending k.sources source) (range_with_len 0 17)
    (λ i. sym (pending_same (released_ticks s) k.sources s.sources are i))
