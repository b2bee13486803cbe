-- How many placements are found in all: as many as there are.
use Rattle.std.proofs.Common.{◌≡◌, ◌≢◌, ◌<◌, ◌+◌, ℕ, true, false, List, [], ◌∷◌, ◌++◌, length, map, get_or, set, refl, ap, sym, ◌∙◌}
use Rattle.std.proofs.Common.{subst, arith, inl, inr}
use Rattle.std.proofs.lemmas.Bool.{false≢true}
use Rattle.std.proofs.lemmas.List.Sums.{sum_by-append, sum_by-cons, sum_by-set}
use Rattle.std.specs.Prelude.{Contains}
use Rattle.std.specs.List.{AllByRecursion}
use Rattle.model.specs.declared.event.End.{End}
use Rattle.model.specs.Application.{Application, Limits}
use Rattle.model.specs.Placements.{AreDistinct, AreRising, CountOf, Found, IsExplored, IsFound, Placed, is_less}
use Rattle.model.specs.Placements.CountOf.{Nobody, Counts, Passes}
use Rattle.model.proofs.Among.{all_among, all_map, all_of_both, all_weaker, among_map, first_or_later, none_is}
use Rattle.explorer.specs.Totals.{placements_in}

-- ---- the placements that have another end

abbrev others : (e : End) → {ps : List Placed} → {n : ℕ} → CountOf e ps n → List Placed
others e Nobody = []
others e (Counts is h) = others e h
others e (Passes {p} isnt h) = p ∷ others e h

module _ (e : End) where
  others_number : (ps : List Placed) (n : ℕ) (c : CountOf e ps n) → n + length (others e c) ≡ length ps
  others_number _ _ Nobody = refl
  others_number _ _ (Counts {p} {ps} {n} is h) = let rest = others_number ps n h in omega (arith, rest)
  others_number _ _ (Passes {p} {ps} {n} isnt h) = let rest = others_number ps n h in omega (arith, rest)

  others_apart : (ps : List Placed) (n : ℕ) (c : CountOf e ps n) → AllByRecursion (λ (p : Placed). p.end ≢ e) (others e c)
  others_apart _ _ Nobody = tt
  others_apart _ _ (Counts {p} {ps} {n} is h) = others_apart ps n h
  others_apart _ _ (Passes {p} {ps} {n} isnt h) = (isnt, others_apart ps n h)

  others_all : (P : Placed → Type 0) (ps : List Placed) (n : ℕ) (c : CountOf e ps n)
      → AllByRecursion P ps → AllByRecursion P (others e c)
  others_all P _ _ Nobody all = tt
  others_all P _ _ (Counts {p} {ps} {n} is h) all = others_all P ps n h all.1
  others_all P _ _ (Passes {p} {ps} {n} isnt h) all = (all.0, others_all P ps n h all.1)

  module _ (f : End) (apart : f ≢ e) where
    skipped : (p : Placed) (ps : List Placed) (m : ℕ) → p.end ≡ e → CountOf f (p ∷ ps) m → CountOf f ps m
    skipped p ps _ is (Counts same k) = absurd (apart (sym same ∙ is))
    skipped p ps _ is (Passes isnt k) = k

    kept : (p : Placed) (ps rest : List Placed) (m : ℕ) → ((i : ℕ) → CountOf f ps i → CountOf f rest i)
        → CountOf f (p ∷ ps) m → CountOf f (p ∷ rest) m
    kept p ps rest _ on (Counts {n = n} same k) = Counts same (on n k)
    kept p ps rest _ on (Passes {n = n} isnt k) = Passes isnt (on n k)

    others_count : (ps : List Placed) (n : ℕ) (c : CountOf e ps n) (m : ℕ) → CountOf f ps m → CountOf f (others e c) m
    others_count _ _ Nobody m k = k
    others_count _ _ (Counts {p} {ps} {n} is h) m k = others_count ps n h m (skipped p ps m is k)
    others_count _ _ (Passes {p} {ps} {n} isnt h) m k = kept p ps (others e h) m (others_count ps n h) k

-- ---- more of them

-- of an end that something has
pub count_at : (old new : List Found) (number : ℕ) (one added : Found) (count : ℕ) → number < length old
    → get_or old number one ≡ one → new ≡ set old number added → added.number ≡ one.number + count
    → placements_in new ≡ placements_in old + count
count_at old new number one added count within is new_is more =
    let sum = sum_by-set (λ (f : Found). f.number) old number added one within in
    let here : (get_or old number one).number ≡ one.number = ap (λ (f : Found). f.number) is in
    let all : placements_in new ≡ placements_in (set old number added) = ap (λ (fs : List Found). placements_in fs) new_is in
    omega (arith, sum, here, all, more)

-- of an end that nothing had
pub count_new : (old new : List Found) (f : Found) → new ≡ old ++ f ∷ [] → placements_in new ≡ placements_in old + f.number
count_new old new f new_is =
    let all : placements_in new ≡ placements_in (old ++ f ∷ []) = ap (λ (fs : List Found). placements_in fs) new_is in
    let sum : placements_in (old ++ f ∷ []) ≡ placements_in old + placements_in (f ∷ []) =
    sum_by-append (λ (g : Found). g.number) old (f ∷ []) in
    let one : placements_in (f ∷ []) ≡ f.number = omega arith in
    omega (arith, all, sum, one)

-- ---- all of them

abbrev ends : List Found → List End
ends found = map (λ (f : Found). f.least.end) found

abbrev Counted : List Placed → Found → Type 0
Counted all f = CountOf f.least.end all f.number

none_left : (all : List Placed) → AllByRecursion (λ (p : Placed). Contains [] p.end) all → 0 ≡ length all
none_left [] h = refl
none_left (p ∷ ps) h = none_is p.end h.0

later : (e : End) (es : List End) (p : Placed) → (Contains (e ∷ es) p.end) × (p.end ≢ e) → Contains es p.end
later e es p both = elim (first_or_later e es p.end both.0) [ inl first ↦ absurd (both.1 first) | inr rest ↦ rest ]

-- Each placement is counted with its end.
pub counted_once : (found : List Found) (all : List Placed) → AreDistinct (ends found) → AllByRecursion (Counted all) found
    → AllByRecursion (λ (p : Placed). Contains (ends found) p.end) all → placements_in found ≡ length all
counted_once [] all differ each whole = none_left all whole
counted_once (f ∷ fs) all differ each whole =
    let e = f.least.end in
    let rest = others e each.0 in
    let apart : AllByRecursion (λ (g : Found). g.least.end ≢ e) fs = apart_of fs differ.0 in
    let counts : AllByRecursion (Counted rest) fs =
    all_weaker (λ (g : Found). (g.least.end ≢ e) × Counted all g) (Counted rest)
    (λ g both. others_count e g.least.end both.0 all f.number each.0 g.number both.1) fs
    (all_of_both (λ (g : Found). g.least.end ≢ e) (Counted all) fs apart each.1) in
    let among : AllByRecursion (λ (p : Placed). Contains (ends fs) p.end) rest =
    all_weaker (λ (p : Placed). (Contains (e ∷ ends fs) p.end) × (p.end ≢ e)) (λ (p : Placed). Contains (ends fs) p.end)
    (λ p both. later e (ends fs) p both) rest
    (all_of_both (λ (p : Placed). Contains (e ∷ ends fs) p.end) (λ (p : Placed). p.end ≢ e) rest
    (others_all e (λ (p : Placed). Contains (e ∷ ends fs) p.end) all f.number each.0 whole) (others_apart e all f.number each.0)) in
    let after = counted_once fs rest differ.1 counts among in
    sum_by-cons (λ (g : Found). g.number) f fs
    ∙ omega (arith, after, others_number e all f.number each.0)
  where
    apart_of : (gs : List Found) → AllByRecursion (λ d. d ≢ f.least.end) (ends gs)
        → AllByRecursion (λ (g : Found). g.least.end ≢ f.least.end) gs
    apart_of [] h = tt
    apart_of (g ∷ gs) h = (h.0, apart_of gs h.1)

-- ---- what is explored

ends_apart : (all : List Placed) (found : List Found)
    → AllByRecursion (IsFound all) found → AreRising found → AreDistinct (ends found)
ends_apart all [] each up = tt
ends_apart all (f ∷ fs) each up = (
  all_map (λ d. d ≢ f.least.end) (λ (g : Found). g.least.end) fs
      (all_weaker (λ (g : Found). (IsFound all g) × (is_less f.least.injections g.least.injections ≡ true))
      (λ (g : Found). g.least.end ≢ f.least.end)
      (λ g both same.
      false≢true (sym (all_among (λ (p : Placed). p.end ≡ g.least.end → is_less p.injections g.least.injections ≡ false)
      all f.least both.0.least each.0.among (sym same)) ∙ both.1))
      fs (all_of_both (IsFound all) (λ (g : Found). is_less f.least.injections g.least.injections ≡ true) fs each.1 up.0)),
  ends_apart all fs each.1 up.1,
)

-- As many placements are found as there are.
pub all_counted : (app : Application) (limits : Limits) (handlers : List ℕ) (most : ℕ) (found : List Found)
    → (is : IsExplored app limits handlers most found) → placements_in found ≡ length is.all
all_counted app limits handlers most found is =
    counted_once found is.all (ends_apart is.all found is.are_found.each is.are_found.rising)
    (all_weaker (IsFound is.all) (Counted is.all) (λ f h. h.number) found is.are_found.each)
    (all_weaker (λ (p : Placed). (f : Found) × Contains found f × (f.least.end ≡ p.end))
    (λ (p : Placed). Contains (ends found) p.end)
    (λ p some. subst (Contains (ends found)) some.2 (among_ends found some.0 some.1)) is.all is.are_found.whole)
  where
    among_ends : (fs : List Found) (f : Found) → Contains fs f → Contains (ends fs) f.least.end
    among_ends fs f h = among_map (λ (g : Found). g.least.end) fs f h
