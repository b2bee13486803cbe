-- What is found, as more placements come.
use Rattle.std.proofs.Common.{◌≡◌, ◌≢◌, ◌<◌, ◌≤◌, ◌+◌, ℕ, zero, suc, Bool, true, false, List, [], ◌∷◌, ◌++◌, length, map, get_or}
use Rattle.std.proofs.Common.{set, refl, ap, sym, ◌∙◌, subst, arith, inl, inr}
use Rattle.std.specs.Prelude.{Contains, if◌then◌else◌}
use Rattle.std.specs.List.{AllByRecursion}
use Rattle.std.proofs.lemmas.List.{map-append}
use Rattle.std.proofs.lemmas.List.Elements.{Contains-append_left, Contains-append_right, Contains-push}
use Rattle.model.specs.declared.event.End.{End}
use Rattle.model.specs.declared.plan.Injection.{Injection}
use Rattle.model.specs.Placements.{AreDistinct, CountOf, Found, IsFound, Placed, is_less}
use Rattle.model.specs.Placements.CountOf.{Nobody, Counts, Passes}
use Rattle.model.proofs.Among.{all_among, all_append, all_if, all_map, all_weaker, among_map, distinct_append, first_is}
use Rattle.model.proofs.Among.{first_or_later, later_is, none_is}
use Rattle.explorer.specs.Finding.{HasEnd, HaveOthers}
use Rattle.explorer.specs.Tallies.{IsTally, ending_in}
use Rattle.explorer.proofs.Ordering.{not_less, not_less_on}

-- ---- counts

count_as : (e : End) (ps : List Placed) (m n : ℕ) → m ≡ n → CountOf e ps m → CountOf e ps n
count_as e ps m n same h = subst (CountOf e ps) same h

pub count_append : (e : End) (xs ys : List Placed) (a b : ℕ) → CountOf e xs a → CountOf e ys b → CountOf e (xs ++ ys) (a + b)
count_append e _ ys _ b Nobody k = count_as e ys b (0 + b) (omega arith) k
count_append e _ ys _ b (Counts {p} {ps} {n} is h) k =
    count_as e (p ∷ ps ++ ys) (n + b + 1) (n + 1 + b) (omega arith) (Counts is (count_append e ps ys n b h k))
count_append e _ ys _ b (Passes {p} {ps} {n} isnt h) k = Passes isnt (count_append e ps ys n b h k)

pub count_none : (e : End) (ps : List Placed) → AllByRecursion (λ (p : Placed). p.end ≢ e) ps → CountOf e ps 0
count_none e [] h = Nobody
count_none e (p ∷ ps) h = Passes h.0 (count_none e ps h.1)

pub count_all : (e : End) (ps : List Placed) → AllByRecursion (λ (p : Placed). p.end ≡ e) ps → CountOf e ps (length ps)
count_all e [] h = Nobody
count_all e (p ∷ ps) h = count_as e (p ∷ ps) (length ps + 1) (suc (length ps)) (omega arith) (Counts h.0 (count_all e ps h.1))

pub count_most : (e : End) (ps : List Placed) (n : ℕ) → CountOf e ps n → n ≤ length ps
count_most e _ _ Nobody = omega arith
count_most e _ _ (Counts {p} {ps} {n} is h) = let most = count_most e ps n h in omega arith
count_most e _ _ (Passes {p} {ps} {n} isnt h) = let most = count_most e ps n h in omega arith

module _ (all : List Placed) (least : Placed) (plans : List (List Injection)) where
  abbrev more : List Placed
  more = ending_in least plans

  more_end : AllByRecursion (λ (p : Placed). p.end ≡ least.end) more
  more_end = all_map (λ (p : Placed). p.end ≡ least.end) (λ plan. record least { injections = plan }) plans
      (all_if (λ plan. least.end ≡ least.end) plans (λ plan is. refl))

  length_more : length more ≡ length plans
  length_more = long plans where
    long : (ps : List (List Injection)) → length (ending_in least ps) ≡ length ps
    long [] = refl
    long (p ∷ ps) = ap suc (long ps)

  -- what is found of another end
  other_found : (g : Found) → g.least.end ≢ least.end → IsFound all g → IsFound (all ++ more) g
  other_found g apart h = record {
    number =
        count_as g.least.end (all ++ more) (g.number + 0) g.number (omega arith)
        (count_append g.least.end all more g.number 0 h.number
        (count_none g.least.end more
        (all_weaker (λ (p : Placed). p.end ≡ least.end) (λ (p : Placed). p.end ≢ g.least.end)
        (λ p e same. apart (sym same ∙ e)) more more_end)));
    among = Contains-append_left all more g.least h.among;
    least =
        all_append (λ (p : Placed). p.end ≡ g.least.end → is_less p.injections g.least.injections ≡ false) all more h.least
        (all_weaker (λ (p : Placed). p.end ≡ least.end)
        (λ (p : Placed). p.end ≡ g.least.end → is_less p.injections g.least.injections ≡ false)
        (λ p e same. absurd (apart (sym same ∙ e))) more more_end);
  }

  others_found : (found : List Found) → HaveOthers found least.end → AllByRecursion (IsFound all) found
      → AllByRecursion (IsFound (all ++ more)) found
  others_found [] apart h = tt
  others_found (g ∷ found) apart h = (other_found g apart.0 h.0, others_found found apart.1 h.1)

  module _ (among : Contains plans least.injections)
      (none_less : AllByRecursion (λ plan. is_less plan least.injections ≡ false) plans) where
    in_more : Contains more least
    in_more = among_map (λ (plan : List Injection). record least { injections = plan }) plans least.injections among

    less_more : AllByRecursion (λ (p : Placed). is_less p.injections least.injections ≡ false) more
    less_more = all_map (λ (p : Placed). is_less p.injections least.injections ≡ false)
        (λ plan. record least { injections = plan }) plans none_less

    -- an end that nothing had
    pub tally_new : (old new : List Found) (f : Found) → f.least ≡ least → f.number ≡ length plans → HaveOthers old least.end
        → new ≡ old ++ f ∷ [] → IsTally all old → IsTally (all ++ more) new
    tally_new old new f is number others added h =
        let none : AllByRecursion (λ (p : Placed). p.end ≢ least.end) all =
        all_weaker (λ (p : Placed). (g : Found) × Contains old g × (g.least.end ≡ p.end)) (λ (p : Placed). p.end ≢ least.end)
        (λ p some e. all_among (λ (g : Found). g.least.end ≢ least.end) old some.0 others some.1 (some.2 ∙ e)) all h.whole in
        let one : IsFound (all ++ more) (record { number = length plans; least = least }) = record {
          number =
              count_as least.end (all ++ more) (0 + length more) (length plans) (omega (arith, length_more))
              (count_append least.end all more 0 (length more) (count_none least.end all none) (count_all least.end more more_end));
          among = Contains-append_right all more least in_more;
          least =
              all_append (λ (p : Placed). p.end ≡ least.end → is_less p.injections least.injections ≡ false) all more
              (all_weaker (λ (p : Placed). p.end ≢ least.end)
              (λ (p : Placed). p.end ≡ least.end → is_less p.injections least.injections ≡ false)
              (λ p apart e. absurd (apart e)) all none)
              (all_weaker (λ (p : Placed). is_less p.injections least.injections ≡ false)
              (λ (p : Placed). p.end ≡ least.end → is_less p.injections least.injections ≡ false)
              (λ p l e. l) more less_more);
        } in
        let f_is : record { number = length plans; least = least } ≡ f =
        ap (λ (n : ℕ). record { number = n; least = least }) (sym number)
        ∙ ap (λ (p : Placed). record { number = f.number; least = p }) (sym is) in
        let end : f.least.end ≡ least.end = ap (λ (p : Placed). p.end) is in
        subst (IsTally (all ++ more)) (sym added) (record {
          each =
              all_append (IsFound (all ++ more)) old (f ∷ []) (others_found old others h.each)
              (subst (IsFound (all ++ more)) f_is one, tt);
          whole =
              all_append (λ (p : Placed). (g : Found) × Contains (old ++ f ∷ []) g × (g.least.end ≡ p.end)) all more
              (all_weaker (λ (p : Placed). (g : Found) × Contains old g × (g.least.end ≡ p.end))
              (λ (p : Placed). (g : Found) × Contains (old ++ f ∷ []) g × (g.least.end ≡ p.end))
              (λ p some. (some.0, Contains-append_left old (f ∷ []) some.0 some.1, some.2)) all h.whole)
              (all_weaker (λ (p : Placed). p.end ≡ least.end)
              (λ (p : Placed). (g : Found) × Contains (old ++ f ∷ []) g × (g.least.end ≡ p.end))
              (λ p e. (f, Contains-push old f, end ∙ sym e)) more more_end);
          apart =
              subst AreDistinct (sym (map-append (λ (g : Found). g.least.end) old (f ∷ [])))
              (distinct_append (map (λ (g : Found). g.least.end) old) (f.least.end ∷ []) h.apart (tt, tt)
              (all_map (λ e. AllByRecursion (λ d. d ≢ e) (f.least.end ∷ [])) (λ (g : Found). g.least.end) old
              (all_weaker (λ (g : Found). g.least.end ≢ least.end)
              (λ (g : Found). AllByRecursion (λ d. d ≢ g.least.end) (f.least.end ∷ []))
              (λ g isnt. ((λ e. isnt (sym e ∙ end)), tt)) old others)));
        })

    -- an end that something had
    module _ (one added : Found) (has : one.least.end ≡ least.end) (number : added.number ≡ one.number + length plans)
        (lesser : added.least ≡ (if is_less least.injections one.least.injections then least else one.least)) where
      least_of_both : (h : IsFound all one) (test : Bool) → is_less least.injections one.least.injections ≡ test
          → ((if test then least else one.least).end ≡ least.end) × Contains (all ++ more) (if test then least else one.least)
          × AllByRecursion (λ (p : Placed). p.end ≡ least.end
          → is_less p.injections (if test then least else one.least).injections ≡ false) (all ++ more)
      least_of_both h true t = (
        refl,
        Contains-append_right all more least in_more,
        all_append (λ (p : Placed). p.end ≡ least.end → is_less p.injections least.injections ≡ false) all more
            (all_weaker (λ (p : Placed). p.end ≡ one.least.end → is_less p.injections one.least.injections ≡ false)
            (λ (p : Placed). p.end ≡ least.end → is_less p.injections least.injections ≡ false)
            (λ p l e. not_less p.injections least.injections one.least.injections (l (e ∙ sym has)) t) all h.least)
            (all_weaker (λ (p : Placed). is_less p.injections least.injections ≡ false)
            (λ (p : Placed). p.end ≡ least.end → is_less p.injections least.injections ≡ false) (λ p l e. l) more less_more),
      )
      least_of_both h false t = (
        has,
        Contains-append_left all more one.least h.among,
        all_append (λ (p : Placed). p.end ≡ least.end → is_less p.injections one.least.injections ≡ false) all more
            (all_weaker (λ (p : Placed). p.end ≡ one.least.end → is_less p.injections one.least.injections ≡ false)
            (λ (p : Placed). p.end ≡ least.end → is_less p.injections one.least.injections ≡ false)
            (λ p l e. l (e ∙ sym has)) all h.least)
            (all_weaker (λ (p : Placed). is_less p.injections least.injections ≡ false)
            (λ (p : Placed). p.end ≡ least.end → is_less p.injections one.least.injections ≡ false)
            (λ p l e. not_less_on p.injections least.injections one.least.injections l t) more less_more),
      )

      added_end : IsFound all one → added.least.end ≡ least.end
      added_end h = ap (λ (p : Placed). p.end) lesser ∙ (least_of_both h (is_less least.injections one.least.injections) refl).0

      added_found : IsFound all one → IsFound (all ++ more) added
      added_found h =
          let both = least_of_both h (is_less least.injections one.least.injections) refl in
          let end = added_end h in
          record {
            number =
                subst (λ (e : End). CountOf e (all ++ more) added.number) (sym end)
                (count_as least.end (all ++ more) (one.number + length more) added.number (omega (arith, number, length_more))
                (count_append least.end all more one.number (length more)
                (subst (λ (e : End). CountOf e all one.number) has h.number) (count_all least.end more more_end)));
            among = subst (Contains (all ++ more)) (sym lesser) both.1;
            least =
                all_weaker (λ (p : Placed). p.end ≡ least.end
                → is_less p.injections (if is_less least.injections one.least.injections then least else one.least).injections
                ≡ false)
                (λ (p : Placed). p.end ≡ added.least.end → is_less p.injections added.least.injections ≡ false)
                (λ p l e.
                subst (λ (q : Placed). is_less p.injections q.injections ≡ false) (sym lesser) (l (e ∙ end)))
                (all ++ more) both.2;
          }

      abbrev ends : List Found → List End
      ends found = map (λ (g : Found). g.least.end) found

      others_of : (found : List Found) (e : End) → AllByRecursion (λ d. d ≢ e) (ends found)
          → e ≡ least.end → HaveOthers found least.end
      others_of [] e apart same = tt
      others_of (g ∷ found) e apart same = ((λ is. apart.0 (is ∙ sym same)), others_of found e apart.1 same)

      end_at : (found : List Found) (i : ℕ) → i < length found → get_or found i one ≡ one → Contains (ends found) one.least.end
      end_at [] i l is = absurd (omega (arith, l))
      end_at (g ∷ found) zero l is =
          subst (λ (x : Found). Contains (g.least.end ∷ ends found) x.least.end) is (first_is g.least.end (ends found))
      end_at (g ∷ found) (suc i) l is =
          later_is g.least.end (ends found) one.least.end (end_at found i (omega (arith, l)) is)

      found_at : (found : List Found) (i : ℕ) → i < length found → get_or found i one ≡ one
          → AllByRecursion (IsFound all) found → IsFound all one
      found_at [] i l is h = absurd (omega (arith, l))
      found_at (g ∷ found) zero l is h = subst (IsFound all) is h.0
      found_at (g ∷ found) (suc i) l is h = found_at found i (omega (arith, l)) is h.1

      each_with : (found : List Found) (i : ℕ) → i < length found → get_or found i one ≡ one → AreDistinct (ends found)
          → AllByRecursion (IsFound all) found → AllByRecursion (IsFound (all ++ more)) (set found i added)
      each_with [] i l is apart h = absurd (omega (arith, l))
      each_with (g ∷ found) zero l is apart h = (
        added_found (subst (IsFound all) is h.0),
        others_found found (others_of found g.least.end apart.0 (ap (λ (x : Found). x.least.end) is ∙ has)) h.1,
      )
      each_with (g ∷ found) (suc i) l is apart h = (
        other_found g
            (λ e. all_among (λ d. d ≢ g.least.end) (ends found) one.least.end apart.0 (end_at found i (omega (arith, l)) is)
            (has ∙ sym e))
            h.0,
        each_with found i (omega (arith, l)) is apart.1 h.1,
      )

      same_ends : (found : List Found) (i : ℕ) → i < length found → get_or found i one ≡ one → added.least.end ≡ least.end
          → ends (set found i added) ≡ ends found
      same_ends [] i l is e = absurd (omega (arith, l))
      same_ends (g ∷ found) zero l is e =
          ap (λ (d : End). d ∷ ends found) (e ∙ sym has ∙ sym (ap (λ (x : Found). x.least.end) is))
      same_ends (g ∷ found) (suc i) l is e = ap (λ (ds : List End). g.least.end ∷ ds) (same_ends found i (omega (arith, l)) is e)

      still_there : (found : List Found) (i : ℕ) (f : Found) → i < length found → get_or found i one ≡ one
          → added.least.end ≡ least.end → Contains found f
          → (g : Found) × Contains (set found i added) g × (g.least.end ≡ f.least.end)
      still_there [] i f l is e h = none_is f h
      still_there (g ∷ found) zero f l is e h = elim (first_or_later g found f h) [
        | inl same ↦ (
          added,
          first_is added found,
          e ∙ sym has ∙ sym (ap (λ (x : Found). x.least.end) is) ∙ sym
              (ap (λ (x : Found). x.least.end) same),
        )
        | inr later ↦ (f, later_is added found f later, refl)
      ]
      still_there (g ∷ found) (suc i) f l is e h = elim (first_or_later g found f h) [
        | inl same ↦ (g, first_is g (set found i added), sym (ap (λ (x : Found). x.least.end) same))
        | inr later ↦
            (let some = still_there found i f (omega (arith, l)) is e later in
            (some.0, later_is g (set found i added) some.0 some.1, some.2))
      ]

      added_in : (found : List Found) (i : ℕ) → i < length found → Contains (set found i added) added
      added_in [] i l = absurd (omega (arith, l))
      added_in (g ∷ found) zero l = first_is added found
      added_in (g ∷ found) (suc i) l = later_is g (set found i added) added (added_in found i (omega (arith, l)))

      pub tally_at : (old new : List Found) (i : ℕ) → i < length old → get_or old i one ≡ one → new ≡ set old i added
          → IsTally all old → IsTally (all ++ more) new
      tally_at old new i l is set_is h =
          let end = added_end (found_at old i l is h.each) in
          subst (IsTally (all ++ more)) (sym set_is) (record {
            each = each_with old i l is h.apart h.each;
            whole =
                all_append (λ (p : Placed). (g : Found) × Contains (set old i added) g × (g.least.end ≡ p.end)) all more
                (all_weaker (λ (p : Placed). (g : Found) × Contains old g × (g.least.end ≡ p.end))
                (λ (p : Placed). (g : Found) × Contains (set old i added) g × (g.least.end ≡ p.end))
                (λ p some.
                let there = still_there old i some.0 l is end some.1 in (there.0, there.1, there.2 ∙ some.2)) all h.whole)
                (all_weaker (λ (p : Placed). p.end ≡ least.end)
                (λ (p : Placed). (g : Found) × Contains (set old i added) g × (g.least.end ≡ p.end))
                (λ p e. (added, added_in old i l, end ∙ sym e)) more more_end);
            apart = subst AreDistinct (sym (same_ends old i l is end)) h.apart;
          })

same_at : {X : Type 0} (xs : List X) (i : ℕ) (x y : X) → i < length xs → get_or xs i x ≡ get_or xs i y
same_at [] i x y l = absurd (omega (arith, l))
same_at (z ∷ xs) zero x y l = refl
same_at (z ∷ xs) (suc i) x y l = same_at xs i x y (omega (arith, l))

pub has_end : (found : List Found) (e : End) (i : ℕ) → HasEnd found e i → (one : Found) → get_or found i one ≡ one → one.least.end
    ≡ e
has_end found e i h one is = ap (λ (f : Found). f.least.end) (sym is ∙ same_at found i one h.one h.within ∙ h.is) ∙ h.has
