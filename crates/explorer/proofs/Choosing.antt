-- Choices of handlers, as they are made.
use Rattle.std.proofs.Common.{◌≡◌, ◌≢◌, ◌<◌, ◌≤◌, ◌+◌, ℕ, zero, suc, Bool, true, false, List, [], ◌∷◌, ◌++◌, length, get_or, take}
use Rattle.std.proofs.Common.{eqb, refl, ap, sym, ◌∙◌, subst, arith, inl, inr, length-append, append-nil}
use Rattle.std.specs.Prelude.{Contains}
use Rattle.std.specs.List.{AllByRecursion, flat_map}
use Rattle.std.proofs.lemmas.Bool.{cases_lt, eq-eqb, eqb-true}
use Rattle.std.proofs.lemmas.List.{take_more}
use Rattle.std.proofs.lemmas.List.Concat.{flat_map-append}
use Rattle.std.proofs.lemmas.List.Elements.{Contains-append_left, Contains-push}
use Rattle.model.specs.Placements.{AreDistinct, sequences}
use Rattle.model.proofs.Sorting.{by_test}
use Rattle.model.proofs.Among.{all_among, all_append, all_weaker, distinct_append}
use Rattle.explorer.specs.Choosing.{AreLevels, IsSetOf}

-- ---- a set of handlers

-- those of the handlers that are below this number
pub record SetUntil (handlers set : List ℕ) (n : ℕ) : Type 0 where
  pub once : AreDistinct set
  pub few : length set ≤ n
  pub below : AllByRecursion (λ handler. handler < n) set
  pub are : AllByRecursion (Contains handlers) set
  pub all : (handler : ℕ) → handler < n → Contains handlers handler → Contains set handler

module _ (handlers old : List ℕ) (n : ℕ) (h : SetUntil handlers old n) where
  below_more : AllByRecursion (λ handler. handler < n + 1) old
  below_more = all_weaker (λ handler. handler < n) (λ handler. handler < n + 1) (λ handler l. omega arith) old h.below

  pub set_more : (new : List ℕ) → new ≡ old ++ n ∷ [] → Contains handlers n → SetUntil handlers new (n + 1)
  set_more new is one = subst (λ (xs : List ℕ). SetUntil handlers xs (n + 1)) (sym is) (record {
    once =
        distinct_append old (n ∷ []) h.once (tt, tt)
        (all_weaker (λ handler. handler < n) (λ handler. AllByRecursion (λ other. other ≢ handler) (n ∷ []))
        (λ handler l. ((λ e. absurd (omega (arith, l, e))), tt)) old h.below);
    few = (let few = h.few in omega (arith, length-append old (n ∷ [])));
    below = all_append (λ handler. handler < n + 1) old (n ∷ []) below_more (omega arith, tt);
    are = all_append (Contains handlers) old (n ∷ []) h.are (one, tt);
    all = λ handler l among. by_test (eqb handler n)
        (λ t. subst (Contains (old ++ n ∷ [])) (sym (eqb-true handler n t)) (Contains-push old n))
        (λ t.
        let apart : handler ≢ n = λ e. (let w = eq-eqb handler n e in absurd (cc)) in
        Contains-append_left old (n ∷ []) handler (h.all handler (omega arith) among));
  })

  pub set_same : (Contains handlers n → ⊥) → SetUntil handlers old (n + 1)
  set_same not = record {
    once = h.once;
    few = (let few = h.few in omega arith);
    below = below_more;
    are = h.are;
    all = λ handler l among. by_test (eqb handler n)
        (λ t. absurd (not (subst (Contains handlers) (eqb-true handler n t) among)))
        (λ t.
        let apart : handler ≢ n = λ e. (let w = eq-eqb handler n e in absurd (cc)) in h.all handler (omega arith) among);
  }

  pub set_all : ((handler : ℕ) → Contains handlers handler → handler < n) → IsSetOf handlers old
  set_all low = record {
    once = h.once;
    same = λ handler. (
      (λ among. all_among (Contains handlers) old handler h.are among),
      (λ among. h.all handler (low handler among) among),
    );
  }

-- ---- marks of handlers

-- These have a mark.
pub record MarksUntil (handlers : List ℕ) (marks : List Bool) (i : ℕ) : Type 0 where
  pub long : length marks ≡ 17
  pub are : (n : ℕ) → get_or marks n false ≡ true → Contains handlers n
  pub all : AllByRecursion (λ handler. get_or marks handler false ≡ true) (take i handlers)

-- ---- lists, one by one

pub flat_more : {X Y : Type 0} (f : X → List Y) (xs : List X) (i : ℕ) (d : X) → i < length xs
    → flat_map f (take (i + 1) xs) ≡ flat_map f (take i xs) ++ f (get_or xs i d)
flat_more f xs i d l =
    ap (λ (ys : List _). flat_map f ys) (take_more xs i d l) ∙ flat_map-append f (take i xs) (get_or xs i d ∷ [])
    ∙ ap (λ (ys : List _). flat_map f (take i xs) ++ ys) (append-nil (f (get_or xs i d)))

-- ---- levels

pub levels_more : (handlers : List ℕ) (levels : List (List (List ℕ))) (n : ℕ) (longer : List (List ℕ)) (new : List (List (List ℕ)))
    → AreLevels handlers levels → length levels ≡ n + 1 → new ≡ levels ++ longer ∷ [] → longer ≡ sequences handlers (n + 1)
    → AreLevels handlers new
levels_more handlers levels n longer new are long is seq =
    subst (λ (ls : List (List (List ℕ))). AreLevels handlers ls) (sym is)
    (λ count l. by_test (eqb count (n + 1))
    (λ t.
    let here : count ≡ length levels = eqb-true count (n + 1) t ∙ sym long in
    subst (λ (m : ℕ). get_or (levels ++ longer ∷ []) m [] ≡ sequences handlers m) (sym here)
    (at_seam levels ∙ seq ∙ ap (sequences handlers) (sym long)))
    (λ t.
    let apart : count ≢ n + 1 = λ e. (let w = eq-eqb count (n + 1) e in absurd (cc)) in
    let before : count < length levels = omega (arith, l, length-append levels (longer ∷ []), long, apart) in
    early levels count before ∙ are count before)) where
      at_seam : (ls : List (List (List ℕ))) → get_or (ls ++ longer ∷ []) (length ls) [] ≡ longer
      at_seam [] = refl
      at_seam (x ∷ ls) = at_seam ls

      early : (ls : List (List (List ℕ))) (k : ℕ) → k < length ls → get_or (ls ++ longer ∷ []) k [] ≡ get_or ls k []
      early [] k l = absurd (omega (arith, l))
      early (x ∷ ls) zero l = refl
      early (x ∷ ls) (suc k) l = early ls k (omega (arith, l))

-- What has a mark has a number below that of the marks.
pub low_of : (marks : List Bool) (n : ℕ) → length marks ≡ 17 → get_or marks n false ≡ true → n < 17
low_of marks n long h = elim (cases_lt n 17) [
  | inl l ↦ l
  | inr m ↦ (let none : get_or marks n false ≡ false = past marks n (let le : 17 ≤ n = m in omega (arith, long, le)) in absurd (cc))
] where
  past : (xs : List Bool) (k : ℕ) → length xs ≤ k → get_or xs k false ≡ false
  past [] k l = refl
  past (x ∷ xs) zero l = absurd (omega (arith, l))
  past (x ∷ xs) (suc k) l = past xs k (omega (arith, l))

-- what was read of a level
pub read_level : (levels : List (List (List ℕ))) (n : ℕ) (level : List (List ℕ)) → n < length levels
    → level ≡ get_or levels n level → level ≡ get_or levels n []
read_level [] n level l is = absurd (omega (arith, l))
read_level (x ∷ levels) zero level l is = is
read_level (x ∷ levels) (suc n) level l is = read_level levels n level (omega (arith, l)) is
