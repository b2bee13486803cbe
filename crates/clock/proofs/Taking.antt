-- The first entries of a list are taken out, one after another.
use Rattle.std.proofs.Common.{◌≡◌, ◌≢◌, ℕ, ◌<◌, ◌≤◌, inl, inr, Some, None, List, [], ◌∷◌, ◌++◌, length, map, sym, ◌∙◌, ap, ap₂}
use Rattle.std.proofs.Common.{subst, arith, refl, append_assoc, true, false}
use Rattle.std.specs.Prelude.{◌==◌}
use Rattle.std.proofs.lemmas.Bool.{cases_eq, eq-eqb, ne_eqb}
use Rattle.std.proofs.lemmas.Option.{same_Some}
use Rattle.lists.specs.Lists.{Each, IsSorted, IsSound, entries_of, without}
use Rattle.lists.proofs.Entries.{Each-imp, none-some}
use Rattle.lists.proofs.Laws.{without-first, without-others}
use Rattle.clock.specs.Timeline.{all_until, first_at}

-- the list `old` is the tasks that are due and what is left
pub record Taking (old new : List (List (ℕ × ℕ))) (list tick : ℕ) (due : List ℕ) : Type 0 where
  pub whole : entries_of old list ≡ all_until tick due ++ entries_of new list
  pub sorted : IsSorted (entries_of new list)
  pub ahead : Each (λ e. tick ≤ e.1) (entries_of new list)
  pub others : (k : ℕ) → k ≢ list → entries_of new k ≡ entries_of old k

all_until-append : (tick : ℕ) (xs ys : List ℕ) → all_until tick (xs ++ ys) ≡ all_until tick xs ++ all_until tick ys
all_until-append tick [] ys = refl
all_until-append tick (x ∷ xs) ys = ap (λ (zs : List (ℕ × ℕ)). (x, tick) ∷ zs) (all_until-append tick xs ys)

-- the first entry of a list, which is due, and the rest
pub record First (list tick n : ℕ) (lists : List (List (ℕ × ℕ))) : Type 0 where
  pub rest : List (ℕ × ℕ)
  pub is : entries_of lists list ≡ (n, tick) ∷ rest

first_here : (tick : ℕ) (x : ℕ × ℕ) (xs : List (ℕ × ℕ)) → x.1 ≡ tick → first_at tick (x ∷ xs) ≡ Some x.0
first_here tick x xs is = let t : (x.1 == tick) ≡ true = eq-eqb x.1 tick is in rw t refl

first_later : (tick : ℕ) (x : ℕ × ℕ) (xs : List (ℕ × ℕ)) → x.1 ≢ tick → first_at tick (x ∷ xs) ≡ None
first_later tick x xs ne = let t : (x.1 == tick) ≡ false = ne_eqb x.1 tick ne in rw t refl

pub split_at : (tick n : ℕ) (xs : List (ℕ × ℕ)) → Some n ≡ first_at tick xs → (rest : List (ℕ × ℕ)) × (xs ≡ (n, tick) ∷ rest)
split_at tick n [] e = absurd (none-some n (sym e))
split_at tick n (x ∷ xs) e = elim (cases_eq x.1 tick) [
  | inl same ↦ (xs, ap₂ (λ (k v : ℕ). (k, v) ∷ xs) (sym (same_Some n x.0 (e ∙ first_here tick x xs same))) same)
  | inr other ↦ absurd (none-some n (sym (e ∙ first_later tick x xs other)))
]

pub head_of : (list tick n : ℕ) (lists : List (List (ℕ × ℕ)))
    → Some n ≡ first_at tick (entries_of lists list) → First list tick n lists
head_of list tick n lists e =
    let f = split_at tick n (entries_of lists list) e in
    record { rest = f.0; is = f.1 }

pub takes_one : (old new : List (List (ℕ × ℕ))) (list tick n : ℕ) (due : List ℕ) → IsSound 2 32 new
    → Taking old new list tick due → (f : First list tick n new) → Taking old (map (without n) new) list tick (due ++ n ∷ [])
takes_one old new list tick n due sound t f =
    let rest_is : entries_of (map (without n) new) list ≡ f.rest = without-first sound n tick list f.rest f.is in
    let sorted : IsSorted ((n, tick) ∷ f.rest) = subst IsSorted f.is t.sorted in
    let ahead : Each (λ e. tick ≤ e.1) ((n, tick) ∷ f.rest) = subst (Each (λ e. tick ≤ e.1)) f.is t.ahead in
    record {
      whole =
          t.whole ∙ ap (λ (xs : List (ℕ × ℕ)). all_until tick due ++ xs) f.is
          ∙ sym (append_assoc (all_until tick due) ((n, tick) ∷ []) f.rest)
          ∙ ap (λ (xs : List (ℕ × ℕ)). xs ++ f.rest) (sym (all_until-append tick due (n ∷ [])))
          ∙ ap (λ (xs : List (ℕ × ℕ)). all_until tick (due ++ n ∷ []) ++ xs) (sym rest_is);
      sorted = subst IsSorted (sym rest_is) sorted.1;
      ahead = subst (Each (λ e. tick ≤ e.1)) (sym rest_is) ahead.1;
      others = λ k ne. without-others sound n tick list f.rest f.is k ne ∙ t.others k ne;
    }

-- the list is shorter without its first node
pub shorter : (list tick n : ℕ) (lists : List (List (ℕ × ℕ))) → IsSound 2 32 lists → (f : First list tick n lists)
    → length (entries_of (map (without n) lists) list) < length (entries_of lists list)
shorter list tick n lists sound f =
    let after : length (entries_of (map (without n) lists) list) ≡ length f.rest =
    ap length (without-first sound n tick list f.rest f.is) in
    let before : length (entries_of lists list) ≡ length ((n, tick) ∷ f.rest) = ap length f.is in
    omega (arith, after, before)

-- what is left where no more are due
pub none_left : (tick : ℕ) (xs : List (ℕ × ℕ)) → None ≡ first_at tick xs
    → IsSorted xs → Each (λ e. tick ≤ e.1) xs → Each (λ e. tick < e.1) xs
none_left tick [] e s a = tt
none_left tick (x ∷ xs) e s a = elim (cases_eq x.1 tick) [
  | inl same ↦ absurd (none-some x.0 (e ∙ first_here tick x xs same))
  | inr other ↦
      let first_later : tick < x.1 = let le : tick ≤ x.1 = a.0 in omega (arith, le, other) in
      (first_later, Each-imp (λ e. x.1 ≤ e.1) (λ e. tick < e.1) xs (λ e le. omega (arith, le, first_later)) s.0)
]
