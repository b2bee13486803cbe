-- Laws of entries: of each of them, of those with or without a node, and of sorted ones.
use Rattle.std.proofs.Common.{◌≡◌, ◌≢◌, ℕ, ◌<◌, ◌≤◌, ◌⊎◌, inl, inr, true, false, Some, None, List, [], ◌∷◌, ◌++◌, length, map, sym}
use Rattle.std.proofs.Common.{◌∙◌, ap, subst, arith, refl, eqb}
use Rattle.std.proofs.lemmas.List.{length-map}
use Rattle.std.proofs.lemmas.Bool.{cases_eq, cases_lt, ne_eqb, eq-eqb, le-ltb, lt-ltb}
use Rattle.std.proofs.lemmas.Option.{same_Some}
use Rattle.std.proofs.lemmas.Map.Steps.{length-le_from_distinct_below}
use Rattle.std.specs.List.{IsDistinct, AllByRecursion, list_any}
use Rattle.std.specs.Prelude.{◌==◌, nat_lt}
use Rattle.lists.specs.Lists.{Each, EachOnce, Apart, IsSorted, first_of, has_node, insert_sorted, without}

pub none-some : (n : ℕ) → None ≢ Some n
none-some n = λ e. cc

-- Each

pub Each-left : {X : Type 0} (P : X → Type 0) (xs ys : List X) → Each P (xs ++ ys) → Each P xs
Each-left P [] ys h = tt
Each-left P (x ∷ xs) ys h = (h.0, Each-left P xs ys h.1)

pub Each-right : {X : Type 0} (P : X → Type 0) (xs ys : List X) → Each P (xs ++ ys) → Each P ys
Each-right P [] ys h = h
Each-right P (x ∷ xs) ys h = Each-right P xs ys h.1

pub Each-append : {X : Type 0} (P : X → Type 0) (xs ys : List X) → Each P xs → Each P ys → Each P (xs ++ ys)
Each-append P [] ys h k = k
Each-append P (x ∷ xs) ys h k = (h.0, Each-append P xs ys h.1 k)

pub Each-imp : {X : Type 0} (P Q : X → Type 0) (xs : List X) → ((x : X) → P x → Q x) → Each P xs → Each Q xs
Each-imp P Q [] f h = tt
Each-imp P Q (x ∷ xs) f h = (f x h.0, Each-imp P Q xs f h.1)

-- nodes that come once

pub distinct-left : (fs bs : List (ℕ × ℕ)) (x : ℕ × ℕ) → EachOnce (fs ++ x ∷ bs) → Apart (Some x.0) fs
distinct-left [] bs x d = tt
distinct-left (f ∷ fs) bs x d =
    let fx = Each-right (λ (e : ℕ × ℕ). Some f.0 ≢ Some e.0) fs (x ∷ bs) d.0 in
    ((λ e. fx.0 (sym e)), distinct-left fs bs x d.1)

pub distinct-right : (fs bs : List (ℕ × ℕ)) → EachOnce (fs ++ bs) → EachOnce bs
distinct-right [] bs d = d
distinct-right (f ∷ fs) bs d = distinct-right fs bs d.1

pub distinct-in : (fs bs : List (ℕ × ℕ)) (n v : ℕ) → Apart (Some n) (fs ++ bs) → EachOnce (fs ++ bs) → EachOnce (fs ++ (n, v) ∷ bs)
distinct-in [] bs n v h d = (h, d)
distinct-in (f ∷ fs) bs n v h d = (
  Each-append (λ (e : ℕ × ℕ). Some f.0 ≢ Some e.0) fs ((n, v) ∷ bs)
      (Each-left (λ (e : ℕ × ℕ). Some f.0 ≢ Some e.0) fs bs d.0)
      ((λ e. h.0 (sym e)), Each-right (λ (e : ℕ × ℕ). Some f.0 ≢ Some e.0) fs bs d.0),
  distinct-in fs bs n v h.1 d.1,
)

pub distinct-out : (fs bs : List (ℕ × ℕ)) (x : ℕ × ℕ) → EachOnce (fs ++ x ∷ bs) → EachOnce (fs ++ bs)
distinct-out [] bs x d = d.1
distinct-out (f ∷ fs) bs x d = (
  Each-append (λ (e : ℕ × ℕ). Some f.0 ≢ Some e.0) fs bs
      (Each-left (λ (e : ℕ × ℕ). Some f.0 ≢ Some e.0) fs (x ∷ bs) d.0)
      (Each-right (λ (e : ℕ × ℕ). Some f.0 ≢ Some e.0) fs (x ∷ bs) d.0).1,
  distinct-out fs bs x d.1,
)

nodes-distinct : (xs : List (ℕ × ℕ)) → EachOnce xs → IsDistinct eqb (map (λ e. e.0) xs)
unfolding IsDistinct
nodes-distinct [] d = tt
nodes-distinct (x ∷ xs) d = (each xs d.0, nodes-distinct xs d.1) where
  each : (ys : List (ℕ × ℕ)) → Apart (Some x.0) ys → AllByRecursion (λ k. eqb x.0 k ≡ false) (map (λ e. e.0) ys)
  each [] h = tt
  each (y ∷ ys) h = (ne_eqb x.0 y.0 (λ e. h.0 (ap Some e)), each ys h.1)

nodes-below : (N : ℕ) (xs : List (ℕ × ℕ)) → Each (λ e. e.0 < N) xs → (q : ℕ) → list_any (eqb q) (map (λ e. e.0) xs) ≡ true → q < N
nodes-below N [] h q t = cc
nodes-below N (x ∷ xs) h q t = elim (cases_eq q x.0) [
  | inl same ↦ omega (arith, h.0, same)
  | inr other ↦
      let ne : eqb q x.0 ≡ false = ne_eqb q x.0 other in
      nodes-below N xs h.1 q (rw ne at t)
]

-- entries of different nodes below N are at most N
pub few_entries : (N : ℕ) (xs : List (ℕ × ℕ)) → Each (λ e. e.0 < N) xs → EachOnce xs → length xs ≤ N
few_entries N xs h d =
    let few = length-le_from_distinct_below (map (λ (e : ℕ × ℕ). e.0) xs) N (nodes-distinct xs d) (nodes-below N xs h) in
    let len : length (map (λ (e : ℕ × ℕ). e.0) xs) ≡ length xs = length-map xs (λ e. e.0) in
    omega (arith, few, len)

-- the first node

pub no_first : (xs : List (ℕ × ℕ)) → None ≡ first_of xs → xs ≡ []
no_first [] e = refl
no_first (x ∷ xs) e = absurd (none-some x.0 e)

pub first_split : (n : ℕ) (xs : List (ℕ × ℕ)) → Some n ≡ first_of xs → (v : ℕ) × (rest : List (ℕ × ℕ)) × (xs ≡ (n, v) ∷ rest)
first_split n [] e = absurd (none-some n (sym e))
first_split n (x ∷ xs) e = (x.1, xs, ap (λ (k : ℕ). (k, x.1) ∷ xs) (sym (same_Some n x.0 e)))

-- whether a node is among entries

pub has_node-same : (n : ℕ) (x : ℕ × ℕ) (xs : List (ℕ × ℕ)) → x.0 ≡ n → has_node n (x ∷ xs) ≡ true
has_node-same n x xs e = let eq : (x.0 == n) ≡ true = eq-eqb x.0 n e in rw eq refl

pub has_node-other : (n : ℕ) (x : ℕ × ℕ) (xs : List (ℕ × ℕ)) → x.0 ≢ n → has_node n (x ∷ xs) ≡ has_node n xs
has_node-other n x xs e = let ne : (x.0 == n) ≡ false = ne_eqb x.0 n e in rw ne refl

pub has_node-apart : (n : ℕ) (xs : List (ℕ × ℕ)) → Apart (Some n) xs → has_node n xs ≡ false
has_node-apart n [] h = refl
has_node-apart n (x ∷ xs) h = has_node-other n x xs (λ e. h.0 (ap Some (sym e))) ∙ has_node-apart n xs h.1

pub has_node-not_apart : (n : ℕ) (xs : List (ℕ × ℕ)) → (Apart (Some n) xs → ⊥) → has_node n xs ≡ true
has_node-not_apart n [] h = absurd (h tt)
has_node-not_apart n (x ∷ xs) h = elim (cases_eq x.0 n) [
  | inl same ↦ has_node-same n x xs same
  | inr other ↦ has_node-other n x xs other ∙ has_node-not_apart n xs (λ a. h ((λ e. other (sym (same_Some n x.0 e))), a))
]

pub apart_from_test : (n : ℕ) (xs : List (ℕ × ℕ)) → has_node n xs ≡ false → Apart (Some n) xs
apart_from_test n [] t = tt
apart_from_test n (x ∷ xs) t = elim (cases_eq x.0 n) [
  | inl same ↦ absurd (let yes = has_node-same n x xs same in cc)
  | inr other ↦ ((λ e. other (sym (same_Some n x.0 e))), apart_from_test n xs (sym (has_node-other n x xs other) ∙ t))
]

pub has_or_not : (n : ℕ) (xs : List (ℕ × ℕ)) → (has_node n xs ≡ true) ⊎ (has_node n xs ≡ false)
has_or_not n xs = elim (has_node n xs) as (λ b. (b ≡ true) ⊎ (b ≡ false)) [ true ↦ inl refl | false ↦ inr refl ]

pub has_node-append : (n : ℕ) (xs ys : List (ℕ × ℕ)) → has_node n xs ≡ false → has_node n (xs ++ ys) ≡ has_node n ys
has_node-append n [] ys t = refl
has_node-append n (x ∷ xs) ys t = elim (cases_eq x.0 n) [
  | inl same ↦ absurd (let yes = has_node-same n x xs same in cc)
  | inr other ↦ has_node-other n x (xs ++ ys) other ∙ has_node-append n xs ys (sym (has_node-other n x xs other) ∙ t)
]

pub has_node-left : (n : ℕ) (xs ys : List (ℕ × ℕ)) → has_node n xs ≡ true → has_node n (xs ++ ys) ≡ true
has_node-left n [] ys t = absurd cc
has_node-left n (x ∷ xs) ys t = elim (cases_eq x.0 n) [
  | inl same ↦ has_node-same n x (xs ++ ys) same
  | inr other ↦ has_node-other n x (xs ++ ys) other ∙ has_node-left n xs ys (sym (has_node-other n x xs other) ∙ t)
]

-- entries without a node

pub without-same : (n : ℕ) (x : ℕ × ℕ) (xs : List (ℕ × ℕ)) → x.0 ≡ n → without n (x ∷ xs) ≡ without n xs
without-same n x xs e = let b : (x.0 == n) ≡ true = eq-eqb x.0 n e in rw b refl

pub without-other : (n : ℕ) (x : ℕ × ℕ) (xs : List (ℕ × ℕ)) → x.0 ≢ n → without n (x ∷ xs) ≡ x ∷ without n xs
without-other n x xs ne = let b : (x.0 == n) ≡ false = ne_eqb x.0 n ne in rw b refl

pub without-apart : (n : ℕ) (xs : List (ℕ × ℕ)) → Apart (Some n) xs → without n xs ≡ xs
without-apart n [] h = refl
without-apart n (x ∷ xs) h =
    without-other n x xs (λ e. h.0 (ap Some (sym e))) ∙ ap (λ (ys : List (ℕ × ℕ)). x ∷ ys) (without-apart n xs h.1)

pub without-append : (n : ℕ) (xs ys : List (ℕ × ℕ)) → without n (xs ++ ys) ≡ without n xs ++ without n ys
without-append n [] ys = refl
without-append n (x ∷ xs) ys = elim (cases_eq x.0 n) [
  | inl same ↦
      without-same n x (xs ++ ys) same ∙ without-append n xs ys
      ∙ ap (λ (zs : List (ℕ × ℕ)). zs ++ without n ys) (sym (without-same n x xs same))
  | inr other ↦
      without-other n x (xs ++ ys) other ∙ ap (λ (zs : List (ℕ × ℕ)). x ∷ zs) (without-append n xs ys)
      ∙ ap (λ (zs : List (ℕ × ℕ)). zs ++ without n ys) (sym (without-other n x xs other))
]

pub without-split : (n w : ℕ) (fs bs : List (ℕ × ℕ)) → Apart (Some n) fs
    → Apart (Some n) bs → without n (fs ++ (n, w) ∷ bs) ≡ fs ++ bs
without-split n w [] bs h k = without-same n (n, w) bs refl ∙ without-apart n bs k
without-split n w (x ∷ fs) bs h k =
    without-other n x (fs ++ (n, w) ∷ bs) (λ e. h.0 (ap Some (sym e)))
    ∙ ap (λ (ys : List (ℕ × ℕ)). x ∷ ys) (without-split n w fs bs h.1 k)

pub Each-without : (P : ℕ × ℕ → Type 0) (n : ℕ) (xs : List (ℕ × ℕ)) → Each P xs → Each P (without n xs)
Each-without P n [] h = tt
Each-without P n (x ∷ xs) h = elim (cases_eq x.0 n) [
  | inl same ↦ subst (Each P) (sym (without-same n x xs same)) (Each-without P n xs h.1)
  | inr other ↦ subst (Each P) (sym (without-other n x xs other)) (h.0, Each-without P n xs h.1)
]

pub has_node-without_it : (n : ℕ) (xs : List (ℕ × ℕ)) → has_node n (without n xs) ≡ false
has_node-without_it n [] = refl
has_node-without_it n (x ∷ xs) = elim (cases_eq x.0 n) [
  | inl same ↦ ap (has_node n) (without-same n x xs same) ∙ has_node-without_it n xs
  | inr other ↦ ap (has_node n) (without-other n x xs other) ∙ has_node-other n x (without n xs) other ∙ has_node-without_it n xs
]

pub has_node-without_other : (n m : ℕ) (xs : List (ℕ × ℕ)) → m ≢ n → has_node m (without n xs) ≡ has_node m xs
has_node-without_other n m [] ne = refl
has_node-without_other n m (x ∷ xs) ne = elim (cases_eq x.0 n) [
  | inl same ↦
      ap (has_node m) (without-same n x xs same) ∙ has_node-without_other n m xs ne
      ∙ sym (has_node-other m x xs (λ e. ne (sym e ∙ same)))
  | inr other ↦ ap (has_node m) (without-other n x xs other) ∙ elim (cases_eq x.0 m) [
    | inl here ↦ has_node-same m x (without n xs) here ∙ sym (has_node-same m x xs here)
    | inr there ↦ has_node-other m x (without n xs) there ∙ has_node-without_other n m xs ne ∙ sym (has_node-other m x xs there)
  ]
]

-- entries with one more

pub insert_sorted-before : (n v : ℕ) (x : ℕ × ℕ) (xs : List (ℕ × ℕ)) → v < x.1 → insert_sorted (n, v) (x ∷ xs) ≡ (n, v) ∷ x ∷ xs
insert_sorted-before n v x xs h = let t : nat_lt v x.1 ≡ true = lt-ltb v x.1 h in rw t refl

pub insert_sorted-after : (n v : ℕ) (x : ℕ × ℕ) (xs : List (ℕ × ℕ))
    → x.1 ≤ v → insert_sorted (n, v) (x ∷ xs) ≡ x ∷ insert_sorted (n, v) xs
insert_sorted-after n v x xs h = let t : nat_lt v x.1 ≡ false = le-ltb v x.1 h in rw t refl

-- before entries of greater values, and after entries of values that are not
pub insert_sorted-left : (n v : ℕ) (xs ys : List (ℕ × ℕ)) → Each (λ e. v < e.1) ys
    → insert_sorted (n, v) (xs ++ ys) ≡ insert_sorted (n, v) xs ++ ys
insert_sorted-left n v [] [] h = refl
insert_sorted-left n v [] (y ∷ ys) h = insert_sorted-before n v y ys h.0
insert_sorted-left n v (x ∷ xs) ys h = elim (cases_lt v x.1) [
  | inl less ↦
      insert_sorted-before n v x (xs ++ ys) less ∙ ap (λ (zs : List (ℕ × ℕ)). zs ++ ys) (sym (insert_sorted-before n v x xs less))
  | inr more ↦
      insert_sorted-after n v x (xs ++ ys) more ∙ ap (λ (zs : List (ℕ × ℕ)). x ∷ zs) (insert_sorted-left n v xs ys h)
      ∙ ap (λ (zs : List (ℕ × ℕ)). zs ++ ys) (sym (insert_sorted-after n v x xs more))
]

pub insert_sorted-right : (n v : ℕ) (xs ys : List (ℕ × ℕ)) → Each (λ e. e.1 ≤ v) xs
    → insert_sorted (n, v) (xs ++ ys) ≡ xs ++ insert_sorted (n, v) ys
insert_sorted-right n v [] ys h = refl
insert_sorted-right n v (x ∷ xs) ys h =
    insert_sorted-after n v x (xs ++ ys) h.0 ∙ ap (λ (zs : List (ℕ × ℕ)). x ∷ zs) (insert_sorted-right n v xs ys h.1)

pub Each-insert_sorted : (P : ℕ × ℕ → Type 0) (n v : ℕ) (xs : List (ℕ × ℕ))
    → P (n, v) → Each P xs → Each P (insert_sorted (n, v) xs)
Each-insert_sorted P n v [] p h = (p, tt)
Each-insert_sorted P n v (x ∷ xs) p h = elim (cases_lt v x.1) [
  | inl less ↦ subst (Each P) (sym (insert_sorted-before n v x xs less)) (p, h)
  | inr more ↦ subst (Each P) (sym (insert_sorted-after n v x xs more)) (h.0, Each-insert_sorted P n v xs p h.1)
]

-- sorted entries

pub IsSorted-insert_sorted : (n v : ℕ) (xs : List (ℕ × ℕ)) → IsSorted xs → IsSorted (insert_sorted (n, v) xs)
IsSorted-insert_sorted n v [] h = (tt, tt)
IsSorted-insert_sorted n v (x ∷ xs) h = elim (cases_lt v x.1) [
  | inl less ↦
      subst IsSorted (sym (insert_sorted-before n v x xs less))
      (((omega (arith, less)), Each-imp (λ e. x.1 ≤ e.1) (λ e. v ≤ e.1) xs (λ e le. omega (arith, le, less)) h.0), h)
  | inr more ↦
      subst IsSorted (sym (insert_sorted-after n v x xs more))
      (Each-insert_sorted (λ e. x.1 ≤ e.1) n v xs more h.0, IsSorted-insert_sorted n v xs h.1)
]

pub IsSorted-without : (n : ℕ) (xs : List (ℕ × ℕ)) → IsSorted xs → IsSorted (without n xs)
IsSorted-without n [] h = tt
IsSorted-without n (x ∷ xs) h = elim (cases_eq x.0 n) [
  | inl same ↦ subst IsSorted (sym (without-same n x xs same)) (IsSorted-without n xs h.1)
  | inr other ↦
      subst IsSorted (sym (without-other n x xs other)) (Each-without (λ e. x.1 ≤ e.1) n xs h.0, IsSorted-without n xs h.1)
]

pub IsSorted-right : (xs ys : List (ℕ × ℕ)) → IsSorted (xs ++ ys) → IsSorted ys
IsSorted-right [] ys h = h
IsSorted-right (x ∷ xs) ys h = IsSorted-right xs ys h.1

-- nodes that come once still do

pub EachOnce-insert_sorted : (n v : ℕ) (xs : List (ℕ × ℕ)) → Apart (Some n) xs → EachOnce xs → EachOnce (insert_sorted (n, v) xs)
EachOnce-insert_sorted n v [] a h = (tt, tt)
EachOnce-insert_sorted n v (x ∷ xs) a h = elim (cases_lt v x.1) [
  | inl less ↦ subst EachOnce (sym (insert_sorted-before n v x xs less)) (a, h)
  | inr more ↦
      subst EachOnce (sym (insert_sorted-after n v x xs more))
      (Each-insert_sorted (λ e. Some x.0 ≢ Some e.0) n v xs (λ e. a.0 (sym e)) h.0, EachOnce-insert_sorted n v xs a.1 h.1)
]

pub EachOnce-without : (n : ℕ) (xs : List (ℕ × ℕ)) → EachOnce xs → EachOnce (without n xs)
EachOnce-without n [] h = tt
EachOnce-without n (x ∷ xs) h = elim (cases_eq x.0 n) [
  | inl same ↦ subst EachOnce (sym (without-same n x xs same)) (EachOnce-without n xs h.1)
  | inr other ↦
      subst EachOnce (sym (without-other n x xs other))
      (Each-without (λ e. Some x.0 ≢ Some e.0) n xs h.0, EachOnce-without n xs h.1)
]
