-- Lists with priorities in place of values.
use Rattle.std.proofs.Common.{◌≡◌, ℕ, zero, suc, ◌+◌, ◌-◌, ◌<◌, ◌≤◌, inl, inr, Bool, true, false, not, Some, None, List, [], ◌∷◌}
use Rattle.std.proofs.Common.{get_or, set, length, map, replicate, sym, ◌∙◌, ap, ap₂, subst, arith, refl}
use Rattle.std.specs.Prelude.{◌==◌, ◌||◌, nat_lt, if◌then◌else◌}
use Rattle.std.specs.List.{position_or_len}
use Rattle.std.proofs.lemmas.Bool.{cases_eq, cases_lt, lt-ltb, le-ltb}
use Rattle.std.proofs.lemmas.List.{length-map, get_or-map, get_or_past}
use Rattle.lists.specs.Lists.{Each, EachOnce, IsSound, entries_of, first_of, has_node, insert_sorted, place_of, without}
use Rattle.lists.proofs.Entries.{Each-insert_sorted, Each-without, insert_sorted-after, insert_sorted-before, without-other}
use Rattle.lists.proofs.Entries.{without-same}
use Rattle.lists.proofs.Laws.{entries_of-set_other, entries_of-set_same, entries_of-without}
use Rattle.objects.specs.Places.{list_places}
use Rattle.objects.specs.WaitingLists.{AreWaitingLists, mirror, mirrored}
use Rattle.task_lists.specs.Tasks.{insert_by_priority}

-- entries

pub has_node-mirror : (n : ℕ) (xs : List (ℕ × ℕ)) → has_node n (map mirror xs) ≡ has_node n xs
has_node-mirror n [] = refl
has_node-mirror n (x ∷ xs) = ap (λ (b : Bool). x.0 == n || b) (has_node-mirror n xs)

without-mirror : (n : ℕ) (xs : List (ℕ × ℕ)) → map mirror (without n xs) ≡ without n (map mirror xs)
without-mirror n [] = refl
without-mirror n (x ∷ xs) = elim (cases_eq x.0 n) [
  | inl same ↦
      ap (map mirror) (without-same n x xs same) ∙ without-mirror n xs ∙ sym (without-same n (mirror x) (map mirror xs) same)
  | inr other ↦
      ap (map mirror) (without-other n x xs other) ∙ ap (λ (ys : List (ℕ × ℕ)). mirror x ∷ ys) (without-mirror n xs)
      ∙ sym (without-other n (mirror x) (map mirror xs) other)
]

-- before the first of lower priority
falling-before : (e f : ℕ × ℕ) (fs : List (ℕ × ℕ)) → f.1 < e.1 → insert_by_priority e (f ∷ fs) ≡ e ∷ f ∷ fs
falling-before e f fs less = let b : nat_lt f.1 e.1 ≡ true = lt-ltb f.1 e.1 less in rw b refl

falling-after : (e f : ℕ × ℕ) (fs : List (ℕ × ℕ)) → e.1 ≤ f.1 → insert_by_priority e (f ∷ fs) ≡ f ∷ insert_by_priority e fs
falling-after e f fs le = let b : nat_lt f.1 e.1 ≡ false = le-ltb f.1 e.1 le in rw b refl

pub insert_by_priority-mirror : (n p : ℕ) (xs : List (ℕ × ℕ)) → p ≤ 31 → Each (λ e. e.1 ≤ 31) xs
    → map mirror (insert_sorted (n, 31 - p) xs) ≡ insert_by_priority (n, p) (map mirror xs)
insert_by_priority-mirror n p [] fits h = ap (λ (k : ℕ). (n, k) ∷ []) (omega (arith, fits))
insert_by_priority-mirror n p (x ∷ xs) fits h =
    let at : 31 - (31 - p) ≡ p = omega (arith, fits) in
    elim (cases_lt (31 - p) x.1) [
      | inl less ↦
          ap (map mirror) (insert_sorted-before n (31 - p) x xs less)
          ∙ ap (λ (k : ℕ). (n, k) ∷ mirror x ∷ map mirror xs) at
          ∙ sym (falling-before (n, p) (mirror x) (map mirror xs) (omega (arith, less, fits, h.0)))
      | inr more ↦
          ap (map mirror) (insert_sorted-after n (31 - p) x xs more)
          ∙ ap (λ (ys : List (ℕ × ℕ)). mirror x ∷ ys) (insert_by_priority-mirror n p xs fits h.1)
          ∙ sym (falling-after (n, p) (mirror x) (map mirror xs) (omega (arith, more, fits, h.0)))
    ]

Each-mirror : (P : ℕ → Type 0) (xs : List (ℕ × ℕ)) → Each (λ e. P e.0) xs → Each (λ e. P e.0) (map mirror xs)
Each-mirror P [] h = tt
Each-mirror P (x ∷ xs) h = (h.0, Each-mirror P xs h.1)

EachOnce-mirror : (xs : List (ℕ × ℕ)) → EachOnce xs → EachOnce (map mirror xs)
EachOnce-mirror [] h = tt
EachOnce-mirror (x ∷ xs) h = (Each-mirror (λ k. Some x.0 ≡ Some k → ⊥) xs h.0, EachOnce-mirror xs h.1)

-- lists

pub entries_of-mirrored : (ls : List (List (ℕ × ℕ))) (l : ℕ) → entries_of (mirrored ls) l ≡ map mirror (entries_of ls l)
entries_of-mirrored ls l = elim (cases_lt l (length ls)) [
  | inl below ↦ get_or-map (map mirror) ls l [] [] below
  | inr past ↦
      let e : get_or ls l [] ≡ [] = get_or_past ls l [] past in
      let m : get_or (mirrored ls) l [] ≡ [] = get_or_past (mirrored ls) l [] (omega (arith, length-map ls (map mirror))) in
      m ∙ sym (ap (map mirror) e)
]

mirrored-set : (ls : List (List (ℕ × ℕ))) (l : ℕ) (xs : List (ℕ × ℕ)) → mirrored (set ls l xs) ≡ set (mirrored ls) l (map mirror xs)
mirrored-set [] l xs = refl
mirrored-set (y ∷ ys) zero xs = refl
mirrored-set (y ∷ ys) (suc l) xs = ap (λ (zs : List (List (ℕ × ℕ))). map mirror y ∷ zs) (mirrored-set ys l xs)

pub mirrored-without : (n : ℕ) (ls : List (List (ℕ × ℕ))) → mirrored (map (without n) ls) ≡ map (without n) (mirrored ls)
mirrored-without n [] = refl
mirrored-without n (l ∷ ls) =
    ap₂ (λ (e : List (ℕ × ℕ)) (es : List (List (ℕ × ℕ))). e ∷ es) (without-mirror n l) (mirrored-without n ls)

pub mirrored-empty : (n : ℕ) → mirrored (replicate n []) ≡ replicate n []
mirrored-empty zero = refl
mirrored-empty (suc n) = ap (λ (ls : List (List (ℕ × ℕ))). [] ∷ ls) (mirrored-empty n)

place-mirrored : (n : ℕ) (ls : List (List (ℕ × ℕ))) → position_or_len (has_node n) (mirrored ls) ≡ position_or_len (has_node n) ls
place-mirrored n [] = refl
place-mirrored n (l ∷ ls) = ap₂ (λ (b : Bool) (k : ℕ). if not b then 1 + k else 0) (has_node-mirror n l) (place-mirrored n ls)

pub place_of-mirrored : (n : ℕ) (ls : List (List (ℕ × ℕ))) → place_of (mirrored ls) n ≡ place_of ls n
place_of-mirrored n ls = ap₂ (λ (k m : ℕ). if nat_lt k m then Some k else None) (place-mirrored n ls) (length-map ls (map mirror))

pub sound-mirrored : {L N : ℕ} {ls : List (List (ℕ × ℕ))} → IsSound L N ls → IsSound L N (mirrored ls)
sound-mirrored {L} {N} {ls} h =
    let at : (l : ℕ) → map mirror (entries_of ls l) ≡ entries_of (mirrored ls) l = λ l. sym (entries_of-mirrored ls l) in
    record {
      as_many = length-map ls (map mirror) ∙ h.as_many;
      one_place = λ n l has.
          place_of-mirrored n ls ∙ h.one_place n l (sym (has_node-mirror n (entries_of ls l)) ∙ ap (has_node n) (at l) ∙ has);
      distinct = λ l. subst EachOnce (at l) (EachOnce-mirror (entries_of ls l) (h.distinct l));
      nodes = λ l. subst (Each (λ e. e.0 < N)) (at l) (Each-mirror (λ k. k < N) (entries_of ls l) (h.nodes l));
      few = λ l.
          subst (λ (xs : List (ℕ × ℕ)). length xs ≤ N) (at l)
          (let few = h.few l in let same = length-map (entries_of ls l) mirror in omega (arith, few, same));
    }

-- what the calls make of the lists of the table

pub are_waiting_empty : (n : ℕ) → IsSound list_places 32 (replicate n []) → AreWaitingLists (replicate n [])
are_waiting_empty n sound = record { sound = sound; known = λ l. none n l } where
  none : (m l : ℕ) → Each (λ e. e.1 ≤ 31) (entries_of (replicate m []) l)
  none zero l = tt
  none (suc m) zero = tt
  none (suc m) (suc l) = none m l

pub are_waiting_without : {ls : List (List (ℕ × ℕ))} → AreWaitingLists ls → (n : ℕ)
    → IsSound list_places 32 (map (without n) ls) → AreWaitingLists (map (without n) ls)
are_waiting_without {ls} h n sound = record {
  sound = sound;
  known = λ l.
      subst (Each (λ e. e.1 ≤ 31)) (sym (entries_of-without n l ls)) (Each-without (λ e. e.1 ≤ 31) n (entries_of ls l) (h.known l));
}

pub are_waiting_put : {ls : List (List (ℕ × ℕ))} → AreWaitingLists ls → (l n v : ℕ) → l < list_places
    → v ≤ 31 → IsSound list_places 32 (set ls l (insert_sorted (n, v) (entries_of ls l)))
    → AreWaitingLists (set ls l (insert_sorted (n, v) (entries_of ls l)))
are_waiting_put {ls} h l n v below fits sound = record {
  sound = sound;
  known = λ k. elim (cases_eq k l) [
    | inl same ↦
        let many = h.sound.as_many in
        subst (λ (j : ℕ). Each (λ e. e.1 ≤ 31) (entries_of (set ls l (insert_sorted (n, v) (entries_of ls l))) j)) (sym same)
        (subst (Each (λ e. e.1 ≤ 31))
        (sym (entries_of-set_same ls l (insert_sorted (n, v) (entries_of ls l)) (omega (arith, many, below))))
        (Each-insert_sorted (λ e. e.1 ≤ 31) n v (entries_of ls l) fits (h.known l)))
    | inr other ↦
        subst (Each (λ e. e.1 ≤ 31)) (sym (entries_of-set_other ls l k (insert_sorted (n, v) (entries_of ls l)) other)) (h.known k)
  ];
}

pub mirrored-put : {ls : List (List (ℕ × ℕ))} → AreWaitingLists ls → (l n p : ℕ) → p ≤ 31
    → mirrored (set ls l (insert_sorted (n, 31 - p) (entries_of ls l)))
    ≡ set (mirrored ls) l (insert_by_priority (n, p) (entries_of (mirrored ls) l))
mirrored-put {ls} h l n p fits =
    mirrored-set ls l (insert_sorted (n, 31 - p) (entries_of ls l))
    ∙ ap (set (mirrored ls) l) (insert_by_priority-mirror n p (entries_of ls l) fits (h.known l)
    ∙ ap (insert_by_priority (n, p)) (sym (entries_of-mirrored ls l)))

-- the first stays the first
first_of-mirror : (xs : List (ℕ × ℕ)) → first_of xs ≡ first_of (map mirror xs)
first_of-mirror [] = refl
first_of-mirror (x ∷ xs) = refl

pub first_mirrored : (ls : List (List (ℕ × ℕ))) (l : ℕ) → first_of (entries_of ls l) ≡ first_of (entries_of (mirrored ls) l)
first_mirrored ls l = first_of-mirror (entries_of ls l) ∙ ap first_of (sym (entries_of-mirrored ls l))
