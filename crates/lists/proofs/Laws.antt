-- Laws of a table's lists, for crates above: what a change does to each list.
use Rattle.std.proofs.Common.{◌≡◌, ◌≢◌, ℕ, ◌<◌, inl, inr, true, false, Some, None, List, [], ◌∷◌, get_or, set, length, map, sym}
use Rattle.std.proofs.Common.{◌∙◌, ap, subst, arith, refl}
use Rattle.std.proofs.lemmas.List.{length-map, same_lists, get_or_default, get_or-map, get_or_past, get_or-set_same}
use Rattle.std.proofs.lemmas.List.{get_or-set_other}
use Rattle.std.proofs.lemmas.Bool.{lt-ltb, cases_lt, eq-eqb, le-ltb}
use Rattle.std.proofs.lemmas.Option.{same_Some}
use Rattle.std.specs.Prelude.{◌==◌, nat_lt}
use Rattle.std.specs.List.{position_or_len}
use Rattle.std.proofs.lemmas.List.Sums.{position_or_len_is}
use Rattle.lists.specs.Lists.{EachOnce, Apart, entries_of, without, has_node, place_of, IsSound}
use Rattle.lists.proofs.Entries.{none-some, has_or_not, apart_from_test, has_node-apart, without-apart}

-- a list without a node
pub entries_of-without : (n l : ℕ) (ls : List (List (ℕ × ℕ))) → entries_of (map (without n) ls) l ≡ without n (entries_of ls l)
entries_of-without n l ls = elim (cases_lt l (length ls)) [
  | inl below ↦ get_or-map (without n) ls l [] [] below
  | inr past ↦
      let e : get_or ls l [] ≡ [] = get_or_past ls l [] past in
      let m : get_or (map (without n) ls) l [] ≡ [] =
      get_or_past (map (without n) ls) l [] (omega (arith, length-map ls (without n))) in
      m ∙ sym (ap (without n) e)
]

module _ {L N : ℕ} {ls : List (List (ℕ × ℕ))} (sound : IsSound L N ls) (n v l : ℕ)
    (rest : List (ℕ × ℕ)) (first : entries_of ls l ≡ (n, v) ∷ rest) where
  -- the first entry's node is in that list
  pub has_first : has_node n (entries_of ls l) ≡ true
  has_first =
      let eq : (n == n) ≡ true = eq-eqb n n refl in
      ap (has_node n) first ∙ rw eq refl

  -- without its first node a list is its rest, and the others stay
  pub without-first : entries_of (map (without n) ls) l ≡ rest
  without-first =
      let eq : (n == n) ≡ true = eq-eqb n n refl in
      let d : EachOnce ((n, v) ∷ rest) = subst EachOnce first (sound.distinct l) in
      entries_of-without n l ls ∙ ap (without n) first ∙ rw eq (without-apart n rest d.0)

  pub without-others : (k : ℕ) → k ≢ l → entries_of (map (without n) ls) k ≡ entries_of ls k
  without-others k ne = elim (has_or_not n (entries_of ls k)) [
    | inl has ↦ absurd (ne (same_Some k l (sym (sound.one_place n k has) ∙ sound.one_place n l has_first)))
    | inr not ↦ entries_of-without n k ls ∙ without-apart n (entries_of ls k) (apart_from_test n (entries_of ls k) not)
  ]

-- a node that no list has is in no place
pub place_of-None : (n : ℕ) (ls : List (List (ℕ × ℕ)))
    → ((l : ℕ) → l < length ls → Apart (Some n) (entries_of ls l)) → place_of ls n ≡ None
place_of-None n ls h =
    let at : position_or_len (has_node n) ls ≡ length ls =
    position_or_len_is (has_node n) ls (length ls) [] (omega arith)
    (λ k hk. has_node-apart n (entries_of ls k) (h k hk)) (λ i. absurd (omega (arith, i))) in
    let not_below : nat_lt (position_or_len (has_node n) ls) (length ls) ≡ false =
    le-ltb (position_or_len (has_node n) ls) (length ls) (omega (arith, at)) in
    rw not_below refl

-- a list that is written, and the others
pub entries_of-set_same : (ls : List (List (ℕ × ℕ))) (l : ℕ) (entries : List (ℕ × ℕ))
    → l < length ls → entries_of (set ls l entries) l ≡ entries
entries_of-set_same ls l entries below = get_or-set_same ls l entries [] below

pub entries_of-set_other : (ls : List (List (ℕ × ℕ))) (l k : ℕ) (entries : List (ℕ × ℕ))
    → k ≢ l → entries_of (set ls l entries) k ≡ entries_of ls k
entries_of-set_other ls l k entries other = get_or-set_other ls l k entries [] other

-- a node that is in no place is in no list
pub has_node-None : {L N : ℕ} {ls : List (List (ℕ × ℕ))} → IsSound L N ls
    → (n l : ℕ) → place_of ls n ≡ None → has_node n (entries_of ls l) ≡ false
has_node-None {L} {N} {ls} sound n l none = elim (has_or_not n (entries_of ls l)) [
  | inl has ↦ absurd (none-some l (sym none ∙ sound.one_place n l has))
  | inr not ↦ not
]

pub place_of-below : (n l : ℕ) (ls : List (List (ℕ × ℕ))) → place_of ls n ≡ Some l → l < length ls
place_of-below n l ls e = elim (cases_lt (position_or_len (has_node n) ls) (length ls)) [
  | inl less ↦
      let t : nat_lt (position_or_len (has_node n) ls) (length ls) ≡ true =
      lt-ltb (position_or_len (has_node n) ls) (length ls) less in
      let s : place_of ls n ≡ Some (position_or_len (has_node n) ls) = rw t refl in
      subst (λ (k : ℕ). k < length ls) (same_Some (position_or_len (has_node n) ls) l (sym s ∙ e)) less
  | inr past ↦
      let t : nat_lt (position_or_len (has_node n) ls) (length ls) ≡ false =
      le-ltb (position_or_len (has_node n) ls) (length ls) past in
      let s : place_of ls n ≡ None = rw t refl in
      absurd (none-some l (sym s ∙ e))
]

-- without a node that is in no place the lists are as they were
pub map-without-None : {L N : ℕ} {ls : List (List (ℕ × ℕ))} → IsSound L N ls
    → (n : ℕ) → place_of ls n ≡ None → map (without n) ls ≡ ls
map-without-None {L} {N} {ls} sound n none = same_lists _ _ (length-map ls (without n)) (λ j d hj.
    let hj' : j < length ls = subst (λ (k : ℕ). j < k) (length-map ls (without n)) hj in
    get_or-map (without n) ls j [] d hj'
    ∙ without-apart n (get_or ls j []) (apart_from_test n (get_or ls j []) (has_node-None sound n j none))
    ∙ get_or_default ls j [] d hj')
