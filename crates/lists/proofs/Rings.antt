-- The arrays of a table whose lists are rings: the links of nodes and of ends, and what a write to them does.
use Rattle.std.proofs.Common.{◌≡◌, ◌≢◌, ℕ, zero, suc, ◌+◌, ◌<◌, ◌≤◌, inl, inr, true, false, Option, Some, None, List, [], ◌∷◌, ◌++◌}
use Rattle.std.proofs.Common.{get_or, set, take, drop, length, map, replicate, sym, ◌∙◌, ap, subst, arith, refl}
use Rattle.std.specs.Prelude.{nat_lt}
use Rattle.std.proofs.lemmas.List.{get_or-map, get_or-take, get_or-drop, get_or-set_same, get_or-set_other, length-map, length-set}
use Rattle.std.proofs.lemmas.List.{length-drop, length-take-le, take-set-le, drop-set-lt, drop-set-add, map-set}
use Rattle.std.proofs.lemmas.Bool.{cases_eq, cases_lt, le-ltb, lt-ltb}
use Rattle.std.proofs.lemmas.Option.{same_Some}
use Rattle.lists.specs.Lists.{first_of, place_of, without, IsSound}
use Rattle.lists.specs.Links.{node_at, links_of, ends_of, lists_of, at_link, put_link, put_end, IsIn, StaysIn, Spells, SpellsRings}
use Rattle.lists.specs.Links.{IsRingTable}
use Rattle.lists.proofs.Entries.{no_first, none-some}
use Rattle.lists.proofs.Spelled.{around_placed, first_is, get_or-replicate, list_below, lists_of-Spells, place_is, place_placed}
use Rattle.lists.proofs.Spelled.{put_spells}
use Rattle.lists.proofs.Spelled.{sound, spells_empty, take_placed, take_spells}
use Rattle.lists.proofs.Same.{same_spells}

-- the node at a link

pub node-below : (N x : ℕ) → x < N → node_at N x ≡ Some x
node-below N x h = let test : nat_lt x N ≡ true = lt-ltb x N h in rw test refl

pub end-none : (N x : ℕ) → N ≤ x → node_at N x ≡ None
end-none N x h = let test : nat_lt x N ≡ false = le-ltb x N h in rw test refl

pub node-some : (N x m : ℕ) → node_at N x ≡ Some m → (x ≡ m) × (m < N)
node-some N x m e = elim (cases_lt x N) [
  | inl below ↦ let is : x ≡ m = same_Some x m (sym (node-below N x below) ∙ e) in (is, subst (λ (k : ℕ). k < N) is below)
  | inr past ↦ absurd (none-some m (sym (end-none N x past) ∙ e))
]

pub node-none : (N x : ℕ) → node_at N x ≡ None → N ≤ x
node-none N x e = elim (cases_lt x N) [
  | inl below ↦ absurd (none-some x (sym e ∙ node-below N x below))
  | inr past ↦ past
]

-- reads

pub length_links : (N : ℕ) (xs : List ℕ) → N ≤ length xs → length (links_of N xs) ≡ N
unfolding links_of
length_links N xs h = length-map (take N xs) (node_at N) ∙ length-take-le N xs h

pub length_ends : (N L : ℕ) (xs : List ℕ) → length xs ≡ N + L → length (ends_of N xs) ≡ L
unfolding ends_of
length_ends N L xs h =
    let all : length (map (node_at N) (drop N xs)) ≡ length (drop N xs) = length-map (drop N xs) (node_at N) in
    omega (arith, all, h, length-drop N xs)

pub read_node : (N : ℕ) (xs : List ℕ) (n : ℕ) → n < N → N ≤ length xs → get_or (links_of N xs) n None ≡ node_at N (get_or xs n 0)
unfolding links_of
read_node N xs n hn len =
    let taken : length (take N xs) ≡ N = length-take-le N xs len in
    get_or-map (node_at N) (take N xs) n 0 None (omega (arith, taken, hn)) ∙ ap (node_at N) (get_or-take N xs n 0 hn)

pub read_end : (N l : ℕ) (xs : List ℕ) → N + l < length xs → get_or (ends_of N xs) l None ≡ node_at N (get_or xs (N + l) 0)
unfolding ends_of
read_end N l xs len =
    get_or-map (node_at N) (drop N xs) l 0 None (omega (arith, length-drop N xs, len)) ∙ ap (node_at N) (get_or-drop N xs l 0)

pub read_at : (N l x : ℕ) (xs : List ℕ) → N + l < length xs → (N ≤ x → x ≡ N + l)
    → at_link (links_of N xs) (get_or (ends_of N xs) l None) (node_at N x) ≡ node_at N (get_or xs x 0)
read_at N l x xs len at_end = elim (cases_lt x N) [
  | inl below ↦
      let test : nat_lt x N ≡ true = lt-ltb x N below in
      rw test (read_node N xs x below (omega (arith, len)))
  | inr past ↦
      let test : nat_lt x N ≡ false = le-ltb x N past in
      rw test (read_end N l xs len ∙ ap (λ (k : ℕ). node_at N (get_or xs k 0)) (sym (at_end past)))
]

-- writes

take-set-all : (n : ℕ) (xs : List ℕ) (i v : ℕ) → take n (set xs i v) ≡ set (take n xs) i v
take-set-all zero xs i v = refl
take-set-all (suc n) [] i v = refl
take-set-all (suc n) (x ∷ xs) zero v = refl
take-set-all (suc n) (x ∷ xs) (suc i) v = ap (λ (ys : List ℕ). x ∷ ys) (take-set-all n xs i v)

pub write_node : (N x v : ℕ) (xs : List ℕ) → links_of N (set xs x v) ≡ set (links_of N xs) x (node_at N v)
unfolding links_of
write_node N x v xs = ap (map (node_at N)) (take-set-all N xs x v) ∙ map-set (node_at N) (take N xs) x v

pub keep_ends : (N x v : ℕ) (xs : List ℕ) → x < N → ends_of N (set xs x v) ≡ ends_of N xs
unfolding ends_of
keep_ends N x v xs below = ap (map (node_at N)) (drop-set-lt N xs x v below)

pub keep_links : (N x v : ℕ) (xs : List ℕ) → N ≤ x → links_of N (set xs x v) ≡ links_of N xs
unfolding links_of
keep_links N x v xs past = ap (map (node_at N)) (take-set-le N xs x v past)

pub write_end : (N l v : ℕ) (xs : List ℕ) → ends_of N (set xs (N + l) v) ≡ set (ends_of N xs) l (node_at N v)
unfolding ends_of
write_end N l v xs = ap (map (node_at N)) (drop-set-add N xs l v) ∙ map-set (node_at N) (drop N xs) l v

pub write_links : (N x v : ℕ) (xs : List ℕ) → links_of N (set xs x v) ≡ put_link (links_of N xs) (node_at N x) (node_at N v)
write_links N x v xs = elim (cases_lt x N) [
  | inl below ↦
      let test : nat_lt x N ≡ true = lt-ltb x N below in
      rw test (write_node N x v xs)
  | inr past ↦
      let test : nat_lt x N ≡ false = le-ltb x N past in
      rw test (keep_links N x v xs past)
]

pub write_ends : (N l x v : ℕ) (xs : List ℕ) → (N ≤ x → x ≡ N + l)
    → ends_of N (set xs x v) ≡ put_end (ends_of N xs) l (node_at N x) (node_at N v)
write_ends N l x v xs at_end = elim (cases_lt x N) [
  | inl below ↦
      let test : nat_lt x N ≡ true = lt-ltb x N below in
      rw test (keep_ends N x v xs below)
  | inr past ↦
      let test : nat_lt x N ≡ false = le-ltb x N past in
      rw test (ap (λ (k : ℕ). ends_of N (set xs k v)) (at_end past) ∙ write_end N l v xs)
]

-- which list a link is of

one_list : (N : ℕ) (place : List (Option ℕ)) (at i j : ℕ) → IsIn N place i at → IsIn N place j at → i ≡ j
one_list N place at i j a b = elim a [
  | inl x ↦ elim b [
    | inl y ↦ same_Some i j (sym x.1 ∙ y.1)
    | inr y ↦ absurd (omega (arith, x.0, y))
  ]
  | inr x ↦ elim b [
    | inl y ↦ absurd (omega (arith, y.0, x))
    | inr y ↦ omega (arith, x, y)
  ]
]

module _ (L N : ℕ) (place : List (Option ℕ)) (links : List ℕ) (h : StaysIn L N place links) where
  -- a write of a link that stays in the list
  stays_written : (x v : ℕ) → x < length links
      → ((l : ℕ) → IsIn N place l x → N ≤ v → v ≡ N + l) → StaysIn L N place (set links x v)
  stays_written x v hx stays = λ at l hl is_in past. elim (cases_eq at x) [
    | inl same ↦
        let written : get_or (set links x v) at 0 ≡ v =
        ap (λ (k : ℕ). get_or (set links x v) k 0) same ∙ get_or-set_same links x v 0 hx in
        written ∙ stays l (subst (IsIn N place l) same is_in) (omega (arith, written, past))
    | inr other ↦
        let kept : get_or (set links x v) at 0 ≡ get_or links at 0 = get_or-set_other links x at v 0 other in
        kept ∙ h at l hl is_in (omega (arith, kept, past))
  ]

  -- a node leaves its list
  stays_left : (n : ℕ) → n < length place → StaysIn L N (set place n None) links
  stays_left n hn = λ at l hl is_in past. elim is_in [
    | inl node ↦ elim (cases_eq at n) [
      | inl same ↦
          absurd (none-some l
          (sym (get_or-set_same place n None None hn) ∙ ap (λ (k : ℕ). get_or (set place n None) k None) (sym same) ∙ node.1))
      | inr other ↦ h at l hl (inl (node.0, sym (get_or-set_other place n at None None other) ∙ node.1)) past
    ]
    | inr end ↦ h at l hl (inr end) past
  ]

  -- a node comes into a list
  stays_joined : (n i : ℕ) → n < length place → (N ≤ get_or links n 0 → get_or links n 0 ≡ N + i)
      → StaysIn L N (set place n (Some i)) links
  stays_joined n i hn stays = λ at l hl is_in past. elim is_in [
    | inl node ↦ elim (cases_eq at n) [
      | inl same ↦
          let l_is : i ≡ l =
          same_Some i l (sym (get_or-set_same place n (Some i) None hn)
          ∙ ap (λ (k : ℕ). get_or (set place n (Some i)) k None) (sym same) ∙ node.1) in
          let link_is : get_or links at 0 ≡ get_or links n 0 = ap (λ (k : ℕ). get_or links k 0) same in
          link_is ∙ stays (omega (arith, link_is, past)) ∙ ap (λ (k : ℕ). N + k) l_is
      | inr other ↦ h at l hl (inl (node.0, sym (get_or-set_other place n at (Some i) None other) ∙ node.1)) past
    ]
    | inr end ↦ h at l hl (inr end) past
  ]

module _ {L N M : ℕ} {next prev : List ℕ} {place : List (Option ℕ)} {values : List ℕ}
    {ls : List (List (ℕ × ℕ))} (h : SpellsRings L N M next prev place values ls) where
  -- a link of a list is among the links
  pub within : (l x : ℕ) → l < L → (N ≤ x → x ≡ N + l) → x < M
  within l x hl at_end =
      let many = h.as_many in
      elim (cases_lt x N) [
        | inl below ↦ omega (arith, many, below)
        | inr past ↦ let is : x ≡ N + l = at_end past in omega (arith, many, is, hl)
      ]

  pub next_room : N ≤ length next
  next_room = let many = h.as_many in let len = h.next_length in omega (arith, many, len)

  pub prev_room : N ≤ length prev
  prev_room = let many = h.as_many in let len = h.prev_length in omega (arith, many, len)

  -- the links of a node in a list lead to nodes of it, or to its end
  pub record Around (n l : ℕ) : Type 0 where
    pub list : l < L
    pub before_end : N ≤ get_or prev n 0 → get_or prev n 0 ≡ N + l
    pub after_end : N ≤ get_or next n 0 → get_or next n 0 ≡ N + l
    pub before_in : IsIn N place l (get_or prev n 0)
    pub after_in : IsIn N place l (get_or next n 0)
    pub before_is : get_or (links_of N prev) n None ≡ node_at N (get_or prev n 0)
    pub after_is : get_or (links_of N next) n None ≡ node_at N (get_or next n 0)

  pub around : (n l : ℕ) → n < N → get_or place n None ≡ Some l → Around n l
  around n l hn at_list =
      let hl = list_below h.spells n l at_list in
      let before = get_or prev n 0 in
      let after = get_or next n 0 in
      let before_end : N ≤ before → before ≡ N + l = h.back n l hl (inl (hn, at_list)) in
      let after_end : N ≤ after → after ≡ N + l = h.forth n l hl (inl (hn, at_list)) in
      let before_is : get_or (links_of N prev) n None ≡ node_at N before = read_node N prev n hn prev_room in
      let after_is : get_or (links_of N next) n None ≡ node_at N after = read_node N next n hn next_room in
      let placed = around_placed h.spells n l at_list in
      record {
        list = hl;
        before_end = before_end;
        after_end = after_end;
        before_in = elim (cases_lt before N) [
          | inl below ↦ inl (below, (placed.0 before (before_is ∙ node-below N before below)).1)
          | inr past ↦ inr (before_end past)
        ];
        after_in = elim (cases_lt after N) [
          | inl below ↦ inl (below, (placed.1 after (after_is ∙ node-below N after below)).1)
          | inr past ↦ inr (after_end past)
        ];
        before_is = before_is;
        after_is = after_is;
      }

  -- what is around a node is linked, and the node is in no list
  relinked : (n l : ℕ) (ls' : List (List (ℕ × ℕ))) → n < N → get_or place n None ≡ Some l
      → Spells L N (put_link (links_of N next) (node_at N (get_or prev n 0)) (node_at N (get_or next n 0)))
      (put_link (links_of N prev) (node_at N (get_or next n 0)) (node_at N (get_or prev n 0))) (set place n None)
      values (put_end (ends_of N next) l (node_at N (get_or prev n 0)) (node_at N (get_or next n 0)))
      (put_end (ends_of N prev) l (node_at N (get_or next n 0)) (node_at N (get_or prev n 0))) ls'
      → SpellsRings L N M (set next (get_or prev n 0) (get_or next n 0))
      (set prev (get_or next n 0) (get_or prev n 0)) (set place n None) values ls'
  relinked n l ls' hn at_list spells =
      let a = around n l hn at_list in
      let before = get_or prev n 0 in
      let after = get_or next n 0 in
      let n_place : n < length place = subst (λ (k : ℕ). n < k) (sym h.spells.place_length) hn in
      let before_next : before < length next =
      subst (λ (k : ℕ). before < k) (sym h.next_length) (within l before a.list a.before_end) in
      let after_prev : after < length prev = subst (λ (k : ℕ). after < k) (sym h.prev_length) (within l after a.list a.after_end) in
      record {
        as_many = h.as_many;
        next_length = length-set next before after ∙ h.next_length;
        prev_length = length-set prev after before ∙ h.prev_length;
        spells =
            rw (
              write_links N before after next,
              write_links N after before prev,
              write_ends N l before after next a.before_end,
              write_ends N l after before prev a.after_end,
            )
            spells;
        forth = stays_left L N place (set next before after)
            (stays_written L N place next h.forth before after before_next
            (λ i is_in past. a.after_end past ∙ ap (λ (k : ℕ). N + k) (one_list N place before l i a.before_in is_in)))
            n n_place;
        back = stays_left L N place (set prev after before)
            (stays_written L N place prev h.back after before after_prev
            (λ i is_in past. a.before_end past ∙ ap (λ (k : ℕ). N + k) (one_list N place after l i a.after_in is_in)))
            n n_place;
      }

  -- a node goes out of its list
  pub ring_taken : (n l : ℕ) → n < N → get_or place n None ≡ Some l
      → SpellsRings L N M (set next (get_or prev n 0) (get_or next n 0))
      (set prev (get_or next n 0) (get_or prev n 0)) (set place n None) values (map (without n) ls)
  ring_taken n l hn at_list =
      let a = around n l hn at_list in
      relinked n l (map (without n) ls) hn at_list (take_placed h.spells l n (node_at N (get_or prev n 0))
      (node_at N (get_or next n 0)) hn at_list (sym a.before_is) (sym a.after_is))

  -- then it is in no list
  pub taken_free : (n : ℕ) → n < N → get_or (set place n None) n None ≡ None
  taken_free n hn =
      get_or-set_same place n None None (subst (λ (k : ℕ). n < k) (sym h.spells.place_length) hn)

  -- the same, from between fs and bs
  pub ring_out : (l n v : ℕ) (fs bs : List (ℕ × ℕ)) → n < N → get_or place n None ≡ Some l → get_or ls l [] ≡ fs ++ (n, v) ∷ bs
      → SpellsRings L N M (set next (get_or prev n 0) (get_or next n 0))
      (set prev (get_or next n 0) (get_or prev n 0)) (set place n None) values (set ls l (fs ++ bs))
  ring_out l n v fs bs hn at_list split =
      let a = around n l hn at_list in
      relinked n l (set ls l (fs ++ bs)) hn at_list (take_spells h.spells l n v fs bs (node_at N (get_or prev n 0))
      (node_at N (get_or next n 0)) a.list hn split (sym a.before_is) (sym a.after_is))

  -- the place at which a link splits a list
  pub record Splits (l after : ℕ) : Type 0 where
    pub before_end : N ≤ get_or prev after 0 → get_or prev after 0 ≡ N + l
    pub before_is : node_at N (get_or prev after 0) ≡ at_link (links_of N prev) (get_or (ends_of N prev) l None) (node_at N after)

  pub splits : (l after : ℕ) (fs bs : List (ℕ × ℕ)) → l < L → get_or ls l [] ≡ fs ++ bs
      → node_at N after ≡ first_of bs → (N ≤ after → after ≡ N + l) → Splits l after
  splits l after fs bs hl split here at_end =
      let after_in : IsIn N place l after = elim (cases_lt after N) [
        | inl below ↦
            inl (below, (place_placed h.spells l fs bs (node_at N after) hl split here after (node-below N after below)).1)
        | inr past ↦ inr (at_end past)
      ] in
      let room : N + l < length prev = subst (λ (k : ℕ). N + l < k) (sym h.prev_length) (within l (N + l) hl (λ past. refl)) in
      record { before_end = h.back after l hl after_in; before_is = sym (read_at N l after prev room at_end) }

  -- a node goes in between fs and bs
  pub ring_put : (l n v after : ℕ) (fs bs : List (ℕ × ℕ)) → l < L → n < N → get_or place n None ≡ None
      → get_or ls l [] ≡ fs ++ bs → node_at N after ≡ first_of bs → (N ≤ after → after ≡ N + l)
      → SpellsRings L N M (set (set next n after) (get_or prev after 0) n) (set (set prev n (get_or prev after 0)) after n)
      (set place n (Some l)) (set values n v) (set ls l (fs ++ (n, v) ∷ bs))
  ring_put l n v after fs bs hl hn free split here at_end =
      let before = get_or prev after 0 in
      let s = splits l after fs bs hl split here at_end in
      let n_is : node_at N n ≡ Some n = node-below N n hn in
      let n_place : n < length place = subst (λ (k : ℕ). n < k) (sym h.spells.place_length) hn in
      let n_next : n < length next = let room = next_room in omega (arith, room, hn) in
      let n_prev : n < length prev = let room = prev_room in omega (arith, room, hn) in
      let before_next : before < length (set next n after) =
      subst (λ (k : ℕ). before < k) (sym (length-set next n after ∙ h.next_length)) (within l before hl s.before_end) in
      let after_prev : after < length (set prev n before) =
      subst (λ (k : ℕ). after < k) (sym (length-set prev n before ∙ h.prev_length)) (within l after hl at_end) in
      let nowhere : (i x : ℕ) → IsIn N place i n → x ≡ N + i = λ i x is_in. elim is_in [
        | inl node ↦ absurd (none-some i (sym free ∙ node.1))
        | inr end ↦ absurd (omega (arith, end, hn))
      ] in
      let next_n : get_or (set next n after) n 0 ≡ after = get_or-set_same next n after 0 n_next in
      let prev_n : get_or (set prev n before) n 0 ≡ before = get_or-set_same prev n before 0 n_prev in
      let links_next : links_of N (set (set next n after) before n)
      ≡ put_link (set (links_of N next) n (node_at N after)) (node_at N before) (Some n) =
      write_links N before n (set next n after)
      ∙ ap (λ (xs : List (Option ℕ)). put_link xs (node_at N before) (node_at N n)) (write_node N n after next)
      ∙ ap (put_link (set (links_of N next) n (node_at N after)) (node_at N before)) n_is in
      let links_prev : links_of N (set (set prev n before) after n)
      ≡ put_link (set (links_of N prev) n (node_at N before)) (node_at N after) (Some n) =
      write_links N after n (set prev n before)
      ∙ ap (λ (xs : List (Option ℕ)). put_link xs (node_at N after) (node_at N n)) (write_node N n before prev)
      ∙ ap (put_link (set (links_of N prev) n (node_at N before)) (node_at N after)) n_is in
      let ends_next : ends_of N (set (set next n after) before n) ≡ put_end (ends_of N next) l (node_at N before) (Some n) =
      write_ends N l before n (set next n after) s.before_end
      ∙ ap (λ (xs : List (Option ℕ)). put_end xs l (node_at N before) (node_at N n)) (keep_ends N n after next hn)
      ∙ ap (put_end (ends_of N next) l (node_at N before)) n_is in
      let ends_prev : ends_of N (set (set prev n before) after n) ≡ put_end (ends_of N prev) l (node_at N after) (Some n) =
      write_ends N l after n (set prev n before) at_end
      ∙ ap (λ (xs : List (Option ℕ)). put_end xs l (node_at N after) (node_at N n)) (keep_ends N n before prev hn)
      ∙ ap (put_end (ends_of N prev) l (node_at N after)) n_is in
      record {
        as_many = h.as_many;
        next_length = length-set (set next n after) before n ∙ length-set next n after ∙ h.next_length;
        prev_length = length-set (set prev n before) after n ∙ length-set prev n before ∙ h.prev_length;
        spells = rw (links_next, links_prev, ends_next, ends_prev)
            (put_spells h.spells l n v fs bs (node_at N before) (node_at N after) hl hn free split here s.before_is);
        forth = stays_written L N (set place n (Some l)) (set next n after)
            (stays_joined L N place (set next n after)
            (stays_written L N place next h.forth n after n_next (λ i is_in past. nowhere i after is_in))
            n l n_place (λ past. next_n ∙ at_end (omega (arith, next_n, past))))
            before n before_next (λ i is_in past. absurd (omega (arith, past, hn)));
        back = stays_written L N (set place n (Some l)) (set prev n before)
            (stays_joined L N place (set prev n before)
            (stays_written L N place prev h.back n before n_prev (λ i is_in past. nowhere i before is_in))
            n l n_place (λ past. prev_n ∙ s.before_end (omega (arith, prev_n, past))))
            after n after_prev (λ i is_in past. absurd (omega (arith, past, hn)));
      }

  -- a node that is in no list gets another link and value
  pub ring_forgotten : (n x v : ℕ) → n < N → get_or place n None ≡ None
      → SpellsRings L N M (set next n x) prev place (set values n v) ls
  ring_forgotten n x v hn free =
      let n_next : n < length next = let room = next_room in omega (arith, room, hn) in
      let nowhere : (i y : ℕ) → IsIn N place i n → y ≡ N + i = λ i y is_in. elim is_in [
        | inl node ↦ absurd (none-some i (sym free ∙ node.1))
        | inr end ↦ absurd (omega (arith, end, hn))
      ] in
      record {
        as_many = h.as_many;
        next_length = length-set next n x ∙ h.next_length;
        prev_length = h.prev_length;
        spells = rw (write_node N n x next, keep_ends N n x next hn)
            (same_spells (set (links_of N next) n (node_at N x)) (set values n v) h.spells
            (length-set (links_of N next) n (node_at N x) ∙ h.spells.next_length)
            (length-set values n v ∙ h.spells.values_length)
            (λ m l hm at_list.
            let other : m ≢ n = λ same. none-some l (sym free ∙ ap (λ (k : ℕ). get_or place k None) (sym same) ∙ at_list) in (
              get_or-set_other (links_of N next) n m (node_at N x) None other,
              get_or-set_other values n m v 0 other,
            )));
        forth = stays_written L N place next h.forth n x n_next (λ i is_in past. nowhere i x is_in);
        back = h.back;
      }

  -- the first node of a list
  pub ring_first : (l : ℕ) → l < L → node_at N (get_or next (N + l) 0) ≡ first_of (get_or ls l [])
  ring_first l hl =
      let room : N + l < length next = subst (λ (k : ℕ). N + l < k) (sym h.next_length) (within l (N + l) hl (λ past. refl)) in
      sym (read_end N l next room) ∙ first_is h.spells l hl

  pub is_first_node : (l n : ℕ) → l < L → n < N
      → (get_or next (N + l) 0 ≡ n → first_of (get_or ls l []) ≡ Some n)
      × (first_of (get_or ls l []) ≡ Some n → get_or next (N + l) 0 ≡ n)
  is_first_node l n hl hn = (
    λ e. sym (ring_first l hl) ∙ ap (node_at N) e ∙ node-below N n hn,
    λ e. (node-some N (get_or next (N + l) 0) n (ring_first l hl ∙ e)).0,
  )

  -- a list that isn't empty has a first node
  pub front_node : (l : ℕ) → l < L → get_or ls l [] ≢ []
      → (Some (get_or next (N + l) 0) ≡ first_of (get_or ls l [])) × (get_or next (N + l) 0 < N)
  front_node l hl some = elim (cases_lt (get_or next (N + l) 0) N) [
    | inl below ↦ (sym (node-below N (get_or next (N + l) 0) below) ∙ ring_first l hl, below)
    | inr past ↦ absurd (some (no_first (get_or ls l []) (sym (end-none N (get_or next (N + l) 0) past) ∙ ring_first l hl)))
  ]

  -- the arrays are those of a table
  pub ring_table : L ≤ 4096 → N ≤ 4096 → IsRingTable L N M next prev place values
  ring_table lists nodes = record {
    lists_fit = lists;
    nodes_fit = nodes;
    rings = subst (SpellsRings L N M next prev place values) (sym (lists_of-Spells h.spells)) h;
  }

  -- the lists that a walk finds are these, and they are sound
  pub ring_lists : lists_of N (links_of N next) values (ends_of N next) ≡ ls
  ring_lists = lists_of-Spells h.spells

  pub ring_sound : IsSound L N (lists_of N (links_of N next) values (ends_of N next))
  ring_sound = subst (IsSound L N) (sym ring_lists) (sound h.spells)

  -- the lists under another name
  pub ring_seen : {seen : List (List (ℕ × ℕ))} → ls ≡ seen → SpellsRings L N M next prev place values seen
  ring_seen same = subst (SpellsRings L N M next prev place values) same h

-- a node whose place is none is in no list
pub is_free : {L N M : ℕ} {next prev : List ℕ} {place : List (Option ℕ)} {values : List ℕ} {ls : List (List (ℕ × ℕ))}
    → SpellsRings L N M next prev place values ls → (n : ℕ) → get_or place n None ≡ None
    → place_of (lists_of N (links_of N next) values (ends_of N next)) n ≡ None
is_free {L} {N} {M} {next} {prev} {place} {values} {ls} h n free =
    ap (λ (xs : List (List (ℕ × ℕ))). place_of xs n) (ring_lists h) ∙ sym (place_is h.spells n) ∙ free

-- the arrays of a new table, in which each end leads to itself
pub rings_empty : (L N M : ℕ) (links : List ℕ) → M ≡ N + L → length links ≡ M → ((at : ℕ) → at < M → get_or links at 0 ≡ at)
    → SpellsRings L N M links links (replicate N None) (replicate N 0) (replicate L [])
rings_empty L N M links many len closed =
    let none : (l : ℕ) → l < L → get_or (ends_of N links) l None ≡ None = λ l hl.
    let here : N + l < length links = omega (arith, many, len, hl) in
    read_end N l links here
    ∙ end-none N (get_or links (N + l) 0) (let is = closed (N + l) (omega (arith, many, hl)) in omega (arith, is)) in
    let stays : StaysIn L N (replicate N None) links = λ at l hl is_in past. elim is_in [
      | inl node ↦ absurd (none-some l (sym (get_or-replicate N at None) ∙ node.1))
      | inr end ↦ closed at (omega (arith, many, end, hl)) ∙ end
    ] in
    let nodes = length_links N links (omega (arith, many, len)) in
    let ends = length_ends N L links (len ∙ many) in
    record {
      as_many = many;
      next_length = len;
      prev_length = len;
      spells =
          spells_empty L N (links_of N links) (links_of N links) (ends_of N links)
          (ends_of N links) nodes nodes ends ends none none;
      forth = stays;
      back = stays;
    }
