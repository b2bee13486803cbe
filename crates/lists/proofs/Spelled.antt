-- The arrays of a table spell its lists, also after a node goes in or out.
use Rattle.std.proofs.Common.{◌≡◌, ◌≢◌, ℕ, zero, suc, ◌<◌, ◌≤◌, inl, inr, true, false, Option, Some, None, List, [], ◌∷◌, ◌++◌}
use Rattle.std.proofs.Common.{get_or, set, length, map, replicate, sym, ◌∙◌, ap, ap₂, subst, arith, refl}
use Rattle.std.proofs.lemmas.List.{get_or-set_same, get_or-set_other, length-set, length-map, same_lists, get_or-map}
use Rattle.std.proofs.lemmas.List.{get_or_default, get_or_past}
use Rattle.std.proofs.lemmas.Bool.{cases_eq, cases_lt, ne_eqb, eq-eqb, le-ltb, lt-ltb}
use Rattle.std.proofs.lemmas.Option.{same_Some}
use Rattle.std.specs.List.{position_or_len}
use Rattle.std.specs.Prelude.{◌==◌, nat_lt}
use Rattle.std.proofs.lemmas.List.Sums.{position_or_len_is}
use Rattle.lists.specs.Lists.{Each, EachOnce, Apart, first_of, without, has_node, place_of, value_of, next_of, IsSound}
use Rattle.lists.specs.Links.{walk, lists_of, at_link, put_link, put_end, Linked, IsStored, Spells}
use Rattle.lists.proofs.Entries.{none-some, Each-left, Each-right, Each-append, Each-imp, distinct-left, distinct-right}
use Rattle.lists.proofs.Entries.{distinct-in, distinct-out, few_entries, has_node-apart, has_node-not_apart, without-apart}
use Rattle.lists.proofs.Entries.{without-split}
use Rattle.lists.proofs.Links.{last_of, last-in, first-in, same_links, at_place, after_place, OnlyAt, linked_in, taken_out}
use Rattle.lists.proofs.Links.{put_same, put_other, put_elsewhere, put_node, put_link_length, put_end_length}

-- a node is among the entries, or apart from them
pub split_at : (n : ℕ) (xs : List (ℕ × ℕ)) → (Apart (Some n) xs → ⊥)
    → (fs : List (ℕ × ℕ)) × (w : ℕ) × (bs : List (ℕ × ℕ)) × (xs ≡ fs ++ (n, w) ∷ bs)
split_at n [] h = absurd (h tt)
split_at n (x ∷ xs) h = elim (cases_eq n x.0) [
  | inl same ↦ ([], x.1, xs, ap (λ (k : ℕ). (k, x.1) ∷ xs) (sym same))
  | inr other ↦
      let r = split_at n xs (λ a. h ((λ e. other (same_Some n x.0 e)), a)) in
      (x ∷ r.0, r.1, r.2, ap (λ (ys : List (ℕ × ℕ)). x ∷ ys) r.3)
]

-- the walk along the links gives the entries
pub walk-linked : (next : List (Option ℕ)) (values : List ℕ) (first : Option ℕ)
    (pv : Option ℕ → Option ℕ) (fuel : ℕ) (a : Option ℕ) (xs : List (ℕ × ℕ))
    → Linked (at_link next first) pv a xs → length xs ≤ fuel → Each (λ e. get_or values e.0 0 ≡ e.1) xs
    → walk next values fuel (at_link next first a) ≡ xs
walk-linked next values first pv zero a [] h l v = refl
walk-linked next values first pv zero a (x ∷ xs) h l v = absurd (omega arith)
walk-linked next values first pv (suc fuel) a [] h l v = ap (walk next values (suc fuel)) h.0
walk-linked next values first pv (suc fuel) a (x ∷ xs) h l v =
    ap (walk next values (suc fuel)) h.0
    ∙ ap₂ (λ (k : ℕ) (ys : List (ℕ × ℕ)). (x.0, k) ∷ ys) v.0
    (walk-linked next values first pv fuel (Some x.0) xs h.2 (omega arith) v.1)

-- the lists that the arrays spell are those that a walk finds
pub lists_of-Spells : {L N : ℕ} {next prev place : List (Option ℕ)}
    {values : List ℕ} {firsts lasts : List (Option ℕ)} {ls : List (List (ℕ × ℕ))}
    → Spells L N next prev place values firsts lasts ls → lists_of N next values firsts ≡ ls
unfolding lists_of
lists_of-Spells {L} {N} {next} {prev} {place} {values} {firsts} {lasts} {ls} h =
    let as_many = h.as_many in
    let firsts_length = h.firsts_length in
    let len : length (map (walk next values N) firsts) ≡ length firsts = length-map firsts (walk next values N) in
    same_lists _ _ (len ∙ firsts_length ∙ sym as_many) (λ l d below.
    let within : l < length firsts = omega (arith, len, below) in
    let known : l < L = omega (arith, firsts_length, within) in
    let few =
    few_entries N (get_or ls l [])
    (Each-imp (IsStored N place values l) (λ e. e.0 < N) (get_or ls l []) (λ e i. i.known) (h.stored l known))
    (h.distinct l known) in
    get_or-map (walk next values N) firsts l None d within
    ∙ walk-linked next values (get_or firsts l None) (at_link prev (get_or lasts l None)) N None (get_or ls l []) (h.linked l known)
    few (Each-imp (IsStored N place values l) (λ e. get_or values e.0 0 ≡ e.1)
    (get_or ls l []) (λ e i. i.valued) (h.stored l known))
    ∙ get_or_default ls l [] d (omega (arith, as_many, known)))

-- the lists under another name
pub seen : {L N : ℕ} {next prev place : List (Option ℕ)} {values : List ℕ}
    {firsts lasts : List (Option ℕ)} {ls : List (List (ℕ × ℕ))} {seen : List (List (ℕ × ℕ))}
    → Spells L N next prev place values firsts lasts ls → ls ≡ seen → Spells L N next prev place values firsts lasts seen
seen {L} {N} {next} {prev} {place} {values} {firsts} {lasts} h same = subst (Spells L N next prev place values firsts lasts) same h

-- a node whose place is no list, or another, is apart from a list's entries
pub apart-unplaced : (N : ℕ) (place : List (Option ℕ)) (values : List ℕ) (l n : ℕ) (xs : List (ℕ × ℕ))
    → get_or place n None ≢ Some l → Each (IsStored N place values l) xs → Apart (Some n) xs
apart-unplaced N place values l n [] ne h = tt
apart-unplaced N place values l n (x ∷ xs) ne h = (
  λ e. ne (ap (λ (k : ℕ). get_or place k None) (same_Some n x.0 e) ∙ h.0.placed),
  apart-unplaced N place values l n xs ne h.1,
)

-- the entries other than n's stay in place when n's place and value change
keeps-stored : (N : ℕ) (place : List (Option ℕ)) (values : List ℕ) (l n v : ℕ) (at_list : Option ℕ) (xs : List (ℕ × ℕ))
    → Apart (Some n) xs → Each (IsStored N place values l) xs → Each (IsStored N (set place n at_list) (set values n v) l) xs
keeps-stored N place values l n v at_list [] h k = tt
keeps-stored N place values l n v at_list (x ∷ xs) h k =
    let ne : x.0 ≢ n = λ e. h.0 (ap Some (sym e)) in (
      record {
        known = k.0.known;
        placed = get_or-set_other place n x.0 at_list None ne ∙ k.0.placed;
        valued = get_or-set_other values n x.0 v 0 ne ∙ k.0.valued;
      },
      keeps-stored N place values l n v at_list xs h.1 k.1,
    )

keeps-stored_place : (N : ℕ) (place : List (Option ℕ)) (values : List ℕ) (l n : ℕ) (at_list : Option ℕ) (xs : List (ℕ × ℕ))
    → Apart (Some n) xs → Each (IsStored N place values l) xs → Each (IsStored N (set place n at_list) values l) xs
keeps-stored_place N place values l n at_list [] h k = tt
keeps-stored_place N place values l n at_list (x ∷ xs) h k =
    let ne : x.0 ≢ n = λ e. h.0 (ap Some (sym e)) in (
      record {
        known = k.0.known;
        placed = get_or-set_other place n x.0 at_list None ne ∙ k.0.placed;
        valued = k.0.valued;
      },
      keeps-stored_place N place values l n at_list xs h.1 k.1,
    )

module _ {L N : ℕ} {next prev place : List (Option ℕ)} {values : List ℕ} {firsts lasts : List (Option ℕ)}
    {ls : List (List (ℕ × ℕ))} (h : Spells L N next prev place values firsts lasts ls) where
  listed : (l : ℕ) → l < L → l < length ls
  listed l hl = subst (λ (k : ℕ). l < k) (sym h.as_many) hl

  known_list : (l : ℕ) → l < length ls → l < L
  known_list l hl = subst (λ (k : ℕ). l < k) h.as_many hl

  -- what a table knows of the nodes of a list
  placed_nodes : (l : ℕ) → l < L → Each (λ e. (e.0 < N) × (get_or place e.0 None ≡ Some l)) (get_or ls l [])
  placed_nodes l hl =
      Each-imp (IsStored N place values l) (λ e. (e.0 < N) × (get_or place e.0 None ≡ Some l))
      (get_or ls l []) (λ e i. (i.known, i.placed)) (h.stored l hl)

  -- the link of an entry of another list is none of l's nodes
  not_here : (l j : ℕ) (o : Option ℕ) (e : ℕ × ℕ) → j ≢ l
      → ((m : ℕ) → o ≡ Some m → (m < N) × (get_or place m None ≡ Some l)) → IsStored N place values j e → Some e.0 ≢ o
  not_here l j o e ne ho i = λ same. ne (same_Some j l (sym i.placed ∙ (ho e.0 (sym same)).1))

  -- a node goes in between fs and bs
  pub put_spells : (l n v : ℕ) (fs bs : List (ℕ × ℕ)) (p q : Option ℕ) → l < L → n < N → get_or place n None ≡ None
      → get_or ls l [] ≡ fs ++ bs → q ≡ first_of bs → p ≡ at_link prev (get_or lasts l None) q
      → Spells L N (put_link (set next n q) p (Some n)) (put_link (set prev n p) q (Some n)) (set place n (Some l))
      (set values n v) (put_end firsts l p (Some n)) (put_end lasts l q (Some n)) (set ls l (fs ++ (n, v) ∷ bs))
  put_spells l n v fs bs p q hl hn free split hq hp =
      let nx : Option ℕ → Option ℕ = at_link next (get_or firsts l None) in
      let pv : Option ℕ → Option ℕ = at_link prev (get_or lasts l None) in
      let next' = put_link (set next n q) p (Some n) in
      let prev' = put_link (set prev n p) q (Some n) in
      let firsts' = put_end firsts l p (Some n) in
      let lasts' = put_end lasts l q (Some n) in
      let place' = set place n (Some l) in
      let values' = set values n v in
      let new = fs ++ (n, v) ∷ bs in
      let ls' = set ls l new in
      let P : ℕ → Type 0 = λ m. (m < N) × (get_or place m None ≡ Some l) in
      let linked : Linked nx pv None (fs ++ bs) = subst (Linked nx pv None) split (h.linked l hl) in
      let distinct : EachOnce (fs ++ bs) = subst EachOnce split (h.distinct l hl) in
      let stored : Each (IsStored N place values l) (fs ++ bs) = subst (Each (IsStored N place values l)) split (h.stored l hl) in
      let nodes_placed : Each (λ e. P e.0) (fs ++ bs) = subst (Each (λ e. P e.0)) split (placed_nodes l hl) in
      let last : last_of None fs ≡ p = sym (at_place nx pv None fs bs linked).1 ∙ ap pv (sym hq) ∙ sym hp in
      let p_placed : (m : ℕ) → p ≡ Some m → P m = λ m e.
      last-in P None fs m (λ i. absurd (none-some m i)) (Each-left (λ e. P e.0) fs bs nodes_placed) (last ∙ e) in
      let q_placed : (m : ℕ) → q ≡ Some m → P m = λ m e.
      first-in P bs m (Each-right (λ e. P e.0) fs bs nodes_placed) (sym hq ∙ e) in
      let p_other : Some n ≢ p = λ e. none-some l (sym free ∙ (p_placed n (sym e)).1) in
      let q_other : Some n ≢ q = λ e. none-some l (sym free ∙ (q_placed n (sym e)).1) in
      let l_firsts : l < length firsts = subst (λ (k : ℕ). l < k) (sym h.firsts_length) hl in
      let l_lasts : l < length lasts = subst (λ (k : ℕ). l < k) (sym h.lasts_length) hl in
      let l_lists : l < length ls = listed l hl in
      let n_next : n < length next = subst (λ (k : ℕ). n < k) (sym h.next_length) hn in
      let n_prev : n < length prev = subst (λ (k : ℕ). n < k) (sym h.prev_length) hn in
      let n_place : n < length place = subst (λ (k : ℕ). n < k) (sym h.place_length) hn in
      let n_values : n < length values = subst (λ (k : ℕ). n < k) (sym h.values_length) hn in
      let free_of : (j : ℕ) → j < L → Apart (Some n) (get_or ls j []) = λ j hj.
      apart-unplaced N place values j n (get_or ls j []) (λ e. none-some j (sym free ∙ e)) (h.stored j hj) in
      let fresh : Apart (Some n) (fs ++ bs) = subst (Apart (Some n)) split (free_of l hl) in
      let only : OnlyAt nx pv (at_link next' (get_or firsts' l None)) (at_link prev' (get_or lasts' l None)) p q n = record {
        forth = λ o op on. put_other (set next n q) firsts l (Some n) p o op ∙ put_other next firsts l q (Some n) o on;
        back = λ o oq on. put_other (set prev n p) lasts l (Some n) q o oq ∙ put_other prev lasts l p (Some n) o on;
      } in
      let here : Linked (at_link next' (get_or firsts' l None)) (at_link prev' (get_or lasts' l None)) None new =
      linked_in nx pv (at_link next' (get_or firsts' l None)) (at_link prev' (get_or lasts' l None)) p q n only v
      (put_same (set next n q) firsts l (Some n) p l_firsts
      (λ m e. subst (λ (k : ℕ). m < k) (sym (length-set next n q ∙ h.next_length)) (p_placed m e).0))
      (put_other (set next n q) firsts l (Some n) p (Some n) p_other ∙ get_or-set_same next n q None n_next)
      (put_same (set prev n p) lasts l (Some n) q l_lasts
      (λ m e. subst (λ (k : ℕ). m < k) (sym (length-set prev n p ∙ h.prev_length)) (q_placed m e).0))
      (put_other (set prev n p) lasts l (Some n) q (Some n) q_other ∙ get_or-set_same prev n p None n_prev)
      None fs bs last (sym hq) (none-some n) fresh
      (Each-imp (λ e. Some n ≢ Some e.0) (λ e. None ≢ Some e.0) (fs ++ bs) (λ e k. none-some e.0) fresh) distinct linked in
      let elsewhere : (j : ℕ) → j < L → j ≢ l
      → Linked (at_link next' (get_or firsts' j None)) (at_link prev' (get_or lasts' j None)) None (get_or ls j []) = λ j hj ne.
      same_links (at_link next (get_or firsts j None)) (at_link prev (get_or lasts j None))
      (at_link next' (get_or firsts' j None)) (at_link prev' (get_or lasts' j None)) None (get_or ls j [])
      (put_elsewhere (set next n q) firsts l (Some n) p j ne)
      (put_elsewhere (set prev n p) lasts l (Some n) q j ne)
      (Each-imp (IsStored N place values j)
      (λ e. (get_or next' e.0 None ≡ get_or next e.0 None) × (get_or prev' e.0 None ≡ get_or prev e.0 None))
      (get_or ls j []) (λ e i.
      let e_n : e.0 ≢ n = λ same. none-some j (sym free ∙ ap (λ (k : ℕ). get_or place k None) (sym same) ∙ i.placed) in (
        put_node (set next n q) firsts l (Some n) p e.0 (not_here l j p e ne p_placed i) ∙ get_or-set_other next n e.0 q None e_n,
        put_node (set prev n p) lasts l (Some n) q e.0 (not_here l j q e ne q_placed i) ∙ get_or-set_other prev n e.0 p None e_n,
      )) (h.stored j hj))
      (h.linked j hj) in
      let new_here : get_or ls' l [] ≡ new = get_or-set_same ls l new [] l_lists in
      let same_there : (j : ℕ) → j ≢ l → get_or ls' j [] ≡ get_or ls j [] = λ j ne. get_or-set_other ls l j new [] ne in
      let in_new : Each (IsStored N place' values' l) new =
      Each-append (IsStored N place' values' l) fs ((n, v) ∷ bs)
      (keeps-stored N place values l n v (Some l) fs (Each-left (λ e. Some n ≢ Some e.0) fs bs fresh)
      (Each-left (IsStored N place values l) fs bs stored)) (
        record {
          known = hn;
          placed = get_or-set_same place n (Some l) None n_place;
          valued = get_or-set_same values n v 0 n_values;
        },
        keeps-stored N place values l n v (Some l) bs (Each-right (λ e. Some n ≢ Some e.0) fs bs fresh)
            (Each-right (IsStored N place values l) fs bs stored),
      ) in
      record {
        next_length = put_link_length (set next n q) p (Some n) ∙ length-set next n q ∙ h.next_length;
        prev_length = put_link_length (set prev n p) q (Some n) ∙ length-set prev n p ∙ h.prev_length;
        place_length = length-set place n (Some l) ∙ h.place_length;
        values_length = length-set values n v ∙ h.values_length;
        firsts_length = put_end_length firsts l p (Some n) ∙ h.firsts_length;
        lasts_length = put_end_length lasts l q (Some n) ∙ h.lasts_length;
        as_many = length-set ls l new ∙ h.as_many;
        linked = λ j hj. elim (cases_eq j l) [
          | inl same ↦
              subst (λ (i : ℕ).
              Linked (at_link next' (get_or firsts' i None)) (at_link prev' (get_or lasts' i None)) None (get_or ls' i []))
              (sym same) (subst (Linked (at_link next' (get_or firsts' l None)) (at_link prev' (get_or lasts' l None)) None)
              (sym new_here) here)
          | inr ne ↦
              subst (Linked (at_link next' (get_or firsts' j None)) (at_link prev' (get_or lasts' j None)) None)
              (sym (same_there j ne)) (elsewhere j hj ne)
        ];
        stored = λ j hj. elim (cases_eq j l) [
          | inl same ↦
              subst (λ (i : ℕ). Each (IsStored N place' values' i) (get_or ls' i []))
              (sym same) (subst (Each (IsStored N place' values' l)) (sym new_here) in_new)
          | inr ne ↦
              subst (Each (IsStored N place' values' j)) (sym (same_there j ne))
              (keeps-stored N place values j n v (Some l) (get_or ls j []) (free_of j hj) (h.stored j hj))
        ];
        distinct = λ j hj. elim (cases_eq j l) [
          | inl same ↦
              subst (λ (i : ℕ). EachOnce (get_or ls' i [])) (sym same)
              (subst EachOnce (sym new_here) (distinct-in fs bs n v fresh distinct))
          | inr ne ↦ subst EachOnce (sym (same_there j ne)) (h.distinct j hj)
        ];
        listed = λ m j at_list. elim (cases_eq m n) [
          | inl same ↦
              let j_is : j ≡ l =
              same_Some j l
              (sym at_list ∙ ap (λ (k : ℕ). get_or place' k None) same ∙ get_or-set_same place n (Some l) None n_place) in (
                subst (λ (i : ℕ). i < L) (sym j_is) hl,
                λ apart.
                    let here_apart : Apart (Some m) new =
                    subst (Apart (Some m)) (ap (λ (i : ℕ). get_or ls' i []) j_is ∙ new_here) apart in
                    (Each-right (λ (e : ℕ × ℕ). Some m ≢ Some e.0) fs ((n, v) ∷ bs) here_apart).0 (ap Some same),
              )
          | inr other ↦
              let old = h.listed m j (sym (get_or-set_other place n m (Some l) None other) ∙ at_list) in (
                old.0,
                λ apart. elim (cases_eq j l) [
                  | inl same ↦
                      let here_apart : Apart (Some m) new =
                      subst (Apart (Some m)) (ap (λ (i : ℕ). get_or ls' i []) same ∙ new_here) apart in
                      let old_apart : Apart (Some m) (fs ++ bs) =
                      Each-append (λ (e : ℕ × ℕ). Some m ≢ Some e.0) fs bs
                      (Each-left (λ (e : ℕ × ℕ). Some m ≢ Some e.0) fs ((n, v) ∷ bs) here_apart)
                      (Each-right (λ (e : ℕ × ℕ). Some m ≢ Some e.0) fs ((n, v) ∷ bs) here_apart).1 in
                      old.1 (subst (Apart (Some m)) (sym (ap (λ (i : ℕ). get_or ls i []) same ∙ split)) old_apart)
                  | inr ne ↦ old.1 (subst (Apart (Some m)) (same_there j ne) apart)
                ],
              )
        ];
      }

  -- a node goes out from between fs and bs
  pub take_spells : (l n v : ℕ) (fs bs : List (ℕ × ℕ)) (p q : Option ℕ) → l < L → n < N
      → get_or ls l [] ≡ fs ++ (n, v) ∷ bs → p ≡ get_or prev n None → q ≡ get_or next n None
      → Spells L N (put_link next p q) (put_link prev q p) (set place n None)
      values (put_end firsts l p q) (put_end lasts l q p) (set ls l (fs ++ bs))
  take_spells l n v fs bs p q hl hn split hp hq =
      let nx : Option ℕ → Option ℕ = at_link next (get_or firsts l None) in
      let pv : Option ℕ → Option ℕ = at_link prev (get_or lasts l None) in
      let next' = put_link next p q in
      let prev' = put_link prev q p in
      let firsts' = put_end firsts l p q in
      let lasts' = put_end lasts l q p in
      let place' = set place n None in
      let old = fs ++ (n, v) ∷ bs in
      let new = fs ++ bs in
      let ls' = set ls l new in
      let P : ℕ → Type 0 = λ m. (m < N) × (get_or place m None ≡ Some l) in
      let linked : Linked nx pv None old = subst (Linked nx pv None) split (h.linked l hl) in
      let distinct : EachOnce old = subst EachOnce split (h.distinct l hl) in
      let stored : Each (IsStored N place values l) old = subst (Each (IsStored N place values l)) split (h.stored l hl) in
      let nodes_placed : Each (λ e. P e.0) old = subst (Each (λ e. P e.0)) split (placed_nodes l hl) in
      let around = after_place nx pv None fs ((n, v) ∷ bs) linked in
      let last : last_of None fs ≡ p = sym around.1 ∙ sym hp in
      let first : first_of bs ≡ q = sym (at_place nx pv (Some n) [] bs around.2).0 ∙ sym hq in
      let p_placed : (m : ℕ) → p ≡ Some m → P m = λ m e.
      last-in P None fs m (λ i. absurd (none-some m i)) (Each-left (λ e. P e.0) fs ((n, v) ∷ bs) nodes_placed) (last ∙ e) in
      let q_placed : (m : ℕ) → q ≡ Some m → P m = λ m e.
      first-in P bs m (Each-right (λ e. P e.0) fs ((n, v) ∷ bs) nodes_placed).1 (first ∙ e) in
      let l_firsts : l < length firsts = subst (λ (k : ℕ). l < k) (sym h.firsts_length) hl in
      let l_lasts : l < length lasts = subst (λ (k : ℕ). l < k) (sym h.lasts_length) hl in
      let l_lists : l < length ls = listed l hl in
      let n_place : n < length place = subst (λ (k : ℕ). n < k) (sym h.place_length) hn in
      let left : Apart (Some n) fs = distinct-left fs bs (n, v) distinct in
      let right : Apart (Some n) bs = (distinct-right fs ((n, v) ∷ bs) distinct).0 in
      let gone : Apart (Some n) new = Each-append (λ (e : ℕ × ℕ). Some n ≢ Some e.0) fs bs left right in
      let here_placed : get_or place n None ≡ Some l = (Each-right (IsStored N place values l) fs ((n, v) ∷ bs) stored).0.placed in
      let away_of : (j : ℕ) → j < L → j ≢ l → Apart (Some n) (get_or ls j []) = λ j hj ne.
      apart-unplaced N place values j n (get_or ls j []) (λ e. ne (same_Some j l (sym e ∙ here_placed))) (h.stored j hj) in
      let only : OnlyAt nx pv (at_link next' (get_or firsts' l None)) (at_link prev' (get_or lasts' l None)) p q n = record {
        forth = λ o op on. put_other next firsts l q p o op;
        back = λ o oq on. put_other prev lasts l p q o oq;
      } in
      let here : Linked (at_link next' (get_or firsts' l None)) (at_link prev' (get_or lasts' l None)) None new =
      taken_out nx pv (at_link next' (get_or firsts' l None)) (at_link prev' (get_or lasts' l None)) p q n only v
      (put_same next firsts l q p l_firsts (λ m e. subst (λ (k : ℕ). m < k) (sym h.next_length) (p_placed m e).0))
      (put_same prev lasts l p q l_lasts (λ m e. subst (λ (k : ℕ). m < k) (sym h.prev_length) (q_placed m e).0))
      None fs bs last first (none-some n)
      (Each-imp (λ e. P e.0) (λ e. None ≢ Some e.0) old (λ e k. none-some e.0) nodes_placed) distinct linked in
      let elsewhere : (j : ℕ) → j < L → j ≢ l
      → Linked (at_link next' (get_or firsts' j None)) (at_link prev' (get_or lasts' j None)) None (get_or ls j []) = λ j hj ne.
      same_links (at_link next (get_or firsts j None)) (at_link prev (get_or lasts j None))
      (at_link next' (get_or firsts' j None)) (at_link prev' (get_or lasts' j None)) None (get_or ls j [])
      (put_elsewhere next firsts l q p j ne)
      (put_elsewhere prev lasts l p q j ne)
      (Each-imp (IsStored N place values j)
      (λ e. (get_or next' e.0 None ≡ get_or next e.0 None) × (get_or prev' e.0 None ≡ get_or prev e.0 None))
      (get_or ls j []) (λ e i. (
        put_node next firsts l q p e.0 (not_here l j p e ne p_placed i),
        put_node prev lasts l p q e.0 (not_here l j q e ne q_placed i),
      )) (h.stored j hj))
      (h.linked j hj) in
      let new_here : get_or ls' l [] ≡ new = get_or-set_same ls l new [] l_lists in
      let same_there : (j : ℕ) → j ≢ l → get_or ls' j [] ≡ get_or ls j [] = λ j ne. get_or-set_other ls l j new [] ne in
      let in_new : Each (IsStored N place' values l) new =
      Each-append (IsStored N place' values l) fs bs
      (keeps-stored_place N place values l n None fs left (Each-left (IsStored N place values l) fs ((n, v) ∷ bs) stored))
      (keeps-stored_place N place values l n None bs right (Each-right (IsStored N place values l) fs ((n, v) ∷ bs) stored).1) in
      record {
        next_length = put_link_length next p q ∙ h.next_length;
        prev_length = put_link_length prev q p ∙ h.prev_length;
        place_length = length-set place n None ∙ h.place_length;
        values_length = h.values_length;
        firsts_length = put_end_length firsts l p q ∙ h.firsts_length;
        lasts_length = put_end_length lasts l q p ∙ h.lasts_length;
        as_many = length-set ls l new ∙ h.as_many;
        linked = λ j hj. elim (cases_eq j l) [
          | inl same ↦
              subst (λ (i : ℕ).
              Linked (at_link next' (get_or firsts' i None)) (at_link prev' (get_or lasts' i None)) None (get_or ls' i []))
              (sym same) (subst (Linked (at_link next' (get_or firsts' l None)) (at_link prev' (get_or lasts' l None)) None)
              (sym new_here) here)
          | inr ne ↦
              subst (Linked (at_link next' (get_or firsts' j None)) (at_link prev' (get_or lasts' j None)) None)
              (sym (same_there j ne)) (elsewhere j hj ne)
        ];
        stored = λ j hj. elim (cases_eq j l) [
          | inl same ↦
              subst (λ (i : ℕ). Each (IsStored N place' values i) (get_or ls' i []))
              (sym same) (subst (Each (IsStored N place' values l)) (sym new_here) in_new)
          | inr ne ↦
              subst (Each (IsStored N place' values j)) (sym (same_there j ne))
              (keeps-stored_place N place values j n None (get_or ls j []) (away_of j hj ne) (h.stored j hj))
        ];
        distinct = λ j hj. elim (cases_eq j l) [
          | inl same ↦
              subst (λ (i : ℕ). EachOnce (get_or ls' i [])) (sym same)
              (subst EachOnce (sym new_here) (distinct-out fs bs (n, v) distinct))
          | inr ne ↦ subst EachOnce (sym (same_there j ne)) (h.distinct j hj)
        ];
        listed = λ m j at_list. elim (cases_eq m n) [
          | inl same ↦
              absurd (none-some j
              (sym (get_or-set_same place n None None n_place) ∙ ap (λ (k : ℕ). get_or place' k None) (sym same) ∙ at_list))
          | inr other ↦
              let was = h.listed m j (sym (get_or-set_other place n m None None other) ∙ at_list) in (
                was.0,
                λ apart. elim (cases_eq j l) [
                  | inl same ↦
                      let here_apart : Apart (Some m) new =
                      subst (Apart (Some m)) (ap (λ (i : ℕ). get_or ls' i []) same ∙ new_here) apart in
                      let old_apart : Apart (Some m) old =
                      Each-append (λ (e : ℕ × ℕ). Some m ≢ Some e.0) fs ((n, v) ∷ bs)
                      (Each-left (λ (e : ℕ × ℕ). Some m ≢ Some e.0) fs bs here_apart)
                      ((λ e. other (same_Some m n e)), Each-right (λ (e : ℕ × ℕ). Some m ≢ Some e.0) fs bs here_apart) in
                      was.1 (subst (Apart (Some m)) (sym (ap (λ (i : ℕ). get_or ls i []) same ∙ split)) old_apart)
                  | inr ne ↦ was.1 (subst (Apart (Some m)) (same_there j ne) apart)
                ],
              )
        ];
      }

  -- the same, said by the place of the node alone: each list is without the node
  pub take_placed : (l n : ℕ) (p q : Option ℕ) → n < N → get_or place n None ≡ Some l
      → p ≡ get_or prev n None → q ≡ get_or next n None
      → Spells L N (put_link next p q) (put_link prev q p) (set place n None)
      values (put_end firsts l p q) (put_end lasts l q p) (map (without n) ls)
  take_placed l n p q hn at_list hp hq =
      let m = h.listed n l at_list in
      let s = split_at n (get_or ls l []) m.1 in
      let distinct : EachOnce (s.0 ++ (n, s.1) ∷ s.2) = subst EachOnce s.3 (h.distinct l m.0) in
      let left : Apart (Some n) s.0 = distinct-left s.0 s.2 (n, s.1) distinct in
      let right : Apart (Some n) s.2 = (distinct-right s.0 ((n, s.1) ∷ s.2) distinct).0 in
      let spells = take_spells l n s.1 s.0 s.2 p q m.0 hn s.3 hp hq in
      let len_set : length (set ls l (s.0 ++ s.2)) ≡ length ls = length-set ls l (s.0 ++ s.2) in
      let len_map : length (map (without n) ls) ≡ length ls = length-map ls (without n) in
      let same : set ls l (s.0 ++ s.2) ≡ map (without n) ls = same_lists _ _ (len_set ∙ sym len_map) (λ j d hj.
      let hj' : j < length ls = subst (λ (k : ℕ). j < k) len_set hj in
      let other_side : get_or (map (without n) ls) j d ≡ without n (get_or ls j []) = get_or-map (without n) ls j [] d hj' in
      elim (cases_eq j l) [
        | inl here ↦
            ap (λ (i : ℕ). get_or (set ls l (s.0 ++ s.2)) i d) here ∙ get_or-set_same ls l (s.0 ++ s.2) d (listed l m.0)
            ∙ sym (without-split n s.1 s.0 s.2 left right) ∙ ap (without n) (sym s.3)
            ∙ ap (λ (i : ℕ). without n (get_or ls i [])) (sym here) ∙ sym other_side
        | inr there ↦
            get_or-set_other ls l j (s.0 ++ s.2) d there ∙ get_or_default ls j d [] hj'
            ∙ sym (without-apart n (get_or ls j []) (apart-unplaced N place values j n (get_or ls j [])
            (λ e. there (same_Some j l (sym e ∙ at_list))) (h.stored j (known_list j hj'))))
            ∙ sym other_side
      ]) in
      subst (Spells L N (put_link next p q) (put_link prev q p)
      (set place n None) values (put_end firsts l p q) (put_end lasts l q p))
      same spells

  -- a node that is in no list is apart from each
  pub without_unplaced : (n : ℕ) → get_or place n None ≡ None → map (without n) ls ≡ ls
  without_unplaced n free = same_lists _ _ (length-map ls (without n)) (λ j d hj.
      let hj' : j < length ls = subst (λ (k : ℕ). j < k) (length-map ls (without n)) hj in
      get_or-map (without n) ls j [] d hj'
      ∙ without-apart n (get_or ls j [])
      (apart-unplaced N place values j n (get_or ls j []) (λ e. none-some j (sym free ∙ e)) (h.stored j (known_list j hj')))
      ∙ get_or_default ls j [] d hj')

  pub list_below : (n l : ℕ) → get_or place n None ≡ Some l → l < L
  list_below n l at_list = (h.listed n l at_list).0

  -- the neighbours of a node in a list are nodes of it
  pub around_placed : (n l : ℕ) → get_or place n None ≡ Some l
      → ((m : ℕ) → get_or prev n None ≡ Some m → (m < N) × (get_or place m None ≡ Some l))
      × ((m : ℕ) → get_or next n None ≡ Some m → (m < N) × (get_or place m None ≡ Some l))
  around_placed n l at_list =
      let m = h.listed n l at_list in
      let s = split_at n (get_or ls l []) m.1 in
      let nx : Option ℕ → Option ℕ = at_link next (get_or firsts l None) in
      let pv : Option ℕ → Option ℕ = at_link prev (get_or lasts l None) in
      let P : ℕ → Type 0 = λ i. (i < N) × (get_or place i None ≡ Some l) in
      let linked : Linked nx pv None (s.0 ++ (n, s.1) ∷ s.2) = subst (Linked nx pv None) s.3 (h.linked l m.0) in
      let nodes : Each (λ e. P e.0) (s.0 ++ (n, s.1) ∷ s.2) = subst (Each (λ e. P e.0)) s.3 (placed_nodes l m.0) in
      let around = after_place nx pv None s.0 ((n, s.1) ∷ s.2) linked in (
        λ k e.
            last-in P None s.0 k (λ i. absurd (none-some k i))
            (Each-left (λ e. P e.0) s.0 ((n, s.1) ∷ s.2) nodes) (sym around.1 ∙ e),
        λ k e.
            first-in P s.2 k (Each-right (λ e. P e.0) s.0 ((n, s.1) ∷ s.2) nodes).1
            (sym (at_place nx pv (Some n) [] s.2 around.2).0 ∙ e),
      )

  -- so are those of a place in a list
  pub place_placed : (l : ℕ) (fs bs : List (ℕ × ℕ)) (q : Option ℕ) → l < L → get_or ls l [] ≡ fs ++ bs → q ≡ first_of bs
      → (m : ℕ) → q ≡ Some m → (m < N) × (get_or place m None ≡ Some l)
  place_placed l fs bs q hl split hq =
      let P : ℕ → Type 0 = λ i. (i < N) × (get_or place i None ≡ Some l) in
      let nodes : Each (λ e. P e.0) (fs ++ bs) = subst (Each (λ e. P e.0)) split (placed_nodes l hl) in
      λ k e. first-in P bs k (Each-right (λ e. P e.0) fs bs nodes) (sym hq ∙ e)

  -- a list's first node
  pub first_is : (l : ℕ) → l < L → get_or firsts l None ≡ first_of (get_or ls l [])
  first_is l hl =
      (at_place (at_link next (get_or firsts l None)) (at_link prev (get_or lasts l None))
      None [] (get_or ls l []) (h.linked l hl)).0

  place_is_at : (n : ℕ) (o : Option ℕ) → get_or place n None ≡ o → o ≡ place_of ls n
  place_is_at n None e =
      let none : (k : ℕ) → k < length ls → has_node n (get_or ls k []) ≡ false = λ k hk.
      has_node-apart n (get_or ls k [])
      (apart-unplaced N place values k n (get_or ls k []) (λ i. none-some k (sym e ∙ i)) (h.stored k (known_list k hk))) in
      let at : position_or_len (has_node n) ls ≡ length ls =
      position_or_len_is (has_node n) ls (length ls) [] (omega arith) none (λ i. absurd (omega (arith, i))) in
      let not_below : nat_lt (position_or_len (has_node n) ls) (length ls) ≡ false =
      le-ltb (position_or_len (has_node n) ls) (length ls) (omega (arith, at)) in
      rw not_below refl
  place_is_at n (Some l) e =
      let m = h.listed n l e in
      let others : (k : ℕ) → k < l → has_node n (get_or ls k []) ≡ false = λ k hk.
      let hk' : k < L = omega (arith, hk, m.0) in
      has_node-apart n (get_or ls k []) (apart-unplaced N place values k n (get_or ls k [])
      (λ i. (let ne : k ≢ l = omega (arith, hk) in ne) (same_Some k l (sym i ∙ e))) (h.stored k hk')) in
      let at : position_or_len (has_node n) ls ≡ l =
      position_or_len_is (has_node n) ls l [] (let below = listed l m.0 in omega (arith, below))
      others (λ i. has_node-not_apart n (get_or ls l []) m.1) in
      let below : nat_lt (position_or_len (has_node n) ls) (length ls) ≡ true =
      lt-ltb (position_or_len (has_node n) ls) (length ls) (let here = listed l m.0 in omega (arith, at, here)) in
      rw below (ap Some (sym at))

  -- the place of a node is the list that it is in
  pub place_is : (n : ℕ) → get_or place n None ≡ place_of ls n
  place_is n = place_is_at n (get_or place n None) refl

-- the value and the link of a node among entries
value_of-stored : (N : ℕ) (place : List (Option ℕ)) (values : List ℕ) (l n : ℕ) (xs : List (ℕ × ℕ))
    → has_node n xs ≡ true → Each (IsStored N place values l) xs → get_or values n 0 ≡ value_of n xs
value_of-stored N place values l n [] t h = absurd cc
value_of-stored N place values l n (x ∷ xs) t h = elim (cases_eq x.0 n) [
  | inl same ↦
      let eq : (x.0 == n) ≡ true = eq-eqb x.0 n same in
      rw eq (ap (λ (k : ℕ). get_or values k 0) (sym same) ∙ h.0.valued)
  | inr other ↦
      let ne : (x.0 == n) ≡ false = ne_eqb x.0 n other in
      rw ne (value_of-stored N place values l n xs (rw ne at t) h.1)
]

next_of-linked : (next : List (Option ℕ)) (first : Option ℕ) (pv : Option ℕ → Option ℕ) (n : ℕ) (a : Option ℕ) (xs : List (ℕ × ℕ))
    → has_node n xs ≡ true → Linked (at_link next first) pv a xs → get_or next n None ≡ next_of n xs
next_of-linked next first pv n a [] t h = absurd cc
next_of-linked next first pv n a (x ∷ xs) t h = elim (cases_eq x.0 n) [
  | inl same ↦
      let eq : (x.0 == n) ≡ true = eq-eqb x.0 n same in
      rw eq (ap (λ (k : ℕ). get_or next k None) (sym same) ∙ (at_place (at_link next first) pv (Some x.0) [] xs h.2).0)
  | inr other ↦
      let ne : (x.0 == n) ≡ false = ne_eqb x.0 n other in
      rw ne (next_of-linked next first pv n (Some x.0) xs (rw ne at t) h.2)
]

has_node-below : (n l : ℕ) (ls : List (List (ℕ × ℕ))) → has_node n (get_or ls l []) ≡ true → l < length ls
has_node-below n l ls t = elim (cases_lt l (length ls)) [
  | inl below ↦ below
  | inr past ↦
      let e : get_or ls l [] ≡ [] = get_or_past ls l [] past in
      absurd (let f : has_node n [] ≡ true = sym (ap (has_node n) e) ∙ t in cc)
]

not_apart-has_node : (n : ℕ) (xs : List (ℕ × ℕ)) → has_node n xs ≡ true → Apart (Some n) xs → ⊥
not_apart-has_node n xs t h = let e = has_node-apart n xs h in cc

module _ {L N : ℕ} {next prev place : List (Option ℕ)} {values : List ℕ} {firsts lasts : List (Option ℕ)}
    {ls : List (List (ℕ × ℕ))} (h : Spells L N next prev place values firsts lasts ls) where
  pub value_is : (n l : ℕ) → has_node n (get_or ls l []) ≡ true → get_or values n 0 ≡ value_of n (get_or ls l [])
  value_is n l t = value_of-stored N place values l n (get_or ls l []) t (h.stored l (known_list h l (has_node-below n l ls t)))

  pub next_is : (n l : ℕ) → has_node n (get_or ls l []) ≡ true → get_or next n None ≡ next_of n (get_or ls l [])
  next_is n l t =
      next_of-linked next (get_or firsts l None) (at_link prev (get_or lasts l None)) n
      None (get_or ls l []) t (h.linked l (known_list h l (has_node-below n l ls t)))

  -- a node among a list's entries is in that list
  pub placed_here : (n l : ℕ) (o : Option ℕ) → get_or place n None ≡ o → has_node n (get_or ls l []) ≡ true → o ≡ Some l
  placed_here n l None e t =
      absurd (not_apart-has_node n (get_or ls l []) t (apart-unplaced N place values l n (get_or ls l [])
      (λ i. none-some l (sym e ∙ i)) (h.stored l (known_list h l (has_node-below n l ls t)))))
  placed_here n l (Some k) e t = elim (cases_eq k l) [
    | inl same ↦ ap Some same
    | inr other ↦
        absurd (not_apart-has_node n (get_or ls l []) t (apart-unplaced N place values l n (get_or ls l [])
        (λ i. other (same_Some k l (sym e ∙ i))) (h.stored l (known_list h l (has_node-below n l ls t)))))
  ]

  entries_cases : (P : List (ℕ × ℕ) → Type 0) → P [] → ((l : ℕ) → l < L → P (get_or ls l [])) → (l : ℕ) → P (get_or ls l [])
  entries_cases P nil here l = elim (cases_lt l (length ls)) [
    | inl below ↦ here l (known_list h l below)
    | inr past ↦ subst P (sym (get_or_past ls l [] past)) nil
  ]

  pub sound : IsSound L N ls
  sound =
      let nodes : (l : ℕ) → Each (λ e. e.0 < N) (get_or ls l []) =
      entries_cases (λ xs. Each (λ e. e.0 < N) xs) tt
      (λ l hl. Each-imp (IsStored N place values l) (λ e. e.0 < N) (get_or ls l []) (λ e i. i.known) (h.stored l hl)) in
      let distinct : (l : ℕ) → EachOnce (get_or ls l []) = entries_cases EachOnce tt h.distinct in
      record {
        as_many = h.as_many;
        one_place = λ n l t. sym (place_is h n) ∙ placed_here n l (get_or place n None) refl t;
        distinct = distinct;
        nodes = nodes;
        few = λ l. few_entries N (get_or ls l []) (nodes l) (distinct l);
      }

pub get_or-replicate : {X : Type 0} (n i : ℕ) (x : X) → get_or (replicate n x) i x ≡ x
get_or-replicate zero i x = refl
get_or-replicate (suc n) zero x = refl
get_or-replicate (suc n) (suc i) x = get_or-replicate n i x

pub length-blank : {X : Type 0} (n : ℕ) (x : X) → length (replicate n x) ≡ n
length-blank zero x = refl
length-blank (suc n) x = ap suc (length-blank n x)

-- the arrays of a new table, in which no end leads to a node
pub spells_empty : (L N : ℕ) (next prev firsts lasts : List (Option ℕ))
    → length next ≡ N → length prev ≡ N → length firsts ≡ L → length lasts ≡ L
    → ((l : ℕ) → l < L → get_or firsts l None ≡ None) → ((l : ℕ) → l < L → get_or lasts l None ≡ None)
    → Spells L N next prev (replicate N None) (replicate N 0) firsts lasts (replicate L [])
spells_empty L N next prev firsts lasts next_length prev_length firsts_length lasts_length no_first no_last =
    let nil : (i : ℕ) → get_or (replicate L (let xs : List (ℕ × ℕ) = [] in xs)) i [] ≡ [] = λ i. get_or-replicate L i [] in
    record {
      next_length = next_length;
      prev_length = prev_length;
      place_length = length-blank N None;
      values_length = length-blank N 0;
      firsts_length = firsts_length;
      lasts_length = lasts_length;
      as_many = length-blank L [];
      linked = λ l hl.
          subst (Linked (at_link next (get_or firsts l None)) (at_link prev (get_or lasts l None)) None)
          (sym (nil l)) (no_first l hl, no_last l hl);
      stored = λ l hl. subst (Each (IsStored N (replicate N None) (replicate N 0) l)) (sym (nil l)) tt;
      distinct = λ l hl. subst EachOnce (sym (nil l)) tt;
      listed = λ n l at_list. absurd (none-some l (sym (get_or-replicate N n None) ∙ at_list));
    }
