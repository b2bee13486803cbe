-- The first node of a list goes last, or out of the list.
use Rattle.std.proofs.Common.{◌≡◌, ℕ, ◌+◌, ◌<◌, ◌≤◌, Option, Some, None, List, [], ◌∷◌, ◌++◌, drop, get_or, length, set, sym, ◌∙◌}
use Rattle.std.proofs.Common.{ap, subst, arith, refl, append-nil}
use Rattle.std.proofs.lemmas.List.{get_or-set_same, set-set, set-get_or}
use Rattle.lists.specs.Lists.{Each, first_of, place_of, rotated, second_of}
use Rattle.lists.specs.Links.{node_at, links_of, lists_of, ends_of, at_link, Linked, IsStored, Spells, SpellsRings}
use Rattle.lists.proofs.Entries.{first_split, no_first}
use Rattle.lists.proofs.Links.{at_place}
use Rattle.lists.proofs.Spelled.{first_is}
use Rattle.lists.proofs.Rings.{around, end-none, is_free, taken_free, next_room}
use Rattle.lists.proofs.Rings.{node-below, node-none, read_end, read_node, ring_first, ring_out}
use Rattle.lists.proofs.Rings.{ring_put, splits, within}

-- a list that stays as its first node goes last
pub record Stays (ls : List (List (ℕ × ℕ))) (l : ℕ) : Type 0 where
  pub same : ls ≡ set ls l (rotated (get_or ls l []))
  pub none : None ≡ second_of (get_or ls l [])

module _ {L N : ℕ} {next prev place : List (Option ℕ)} {values : List ℕ} {firsts lasts : List (Option ℕ)}
    {ls : List (List (ℕ × ℕ))} (h : Spells L N next prev place values firsts lasts ls) (l : ℕ) (hl : l < L) where
  abbrev forth : Option ℕ → Option ℕ
  forth = at_link next (get_or firsts l None)

  abbrev back : Option ℕ → Option ℕ
  back = at_link prev (get_or lasts l None)

  -- a list of one node or none stays
  stays : (xs : List (ℕ × ℕ)) → get_or ls l [] ≡ xs → rotated xs ≡ xs → None ≡ second_of xs → Stays ls l
  stays xs is same none = record {
    same = sym (ap (λ (ys : List (ℕ × ℕ)). set ls l (rotated ys)) is ∙ ap (set ls l) (same ∙ sym is) ∙ set-get_or ls l []);
    none = none ∙ ap second_of (sym is);
  }

  pub no_first_stays : get_or firsts l None ≡ None → Stays ls l
  no_first_stays none = stays [] (no_first (get_or ls l []) (sym none ∙ first_is h l hl)) refl refl

  module _ (n : ℕ) (first : get_or firsts l None ≡ Some n) where
    -- the first entry, and the rest
    pub split : (v : ℕ) × (rest : List (ℕ × ℕ)) × (get_or ls l [] ≡ (n, v) ∷ rest)
    split = first_split n (get_or ls l []) (sym first ∙ first_is h l hl)

    linked : Linked forth back None ((n, split.0) ∷ split.1)
    linked = subst (Linked forth back None) split.2 (h.linked l hl)

    stored : Each (IsStored N place values l) ((n, split.0) ∷ split.1)
    stored = subst (Each (IsStored N place values l)) split.2 (h.stored l hl)

    pub first_below : n < N
    first_below = stored.0.known

    pub first_placed : get_or place n None ≡ Some l
    first_placed = stored.0.placed

    pub first_valued : get_or values n 0 ≡ split.0
    first_valued = stored.0.valued

    pub nobody_before : get_or prev n None ≡ None
    nobody_before = linked.1

    pub no_second_stays : get_or next n None ≡ None → Stays ls l
    no_second_stays none =
        let alone : split.1 ≡ [] = no_first split.1 (sym none ∙ (at_place forth back (Some n) [] split.1 linked.2).0) in
        stays ((n, split.0) ∷ []) (split.2 ∙ ap (λ (xs : List (ℕ × ℕ)). (n, split.0) ∷ xs) alone) refl refl

    pub second_is : get_or next n None ≡ second_of (get_or ls l [])
    second_is = (at_place forth back (Some n) [] split.1 linked.2).0 ∙ sym (ap second_of split.2)

module _ {L N M : ℕ} {next prev : List ℕ} {place : List (Option ℕ)} {values : List ℕ}
    {ls : List (List (ℕ × ℕ))} (h : SpellsRings L N M next prev place values ls) (l : ℕ)
    (hl : l < L) (n : ℕ) (first : get_or next (N + l) 0 ≡ n) (below : n < N) where
  pub at_first : get_or (ends_of N next) l None ≡ Some n
  at_first =
      let room : N + l < length next = subst (λ (k : ℕ). N + l < k) (sym h.next_length) (within h l (N + l) hl (λ past. refl)) in
      read_end N l next room ∙ ap (node_at N) first ∙ node-below N n below

  pub first_here : Some n ≡ first_of (get_or ls l [])
  first_here = sym at_first ∙ first_is h.spells l hl

  -- what comes after the first node is among the links
  pub second_within : get_or next n 0 < M
  second_within =
      within h l (get_or next n 0) hl (around h n l below (first_placed h.spells l hl n at_first)).after_end

  -- before the first node is the end
  pub end_before : get_or prev n 0 ≡ N + l
  end_before =
      let a = around h n l below (first_placed h.spells l hl n at_first) in
      a.before_end (node-none N (get_or prev n 0) (sym a.before_is ∙ nobody_before h.spells l hl n at_first))

  module _ (q : ℕ) (second : get_or next n 0 ≡ q) where
    abbrev parts : (v : ℕ) × (rest : List (ℕ × ℕ)) × (get_or ls l [] ≡ (n, v) ∷ rest)
    parts = split h.spells l hl n at_first

    -- the list without its first node
    out : SpellsRings L N M (set next (N + l) q) (set prev q (N + l)) (set place n None) values (set ls l parts.1)
    out =
        subst (λ (k : ℕ). SpellsRings L N M (set next (N + l) k) (set prev k (N + l)) (set place n None) values (set ls l parts.1))
        second
        (subst (λ (k : ℕ).
        SpellsRings L N M (set next k (get_or next n 0)) (set prev (get_or next n 0) k)
        (set place n None) values (set ls l parts.1))
        end_before
        (ring_out h l n parts.0 [] parts.1 below (first_placed h.spells l hl n at_first) parts.2))

    pub ring_popped : SpellsRings L N M (set next (N + l) q) (set prev q (N + l))
        (set place n None) values (set ls l (drop 1 (get_or ls l [])))
    ring_popped =
        subst (SpellsRings L N M (set next (N + l) q) (set prev q (N + l)) (set place n None) values)
        (ap (λ (xs : List (ℕ × ℕ)). set ls l (drop 1 xs)) (sym parts.2)) out

    pub popped_free : place_of (lists_of N (links_of N (set next (N + l) q)) values (ends_of N (set next (N + l) q))) n ≡ None
    popped_free = is_free ring_popped n (taken_free h n below)

    rest_is : get_or (set ls l parts.1) l [] ≡ parts.1 ++ []
    rest_is =
        let l_lists : l < length ls = subst (λ (k : ℕ). l < k) (sym h.spells.as_many) hl in
        get_or-set_same ls l parts.1 [] l_lists ∙ sym (append-nil parts.1)

    at_end : node_at N (N + l) ≡ None
    at_end = end-none N (N + l) (omega arith)

    pub last_within : get_or (set prev q (N + l)) (N + l) 0 < M
    last_within =
        within out l (get_or (set prev q (N + l)) (N + l) 0) hl
        (splits out l (N + l) parts.1 [] hl rest_is at_end (λ past. refl)).before_end

    pub ring_rotated : SpellsRings L N M (set (set (set next (N + l) q) n (N + l)) (get_or (set prev q (N + l)) (N + l) 0) n)
        (set (set (set prev q (N + l)) n (get_or (set prev q (N + l)) (N + l) 0)) (N + l) n) place values
        (set ls l (rotated (get_or ls l [])))
    ring_rotated =
        let v = parts.0 in
        let rest = parts.1 in
        let last = get_or (set prev q (N + l)) (N + l) 0 in
        let next' = set (set (set next (N + l) q) n (N + l)) last n in
        let prev' = set (set (set prev q (N + l)) n last) (N + l) n in
        let placed = first_placed h.spells l hl n at_first in
        let n_place : n < length place = subst (λ (k : ℕ). n < k) (sym h.spells.place_length) below in
        let put =
        ring_put out l n v (N + l) rest [] hl below (get_or-set_same place n None None n_place) rest_is at_end (λ past. refl) in
        let places : set (set place n None) n (Some l) ≡ place =
        set-set place n None (Some l) ∙ ap (set place n) (sym placed) ∙ set-get_or place n None in
        let same_values : set values n v ≡ values =
        ap (set values n) (sym (first_valued h.spells l hl n at_first)) ∙ set-get_or values n 0 in
        let lists : set (set ls l rest) l (rest ++ (n, v) ∷ []) ≡ set ls l (rotated (get_or ls l [])) =
        set-set ls l rest (rest ++ (n, v) ∷ []) ∙ ap (λ (xs : List (ℕ × ℕ)). set ls l (rotated xs)) (sym parts.2) in
        subst (λ (xs : List (List (ℕ × ℕ))). SpellsRings L N M next' prev' place values xs) lists
        (subst (λ (xs : List (Option ℕ)). SpellsRings L N M next' prev' xs values (set (set ls l rest) l (rest ++ (n, v) ∷ [])))
        places
        (subst (λ (xs : List ℕ).
        SpellsRings L N M next' prev' (set (set place n None) n (Some l)) xs (set (set ls l rest) l (rest ++ (n, v) ∷ [])))
        same_values put))

  pub nobody_second : N ≤ get_or next n 0 → Stays ls l
  nobody_second past =
      no_second_stays h.spells l hl n at_first (read_node N next n below (next_room h) ∙ end-none N (get_or next n 0) past)

  pub somebody_second : get_or next n 0 < N → Some (get_or next n 0) ≡ second_of (get_or ls l [])
  somebody_second q_below =
      sym (node-below N (get_or next n 0) q_below)
      ∙ sym (read_node N next n below (next_room h)) ∙ second_is h.spells l hl n at_first

pub nobody_first : {L N M : ℕ} {next prev : List ℕ} {place : List (Option ℕ)} {values : List ℕ} {ls : List (List (ℕ × ℕ))}
    → SpellsRings L N M next prev place values ls → (l : ℕ) → l < L → N ≤ get_or next (N + l) 0 → Stays ls l
nobody_first {L} {N} {M} {next} h l hl past =
    let room : N + l < length next = subst (λ (k : ℕ). N + l < k) (sym h.next_length) (within h l (N + l) hl (λ past. refl)) in
    no_first_stays h.spells l hl (read_end N l next room ∙ end-none N (get_or next (N + l) 0) past)

-- of an empty list nobody is first, and it stays without its first node
pub nobody_popped : {L N M : ℕ} {next prev : List ℕ} {place : List (Option ℕ)} {values : List ℕ} {ls : List (List (ℕ × ℕ))}
    → SpellsRings L N M next prev place values ls → (l : ℕ) → l < L → N ≤ get_or next (N + l) 0
    → (None ≡ first_of (get_or ls l [])) × (ls ≡ set ls l (drop 1 (get_or ls l [])))
nobody_popped {L} {N} {M} {next} {prev} {place} {values} {ls} h l hl past =
    let none : None ≡ first_of (get_or ls l []) = sym (end-none N (get_or next (N + l) 0) past) ∙ ring_first h l hl in
    let empty : get_or ls l [] ≡ [] = no_first (get_or ls l []) none in (
      none,
      sym (ap (λ (xs : List (ℕ × ℕ)). set ls l (drop 1 xs)) empty ∙ ap (set ls l) (sym empty) ∙ set-get_or ls l []),
    )
