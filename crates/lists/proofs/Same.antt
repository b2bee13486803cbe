-- The same lists by other links and values: what a node in no list has kept is left out.
use Rattle.std.proofs.Common.{◌≡◌, ℕ, ◌<◌, Option, None, Some, List, [], get_or, length, ◌∙◌, refl}
use Rattle.lists.specs.Links.{at_link, IsStored, Spells}
use Rattle.lists.proofs.Entries.{Each-imp}
use Rattle.lists.proofs.Links.{same_links}

-- other links and values spell the lists too, if they are the same at each node of a list
pub same_spells : {L N : ℕ} {next prev place : List (Option ℕ)} {values : List ℕ}
    {firsts lasts : List (Option ℕ)} {ls : List (List (ℕ × ℕ))} (next' : List (Option ℕ)) (values' : List ℕ)
    → Spells L N next prev place values firsts lasts ls → length next' ≡ N → length values' ≡ N
    → ((n l : ℕ) → n < N → get_or place n None ≡ Some l
    → (get_or next' n None ≡ get_or next n None) × (get_or values' n 0 ≡ get_or values n 0))
    → Spells L N next' prev place values' firsts lasts ls
same_spells {L} {N} {next} {prev} {place} {values} {firsts} {lasts} {ls} next' values' h next_length values_length alike = record {
  next_length = next_length;
  prev_length = h.prev_length;
  place_length = h.place_length;
  values_length = values_length;
  firsts_length = h.firsts_length;
  lasts_length = h.lasts_length;
  as_many = h.as_many;
  linked = λ l hl.
      let forth = at_link next (get_or firsts l None) in
      let back = at_link prev (get_or lasts l None) in
      let forth' = at_link next' (get_or firsts l None) in
      same_links forth back forth' back None (get_or ls l []) refl refl
      (Each-imp (IsStored N place values l) (λ e. (forth' (Some e.0) ≡ forth (Some e.0)) × (back (Some e.0) ≡ back (Some e.0)))
      (get_or ls l []) (λ e i. ((alike e.0 l i.known i.placed).0, refl)) (h.stored l hl))
      (h.linked l hl);
  stored = λ l hl.
      Each-imp (IsStored N place values l) (IsStored N place values' l) (get_or ls l [])
      (λ e i. record { known = i.known; placed = i.placed; valued = (alike e.0 l i.known i.placed).1 ∙ i.valued })
      (h.stored l hl);
  distinct = h.distinct;
  listed = h.listed;
}
