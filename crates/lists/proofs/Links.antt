-- A node that is linked into a list, or taken out of it.
use Rattle.std.proofs.Common.{◌≡◌, ◌≢◌, ℕ, ◌<◌, Option, Some, None, List, [], ◌∷◌, ◌++◌, get_or, length, sym, ◌∙◌, ap, subst, refl}
use Rattle.std.proofs.Common.{arith}
use Rattle.std.proofs.lemmas.List.{get_or_default, get_or-set_same, get_or-set_other, length-set}
use Rattle.std.proofs.lemmas.Option.{same_Some}
use Rattle.lists.specs.Lists.{Each, EachOnce, Apart, first_of}
use Rattle.lists.specs.Links.{at_link, put_link, put_end, Linked}
use Rattle.lists.proofs.Entries.{none-some, Each-left, Each-right, Each-imp}

-- a link that is there is read alike whatever represents those that aren't
pub read_link : (links : List (Option ℕ)) (i : ℕ) (r : Option ℕ) {n : ℕ}
    → length links ≡ n → i < n → get_or links i r ≡ get_or links i None
read_link links i r e l = get_or_default links i r None (omega (arith, e, l))

-- the last entry's node, or `a` if there is none
abbrev pub last_of : Option ℕ → List (ℕ × ℕ) → Option ℕ
last_of a [] = a
last_of a (e ∷ xs) = last_of (Some e.0) xs

-- what holds of each node holds of the last, and of the first
pub last-in : (P : ℕ → Type 0) (a : Option ℕ) (xs : List (ℕ × ℕ)) (m : ℕ)
    → (a ≡ Some m → P m) → Each (λ e. P e.0) xs → last_of a xs ≡ Some m → P m
last-in P a [] m ha h e = ha e
last-in P a (x ∷ xs) m ha h e = last-in P (Some x.0) xs m (λ i. subst P (same_Some x.0 m i) h.0) h.1 e

pub first-in : (P : ℕ → Type 0) (xs : List (ℕ × ℕ)) (m : ℕ) → Each (λ e. P e.0) xs → first_of xs ≡ Some m → P m
first-in P [] m h e = absurd (none-some m e)
first-in P (x ∷ xs) m h e = subst P (same_Some x.0 m e) h.0

pub apart-last : (a o : Option ℕ) (xs : List (ℕ × ℕ)) → a ≢ o → Apart a xs → a ≢ last_of o xs
apart-last a o [] ne h = ne
apart-last a o (x ∷ xs) ne h = apart-last a (Some x.0) xs h.0 h.1

pub apart-first : (n : ℕ) (xs : List (ℕ × ℕ)) → Apart (Some n) xs → Some n ≢ first_of xs
apart-first n [] h = λ e. cc
apart-first n (x ∷ xs) h = h.0

-- links that agree at a and at each entry spell the same entries
pub same_links : (nx pv nx' pv' : Option ℕ → Option ℕ) (a : Option ℕ) (xs : List (ℕ × ℕ)) → nx' a ≡ nx a → pv' None ≡ pv None
    → Each (λ e. (nx' (Some e.0) ≡ nx (Some e.0)) × (pv' (Some e.0) ≡ pv (Some e.0))) xs → Linked nx pv a xs → Linked nx' pv' a xs
same_links nx pv nx' pv' a [] ea en h p = (ea ∙ p.0, en ∙ p.1)
same_links nx pv nx' pv' a (x ∷ xs) ea en h p = (ea ∙ p.0, h.0.1 ∙ p.1, same_links nx pv nx' pv' (Some x.0) xs h.0.0 en h.1 p.2)

-- the links on both sides of a place
pub at_place : (nx pv : Option ℕ → Option ℕ) (a : Option ℕ) (fs bs : List (ℕ × ℕ))
    → Linked nx pv a (fs ++ bs) → (nx (last_of a fs) ≡ first_of bs) × (pv (first_of bs) ≡ last_of a fs)
at_place nx pv a [] [] p = (p.0, p.1)
at_place nx pv a [] (b ∷ bs) p = (p.0, p.1)
at_place nx pv a (x ∷ fs) bs p = at_place nx pv (Some x.0) fs bs p.2

pub after_place : (nx pv : Option ℕ → Option ℕ) (a : Option ℕ) (fs bs : List (ℕ × ℕ))
    → Linked nx pv a (fs ++ bs) → Linked nx pv (last_of a fs) bs
after_place nx pv a [] bs p = p
after_place nx pv a (x ∷ fs) bs p = after_place nx pv (Some x.0) fs bs p.2

-- next and prev change at p, n and q alone
pub record OnlyAt (nx pv nx' pv' : Option ℕ → Option ℕ) (p q : Option ℕ) (n : ℕ) : Type 0 where
  pub forth : (o : Option ℕ) → o ≢ p → o ≢ Some n → nx' o ≡ nx o
  pub back : (o : Option ℕ) → o ≢ q → o ≢ Some n → pv' o ≡ pv o

module _ (nx pv nx' pv' : Option ℕ → Option ℕ) (p q : Option ℕ) (n : ℕ) (only : OnlyAt nx pv nx' pv' p q n) where
  -- entries that are none of p, q and n keep their links
  pub beyond : (a : Option ℕ) (xs : List (ℕ × ℕ)) → a ≢ p → a ≢ Some n → None ≢ q
      → Apart p xs → Apart (Some n) xs → Apart q xs → Linked nx pv a xs → Linked nx' pv' a xs
  beyond a [] ap' an nq hp hn hq h = (only.forth a ap' an ∙ h.0, only.back None nq (none-some n) ∙ h.1)
  beyond a (x ∷ xs) ap' an nq hp hn hq h = (
    only.forth a ap' an ∙ h.0,
    only.back (Some x.0) (λ e. hq.0 (sym e)) (λ e. hn.0 (sym e)) ∙ h.1,
    beyond (Some x.0) xs (λ e. hp.0 (sym e)) (λ e. hn.0 (sym e)) nq hp.1 hn.1 hq.1 h.2,
  )

  -- n, linked in between p and q
  pub linked_in : (v : ℕ) → nx' p ≡ Some n → nx' (Some n) ≡ q → pv' q ≡ Some n → pv' (Some n) ≡ p
      → (a : Option ℕ) (fs bs : List (ℕ × ℕ)) → last_of a fs ≡ p → first_of bs ≡ q → a ≢ Some n → Apart (Some n) (fs ++ bs)
      → Apart a (fs ++ bs) → EachOnce (fs ++ bs) → Linked nx pv a (fs ++ bs) → Linked nx' pv' a (fs ++ (n, v) ∷ bs)
  linked_in v np nn vq vn a [] [] el eq an hn ha d h = (ap nx' el ∙ np, vn ∙ sym el, (nn ∙ sym eq, ap pv' eq ∙ vq))
  linked_in v np nn vq vn a [] (y ∷ bs) el eq an hn ha d h = (
    ap nx' el ∙ np,
    vn ∙ sym el,
    (
      nn ∙ sym eq,
      ap pv' eq ∙ vq,
      beyond (Some y.0) bs
          (λ e. ha.0 (el ∙ sym e))
          (λ e. hn.0 (sym e))
          (λ e. none-some y.0 (e ∙ sym eq))
          (Each-imp (λ e. a ≢ Some e.0) (λ e. p ≢ Some e.0) bs (λ e k i. k (el ∙ i)) ha.1)
          hn.1
          (Each-imp (λ e. Some y.0 ≢ Some e.0) (λ e. q ≢ Some e.0) bs (λ e k i. k (eq ∙ i)) d.0)
          h.2,
    ),
  )
  linked_in v np nn vq vn a (x ∷ fs) bs el eq an hn ha d h = (
    only.forth a (λ e. apart-last a (Some x.0) fs ha.0 (Each-left (λ e. a ≢ Some e.0) fs bs ha.1) (e ∙ sym el)) an ∙ h.0,
    only.back (Some x.0) (λ e. apart-first x.0 bs (Each-right (λ e. Some x.0 ≢ Some e.0) fs bs d.0) (e ∙ sym eq))
        (λ e. hn.0 (sym e))
        ∙ h.1,
    linked_in v np nn vq vn (Some x.0) fs bs el eq (λ e. hn.0 (sym e)) hn.1 d.0 d.1 h.2,
  )

  -- n, taken out from between p and q
  pub taken_out : (v : ℕ) → nx' p ≡ q → pv' q ≡ p → (a : Option ℕ) (fs bs : List (ℕ × ℕ))
      → last_of a fs ≡ p → first_of bs ≡ q → a ≢ Some n → Apart a (fs ++ (n, v) ∷ bs)
      → EachOnce (fs ++ (n, v) ∷ bs) → Linked nx pv a (fs ++ (n, v) ∷ bs) → Linked nx' pv' a (fs ++ bs)
  taken_out v np vq a [] [] el eq an ha d h = (ap nx' el ∙ np ∙ sym eq, ap pv' eq ∙ vq ∙ sym el)
  taken_out v np vq a [] (y ∷ bs) el eq an ha d h = (
    ap nx' el ∙ np ∙ sym eq,
    ap pv' eq ∙ vq ∙ sym el,
    beyond (Some y.0) bs
        (λ e. ha.1.0 (el ∙ sym e))
        (λ e. d.0.0 (sym e))
        (λ e. none-some y.0 (e ∙ sym eq))
        (Each-imp (λ e. a ≢ Some e.0) (λ e. p ≢ Some e.0) bs (λ e k i. k (el ∙ i)) ha.1.1)
        d.0.1
        (Each-imp (λ e. Some y.0 ≢ Some e.0) (λ e. q ≢ Some e.0) bs (λ e k i. k (eq ∙ i)) d.1.0)
        h.2.2,
  )
  taken_out v np vq a (x ∷ fs) bs el eq an ha d h =
      let apart_x = Each-right (λ (e : ℕ × ℕ). Some x.0 ≢ Some e.0) fs ((n, v) ∷ bs) d.0 in (
        only.forth a (λ e. apart-last a (Some x.0) fs ha.0 (Each-left (λ e. a ≢ Some e.0) fs ((n, v) ∷ bs) ha.1) (e ∙ sym el)) an
            ∙ h.0,
        only.back (Some x.0) (λ e. apart-first x.0 bs apart_x.1 (e ∙ sym eq)) apart_x.0 ∙ h.1,
        taken_out v np vq (Some x.0) fs bs el eq apart_x.0 d.0 d.1 h.2,
      )

-- a write at a link is read there, and nowhere else
module _ (links ends : List (Option ℕ)) (l : ℕ) (x : Option ℕ) where
  pub put_same : (p : Option ℕ) → (l < length ends) → ((m : ℕ) → p ≡ Some m → m < length links)
      → at_link (put_link links p x) (get_or (put_end ends l p x) l None) p ≡ x
  put_same None hl hp = get_or-set_same ends l x None hl
  put_same (Some m) hl hp = get_or-set_same links m x None (hp m refl)

  pub put_other : (p o : Option ℕ) → o ≢ p
      → at_link (put_link links p x) (get_or (put_end ends l p x) l None) o ≡ at_link links (get_or ends l None) o
  put_other None None ne = absurd (ne refl)
  put_other None (Some k) ne = refl
  put_other (Some m) None ne = refl
  put_other (Some m) (Some k) ne = get_or-set_other links m k x None (λ e. ne (ap Some e))

  -- the ends of other lists stay
  pub put_elsewhere : (p : Option ℕ) (j : ℕ) → j ≢ l → get_or (put_end ends l p x) j None ≡ get_or ends j None
  put_elsewhere None j ne = get_or-set_other ends l j x None ne
  put_elsewhere (Some m) j ne = refl

  pub put_node : (p : Option ℕ) (k : ℕ) → Some k ≢ p → get_or (put_link links p x) k None ≡ get_or links k None
  put_node None k ne = refl
  put_node (Some m) k ne = get_or-set_other links m k x None (λ e. ne (ap Some e))

pub put_link_length : (links : List (Option ℕ)) (p x : Option ℕ) → length (put_link links p x) ≡ length links
put_link_length links None x = refl
put_link_length links (Some m) x = length-set links m x

pub put_end_length : (ends : List (Option ℕ)) (l : ℕ) (p x : Option ℕ) → length (put_end ends l p x) ≡ length ends
put_end_length ends l None x = length-set ends l x
put_end_length ends l (Some m) x = refl
