-- Events by legs.
use Rattle.std.proofs.Common.{◌≡◌, ℕ, zero, suc, ◌+◌, ◌-◌, ◌≤◌, List, [], ◌∷◌, ◌++◌, length, length-append, drop}
use Rattle.std.proofs.Common.{slice_range, slice_get, Option, Some, ◌⊎◌, inl, inr, ⊎_elim, refl, sym, ap, ◌∙◌, append_assoc}
use Rattle.std.proofs.Common.{append-nil, arith}
use Rattle.std.specs.Prelude.{unwrap_or}
use Rattle.std.proofs.lemmas.List.{take-append-le, drop-append-le, length-drop, take_all}
use Rattle.std.proofs.lemmas.Option.{slice_get_within}
use Rattle.std.proofs.Math.Seq.{drop-length}
use Rattle.model.specs.declared.event.Event.{Event}
use Rattle.rows.specs.declared.link.Leg.{Leg}
use Rattle.rows.specs.declared.link.Link.{Link}
use Rattle.rows.specs.declared.link.Link.TheVariants as links
use Rattle.rows.specs.Links.{Store, linked_by, linked_events, height, IsOn, IsLink, IsLeg, AreLegs, Grows, LinksTo}

-- ---- lists

get_front : {X : Type 0} (xs ys : List X) (i : ℕ) (x : X) → slice_get xs i ≡ Some x → slice_get (xs ++ ys) i ≡ Some x
get_front [] ys i x is = absurd (cc is)
get_front (y ∷ xs) ys zero x is = is
get_front (y ∷ xs) ys (suc i) x is = get_front xs ys i x is

get_last : {X : Type 0} (xs : List X) (y : X) → slice_get (xs ++ y ∷ []) (length xs) ≡ Some y
get_last [] y = refl
get_last (x ∷ xs) y = get_last xs y

-- one of a list with one more is one of the list, or the last
get_more : {X : Type 0} (xs : List X) (y : X) (i : ℕ) (x : X) → slice_get (xs ++ y ∷ []) i ≡ Some x
    → (slice_get xs i ≡ Some x) ⊎ ((i ≡ length xs) × (Some y ≡ Some x))
get_more [] y zero x is = inr (refl, is)
get_more [] y (suc i) x is = absurd (cc is)
get_more (z ∷ xs) y zero x is = inl is
get_more (z ∷ xs) y (suc i) x is = ⊎_elim (λ here. inl here) (λ last. inr (ap suc last.0, last.1)) (get_more xs y i x is)

pub some_same : {X : Type 0} (a b : X) → Some a ≡ Some b → a ≡ b
some_same a b e = ap (λ (o : Option _). unwrap_or o a) e

same_range : (trail more : List Event) (from to : ℕ) → from ≤ to → to ≤ length trail
    → slice_range (trail ++ more) from to ≡ slice_range trail from to
same_range trail more from to rises within =
    let long : to - from ≤ length (drop from trail) = omega (arith, length-drop from trail) in
    rw (drop-append-le from trail more (omega arith)) (take-append-le (to - from) (drop from trail) more long)

-- ---- stores that grow

pub grows_here : (store : Store) → Grows store store
grows_here store = record { own = []; trail = sym (append-nil store.trail); more = []; legs = sym (append-nil store.legs) }

pub grows_then : (a b c : Store) → Grows a b → Grows b c → Grows a c
grows_then a b c g h = record {
  own = g.own ++ h.own;
  trail = h.trail ∙ ap (λ (events : List Event). events ++ h.own) g.trail ∙ append_assoc a.trail g.own h.own;
  more = g.more ++ h.more;
  legs = h.legs ∙ ap (λ (legs : List Leg). legs ++ h.more) g.legs ∙ append_assoc a.legs g.more h.more;
}

-- ---- links

module _ (base : List Event) where
  -- The end of the base run is a place of it, after which there are no events.
  pub links_to_nothing : (store : Store) (from : ℕ) → from ≡ length base → LinksTo base store (links.Base from) []
  links_to_nothing store from at = record { there = omega arith; are = ap (λ (n : ℕ). drop n base) at ∙ drop-length base }

  -- a link goes over legs that are there
  pub link_height : (store : Store) (l : Link) → IsLink base store l → height l ≤ length store.legs
  link_height store (links.Base from) is = omega arith
  link_height store (links.Leg number from) (leg, at, on) = let low = slice_get_within store.legs number leg at in omega arith

  -- where there are no legs, each is one
  pub without_legs : (store : Store) → store.legs ≡ [] → AreLegs base store
  without_legs store none number leg at =
      let low = slice_get_within store.legs number leg at in
      let empty = ap length none in
      absurd (omega arith)

  module _ (store : Store) (legs : AreLegs base store) where
    -- how far one looks doesn't matter, and what came later neither
    same_linked_by : (new : Store) → Grows store new → (n m : ℕ) (l : Link) → height l ≤ n
        → height l ≤ m → IsLink base store l → linked_by base new n l ≡ linked_by base store m l
    same_linked_by new g zero zero (links.Base from) p q is = refl
    same_linked_by new g zero (suc m) (links.Base from) p q is = refl
    same_linked_by new g (suc n) zero (links.Base from) p q is = refl
    same_linked_by new g (suc n) (suc m) (links.Base from) p q is = refl
    same_linked_by new g zero m (links.Leg number from) p q is = absurd (omega arith)
    same_linked_by new g (suc n) zero (links.Leg number from) p q is = absurd (omega arith)
    same_linked_by new g (suc n) (suc m) (links.Leg number from) p q (leg, at, on) =
        let its = legs number leg at in
        let before = its.before in
        let there : slice_get new.legs number ≡ Some leg = rw g.legs (get_front store.legs g.more number leg at) in
        let rest = same_linked_by new g n m leg.next (omega arith) (omega arith) its.next in
        let here : slice_range new.trail from leg.to ≡ slice_range store.trail from leg.to =
        rw g.trail (same_range store.trail g.own from leg.to on.rises on.within) in
        rw (at, there, rest, here) refl

    pub same_linked_events : (new : Store) → Grows store new → (l : Link) → IsLink base store l
        → linked_events base new l ≡ linked_events base store l
    same_linked_events new g l is = same_linked_by new g (height l) (height l) l (omega arith) (omega arith) is

    still_on : (trail own : List Event) (from : ℕ) (leg : Leg) → IsOn trail from leg → IsOn (trail ++ own) from leg
    still_on trail own from leg is =
        record { rises = is.rises; within = (let within = is.within in omega (arith, length-append trail own)) }

    -- a link stays one
    pub still_link : (new : Store) → Grows store new → (l : Link) → IsLink base store l → IsLink base new l
    still_link new g (links.Base from) is = is
    still_link new g (links.Leg number from) (leg, at, on) =
        (leg, rw g.legs (get_front store.legs g.more number leg at), rw g.trail (still_on store.trail g.own from leg on))

    -- the events that followed a link still do
    pub still_links_to : (new : Store) → Grows store new → (l : Link) (events : List Event)
        → LinksTo base store l events → LinksTo base new l events
    still_links_to new g l events is =
        record { there = still_link new g l is.there; are = same_linked_events new g l is.there ∙ is.are }

    -- the events that follow a link: those of its leg, and then those after the leg
    pub linked_on : (number from : ℕ) (leg : Leg) → slice_get store.legs number ≡ Some leg
        → linked_events base store (links.Leg number from)
        ≡ slice_range store.trail from leg.to ++ linked_events base store leg.next
    linked_on number from leg at =
        let its = legs number leg at in
        let before = its.before in
        let rest = same_linked_by store (grows_here store) number (height leg.next) leg.next before (omega arith) its.next in
        let one : number + 1 ≡ suc number = omega arith in
        rw (one, at, rest) refl

    -- legs stay so when the trail grows, and when one more is put that goes on as one before it
    pub same_legs : (new : Store) → Grows store new → new.legs ≡ store.legs → AreLegs base new
    same_legs new g same number leg at =
        let its = legs number leg (rw same at at) in
        record { before = its.before; next = still_link new g leg.next its.next }

    leg_more : (new : Store) → Grows store new → (leg : Leg) → new.legs ≡ store.legs ++ leg ∷ []
        → IsLink base store leg.next → height leg.next ≤ length store.legs → AreLegs base new
    leg_more new g leg is next before number other at =
        let old : slice_get store.legs number ≡ Some other → IsLeg base new number other =
        (λ here. let its = legs number other here in record { before = its.before; next = still_link new g other.next its.next }) in
        let last : (number ≡ length store.legs) × (Some leg ≡ Some other) → IsLeg base new number other =
        (λ here.
        let same : leg ≡ other = some_same leg other here.1 in
        record { before = rw (here.0, sym same) before; next = rw (sym same) (still_link new g leg.next next) }) in
        ⊎_elim old last (get_more store.legs leg number other (rw is at at))

-- A row is closed by a leg up to the end of the trail. A link to the leg from a place of the trail is followed by the trail from
-- there on, and then by what the leg goes on with.
module _ (base : List Event) (store new : Store) (legs : AreLegs base store) (leg : Leg)
    (trail : new.trail ≡ store.trail) (pushed : new.legs ≡ store.legs ++ leg ∷ []) where
  pub closed_grows : Grows store new
  closed_grows = record { own = []; trail = trail ∙ sym (append-nil store.trail); more = leg ∷ []; legs = pushed }

  pub closed_legs : IsLink base store leg.next → AreLegs base new
  closed_legs next = leg_more base store legs new closed_grows leg pushed next (link_height base store leg.next next)

  pub closed_links_to : leg.to ≡ length store.trail → (events : List Event)
      → LinksTo base store leg.next events → (from : ℕ) → from ≤ length store.trail
      → LinksTo base new (links.Leg (length store.legs) from) (drop from store.trail ++ events)
  closed_links_to to events linked from low =
      let at : slice_get new.legs (length store.legs) ≡ Some leg = rw pushed (get_last store.legs leg) in
      let two = linked_on base new (closed_legs linked.there) (length store.legs) from leg at in
      let rest : linked_events base new leg.next ≡ events =
      same_linked_events base store legs new closed_grows leg.next linked.there ∙ linked.are in
      let long : length (drop from store.trail) ≤ leg.to - from = omega (arith, length-drop from store.trail) in
      let first : slice_range new.trail from leg.to ≡ drop from store.trail =
      rw trail (take_all (leg.to - from) (drop from store.trail) long) in
      record {
        there = (leg, at, record { rises = omega (arith, to); within = rw trail (omega (arith, to)) });
        are =
            two ∙ ap (λ (es : List Event). es ++ linked_events base new leg.next) first
            ∙ ap (λ (es : List Event). drop from store.trail ++ es) rest;
      }
