-- Events by legs: each leg has a stretch of a trail, and goes on as one before it does, or as the base run.
use Rattle.std.specs.Prelude.{◌≡◌, ℕ, zero, suc, ◌+◌, ◌≤◌, List, [], ◌++◌, length, drop, slice_range, slice_get, Some, option_map}
use Rattle.std.specs.Prelude.{unwrap_or}
use Rattle.model.specs.declared.event.Event.{Event}
use Rattle.rows.specs.declared.link.Leg.{Leg}
use Rattle.rows.specs.declared.link.Link.{Link}
use Rattle.rows.specs.declared.link.Link.TheVariants as links

-- what a worker kept: its trail, and its legs
pub record Store : Type 0 where
  pub trail : List Event
  pub legs : List Leg

-- the events that follow a link, over this many legs at most; those of the base run are everyone's
abbrev pub linked_by : (base : List Event) → Store → ℕ → Link → List Event
linked_by base store n (links.Base from) = drop from base
linked_by base store zero (links.Leg number from) = []
linked_by base store (suc n) (links.Leg number from) =
    unwrap_or (option_map (λ (leg : Leg). slice_range store.trail from leg.to ++ linked_by base store n leg.next)
    (slice_get store.legs number))
    []

-- over how many legs a link goes at most, since each goes on as one before it
abbrev pub height : Link → ℕ
height (links.Base from) = 0
height (links.Leg number from) = number + 1

-- the events that follow a link
abbrev pub linked_events : (base : List Event) → Store → Link → List Event
linked_events base store link = linked_by base store (height link) link

-- The place is on the leg, and the leg within the trail.
pub record IsOn (trail : List Event) (from : ℕ) (leg : Leg) : Type 0 where
  pub rises : from ≤ leg.to
  pub within : leg.to ≤ length trail

-- The link goes to a place that is there.
abbrev pub IsLink : (base : List Event) → Store → Link → Type 0
IsLink base store (links.Base from) = from ≤ length base
IsLink base store (links.Leg number from) = (leg : Leg) × (slice_get store.legs number ≡ Some leg) × IsOn store.trail from leg

-- The leg of this number goes on as one before it, or as the base run.
pub record IsLeg (base : List Event) (store : Store) (number : ℕ) (leg : Leg) : Type 0 where
  pub before : height leg.next ≤ number
  pub next : IsLink base store leg.next

-- All legs are such.
abbrev pub AreLegs : (base : List Event) → Store → Type 0
AreLegs base store = (number : ℕ) (leg : Leg) → slice_get store.legs number ≡ Some leg → IsLeg base store number leg

-- Some events and some legs, or none, came after those that were there.
pub record Grows (old new : Store) : Type 0 where
  pub own : List Event
  pub trail : new.trail ≡ old.trail ++ own
  pub more : List Leg
  pub legs : new.legs ≡ old.legs ++ more

-- The link goes to a place that is there, and these events follow it.
pub record LinksTo (base : List Event) (store : Store) (link : Link) (events : List Event) : Type 0 where
  pub there : IsLink base store link
  pub are : linked_events base store link ≡ events
