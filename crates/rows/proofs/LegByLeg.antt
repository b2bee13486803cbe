-- Events that follow a link, which are written leg by leg.
use Rattle.std.specs.List.{flat_map}
use Rattle.std.proofs.Common.{◌≡◌, ◌∙◌, ◌++◌, ℕ, List, Option, Some, Result, Ok, Err, slice_get, slice_range, ap, subst, sym}
use Rattle.std.proofs.Common.{append_assoc}
use Rattle.std.proofs.lemmas.Grind.{flat_map-append}
use Rattle.byte_io.specs.Bytes.{Adds, Sent, SentFront}
use Rattle.byte_io.proofs.Sending.{Sent_longer, Sent_then, SentFront_longer, SentFront_then}
use Rattle.model.specs.declared.event.Event.{Event}
use Rattle.model.specs.Application.{Application}
use Rattle.report.specs.Text.{event_text}
use Rattle.rows.specs.declared.link.Leg.{Leg}
use Rattle.rows.specs.declared.link.Link.TheVariants as links
use Rattle.rows.specs.Links.{Store, linked_events, AreLegs}
use Rattle.rows.proofs.Linked.{linked_on}

-- The text of a row: its head line, the events with which it begins, and those with which it goes on.
pub row_parts : (f : Event → List ℕ) (head : List ℕ) (xs ys : List Event)
    → head ++ flat_map f (xs ++ ys) ≡ (head ++ flat_map f xs) ++ flat_map f ys
row_parts f head xs ys =
    ap (λ (t : List ℕ). head ++ t) (flat_map-append f xs ys) ∙ sym (append_assoc head (flat_map f xs) (flat_map f ys))

-- What was left of a text is added, and it was all that was left.
pub last_sent : {T E : Type 0} (a b c : Option (List ℕ)) (page whole mid text kept : List ℕ) (r : Result T E)
    → Sent a b (page ++ whole) (mid ++ text) → Adds b c mid kept r text → Adds a c page kept r whole
last_sent a b c page whole mid text kept (Ok x) first second = Sent_then a b c (page ++ whole) (mid ++ text) kept first second
last_sent a b c page whole mid text kept (Err e) first second = SentFront_then a b c (page ++ whole) (mid ++ text) first second

module _ (app : Application) (base : List Event) (store : Store) (legs : AreLegs base store)
    (number from : ℕ) (leg : Leg) (at : slice_get store.legs number ≡ Some leg)
    (a b c : Option (List ℕ)) (whole page : List ℕ)
    (sent : Sent a b whole (page ++ flat_map (event_text app) (linked_events base store (links.Leg number from)))) where
  abbrev text : List Event → List ℕ
  text events = flat_map (event_text app) events

  abbrev here : List Event
  here = slice_range store.trail from leg.to

  abbrev behind : List Event
  behind = linked_events base store leg.next

  both : (page ++ text here) ++ text behind ≡ page ++ text (linked_events base store (links.Leg number from))
  both = append_assoc page (text here) (text behind)
      ∙ ap (λ (t : List ℕ). page ++ t)
      (sym (ap text (linked_on base store legs number from leg at) ∙ flat_map-append (event_text app) here behind))

  -- the events of a leg are added, and those after it are left
  pub leg_sent : (mid : List ℕ) → Sent b c (page ++ text here) mid → Sent a c whole (mid ++ text behind)
  leg_sent mid second = Sent_then a b c whole (page ++ text (linked_events base store (links.Leg number from))) (mid ++ text behind)
      sent (subst (λ (t : List ℕ). Sent b c t (mid ++ text behind)) both
      (Sent_longer b c (page ++ text here) mid (text behind) second))

  pub leg_stopped : SentFront b c (page ++ text here) → SentFront a c whole
  leg_stopped second = SentFront_then a b c whole (page ++ text (linked_events base store (links.Leg number from))) sent
      (subst (λ (t : List ℕ). SentFront b c t) both (SentFront_longer b c (page ++ text here) (text behind) second))
