-- Stretches of a trail that are rendered once.
use Rattle.std.proofs.Common.{◌≡◌, ◌+◌, ◌-◌, ◌≤◌, ◌∙◌, ℕ, zero, suc, List, [], ◌∷◌, take, drop}
use Rattle.std.proofs.Common.{length, slice_index_or, slice_range, ap, arith, ◌<◌}
use Rattle.std.specs.Prelude.{IfSome, Option, None, Some, slice_get}
use Rattle.machine.specs.Logged.{all_of}
use Rattle.std.proofs.lemmas.List.{drop-drop, drop-take, length-drop, length-take-le}
use Rattle.model.specs.Application.{Application}
use Rattle.model.specs.declared.event.Event.{Event}
use Rattle.report.specs.Writing.{Events}
use Rattle.rows.specs.declared.campaign_report.Rows.{Rows}
use Rattle.rows.specs.declared.rows.Part.{Part}
use Rattle.rows.specs.declared.rendering.stretches.Found.{Found}
use Rattle.rows.specs.declared.rendering.stretches.Stretch.{Stretch}
use Rattle.rows.specs.Stretches.{AreOf, AreOfPart, IsStretch, IsTail}

-- what holds of the element at each place holds of each that is got
pub each_got : {X : Type 0} (P : ℕ → X → Type 0) (xs : List X) → ((i : ℕ) (d : X) → i < length xs → P i (slice_index_or xs i d))
    → (n : ℕ) → IfSome (slice_get xs n) (P n)
each_got P [] h zero = tt
each_got P [] h (suc n) = tt
each_got P (x ∷ xs) h zero = h zero x (omega arith)
each_got P (x ∷ xs) h (suc n) = each_got (λ n. P (suc n)) xs (λ i d l. h (suc i) d (omega (arith, l))) n

-- a stretch from a place of it on
behind_first : (trail : List Event) (first from to before : ℕ) → from ≤ to → first + before ≡ from
    → drop before (slice_range trail first to) ≡ slice_range trail from to
behind_first trail first from to before rises at =
    let long : to - first ≡ before + (to - from) = omega (arith, at) in
    ap (λ (n : ℕ). drop before (take n (drop first trail))) long ∙ drop-take before (to - from) (drop first trail)
    ∙ ap (take (to - from)) (drop-drop before first trail ∙ ap (λ (n : ℕ). drop n trail) at)

pub tail_is : (app : Application) (trail : List Event) (stretch : Stretch) → IsStretch app trail stretch → (from to : ℕ)
    → stretch.to ≡ to → stretch.first ≤ from → from ≤ to → to ≤ length trail → (found : Found)
    → found.events.now ≡ stretch.events → found.before ≡ from - stretch.first → IsTail app (slice_range trail from to) found
tail_is app trail stretch is from to end low rises within found events before =
    let at : stretch.first + found.before ≡ from = omega (arith, before) in
    let long : to - stretch.first ≤ length (drop stretch.first trail) = omega (arith, length-drop stretch.first trail) in
    let count : length (slice_range trail stretch.first to) ≡ to - stretch.first =
    length-take-le (to - stretch.first) (drop stretch.first trail) long in
    let its : found.events.now.events ≡ slice_range trail stretch.first to =
    ap (λ (e : Events). e.events) events ∙ is.events_are ∙ ap (slice_range trail stretch.first) end in
    let all = ap length its in
    record {
      app_is = ap (λ (e : Events). e.app) events ∙ is.app_is;
      within = omega (arith, at, all, count);
      behind = ap (drop found.before) its ∙ behind_first trail stretch.first from to found.before rises at;
    }

-- Stretches that were found are of the part's trail.
pub of_part : {X : Type 0} (events : X → Events) (app : Application) (rows : Rows) (number : ℕ) (part : Part)
    → slice_get rows.parts.items number ≡ Some part
    → (found : Option X) → IfSome found (λ s. AreOfPart app rows number (events s))
    → IfSome found (λ s. AreOf app (all_of part.trail) (events s))
of_part events app rows number part there None is = tt
of_part events app rows number part there (Some s) is = is part there
