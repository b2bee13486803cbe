-- The first part of a row: before its first injection it reports what the base run reports.
use Rattle.std.proofs.Common.{◌≡◌, ◌<◌, ℕ, List, [], ◌++◌, None, ap, sym, subst, ◌∙◌, arith}
use Rattle.model.specs.declared.event.Event.{Event}
use Rattle.model.specs.declared.plan.Injection.{Injection}
use Rattle.model.specs.Points.{IsPoint, first_step, last_step}
use Rattle.model.specs.Application.{Application, Limits}
use Rattle.model.specs.Run.{end_of, state_after, events_after}
use Rattle.model.proofs.Injected.{same_events, goes_on_with, none_before}
use Rattle.machine.specs.declared.machine.Machine.{Machine}
use Rattle.machine.specs.Can.{IsUnderWay}
use Rattle.shelf.specs.declared.row.RowBeginning.{RowBeginning}
use Rattle.kernel.specs.Rows.{events_from}
use Rattle.shelf.specs.Begun.{HasBegun}

module _ (app : Application) (point : List Injection) (formed : IsPoint point) where
  begun_events : (limits : Limits) (n : ℕ) → first_step point < n
      → events_after app limits point n
      ≡ events_after app limits [] (first_step point) ++ events_from app limits point (first_step point) n
  begun_events limits n l =
      sym (goes_on_with app limits point (first_step point) n (omega arith))
      ∙ ap (λ (events : List Event). events ++ events_from app limits point (first_step point) n)
      (same_events app limits point (first_step point) (none_before point formed.in_order) (first_step point) (omega arith))

  pub has_begun : (inside limits : Limits) → inside ≡ limits
      → (k : Machine) (old new : List Event) (beginning : RowBeginning) → IsUnderWay app point inside k
      → first_step point < k.steps → (beginning.end ≡ None → last_step point < k.steps)
      → beginning.end ≡ end_of app inside (state_after app inside point k.steps)
      → new ≡ old ++ events_from app inside point (first_step point) k.steps → HasBegun app point limits k old new beginning
  has_begun inside limits same k old new beginning way past beyond end events =
      subst (λ (l : Limits). HasBegun app point l k old new beginning) same (record {
        way = way;
        past = past;
        beyond = beyond;
        end = end;
        own = events_from app inside point (first_step point) k.steps;
        kept = events;
        events = begun_events inside k.steps past;
      })
