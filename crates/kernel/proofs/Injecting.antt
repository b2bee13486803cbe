-- A row, from the base run on.
use Rattle.std.proofs.Common.{◌≡◌, ◌≢◌, ◌<◌, ◌≤◌, ℕ, true, eqb, List, [], ◌++◌, Option, Some, None, Result, Ok, Err, ap, subst, sym}
use Rattle.std.proofs.Common.{◌∙◌, arith}
use Rattle.std.specs.Prelude.{IfOk, OnErr, OnOk}
use Rattle.std.proofs.lemmas.List.{append_assoc}
use Rattle.model.specs.declared.event.Event.{Event}
use Rattle.model.specs.declared.event.End.{End}
use Rattle.model.specs.declared.plan.Injection.{Injection}
use Rattle.model.specs.Points.{IsPoint, first_step, last_step}
use Rattle.model.specs.Application.{Application, Limits}
use Rattle.model.specs.State.{State}
use Rattle.model.specs.Run.{Run, IsRun, end_of, events_after, state_after}
use Rattle.model.proofs.Injected.{same_state, same_events, goes_on_with, none_before, none_past}
use Rattle.model.proofs.Lists.{eqb-refl, eqb-same}
use Rattle.model.proofs.Sorting.{by_test}
use Rattle.machine.specs.declared.machine.Machine.{Machine}
use Rattle.machine.specs.StandsFor.{Stands}
use Rattle.machine.specs.Can.{IsUnderWay}
use Rattle.kernel.specs.Rests.{IsRest}
use Rattle.kernel.specs.Rows.{events_from}

-- What follows holds too if memory was refused.
pub refused_by : {X E P Q : Type 0} → (P → Q) → (r : Result X E) → OnErr r P → OnErr r Q
refused_by f (Ok x) p = tt
refused_by f (Err e) p = f p

module _ (app : Application) (limits : Limits) (point : List Injection) (formed : IsPoint point) where
  state_there : (n : ℕ) → n ≤ first_step point → state_after app limits point n ≡ state_after app limits [] n
  state_there = same_state app limits point (first_step point) (none_before point formed.in_order)

  -- as far as the first injection, the base run's way is the row's
  pub row_way : (k : Machine) → IsUnderWay app [] limits k → k.steps ≤ first_step point → IsUnderWay app point limits k
  row_way k way l = record {
    stands = subst (λ (s : State). Stands k s) (sym (state_there k.steps l)) way.stands;
    goes_on = λ n m. ap (λ (s : State). end_of app limits s) (state_there n (omega arith)) ∙ way.goes_on n m;
  }

  -- the events of the row: the base run's before the first injection, and those from there on
  pub row_events : (n : ℕ) → first_step point ≤ n
      → events_after app limits [] (first_step point) ++ events_from app limits point (first_step point) n
      ≡ events_after app limits point n
  row_events n l =
      ap (λ (events : List Event). events ++ events_from app limits point (first_step point) n)
      (sym (same_events app limits point (first_step point) (none_before point formed.in_order) (first_step point) (omega arith)))
      ∙ goes_on_with app limits point (first_step point) n l

  -- Where the base run goes on at the first injection, the row doesn't end there. Where it has an end, or has come to a later step,
  -- it is behind that injection.
  pub past_it : end_of app limits (state_after app limits [] (first_step point)) ≡ None → (n : ℕ) → first_step point ≤ n
      → (end : Option End) → end ≡ end_of app limits (state_after app limits point n) → (until : ℕ)
      → (end ≡ None → n ≡ until) → first_step point < until → first_step point < n
  past_it on n l end is until there beyond = by_test (eqb n (first_step point))
      (λ t.
      let same : n ≡ first_step point = eqb-same n (first_step point) t in
      let none : end ≡ None =
      is ∙ ap (λ (m : ℕ). end_of app limits (state_after app limits point m)) same
      ∙ ap (λ (s : State). end_of app limits s) (state_there (first_step point) (omega arith)) ∙ on in
      let at = there none in
      absurd (omega arith))
      (λ t.
      let apart : n ≢ first_step point =
      (λ e. let u : eqb n (first_step point) ≡ true = rw e (eqb-refl (first_step point)) in absurd (cc)) in
      omega arith)

  -- So it is of a result that says so.
  pub past_if_ok : {E : Type 0} → end_of app limits (state_after app limits [] (first_step point)) ≡ None
      → (n : ℕ) → first_step point ≤ n → (until : ℕ) → first_step point < until → (r : Result (Option End) E)
      → IfOk r (λ end. end ≡ end_of app limits (state_after app limits point n)) → IfOk r (λ end. end ≡ None → n ≡ until)
      → OnOk r (first_step point < n)
  past_if_ok on n l until beyond (Ok end) is there = past_it on n l end is until there beyond
  past_if_ok on n l until beyond (Err e) is there = tt

  -- where the row came to its end
  pub row_that_ended : (k : Machine) → IsUnderWay app point limits k → first_step point < k.steps
      → (own : List Event) → own ≡ events_from app limits point (first_step point) k.steps
      → (end : End) → Some end ≡ end_of app limits (state_after app limits point k.steps)
      → (ticks : ℕ) → ((s : State) → Stands k s → ticks ≡ s.elapsed)
      → IsRun app point limits
      (record { events = events_after app limits [] (first_step point) ++ own; steps = k.steps; ticks = ticks; end = end })
  row_that_ended k way past own e end ended ticks t = record {
    goes_on = way.goes_on;
    ends = sym ended;
    trace = ap (λ (es : List Event). events_after app limits [] (first_step point) ++ es) e ∙ row_events k.steps (omega arith);
    elapsed = t _ way.stands;
  }

  -- where it goes on behind its last injection, and the rest from the kernel to which it came is known
  pub row_with_rest : (k : Machine) → IsUnderWay app point limits k
      → first_step point < k.steps → last_step point < k.steps → (own : List Event)
      → own ≡ events_from app limits point (first_step point) k.steps
      → (rest : Run) → IsRest app limits k rest
      → IsRun app point limits (record {
        events = events_after app limits [] (first_step point) ++ (own ++ rest.events);
        steps = rest.steps;
        ticks = rest.ticks;
        end = rest.end;
      })
  row_with_rest k way past beyond own e rest is =
      let run = is.of_each point way (λ n from. none_past point formed.in_order n (omega arith)) in
      record {
        goes_on = run.goes_on;
        ends = run.ends;
        trace = sym (append_assoc (events_after app limits [] (first_step point)) own rest.events)
            ∙ ap (λ (es : List Event). es ++ rest.events)
            (ap (λ (es : List Event). events_after app limits [] (first_step point) ++ es) e ∙ row_events k.steps (omega arith))
            ∙ run.trace;
        elapsed = run.elapsed;
      }
