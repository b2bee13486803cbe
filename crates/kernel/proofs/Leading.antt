-- Kernels to which each run comes that has come to an earlier one, and into which nothing is injected any more.
use Rattle.std.proofs.Common.{◌+◌, ◌≡◌, ◌<◌, ◌≤◌, ℕ, suc, false, List, [], ◌++◌, None, Some, length, ap, sym, subst, ◌∙◌, arith}
use Rattle.std.proofs.Common.{append-nil, refl}
use Rattle.std.proofs.lemmas.List.{append_assoc, append_cancel_left}
use Rattle.model.specs.declared.event.Event.{Event}
use Rattle.model.specs.declared.event.End.{End}
use Rattle.model.specs.declared.plan.Injection.{Injection}
use Rattle.model.specs.Application.{Application, Limits}
use Rattle.model.specs.State.{State}
use Rattle.model.specs.Scripts.{AreLimits, IsWellFormed}
use Rattle.model.specs.Step.{step}
use Rattle.model.specs.Run.{Run, end_of, events_after, injected, state_after}
use Rattle.model.proofs.Injected.{goes_on_with}
use Rattle.machine.specs.declared.machine.Machine.{Machine}
use Rattle.machine.specs.StandsFor.{Stands}
use Rattle.machine.specs.Can.{IsUnderWay, NonePends}
use Rattle.machine.proofs.Either.{elapsed_is}
use Rattle.kernel.specs.Along.{IsFree, GoesOn}
use Rattle.kernel.specs.Leads.{IsEnd, IsLed, IsPast, LeadsTo}
use Rattle.kernel.specs.Rests.{IsRest}
use Rattle.kernel.specs.Rows.{events_from}
use Rattle.kernel.proofs.Along.{free_of_limits}
use Rattle.kernel.proofs.Planned.{stands_as}
use Rattle.kernel.proofs.Running.{goes_on, steps_more, told_more}

module _ (app : Application) (limits : Limits) where
  -- ---- one kernel leads to another

  -- The runs are past their injections there too.
  pub past_on : (old new : Machine) (own : List Event) → LeadsTo app limits old new own
      → (plan : List Injection) → IsPast app limits old plan → IsPast app limits new plan
  past_on old new own leads plan is =
      record { way = leads.way plan is; past = λ n from. let on = leads.on in is.past n (omega arith) }

  pub leads_here : (k : Machine) → LeadsTo app limits k k []
  leads_here k =
      record {
        on = omega arith;
        way = λ plan is. is.way;
        events = λ plan is. sym (append-nil (events_after app limits plan k.steps));
      }

  pub leads_then : (first middle last : Machine) (own more : List Event) → LeadsTo app limits first middle own
      → LeadsTo app limits middle last more → LeadsTo app limits first last (own ++ more)
  leads_then first middle last own more one other = record {
    on = (let on = one.on in let further = other.on in omega arith);
    way = λ plan is. other.way plan (past_on first middle own one plan is);
    events = λ plan is.
        other.events plan (past_on first middle own one plan is)
        ∙ ap (λ (es : List Event). es ++ more) (one.events plan is)
        ∙ append_assoc (events_after app limits plan first.steps) own more;
  }

  -- ---- and the events are kept

  pub led_here : (k : Machine) (kept : List Event) → IsLed app limits k k kept kept
  led_here k kept = record { own = []; kept = sym (append-nil kept); leads = leads_here k }

  pub led_then : (first middle last : Machine) (before between after : List Event) → IsLed app limits first middle before between
      → IsLed app limits middle last between after → IsLed app limits first last before after
  led_then first middle last before between after one other = record {
    own = one.own ++ other.own;
    kept = other.kept ∙ ap (λ (es : List Event). es ++ other.own) one.kept ∙ append_assoc before one.own other.own;
    leads = leads_then first middle last one.own other.own one.leads other.leads;
  }

  -- The kernel went on, up to a step before which no limit is reached.
  module _ (until : ℕ) (old new : Machine) (before after : List Event)
      (ticks : app.tickless ≡ false → old.steps < until → old.clock.age + old.clock.held + until ≤ limits.ticks + old.steps)
      (steps : old.steps < until → until ≤ limits.steps)
      (goes : GoesOn app limits until old new before after) (none : NonePends old) where
    free_past : (plan : List Injection) → IsPast app limits old plan → IsFree app limits until old plan
    free_past plan is = free_of_limits app limits until old plan is.way (λ n from below. is.past n from) ticks steps none

    pub led_on : (plan : List Injection) → IsPast app limits old plan → IsLed app limits old new before after
    led_on plan is =
        let own : List Event = events_from app limits plan old.steps new.steps in
        let kept : after ≡ before ++ own = goes.events plan (free_past plan is) in
        record {
          own = own;
          kept = kept;
          leads = record {
            on = goes.to.on;
            way = λ other its. goes.to.way other (free_past other its);
            events = λ other its.
                let same : own ≡ events_from app limits other old.steps new.steps =
                append_cancel_left before own (events_from app limits other old.steps new.steps)
                (sym kept ∙ goes.events other (free_past other its)) in
                sym (ap (λ (es : List Event). events_after app limits other old.steps ++ es) same
                ∙ goes_on_with app limits other old.steps new.steps goes.to.on);
          };
        }

  -- The kernel went a step further, before which nothing is injected, and no run ends.
  module _ (formed : IsWellFormed app) (are : AreLimits limits.ticks limits.steps) (old new : Machine)
      (on : (s : State) → Stands old s → None ≡ end_of app limits s)
      (stands : (s : State) → Stands old s → Stands new (step app limits [] s)) where
    goes_there : (plan : List Injection) → IsPast app limits old plan → end_of app limits (state_after app limits plan old.steps)
        ≡ None
    goes_there plan is = sym (on (state_after app limits plan old.steps) is.way.stands)

    stands_there : (plan : List Injection) → IsPast app limits old plan
        → (s : State) → Stands old s → Stands new (step app limits (injected plan old.steps) s)
    stands_there plan is = stands_as app limits old new [] (injected plan old.steps) (sym (is.past old.steps (omega arith))) stands

    pub one_there : (plan : List Injection) → IsPast app limits old plan → new.steps ≡ suc old.steps
    one_there plan is = steps_more app formed plan limits are old is.way (goes_there plan is) new (stands_there plan is)

    pub way_there : (plan : List Injection) → IsPast app limits old plan → IsUnderWay app plan limits new
    way_there plan is = goes_on app formed plan limits are old is.way (goes_there plan is) new (stands_there plan is)

    -- where the step reports something, so has the run
    pub some_there : (plan : List Injection) → IsPast app limits old plan
        → ((s : State) → Stands old s → 0 < length (step app limits [] s).log) → 0 < length (events_after app limits plan new.steps)
    some_there plan is some =
        told_more app formed plan limits are old is.way (goes_there plan is) new (stands_there plan is)
        (subst (λ (hs : List ℕ). 0 < length (step app limits hs (state_after app limits plan old.steps)).log)
        (sym (is.past old.steps (omega arith))) (some (state_after app limits plan old.steps) is.way.stands))

    module _ (before after : List Event)
        (told : (s : State) → Stands old s → after ≡ before ++ (step app limits [] s).log) where
      told_there : (plan : List Injection) → IsPast app limits old plan
          → after ≡ before ++ (step app limits (injected plan old.steps) (state_after app limits plan old.steps)).log
      told_there plan is =
          subst (λ (hs : List ℕ). after ≡ before ++ (step app limits hs (state_after app limits plan old.steps)).log)
          (sym (is.past old.steps (omega arith))) (told (state_after app limits plan old.steps) is.way.stands)

      pub led_step : (plan : List Injection) → IsPast app limits old plan → IsLed app limits old new before after
      led_step plan is =
          let own : List Event = (step app limits (injected plan old.steps) (state_after app limits plan old.steps)).log in
          let kept : after ≡ before ++ own = told_there plan is in
          let one = one_there plan is in
          record {
            own = own;
            kept = kept;
            leads = record {
              on = omega (arith, one);
              way = λ other its. way_there other its;
              events = λ other its.
                  let log : List Event = (step app limits (injected other old.steps) (state_after app limits other old.steps)).log
                  in
                  let same : own ≡ log = append_cancel_left before own log (sym kept ∙ told_there other its) in
                  ap (λ (n : ℕ). events_after app limits other n) (one_there other its)
                  ∙ ap (λ (es : List Event). events_after app limits other old.steps ++ es) (sym same);
            };
          }

  -- ---- what is ahead

  -- What is ahead of the new kernel is ahead of the old one, behind the events on the way.
  pub rest_before : (old new : Machine) (own : List Event) (rest : Run)
      → LeadsTo app limits old new own → IsRest app limits new rest
      → IsRest app limits old (record { events = own ++ rest.events; steps = rest.steps; ticks = rest.ticks; end = rest.end })
  rest_before old new own rest leads is = record {
    of_each = λ plan way past.
        let here : IsPast app limits old plan = record { way = way; past = past } in
        let there = past_on old new own leads plan here in
        let run = is.of_each plan there.way there.past in
        rw (sym (ap (λ (es : List Event). es ++ rest.events) (leads.events plan here)
        ∙ append_assoc (events_after app limits plan old.steps) own rest.events))
        run;
  }

  -- Nothing is ahead of a kernel at which each run is over.
  pub end_here : (k : Machine) (ticks : ℕ) → ticks ≡ k.clock.age + k.clock.held
      → (end : End) → ((s : State) → Stands k s → Some end ≡ end_of app limits s)
      → IsEnd app limits k (record { steps = k.steps; ticks = ticks; end = end })
  end_here k ticks t end ended = record {
    here = refl;
    rest = record {
      of_each = λ plan way past. record {
        goes_on = way.goes_on;
        ends = sym (ended _ way.stands);
        trace = append-nil (events_after app limits plan k.steps);
        elapsed = t ∙ elapsed_is k _ way.stands;
      };
    };
  }
