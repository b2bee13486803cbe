-- How the kernel goes on along the runs that come to it, stretch by stretch.
use Rattle.std.proofs.Common.{◌+◌, ◌≡◌, ◌<◌, ◌≤◌, ℕ, suc, false, List, [], ◌++◌, None, ap, sym, subst, ◌∙◌, arith, append-nil}
use Rattle.std.proofs.Common.{length}
use Rattle.model.specs.declared.event.Event.{Event}
use Rattle.model.specs.declared.plan.Injection.{Injection}
use Rattle.model.specs.Application.{Application, Limits}
use Rattle.model.specs.Scripts.{AreLimits, IsWellFormed}
use Rattle.model.specs.State.{State}
use Rattle.model.specs.Step.{step}
use Rattle.model.specs.Run.{end_of, events_after, injected, state_after}
use Rattle.model.proofs.Injected.{from_here}
use Rattle.soundness.proofs.Pending.{none_between}
use Rattle.machine.specs.declared.machine.Machine.{Machine}
use Rattle.machine.specs.StandsFor.{Stands}
use Rattle.machine.specs.Can.{IsUnderWay, NonePends}
use Rattle.machine.proofs.Pending.{none_by, none_pends}
use Rattle.kernel.specs.Along.{IsFree, GoesTo, GoesOn, NoneIsOver, IsGoing, GoesFurther}
use Rattle.kernel.specs.Over.{is_over}
use Rattle.kernel.specs.Rows.{events_from}
use Rattle.kernel.proofs.Planned.{stands_as}
use Rattle.kernel.proofs.Running.{free_before, goes_on, more_events, more_from, steps_more, told_more}

-- ---- which runs

-- Nothing has become pending on the way.
none_further : {app : Application} {limits : Limits} {until : ℕ} {old new : Machine} {plan : List Injection}
    → IsFree app limits until old plan → IsUnderWay app plan limits new → old.steps ≤ new.steps → new.steps < until → NonePends new
none_further {app} {limits} {until} {old} {new} {plan} f way on short =
    none_pends new (state_after app limits plan new.steps) way.stands
    (none_between app limits plan old.steps new.steps on (λ n from below. f.alone n from (omega arith))
    (none_by old (state_after app limits plan old.steps) (f.none (omega arith)) f.way.stands))

-- Where the kernel has gone on, those that were so still are.
pub free_next : {app : Application} {limits : Limits} {until : ℕ} {old new : Machine} {plan : List Injection}
    → GoesTo app limits until old new → IsFree app limits until old plan → IsFree app limits until new plan
free_next {app} {limits} {until} {old} {new} {plan} g f = record {
  way = g.way plan f;
  alone = λ n from below. let on = g.on in f.alone n (omega arith) below;
  none = λ short. let on = g.on in none_further f (g.way plan f) on short;
  free = λ n from below going. let on = g.on in f.free n (omega arith) below going;
}

-- So they are up to an earlier step.
pub free_sooner : {app : Application} {limits : Limits} {until : ℕ} {k : Machine} {plan : List Injection} (sooner : ℕ)
    → ((n : ℕ) → k.steps ≤ n → n < sooner → n < until) → IsFree app limits until k plan → IsFree app limits sooner k plan
free_sooner {app} {limits} {until} {k} {plan} sooner within f = record {
  way = f.way;
  alone = λ n from below. f.alone n from (within n from below);
  none = λ short. f.none (within k.steps (omega arith) short);
  free = λ n from below going. f.free n from (within n from below) going;
}

-- Up to a step before which no limit is reached, each run without an injection is free (`IsFree`).
pub free_of_limits : (app : Application) (limits : Limits) (until : ℕ) (k : Machine) (plan : List Injection)
    → IsUnderWay app plan limits k
    → ((n : ℕ) → k.steps ≤ n → n < until → injected plan n ≡ [])
    → (app.tickless ≡ false → k.steps < until → k.clock.age + k.clock.held + until ≤ limits.ticks + k.steps)
    → (k.steps < until → until ≤ limits.steps) → NonePends k → IsFree app limits until k plan
free_of_limits app limits until k plan way alone ticks steps none = record {
  way = way;
  alone = alone;
  none = λ _. none;
  free = free_before app plan limits k until way alone none ticks steps;
}

-- Where it isn't over, none of them ends.
pub going_free : {app : Application} {limits : Limits} {until : ℕ} {k : Machine} → k.steps < until
    → ((s : State) → Stands k s → false ≡ is_over app limits s) → (plan : List Injection)
    → IsFree app limits until k plan → end_of app limits (state_after app limits plan k.steps) ≡ None
going_free {app} {limits} {until} {k} short going plan f =
    f.free k.steps (omega arith) short (sym (going (state_after app limits plan k.steps) f.way.stands))

-- One that isn't over there doesn't end there.
pub ends_not : {app : Application} {limits : Limits} {until : ℕ} {k : Machine} {plan : List Injection} → k.steps < until
    → IsGoing app limits until k plan → end_of app limits (state_after app limits plan k.steps) ≡ None
ends_not {app} {limits} {until} {k} {plan} short g = g.free.free k.steps (omega arith) short g.going

-- ---- no step

goes_nowhere : {app : Application} {limits : Limits} {until : ℕ} {k : Machine} → GoesTo app limits until k k
goes_nowhere = record { way = λ plan f. f.way; on = omega arith; far = λ within. within }

pub tells_nothing : {app : Application} {limits : Limits} {until : ℕ} {k : Machine} {before after : List Event}
    → after ≡ before → GoesOn app limits until k k before after
tells_nothing {app} {limits} {until} {k} {before} {after} e = record {
  to = goes_nowhere;
  events = λ plan f. e ∙ sym (append-nil before) ∙ ap (λ (es : List Event). before ++ es) (sym (from_here app limits plan k.steps));
}

-- ---- one step

module _ (app : Application) (formed : IsWellFormed app) (limits : Limits)
    (are : AreLimits limits.ticks limits.steps) (until : ℕ) (k next : Machine) (short : k.steps < until)
    (stands : (s : State) → Stands k s → Stands next (step app limits [] s)) where
  -- along a run that doesn't end before it
  module _ (plan : List Injection) (f : IsFree app limits until k plan)
      (on : end_of app limits (state_after app limits plan k.steps) ≡ None) where
    nothing_injected : [] ≡ injected plan k.steps
    nothing_injected = sym (f.alone k.steps (omega arith) short)

    stands_by : (s : State) → Stands k s → Stands next (step app limits (injected plan k.steps) s)
    stands_by = stands_as app limits k next [] (injected plan k.steps) nothing_injected stands

    one_on : next.steps ≡ suc k.steps
    one_on = steps_more app formed plan limits are k f.way on next stands_by

    way_on : IsUnderWay app plan limits next
    way_on = goes_on app formed plan limits are k f.way on next stands_by

    told_on : (before after : List Event) → ((s : State) → Stands k s → after ≡ before ++ (step app limits [] s).log)
        → after ≡ before ++ events_from app limits plan k.steps next.steps
    told_on before after told =
        more_events app formed plan limits are k f.way on next stands_by k.steps (omega arith) before before after
        (sym (append-nil before) ∙ ap (λ (es : List Event). before ++ es) (sym (from_here app limits plan k.steps)))
        (subst (λ (hs : List ℕ). after ≡ before ++ (step app limits hs (state_after app limits plan k.steps)).log)
        nothing_injected (told (state_after app limits plan k.steps) f.way.stands))

    some_on : ((s : State) → Stands k s → 0 < length (step app limits [] s).log)
        → 0 < length (events_after app limits plan next.steps)
    some_on some =
        told_more app formed plan limits are k f.way on next stands_by
        (subst (λ (hs : List ℕ). 0 < length (step app limits hs (state_after app limits plan k.steps)).log)
        nothing_injected (some (state_after app limits plan k.steps) f.way.stands))

  -- along those that aren't over there, where there is such a run
  module _ {plan : List Injection} (g : IsGoing app limits until k plan) where
    pub one_step : next.steps ≡ suc k.steps
    one_step = one_on plan g.free (ends_not short g)

    pub goes_further : (before after : List Event) → ((s : State) → Stands k s → after ≡ before ++ (step app limits [] s).log)
        → GoesFurther app limits until k next before after
    goes_further before after told = record {
      way = λ plan g. way_on plan g.free (ends_not short g);
      on = let one = one_step in omega arith;
      far = λ within. let one = one_step in omega arith;
      events = λ plan g. told_on plan g.free (ends_not short g) before after told;
    }

    -- where the step ends no run
    pub still_going : ((s : State) → Stands k s → is_over app limits s ≡ false → is_over app limits (step app limits [] s) ≡ false)
        → is_over app limits (state_after app limits plan next.steps) ≡ false
    still_going on =
        let after : is_over app limits (step app limits (injected plan k.steps) (state_after app limits plan k.steps)) ≡ false =
        subst (λ (hs : List ℕ). is_over app limits (step app limits hs (state_after app limits plan k.steps)) ≡ false)
        (nothing_injected plan g.free (ends_not short g))
        (on (state_after app limits plan k.steps) g.free.way.stands g.going) in
        subst (λ (n : ℕ). is_over app limits (state_after app limits plan n) ≡ false) (sym one_step) after

module _ (app : Application) (formed : IsWellFormed app) (limits : Limits)
    (are : AreLimits limits.ticks limits.steps) (until : ℕ) (k next : Machine) (short : k.steps < until)
    (going : (plan : List Injection) → IsFree app limits until k plan
    → end_of app limits (state_after app limits plan k.steps) ≡ None)
    (stands : (s : State) → Stands k s → Stands next (step app limits [] s)) where
  module _ (plan : List Injection) (f : IsFree app limits until k plan) where
    pub one_further : next.steps ≡ suc k.steps
    one_further = one_on app formed limits are until k next short stands plan f (going plan f)

    -- where the step reports something, so has the run
    pub some_further : ((s : State) → Stands k s → 0 < length (step app limits [] s).log)
        → 0 < length (events_after app limits plan next.steps)
    some_further = some_on app formed limits are until k next short stands plan f (going plan f)

  -- where there is such a run
  module _ {plan : List Injection} (f : IsFree app limits until k plan) where
    pub goes_a_step : GoesTo app limits until k next
    goes_a_step =
        let one = one_further plan f in
        record {
          way = λ plan f. way_on app formed limits are until k next short stands plan f (going plan f);
          on = omega arith;
          far = λ within. omega arith;
        }

    pub tells_a_step : (before after : List Event) → ((s : State) → Stands k s → after ≡ before ++ (step app limits [] s).log)
        → GoesOn app limits until k next before after
    tells_a_step before after told =
        record {
          to = goes_a_step;
          events = λ plan f. told_on app formed limits are until k next short stands plan f (going plan f) before after told;
        }

-- ---- one stretch after another

pub goes_then : {app : Application} {limits : Limits} {until : ℕ} {first middle last : Machine}
    → GoesTo app limits until first middle → GoesTo app limits until middle last → GoesTo app limits until first last
goes_then {app} {limits} {until} {first} {middle} {last} g h = record {
  way = λ plan f. h.way plan (free_next g f);
  on = (let l = g.on in let m = h.on in omega arith);
  far = λ within. h.far (g.far within);
}

pub tells_then : {app : Application} {limits : Limits} {until : ℕ} {first middle last : Machine} {before between after : List Event}
    → GoesOn app limits until first middle before between → GoesOn app limits until middle last between after
    → GoesOn app limits until first last before after
tells_then {app} {limits} {until} {first} {middle} {last} {before} {between} {after} g h = record {
  to = goes_then g.to h.to;
  events = λ plan f.
      more_from app limits plan first.steps middle.steps last.steps g.to.on h.to.on
      before between after (g.events plan f) (h.events plan (free_next g.to f));
}

-- Those that were not over are free there, whether they are over or not.
pub still_free : {app : Application} {limits : Limits} {until : ℕ}
    {old new : Machine} {before after : List Event} {plan : List Injection}
    → GoesFurther app limits until old new before after → IsGoing app limits until old plan → IsFree app limits until new plan
still_free {app} {limits} {until} {old} {new} {before} {after} {plan} h g = record {
  way = h.way plan g;
  alone = λ n from below. let on = h.on in g.free.alone n (omega arith) below;
  none = λ short. let on = h.on in none_further g.free (h.way plan g) on short;
  free = λ n from below on. let rises = h.on in g.free.free n (omega arith) below on;
}

-- Those that were not over still aren't.
pub goes_still : {app : Application} {limits : Limits} {until : ℕ}
    {old new : Machine} {before after : List Event} {plan : List Injection}
    → GoesFurther app limits until old new before after → IsGoing app limits until old plan
    → is_over app limits (state_after app limits plan new.steps) ≡ false → IsGoing app limits until new plan
goes_still h g going = record { free = still_free h g; going = going }

pub further_then : {app : Application} {limits : Limits} {until : ℕ}
    {first middle last : Machine} {before between after : List Event}
    → GoesFurther app limits until first middle before between
    → ((plan : List Injection) → IsGoing app limits until first plan
    → is_over app limits (state_after app limits plan middle.steps) ≡ false)
    → GoesFurther app limits until middle last between after → GoesFurther app limits until first last before after
further_then {app} {limits} {until} {first} {middle} {last} {before} {between} {after} g going h = record {
  way = λ plan f. h.way plan (goes_still g f (going plan f));
  on = (let l = g.on in let m = h.on in omega arith);
  far = λ within. h.far (g.far within);
  events = λ plan f.
      more_from app limits plan first.steps middle.steps last.steps g.on h.on before
      between after (g.events plan f) (h.events plan (goes_still g f (going plan f)));
}

-- and on from there, whether any is over there or not
pub further_on : {app : Application} {limits : Limits} {until : ℕ} {first middle last : Machine} {before between after : List Event}
    → GoesFurther app limits until first middle before between → GoesOn app limits until middle last between after
    → GoesFurther app limits until first last before after
further_on {app} {limits} {until} {first} {middle} {last} {before} {between} {after} g h = record {
  way = λ plan f. h.to.way plan (still_free g f);
  on = (let l = g.on in let m = h.to.on in omega arith);
  far = λ within. h.to.far (g.far within);
  events = λ plan f.
      more_from app limits plan first.steps middle.steps last.steps g.on h.to.on
      before between after (g.events plan f) (h.events plan (still_free g f));
}

pub further_nowhere : {app : Application} {limits : Limits} {until : ℕ} {k : Machine} {before after : List Event}
    → after ≡ before → GoesFurther app limits until k k before after
further_nowhere {app} {limits} {until} {k} {before} {after} e = record {
  way = λ plan g. g.free.way;
  on = omega arith;
  far = λ within. within;
  events = λ plan g. e ∙ sym (append-nil before) ∙ ap (λ (es : List Event). before ++ es) (sym (from_here app limits plan k.steps));
}

-- up to the next step
pub going_soon : {app : Application} {limits : Limits} {until : ℕ} {k : Machine} {plan : List Injection}
    → k.steps < until → IsGoing app limits until k plan → IsGoing app limits (k.steps + 1) k plan
going_soon {app} {limits} {until} {k} {plan} short g =
    record { free = free_sooner (k.steps + 1) (λ n from below. omega arith) g.free; going = g.going }

pub further_as_far : {app : Application} {limits : Limits} {until : ℕ} {old new : Machine} {before after : List Event}
    → old.steps < until → GoesFurther app limits (old.steps + 1) old new before after
    → GoesFurther app limits until old new before after
further_as_far {app} {limits} {until} {old} {new} {before} {after} short h = record {
  way = λ plan g. h.way plan (going_soon short g);
  on = h.on;
  far = λ within. let far = h.far (omega arith) in omega arith;
  events = λ plan g. h.events plan (going_soon short g);
}

-- where none was over
pub tells_further : {app : Application} {limits : Limits} {until : ℕ} {old new : Machine} {before after : List Event}
    → NoneIsOver app limits until old old → GoesFurther app limits until old new before after
    → GoesOn app limits until old new before after
tells_further {app} {limits} {until} {old} {new} {before} {after} going h = record {
  to = record { way = λ plan f. h.way plan (record { free = f; going = going plan f }); on = h.on; far = h.far };
  events = λ plan f. h.events plan (record { free = f; going = going plan f });
}

-- or none is by then
pub tells_on : {app : Application} {limits : Limits} {until : ℕ} {first middle last : Machine} {before between after : List Event}
    → GoesOn app limits until first middle before between → NoneIsOver app limits until first middle
    → GoesFurther app limits until middle last between after → GoesOn app limits until first last before after
tells_on {app} {limits} {until} {first} {middle} {last} {before} {between} {after} g going h = record {
  to = record {
    way = λ plan f. h.way plan (record { free = free_next g.to f; going = going plan f });
    on = (let l = g.to.on in let m = h.on in omega arith);
    far = λ within. h.far (g.to.far within);
  };
  events = λ plan f.
      more_from app limits plan first.steps middle.steps last.steps g.to.on h.on before between after
      (g.events plan f) (h.events plan (record { free = free_next g.to f; going = going plan f }));
}

-- a stretch that reports nothing, behind any events
pub behind : {app : Application} {limits : Limits} {until : ℕ} {old new : Machine} (kept : List Event)
    → GoesOn app limits until old new [] [] → GoesOn app limits until old new kept kept
behind {app} {limits} {until} {old} {new} kept g = record {
  to = g.to;
  events = λ plan f. sym (append-nil kept) ∙ ap (λ (es : List Event). kept ++ es) (g.events plan f);
}

-- a stretch that ends sooner
pub goes_as_far : {app : Application} {limits : Limits} {sooner until : ℕ} {old new : Machine} {before after : List Event}
    → old.steps ≤ sooner → ((n : ℕ) → old.steps ≤ n → n < sooner → n < until) → GoesOn app limits sooner old new before after
    → GoesOn app limits until old new before after
goes_as_far {app} {limits} {sooner} {until} {old} {new} {before} {after} ahead within g = record {
  to = record {
    way = λ plan f. g.to.way plan (free_sooner sooner within f);
    on = g.to.on;
    far = λ inside. let far = g.to.far ahead in let last = within until inside in grind arith;
  };
  events = λ plan f. g.events plan (free_sooner sooner within f);
}
