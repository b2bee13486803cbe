-- Where other runs join the base run, as checkpoints are put along it.
use Rattle.std.proofs.Common.{◌≡◌, ◌≤◌, ℕ, zero, suc, List, [], ◌∷◌, ◌++◌, Option, None, Some, length, length-append}
use Rattle.std.proofs.Common.{drop, refl, sym, ap, subst, ◌∙◌, append-nil, arith}
use Rattle.std.specs.Prelude.{IfSome, slice_get}
use Rattle.std.proofs.lemmas.List.{drop-append-le}
use Rattle.std.proofs.Math.Seq.{drop-length}
use Rattle.model.specs.declared.event.Event.{Event}
use Rattle.model.specs.Application.{Application, Limits}
use Rattle.model.specs.Run.{Run, IsRun, events_after}
use Rattle.machine.specs.declared.machine.Machine.{Machine}
use Rattle.machine.specs.Can.{IsUnderWay}
use Rattle.kernel.specs.Leads.{IsEnd, IsLed, IsPast, LeadsTo}
use Rattle.kernel.specs.Rests.{IsRest}
use Rattle.kernel.specs.declared.rests.RestEnding.{RestEnding}
use Rattle.kernel.proofs.Leading.{leads_here, leads_then, rest_before}
use Rattle.shelf.specs.declared.checkpoints.Checkpoint.{Checkpoint}
use Rattle.shelf.specs.Rests.{JoinsBase, AreRests}

-- The checkpoint leads to the kernel. The trail has the events on the way, after those that the run had reported at the checkpoint.
pub record IsBehind (app : Application) (limits : Limits) (now : Machine)
    (trail : List Event) (checkpoint : Checkpoint) : Type 0 where
  pub within : checkpoint.before ≤ length trail
  pub leads : LeadsTo app limits checkpoint.kernel now (drop checkpoint.before trail)

abbrev pub AreBehind : Application → Limits → Machine → List Event → List Checkpoint → Type 0
AreBehind app limits now trail checkpoints = (number : ℕ) → IfSome (slice_get checkpoints number) (IsBehind app limits now trail)

-- ---- elements by their numbers

each : {X : Type 0} (P Q : X → Type 0) → ((x : X) → P x → Q x) → (o : Option X) → IfSome o P → IfSome o Q
each P Q f None is = tt
each P Q f (Some x) is = f x is

pub each_more : {X : Type 0} (P : ℕ → X → Type 0) (xs : List X) (x : X) → ((n : ℕ) → IfSome (slice_get xs n) (P n))
    → P (length xs) x → (n : ℕ) → IfSome (slice_get (xs ++ x ∷ []) n) (P n)
each_more P [] x h is zero = is
each_more P [] x h is (suc n) = tt
each_more P (y ∷ ys) x h is zero = h zero
each_more P (y ∷ ys) x h is (suc n) = each_more (λ n. P (suc n)) ys x (λ n. h (suc n)) is n

module _ (app : Application) (limits : Limits) where
  -- ---- checkpoints behind the kernel

  one_on : (trail after : List Event) (old new : Machine) → IsLed app limits old new trail after
      → (s : Checkpoint) → IsBehind app limits old trail s → IsBehind app limits new after s
  one_on trail after old new led s is =
      let within = is.within in
      let more : drop s.before after ≡ drop s.before trail ++ led.own =
      rw led.kept (drop-append-le s.before trail led.own within) in
      record {
        within = rw led.kept (omega (arith, length-append trail led.own));
        leads = rw more (leads_then app limits s.kernel old new (drop s.before trail) led.own is.leads led.leads);
      }

  -- They stay behind it.
  pub all_on : (trail after : List Event) (old new : Machine) → IsLed app limits old new trail after
      → (checkpoints : List Checkpoint) → AreBehind app limits old trail checkpoints → AreBehind app limits new after checkpoints
  all_on trail after old new led checkpoints are number =
      each (IsBehind app limits old trail) (IsBehind app limits new after)
      (one_on trail after old new led) (slice_get checkpoints number) (are number)

  -- One more, where the kernel stands.
  pub put_behind : (now : Machine) (trail : List Event) (checkpoints more : List Checkpoint) (s : Checkpoint)
      → more ≡ checkpoints ++ s ∷ [] → s.kernel ≡ now → s.before ≡ length trail
      → AreBehind app limits now trail checkpoints → AreBehind app limits now trail more
  put_behind now trail checkpoints more s pushed same at are =
      let none : drop s.before trail ≡ [] = ap (λ n. drop n trail) at ∙ drop-length trail in
      let here : IsBehind app limits now trail s =
      record { within = omega arith; leads = rw (none, same) (leads_here app limits now) } in
      subst (AreBehind app limits now trail) (sym pushed) (each_more (λ _. IsBehind app limits now trail) checkpoints s are here)

  -- ---- the base run, as far as the kernel has come along it

  pub past_none : (k : Machine) → IsUnderWay app [] limits k → IsPast app limits k []
  past_none k way = record { way = way; past = λ n from. refl }

  pub events_on : (old new : Machine) (before after : List Event) → IsLed app limits old new before after
      → IsUnderWay app [] limits old → before ≡ events_after app limits [] old.steps → after ≡ events_after app limits [] new.steps
  events_on old new before after led way are =
      led.kept ∙ ap (λ (es : List Event). es ++ led.own) are ∙ sym (led.leads.events [] (past_none old way))

  -- ---- at its end

  module _ (now : Machine) (ending : RestEnding) (end : IsEnd app limits now ending)
      (trail events : List Event) (same : events ≡ trail) where
    abbrev base : List Event → Run
    base events = record { events = events; steps = ending.steps; ticks = ending.ticks; end = ending.end }

    pub base_is : IsUnderWay app [] limits now → trail ≡ events_after app limits [] now.steps → IsRun app [] limits (base events)
    base_is way are =
        let run = end.rest.of_each [] way (λ n from. refl) in
        subst (λ (es : List Event). IsRun app [] limits (base es))
        (append-nil (events_after app limits [] now.steps) ∙ sym are ∙ sym same) run

    one_joins : (s : Checkpoint) → IsBehind app limits now trail s → JoinsBase app limits (base events) s.kernel s.before
    one_joins s is =
        let rest = rest_before app limits s.kernel now (drop s.before trail) (base []) is.leads end.rest in
        record {
          within = rw same is.within;
          rest =
              subst (λ (es : List Event). IsRest app limits s.kernel (base es))
              (append-nil (drop s.before trail) ∙ ap (drop s.before) (sym same)) rest;
        }

    pub all_join : (checkpoints : List Checkpoint) → AreBehind app limits now trail checkpoints
        → AreRests app limits (base events) checkpoints
    all_join checkpoints are number =
        each (IsBehind app limits now trail) (λ (s : Checkpoint). JoinsBase app limits (base events) s.kernel s.before)
        one_joins (slice_get checkpoints number) (are number)

-- ---- a checkpoint that is looked at
