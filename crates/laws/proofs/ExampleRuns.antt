-- Runs, by tests that compute.
use Rattle.std.proofs.Common.{◌≡◌, ◌≢◌, ◌<◌, ℕ, zero, suc, Bool, true, false, ◌&&◌, eqb, List, Option, Some, None, refl, arith}
use Rattle.std.specs.Option.{is_none}
use Rattle.model.specs.declared.event.End.{End}
use Rattle.model.specs.declared.plan.Injection.{Injection}
use Rattle.model.specs.Application.{Application, Limits}
use Rattle.model.specs.Run.{Run, end_of, state_after, events_after, IsRun}
use Rattle.model.proofs.Sorting.{by_test}
use Rattle.model.proofs.Lists.{eqb-refl, eqb-same}

-- No end before this step, by a test.
abbrev pub goes_on_below : Application → List Injection → Limits → ℕ → Bool
goes_on_below app plan limits zero = true
goes_on_below app plan limits (suc n) =
    goes_on_below app plan limits n && is_none (end_of app limits (state_after app limits plan n))

none_from_test : (o : Option End) → is_none o ≡ true → o ≡ None
none_from_test None h = refl
none_from_test (Some e) h = absurd (cc)

both : (a b : Bool) → a && b ≡ true → (a ≡ true) × (b ≡ true)
both true b h = (refl, h)
both false b h = absurd (cc)

goes_on : (app : Application) (plan : List Injection) (limits : Limits) (n : ℕ) → goes_on_below app plan limits n ≡ true
    → (m : ℕ) → m < n → end_of app limits (state_after app limits plan m) ≡ None
goes_on app plan limits zero h m l = absurd (omega arith)
goes_on app plan limits (suc n) h m l =
    let parts = both (goes_on_below app plan limits n) (is_none (end_of app limits (state_after app limits plan n))) h in
    by_test (eqb m n)
    (λ t. let same : m ≡ n = eqb-same m n t in rw same (none_from_test (end_of app limits (state_after app limits plan n)) parts.1))
    (λ t. let apart : m ≢ n = (λ q. let w : eqb m n ≡ true = rw q (eqb-refl n) in absurd (cc)) in
    goes_on app plan limits n parts.0 m (omega arith))

pub is_run : (app : Application) (plan : List Injection) (limits : Limits) (run : Run)
    → goes_on_below app plan limits run.steps ≡ true → end_of app limits (state_after app limits plan run.steps) ≡ Some run.end
    → run.events ≡ events_after app limits plan run.steps
    → run.ticks ≡ (state_after app limits plan run.steps).elapsed → IsRun app plan limits run
is_run app plan limits run g e l t = record { goes_on = goes_on app plan limits run.steps g; ends = e; trace = l; elapsed = t }
