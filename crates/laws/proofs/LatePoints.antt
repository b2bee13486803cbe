-- A point past the end does nothing.
use Rattle.std.proofs.Common.{◌≡◌, ◌<◌, ◌≤◌, ℕ, zero, suc, false, eqb, List, [], ◌∷◌, refl, ap, sym, ◌∙◌, arith}
use Rattle.std.specs.List.{AllByRecursion}
use Rattle.model.specs.declared.plan.Injection.{Injection}
use Rattle.model.specs.Application.{Application, Limits}
use Rattle.model.specs.Run.{Run, IsRun, injected, state_after, events_after, end_of}
use Rattle.model.specs.State.{State}
use Rattle.model.proofs.Lists.{eqb-apart}

none_yet : (plan : List Injection) (steps n : ℕ)
    → AllByRecursion (λ (p : Injection). steps ≤ p.step) plan → n < steps → injected plan n ≡ []
none_yet [] steps n all l = refl
none_yet (p ∷ plan) steps n all l =
    let apart : eqb p.step n ≡ false = eqb-apart p.step n (λ e. let le = all.0 in omega arith) in
    rw apart (none_yet plan steps n all.1 l)

module _ (app : Application) (plan : List Injection) (limits : Limits) (run : Run)
    (h : IsRun app [] limits run) (all : AllByRecursion (λ (p : Injection). run.steps ≤ p.step) plan) where
  same_state : (n : ℕ) → n ≤ run.steps → state_after app limits plan n ≡ state_after app limits [] n
  same_state zero l = refl
  same_state (suc n) l = rw (none_yet plan run.steps n all (omega arith), same_state n (omega arith)) refl

  same_events : (n : ℕ) → n ≤ run.steps → events_after app limits plan n ≡ events_after app limits [] n
  same_events zero l = refl
  same_events (suc n) l = rw (same_events n (omega arith), same_state (suc n) l) refl

  pub none_late : IsRun app plan limits run
  none_late = record {
    goes_on = λ n l. ap (end_of app limits) (same_state n (omega arith)) ∙ h.goes_on n l;
    ends = ap (end_of app limits) (same_state run.steps (omega arith)) ∙ h.ends;
    trace = h.trace ∙ sym (same_events run.steps (omega arith));
    elapsed = h.elapsed ∙ ap (λ (s : State). s.elapsed) (sym (same_state run.steps (omega arith)));
  }
