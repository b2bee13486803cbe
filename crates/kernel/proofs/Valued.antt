-- A call that waits looks at its item when it begins and when it tries again, and not between.
use Rattle.std.proofs.Common.{◌≡◌, ◌∙◌, ◌&&◌, ℕ, false, List, Option, ap, refl}
use Rattle.model.specs.declared.call.Phase.{Phase}
use Rattle.model.specs.declared.call.Phase.TheVariants.{Start, Try, Decide, Place, Unlock, Leave}
use Rattle.model.specs.declared.op.Access.{Access}
use Rattle.model.specs.declared.op.Access.TheVariants.{Send, SendFront, Overwrite, Receive, Peek, Take, Give, Lock}
use Rattle.model.specs.declared.op.Op.TheVariants.{Await}
use Rattle.model.specs.declared.value.Value as value
use Rattle.model.specs.Application.{Application}
use Rattle.model.specs.Calls.{await, decide}
use Rattle.model.specs.State.{State, call_at, progress_at}
use Rattle.model.specs.Step.{act_by_value, call_with_number, is_start}
use Rattle.model.specs.Values.{lacks_item, with_number}

decides_so : (i o : ℕ) (call : Access value.Value) (xs ys : List ℕ) (a b : Option ℕ) (s : State)
    → decide i o (with_number xs a call) s ≡ decide i o (with_number ys b call) s
unfolding decide
decides_so i o (Send v) xs ys a b s = refl
decides_so i o (SendFront v) xs ys a b s = refl
decides_so i o (Overwrite v) xs ys a b s = refl
decides_so i o Receive xs ys a b s = refl
decides_so i o Peek xs ys a b s = refl
decides_so i o Take xs ys a b s = refl
decides_so i o Give xs ys a b s = refl
decides_so i o Lock xs ys a b s = refl

module _ (app : Application) (i o : ℕ) (call : Access value.Value) (ticks : Option ℕ) (s : State) where
  goes_on_so : (phase : Phase) → (phase ≡ Start → ⊥) → (phase ≡ Try → ⊥) → (xs ys : List ℕ) (a b : Option ℕ)
      → await app i o (with_number xs a call) ticks phase s ≡ await app i o (with_number ys b call) ticks phase s
  goes_on_so Start first again xs ys a b = absurd (first refl)
  goes_on_so Try first again xs ys a b = absurd (again refl)
  goes_on_so Decide first again xs ys a b = decides_so i o call xs ys a b s
  goes_on_so Place first again xs ys a b = refl
  goes_on_so Unlock first again xs ys a b = refl
  goes_on_so Leave first again xs ys a b = refl

  not_start : (phase : Phase) → (phase ≡ Start → ⊥) → is_start phase ≡ false
  not_start Start first = absurd (first refl)
  not_start Try first = refl
  not_start Decide first = refl
  not_start Place first = refl
  not_start Unlock first = refl
  not_start Leave first = refl

  -- What such a phase does is what the call does, whatever number is taken for its item.
  pub acts_past : (phase : Phase) → (phase ≡ Start → ⊥) → (phase ≡ Try → ⊥) → (call_at s i).phase ≡ phase
      → (xs : List ℕ) (a : Option ℕ)
      → act_by_value app i (Await o call ticks) s ≡ await app i o (with_number xs a call) ticks phase s
  acts_past phase first again reached xs a =
      let has : is_start (call_at s i).phase && lacks_item (progress_at s i).answer call ≡ false =
      rw (reached, not_start phase first) refl in
      rw has (ap (λ (p : Phase). await app i o (call_with_number s i call) ticks p s) reached
      ∙ goes_on_so phase first again s.variables xs (progress_at s i).answer a)
