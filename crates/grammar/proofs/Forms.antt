-- What is read by forms, where each of them makes only ops of which something holds.
use Rattle.std.proofs.Common.{◌≡◌, ℕ, Bool, List, [], ◌∷◌, Option, Some, None, refl, subst, inl, inr}
use Rattle.std.specs.Prelude.{codes}
use Rattle.std.specs.List.{AllByRecursion}
use Rattle.std.specs.Option.{option_map, option_and_then, option_or, IfSome}
use Rattle.std.specs.Str.{bytes_eq}
use Rattle.model.specs.declared.answer.AnswerCondition.{AnswerCondition}
use Rattle.model.specs.declared.answer.AnswerCondition.TheVariants.{Is, IsNot, Below, Above}
use Rattle.model.specs.declared.notification.NotifyAction.{NotifyAction}
use Rattle.model.specs.declared.notification.NotifyAction.TheVariants as notify
use Rattle.model.specs.declared.value.Value.{Value}
use Rattle.model.specs.declared.value.Value.TheVariants as value
use Rattle.model.proofs.Sorting.{by_test}
use Rattle.grammar.specs.Grammar.{Word, Naming, NameSort, OfVariable, Form, Done, Number, NumberUnless, Operand, Choice}
use Rattle.grammar.specs.Grammar.{ActionWord, ActionValue, Asked, Name, given, action_of}
use Rattle.grammar.specs.Grammar.{number_of, number_unless, variable_of, operand_of, is_of_conditions, compared_of, answer_of}
use Rattle.grammar.specs.Grammar.{choice_of, take_condition, WritesCondition, read, read_by}
use Rattle.grammar.proofs.Reading.{chosen, condition_sound}

-- ---- of which variables a value and a condition speak

module _ (At : NameSort → ℕ → Type 0) where
  -- If the value is a variable, that is there.
  abbrev pub AtValue : Value → Type 0
  AtValue (value.Variable x) = At OfVariable x.number
  AtValue _ = Unit {0}

  -- the same of what the condition compares with
  abbrev pub AtCondition : AnswerCondition → Type 0
  AtCondition (Is wanted) = IfSome wanted AtValue
  AtCondition (IsNot other) = IfSome other AtValue
  AtCondition (Below bound) = AtValue bound
  AtCondition (Above bound) = AtValue bound

module _ (named : Naming) (At : NameSort → ℕ → Type 0)
    (found : (sort : NameSort) (w : Word) (n : ℕ) → named sort w ≡ Some n → At sort n) where
  either_at : (w : Word) (n x : Option ℕ) (v : Value) → named OfVariable w ≡ x
      → option_or (option_map value.Number n) (option_map (λ y. value.Variable (variable_of y)) x) ≡ Some v → AtValue At v
  either_at w (Some n) x v is e = let same : value.Number n ≡ v = cc in subst (AtValue At) same tt
  either_at w None (Some x) v is e =
      let same : value.Variable (variable_of x) ≡ v = cc in subst (AtValue At) same (found OfVariable w x is)
  either_at w None None v is e = cc

  operand_at : (w : Word) (v : Value) → operand_of named w ≡ Some v → AtValue At v
  operand_at w v e = either_at w (number_of w) (named OfVariable w) v refl e

  compared_at : (w : Word) (v : Value) → compared_of named w ≡ Some v → AtValue At v
  compared_at w v e = elim (chosen (is_of_conditions w) _ _ _ e) [
    | inl here ↦ cc
    | inr later ↦ operand_at w v later.1
  ]

  some_at : (w : Word) (o : Option Value) (wanted : Option Value) → compared_of named w ≡ o → option_map Some o ≡ Some wanted
      → IfSome wanted (AtValue At)
  some_at w None wanted is e = cc
  some_at w (Some v) wanted is e =
      let same : Some v ≡ wanted = cc in subst (λ o. IfSome o (AtValue At)) same (compared_at w v is)

  answer_at : (w : Word) (wanted : Option Value) → answer_of named w ≡ Some wanted → IfSome wanted (AtValue At)
  answer_at w wanted e = elim (chosen (bytes_eq w (codes "none")) _ _ _ e) [
    | inl here ↦ let none : None ≡ wanted = cc in subst (λ o. IfSome o (AtValue At)) none tt
    | inr later ↦ some_at w (compared_of named w) wanted refl later.1
  ]

  written_at : (condition : AnswerCondition) (ws others : List Word) → WritesCondition named condition ws others
      → AtCondition At condition
  written_at (Is wanted) [] others h = absurd h
  written_at (Is wanted) (w ∷ ws) others h = answer_at w wanted h.0
  written_at (IsNot other) [] others h = absurd h
  written_at (IsNot other) (w ∷ []) others h = absurd h
  written_at (IsNot other) (w ∷ v ∷ ws) others h = answer_at v other h.1
  written_at (Below bound) [] others h = absurd h
  written_at (Below bound) (w ∷ []) others h = absurd h
  written_at (Below bound) (w ∷ v ∷ ws) others h = compared_at v bound h.1
  written_at (Above bound) [] others h = absurd h
  written_at (Above bound) (w ∷ []) others h = absurd h
  written_at (Above bound) (w ∷ v ∷ ws) others h = compared_at v bound h.1

  condition_at : (ws : List Word) (r : AnswerCondition × List Word) → take_condition named ws ≡ Some r → AtCondition At r.0
  condition_at ws r e = written_at r.0 ws r.1 (condition_sound named ws r.0 r.1 e)

-- ---- what a form makes

module _ {O : Type 0} (Holds : O → Type 0) (At : NameSort → ℕ → Type 0) where
  -- It makes only such ops, of entries that are there.
  abbrev pub Makes : Form O → Type 0
  Makes (Done op) = Holds op
  Makes (Number next) = (n : ℕ) → Makes (next n)
  Makes (NumberUnless other next) = (n : Option ℕ) → Makes (next n)
  Makes (Operand next) = (v : Value) → AtValue At v → Makes (next v)
  Makes (Choice first second next) = (b : Bool) → Makes (next b)
  Makes (ActionWord next) = (a : NotifyAction Unit) → Makes (next a)
  Makes (Asked next) = (condition : AnswerCondition) → AtCondition At condition → Makes (next condition)
  Makes (Name sort next) = (n : ℕ) → At sort n → Makes (next n)

  -- an action with a value or without one
  pub action_makes : (next : NotifyAction Value → Form O) → ((action : NotifyAction Value) → Makes (next action))
      → (a : NotifyAction Unit) → Makes (ActionValue next a)
  action_makes next makes notify.Nothing = makes notify.Nothing
  action_makes next makes (notify.SetBits u) = λ n. makes (notify.SetBits (given n))
  action_makes next makes notify.Increment = makes notify.Increment
  action_makes next makes (notify.Overwrite u) = λ n. makes (notify.Overwrite (given n))
  action_makes next makes (notify.Keep u) = λ n. makes (notify.Keep (given n))

module _ {O : Type 0} (named : Naming) (Holds : O → Type 0) (At : NameSort → ℕ → Type 0)
    (found : (sort : NameSort) (w : Word) (n : ℕ) → named sort w ≡ Some n → At sort n) where
  abbrev Held : Option O → Type 0
  Held o = IfSome o Holds

  taken_holds : {X : Type 0} (o : Option X) (ws : List Word) (next : X × List Word → Option O)
      → ((x : X) → o ≡ Some x → Held (next (x, ws))) → Held (option_and_then next (option_map (λ x. (x, ws)) o))
  taken_holds None ws next holds = tt
  taken_holds (Some x) ws next holds = holds x refl

  condition_holds : (o : Option (AnswerCondition × List Word)) (next : AnswerCondition × List Word → Option O)
      → ((r : AnswerCondition × List Word) → o ≡ Some r → Held (next r)) → Held (option_and_then next o)
  condition_holds None next holds = tt
  condition_holds (Some r) next holds = holds r refl

  read_holds : (form : Form O) (ws : List Word) → Makes Holds At form → Held (read named form ws)
  read_holds (Done op) [] makes = makes
  read_holds (Done op) (w ∷ ws) makes = tt
  read_holds (Number next) [] makes = tt
  read_holds (Number next) (w ∷ ws) makes =
      taken_holds (number_of w) ws (λ r. read named (next r.0) r.1) (λ n e. read_holds (next n) ws (makes n))
  read_holds (NumberUnless other next) [] makes = tt
  read_holds (NumberUnless other next) (w ∷ ws) makes =
      taken_holds (number_unless other w) ws (λ r. read named (next r.0) r.1) (λ ticks e. read_holds (next ticks) ws (makes ticks))
  read_holds (Operand next) [] makes = tt
  read_holds (Operand next) (w ∷ ws) makes =
      taken_holds (operand_of named w) ws (λ r. read named (next r.0) r.1)
      (λ v e. read_holds (next v) ws (makes v (operand_at named At found w v e)))
  read_holds (Choice first second next) [] makes = tt
  read_holds (Choice first second next) (w ∷ ws) makes =
      taken_holds (choice_of first second w) ws (λ r. read named (next r.0) r.1) (λ b e. read_holds (next b) ws (makes b))
  read_holds (ActionWord next) [] makes = tt
  read_holds (ActionWord next) (w ∷ ws) makes =
      taken_holds (action_of w) ws (λ r. read named (next r.0) r.1) (λ a e. read_holds (next a) ws (makes a))
  read_holds (Asked next) ws makes =
      condition_holds (take_condition named ws) (λ r. read named (next r.0) r.1)
      (λ r e. read_holds (next r.0) r.1 (makes r.0 (condition_at named At found ws r e)))
  read_holds (Name sort next) [] makes = tt
  read_holds (Name sort next) (w ∷ ws) makes =
      taken_holds (named sort w) ws (λ r. read named (next r.0) r.1) (λ n e. read_holds (next n) ws (makes n (found sort w n e)))

  pub read_by_holds : (fs : List (Word × Form O)) (w : Word) (ws : List Word)
      → AllByRecursion (λ (form : Word × Form O). Makes Holds At form.1) fs → Held (read_by named fs w ws)
  read_by_holds [] w ws make = tt
  read_by_holds (form ∷ others) w ws make = by_test (bytes_eq w form.0)
      (λ t. rw t (read_holds form.1 ws make.0))
      (λ t. rw t (read_by_holds others w ws make.1))
