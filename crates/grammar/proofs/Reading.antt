-- What is read of an op's words is what the grammar spells.
use Rattle.std.proofs.Common.{◌≡◌, ◌⊎◌, ℕ, Bool, true, false, cond, rules, List, [], ◌∷◌, Option, Some, None, refl, sym, ap, inl}
use Rattle.std.proofs.Common.{inr, subst, ◌∙◌, option_map}
use Rattle.std.specs.Option.{option_map_or}
use Rattle.std.specs.Prelude.{option_and_then, codes, not, ◌&&◌}
use Rattle.std.specs.List.{AllByRecursion, list_all}
use Rattle.std.specs.Str.{bytes_eq}
use Rattle.std.proofs.lemmas.Slice.Eq.{bytes_eq-Decides}
use Rattle.std.proofs.lemmas.Bool.{and_parts, not-true}
use Rattle.model.specs.declared.answer.AnswerCondition.{AnswerCondition}
use Rattle.model.specs.declared.notification.NotifyAction.{NotifyAction}
use Rattle.model.specs.declared.notification.NotifyAction.TheVariants as notify
use Rattle.model.specs.declared.answer.AnswerCondition.TheVariants.{Is, IsNot, Below, Above}
use Rattle.model.specs.declared.op.Op.{Op}
use Rattle.model.specs.declared.op.IsrOp.{IsrOp}
use Rattle.model.specs.Words.{word_of, word_of_isr}
use Rattle.model.specs.Scripts.{is_in_range}
use Rattle.model.specs.declared.value.Value.{Value}
use Rattle.grammar.specs.Grammar.{Word, Naming, Form, Done, Number, NumberUnless, Operand, Choice, ActionWord, Asked, Name}
use Rattle.grammar.specs.Grammar.{ActionValue, forms, isr_forms}
use Rattle.grammar.specs.Grammar.{number_of, number_unless, operand_of, compared_of, answer_of, choice_of, action_of, take_by}
use Rattle.grammar.specs.Grammar.{take_condition, given}
use Rattle.grammar.specs.Grammar.{WritesCondition, Writes, WritesBy, Spells, SpellsIsr, is_isr_in_range, read, read_by, op_of}
use Rattle.grammar.specs.Grammar.{isr_op_of}

-- which branch of a test it was
pub chosen : {X : Type 0} (b : Bool) (x y z : X) → cond b x y ≡ z
    → ((b ≡ true) × (x ≡ z)) ⊎ ((b ≡ false) × (y ≡ z))
chosen true x y z e = inl (refl, e)
chosen false x y z e = inr (refl, e)

-- where it was none of three
none_of_three : {X : Type 0} (a b c : Bool) (x y z last value : X) → a ≡ false → b ≡ false → c ≡ false → last ≡ value
    → cond a x (cond b y (cond c z last)) ≡ value
none_of_three a b c x y z last value one two three is = rw (one, two, three) is

-- ---- the condition that words write

-- a condition and the words behind it
abbrev Read : Type 0
Read = AnswerCondition × List Word

same_condition : (r s : Read) → Some r ≡ Some s → r.0 ≡ s.0
same_condition r s e = ap (λ o. option_map_or (λ (t : Read). t.0) o s.0) e

same_others : (r s : Read) → Some r ≡ Some s → r.1 ≡ s.1
same_others r s e = ap (λ o. option_map_or (λ (t : Read). t.1) o s.1) e

-- an answer, or what is behind `not`, `below` or `above`
said : {X : Type 0} (o : Option X) (ws : List Word) (makes : X → AnswerCondition) (condition : AnswerCondition) (others : List Word)
    → option_map {U = Read} (λ r. (makes r.0, r.1)) (option_map {U = X × List Word} (λ x. (x, ws)) o)
    ≡ Some (condition, others)
    → (x : X) × (o ≡ Some x) × (makes x ≡ condition) × (ws ≡ others)
said None ws makes condition others e = cc
said (Some x) ws makes condition others e =
    let r : Read = (makes x, ws) in
    let s : Read = (condition, others) in
    (x, refl, same_condition r s e, same_others r s e)

answered : (o : Option (Option Value)) (ws : List Word) (condition : AnswerCondition) (others : List Word)
    → option_map {U = Read} (λ wanted. (Is wanted, ws)) o ≡ Some (condition, others)
    → (wanted : Option Value) × (o ≡ Some wanted) × (Is wanted ≡ condition) × (ws ≡ others)
answered None ws condition others e = cc
answered (Some wanted) ws condition others e =
    let r : Read = (Is wanted, ws) in
    let s : Read = (condition, others) in
    (wanted, refl, same_condition r s e, same_others r s e)

is_word : (w v : Word) → bytes_eq w v ≡ true → w ≡ v
is_word w v e = (bytes_eq-Decides w v).0 e

module _ (named : Naming) where
  not_sound : (w : Word) (ws : List Word) (condition : AnswerCondition) (others : List Word) → w ≡ codes "not"
      → option_map {U = Read} (λ r. (IsNot r.0, r.1)) (take_by (answer_of named) ws) ≡ Some (condition, others)
      → WritesCondition named condition (w ∷ ws) others
  not_sound w [] condition others is e = cc
  not_sound w (v ∷ ws) condition others is e =
      let s = said (answer_of named v) ws IsNot condition others e in
      subst (λ c. WritesCondition named c (w ∷ v ∷ ws) others) s.2 (is, s.1, s.3)

  below_sound : (w : Word) (ws : List Word) (condition : AnswerCondition) (others : List Word) → w ≡ codes "below"
      → option_map {U = Read} (λ r. (Below r.0, r.1)) (take_by (compared_of named) ws) ≡ Some (condition, others)
      → WritesCondition named condition (w ∷ ws) others
  below_sound w [] condition others is e = cc
  below_sound w (v ∷ ws) condition others is e =
      let s = said (compared_of named v) ws Below condition others e in
      subst (λ c. WritesCondition named c (w ∷ v ∷ ws) others) s.2 (is, s.1, s.3)

  above_sound : (w : Word) (ws : List Word) (condition : AnswerCondition) (others : List Word) → w ≡ codes "above"
      → option_map {U = Read} (λ r. (Above r.0, r.1)) (take_by (compared_of named) ws) ≡ Some (condition, others)
      → WritesCondition named condition (w ∷ ws) others
  above_sound w [] condition others is e = cc
  above_sound w (v ∷ ws) condition others is e =
      let s = said (compared_of named v) ws Above condition others e in
      subst (λ c. WritesCondition named c (w ∷ v ∷ ws) others) s.2 (is, s.1, s.3)

  pub condition_sound : (ws : List Word) (condition : AnswerCondition) (others : List Word)
      → take_condition named ws ≡ Some (condition, others) → WritesCondition named condition ws others
  condition_sound [] condition others e = cc
  condition_sound (w ∷ ws) condition others e = elim (chosen (bytes_eq w (codes "not")) _ _ _ e) [
    | inl here ↦ not_sound w ws condition others (is_word w _ here.0) here.1
    | inr later ↦ elim (chosen (bytes_eq w (codes "below")) _ _ _ later.1) [
      | inl here ↦ below_sound w ws condition others (is_word w _ here.0) here.1
      | inr later ↦ elim (chosen (bytes_eq w (codes "above")) _ _ _ later.1) [
        | inl here ↦ above_sound w ws condition others (is_word w _ here.0) here.1
        | inr later ↦
            let s = answered (answer_of named w) ws condition others later.1 in
            subst (λ c. WritesCondition named c (w ∷ ws) others) s.2 (s.1, s.3)
      ]
    ]
  ]

  -- a word that writes an answer is none of the other three
  no_answer : (w v : Word) (wanted : Option Value) → answer_of named v ≡ None → answer_of named w ≡ Some wanted
      → bytes_eq w v ≡ false
  no_answer w v wanted none e = by_same (bytes_eq w v) refl where
    by_same : (b : Bool) → bytes_eq w v ≡ b → b ≡ false
    by_same true same =
        let is : w ≡ v = is_word w v same in
        let some : answer_of named v ≡ Some wanted = subst (λ u. answer_of named u ≡ Some wanted) is e in
        cc
    by_same false same = refl

  condition_complete : (condition : AnswerCondition) (ws others : List Word) → WritesCondition named condition ws others
      → take_condition named ws ≡ Some (condition, others)
  condition_complete (Is wanted) [] others h = absurd h
  condition_complete (Is wanted) (w ∷ ws) others h =
      none_of_three (bytes_eq w (codes "not")) (bytes_eq w (codes "below")) (bytes_eq w (codes "above")) _ _ _ _ _
      (no_answer w (codes "not") wanted refl h.0)
      (no_answer w (codes "below") wanted refl h.0)
      (no_answer w (codes "above") wanted refl h.0)
      (ap (λ o. option_map {U = Read} (λ v. (Is v, ws)) o) h.0 ∙ ap (λ vs. Some (Is wanted, vs)) h.1)
  condition_complete (IsNot other) [] others h = absurd h
  condition_complete (IsNot other) (w ∷ []) others h = absurd h
  condition_complete (IsNot other) (w ∷ v ∷ ws) others h = rw (h.0, h.1, h.2) refl
  condition_complete (Below bound) [] others h = absurd h
  condition_complete (Below bound) (w ∷ []) others h = absurd h
  condition_complete (Below bound) (w ∷ v ∷ ws) others h = rw (h.0, h.1, h.2) refl
  condition_complete (Above bound) [] others h = absurd h
  condition_complete (Above bound) (w ∷ []) others h = absurd h
  condition_complete (Above bound) (w ∷ v ∷ ws) others h = rw (h.0, h.1, h.2) refl

module _ {O : Type 0} (word : O → Word) where
  -- ---- a step of the reading

  conditioned : (o : Option Read) (next : Read → Option O) (op : O)
      → option_and_then next o ≡ Some op → (r : Read) × (o ≡ Some r) × (next r ≡ Some op)
  conditioned None next op e = cc
  conditioned (Some r) next op e = (r, refl, e)

  taken : {X : Type 0} (o : Option X) (ws : List Word) (next : X × List Word → Option O) (op : O)
      → option_and_then next (option_map (λ x. (x, ws)) o) ≡ Some op
      → (x : X) × (o ≡ Some x) × (next (x, ws) ≡ Some op)
  taken None ws next op e = cc
  taken (Some x) ws next op e = (x, refl, e)

  -- ---- what is read by a form, its words write, and back

  read_sound : (named : Naming) (form : Form O) (ws : List Word) (op : O) → read named form ws ≡ Some op → Writes named form ws op
  read_sound named (Done made) [] op e = cc
  read_sound named (Done made) (w ∷ ws) op e = cc
  read_sound named (Number next) [] op e = cc
  read_sound named (Number next) (w ∷ ws) op e =
      let t = taken (number_of w) ws (λ r. read named (next r.0) r.1) op e in
      (t.0, t.1, read_sound named (next t.0) ws op t.2)
  read_sound named (NumberUnless other next) [] op e = cc
  read_sound named (NumberUnless other next) (w ∷ ws) op e =
      let t = taken (number_unless other w) ws (λ r. read named (next r.0) r.1) op e in
      (t.0, t.1, read_sound named (next t.0) ws op t.2)
  read_sound named (Operand next) [] op e = cc
  read_sound named (Operand next) (w ∷ ws) op e =
      let t = taken (operand_of named w) ws (λ r. read named (next r.0) r.1) op e in
      (t.0, t.1, read_sound named (next t.0) ws op t.2)
  read_sound named (Choice first second next) [] op e = cc
  read_sound named (Choice first second next) (w ∷ ws) op e =
      let t = taken (choice_of first second w) ws (λ r. read named (next r.0) r.1) op e in
      (t.0, t.1, read_sound named (next t.0) ws op t.2)
  read_sound named (ActionWord next) [] op e = cc
  read_sound named (ActionWord next) (w ∷ ws) op e =
      let t = taken (action_of w) ws (λ r. read named (next r.0) r.1) op e in
      (t.0, t.1, read_sound named (next t.0) ws op t.2)
  read_sound named (Asked next) ws op e =
      let t = conditioned (take_condition named ws) (λ r. read named (next r.0) r.1) op e in
      (t.0.0, t.0.1, condition_sound named ws t.0.0 t.0.1 t.1, read_sound named (next t.0.0) t.0.1 op t.2)
  read_sound named (Name sort next) [] op e = cc
  read_sound named (Name sort next) (w ∷ ws) op e =
      let t = taken (named sort w) ws (λ r. read named (next r.0) r.1) op e in
      (t.0, t.1, read_sound named (next t.0) ws op t.2)

  read_complete : (named : Naming) (form : Form O) (ws : List Word) (op : O)
      → Writes named form ws op → read named form ws ≡ Some op
  read_complete named (Done made) [] op h = ap Some h
  read_complete named (Done made) (w ∷ ws) op h = absurd h
  read_complete named (Number next) [] op h = absurd h
  read_complete named (Number next) (w ∷ ws) op h = rw h.1 (read_complete named (next h.0) ws op h.2)
  read_complete named (NumberUnless other next) [] op h = absurd h
  read_complete named (NumberUnless other next) (w ∷ ws) op h = rw h.1 (read_complete named (next h.0) ws op h.2)
  read_complete named (Operand next) [] op h = absurd h
  read_complete named (Operand next) (w ∷ ws) op h = rw h.1 (read_complete named (next h.0) ws op h.2)
  read_complete named (Choice first second next) [] op h = absurd h
  read_complete named (Choice first second next) (w ∷ ws) op h = rw h.1 (read_complete named (next h.0) ws op h.2)
  read_complete named (ActionWord next) [] op h = absurd h
  read_complete named (ActionWord next) (w ∷ ws) op h = rw h.1 (read_complete named (next h.0) ws op h.2)
  read_complete named (Asked next) ws op h =
      rw (condition_complete named h.0 ws h.1 h.2) (read_complete named (next h.0) h.1 op h.3)
  read_complete named (Name sort next) [] op h = absurd h
  read_complete named (Name sort next) (w ∷ ws) op h = rw h.1 (read_complete named (next h.0) ws op h.2)

  -- ---- each form comes to ops of its own word alone

  abbrev HasWord : Word → Form O → Type 0
  HasWord w (Done op) = word op ≡ w
  HasWord w (Number next) = (n : ℕ) → HasWord w (next n)
  HasWord w (NumberUnless other next) = (n : Option ℕ) → HasWord w (next n)
  HasWord w (Operand next) = (v : Value) → HasWord w (next v)
  HasWord w (Choice first second next) = (b : Bool) → HasWord w (next b)
  HasWord w (ActionWord next) = (a : NotifyAction Unit) → HasWord w (next a)
  HasWord w (Asked next) = (condition : AnswerCondition) → HasWord w (next condition)
  HasWord w (Name sort next) = (entry : ℕ) → HasWord w (next entry)

  -- where it makes an op, this is of its word
  word_written : (named : Naming) (w : Word) (form : Form O) (ws : List Word) (op : O)
      → HasWord w form → Writes named form ws op → word op ≡ w
  word_written named w (Done made) [] op has h = subst (λ (o : O). word o ≡ w) h has
  word_written named w (Done made) (v ∷ ws) op has h = absurd h
  word_written named w (Number next) [] op has h = absurd h
  word_written named w (Number next) (v ∷ ws) op has h = word_written named w (next h.0) ws op (has h.0) h.2
  word_written named w (NumberUnless other next) [] op has h = absurd h
  word_written named w (NumberUnless other next) (v ∷ ws) op has h = word_written named w (next h.0) ws op (has h.0) h.2
  word_written named w (Operand next) [] op has h = absurd h
  word_written named w (Operand next) (v ∷ ws) op has h = word_written named w (next h.0) ws op (has h.0) h.2
  word_written named w (Choice first second next) [] op has h = absurd h
  word_written named w (Choice first second next) (v ∷ ws) op has h = word_written named w (next h.0) ws op (has h.0) h.2
  word_written named w (ActionWord next) [] op has h = absurd h
  word_written named w (ActionWord next) (v ∷ ws) op has h = word_written named w (next h.0) ws op (has h.0) h.2
  word_written named w (Asked next) ws op has h = word_written named w (next h.0) h.1 op (has h.0) h.3
  word_written named w (Name sort next) [] op has h = absurd h
  word_written named w (Name sort next) (v ∷ ws) op has h = word_written named w (next h.0) ws op (has h.0) h.2

  -- with a value or without one
  action_has_word : (w : Word) (next : NotifyAction Value → Form O) → ((action : NotifyAction Value) → HasWord w (next action))
      → (a : NotifyAction Unit) → HasWord w (ActionValue next a)
  action_has_word w next has notify.Nothing = has notify.Nothing
  action_has_word w next has (notify.SetBits u) = λ n. has (notify.SetBits (given n))
  action_has_word w next has notify.Increment = has notify.Increment
  action_has_word w next has (notify.Overwrite u) = λ n. has (notify.Overwrite (given n))
  action_has_word w next has (notify.Keep u) = λ n. has (notify.Keep (given n))

  abbrev HasOwnWord : Word × Form O → Type 0
  HasOwnWord form = HasWord form.0 form.1

  -- ---- no two forms have the same word

  abbrev differs_from : Word → Word × Form O → Bool
  differs_from w form = not (bytes_eq form.0 w)

  abbrev are_distinct : List (Word × Form O) → Bool
  are_distinct [] = true
  are_distinct (form ∷ others) = list_all (differs_from form.0) others && are_distinct others

  -- ---- the first form of a word, and the form by which words write an op

  by_sound : (named : Naming) (fs : List (Word × Form O)) → AllByRecursion HasOwnWord fs → (w : Word) (ws : List Word) (op : O)
      → read_by named fs w ws ≡ Some op → (w ≡ word op) × WritesBy named fs ws op
  by_sound named [] own w ws op e = cc
  by_sound named (form ∷ others) own w ws op e = elim (chosen (bytes_eq w form.0) _ _ _ e) [
    | inl here ↦
        let written : Writes named form.1 ws op = read_sound named form.1 ws op here.1 in
        let own_word : w ≡ form.0 = (bytes_eq-Decides w form.0).0 here.0 in
        (own_word ∙ sym (word_written named form.0 form.1 ws op own.0 written), inl written)
    | inr later ↦ let l = by_sound named others own.1 w ws op later.1 in (l.0, inr l.1)
  ]

  other_word : (named : Naming) (fs : List (Word × Form O)) → AllByRecursion HasOwnWord fs → (v : Word) (ws : List Word) (op : O)
      → list_all (differs_from v) fs ≡ true → WritesBy named fs ws op → bytes_eq (word op) v ≡ false
  other_word named [] own v ws op differ h = absurd h
  other_word named (form ∷ others) own v ws op differ (inl h) =
      rw (word_written named form.0 form.1 ws op own.0 h) (not-true _ (and_parts (differs_from v form) _ differ).0)
  other_word named (form ∷ others) own v ws op differ (inr h) =
      other_word named others own.1 v ws op (and_parts (differs_from v form) _ differ).1 h

  by_complete : (named : Naming) (fs : List (Word × Form O)) → AllByRecursion HasOwnWord fs → are_distinct fs ≡ true
      → (ws : List Word) (op : O) → WritesBy named fs ws op → read_by named fs (word op) ws ≡ Some op
  by_complete named [] own distinct ws op h = absurd h
  by_complete named (form ∷ others) own distinct ws op (inl h) =
      let own_word : bytes_eq (word op) form.0 ≡ true =
      (bytes_eq-Decides (word op) form.0).1 (word_written named form.0 form.1 ws op own.0 h) in
      rw own_word (read_complete named form.1 ws op h)
  by_complete named (form ∷ others) own distinct ws op (inr h) =
      let parts = and_parts (list_all (differs_from form.0) others) (are_distinct others) distinct in
      let other = other_word named others own.1 form.0 ws op parts.0 h in
      rw other (by_complete named others own.1 parts.1 ws op h)

-- ---- the ops of tasks, and those of handlers

own_words : AllByRecursion (HasOwnWord word_of) forms
own_words = search (rules, action_has_word word_of)

forms_distinct : are_distinct word_of forms ≡ true
forms_distinct = refl

isr_own_words : AllByRecursion (HasOwnWord word_of_isr) isr_forms
isr_own_words = search (rules, action_has_word word_of_isr)

isr_forms_distinct : are_distinct word_of_isr isr_forms ≡ true
isr_forms_distinct = refl

-- ---- the ranges

ranged : {O : Type 0} (test : O → Bool) (o : Option O) (op : O)
    → option_and_then (λ made. cond (test made) (Some made) None) o ≡ Some op
    → (o ≡ Some op) × (test op ≡ true)
ranged test None op e = cc
ranged test (Some made) op e = elim (chosen (test made) _ _ _ e) [
  | inl within ↦ (within.1, let same : made ≡ op = cc in subst (λ o. test o ≡ true) same within.0)
  | inr out ↦ cc
]

pub sound : (named : Naming) (ws : List Word) (op : Op) → op_of named ws ≡ Some op → Spells named op ws
sound named [] op e = cc
sound named (w ∷ ws) op e =
    let r = ranged is_in_range (read_by named forms w ws) op e in
    let b = by_sound word_of named forms own_words w ws op r.0 in
    (b.0, b.1, r.1)

pub complete : (named : Naming) (ws : List Word) (op : Op) → Spells named op ws → op_of named ws ≡ Some op
complete named [] op h = absurd h
complete named (w ∷ ws) op h = rw (h.0, by_complete word_of named forms own_words forms_distinct ws op h.1, h.2) refl

pub isr_sound : (named : Naming) (ws : List Word) (op : IsrOp) → isr_op_of named ws ≡ Some op → SpellsIsr named op ws
isr_sound named [] op e = cc
isr_sound named (w ∷ ws) op e =
    let r = ranged is_isr_in_range (read_by named isr_forms w ws) op e in
    let b = by_sound word_of_isr named isr_forms isr_own_words w ws op r.0 in
    (b.0, b.1, r.1)

pub isr_complete : (named : Naming) (ws : List Word) (op : IsrOp) → SpellsIsr named op ws → isr_op_of named ws ≡ Some op
isr_complete named [] op h = absurd h
isr_complete named (w ∷ ws) op h =
    rw (h.0, by_complete word_of_isr named isr_forms isr_own_words isr_forms_distinct ws op h.1, h.2) refl
