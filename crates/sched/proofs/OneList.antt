-- The pending tasks, as the entries of the one list of a table.
use Rattle.std.proofs.Common.{◌≡◌, ℕ, ◌<◌, inl, inr, Bool, false, None, List, [], ◌∷◌, ◌++◌, drop, length, map, set, sym, ◌∙◌}
use Rattle.std.proofs.Common.{ap, subst, arith, refl}
use Rattle.std.specs.Prelude.{◌==◌, ◌||◌, slice_get}
use Rattle.std.specs.Option.{IfSome, is_some}
use Rattle.std.proofs.lemmas.Bool.{cases_eq}
use Rattle.lists.specs.Lists.{EachOnce, IsSound, entries_of, first_of, has_node, place_of, without}
use Rattle.lists.proofs.Entries.{apart_from_test, has_node-apart, has_or_not, without-other, without-same}
use Rattle.lists.proofs.Laws.{entries_of-set_same, entries_of-without, place_of-None}
use Rattle.task_lists.specs.Tasks.{is_among, without_task, tasks_in}
use Rattle.sched.proofs.LinedUp.{without_task-other, without_task-same}

tasks_in-append : (es fs : List (ℕ × ℕ)) → tasks_in (es ++ fs) ≡ tasks_in es ++ tasks_in fs
tasks_in-append [] fs = refl
tasks_in-append (e ∷ es) fs = ap (λ (ts : List ℕ). e.0 ∷ ts) (tasks_in-append es fs)

tasks_in-without : (i : ℕ) (es : List (ℕ × ℕ)) → tasks_in (without i es) ≡ without_task i (tasks_in es)
tasks_in-without i [] = refl
tasks_in-without i (e ∷ es) = elim (cases_eq e.0 i) [
  | inl same ↦ ap tasks_in (without-same i e es same) ∙ tasks_in-without i es ∙ sym (without_task-same i e.0 (tasks_in es) same)
  | inr other ↦
      ap tasks_in (without-other i e es other) ∙ ap (λ (ts : List ℕ). e.0 ∷ ts) (tasks_in-without i es)
      ∙ sym (without_task-other i e.0 (tasks_in es) other)
]

among-tasks_in : (i : ℕ) (es : List (ℕ × ℕ)) → is_among i (tasks_in es) ≡ has_node i es
among-tasks_in i [] = refl
among-tasks_in i (e ∷ es) = ap (λ (b : Bool). e.0 == i || b) (among-tasks_in i es)

tasks_in-drop : (es : List (ℕ × ℕ)) → tasks_in (drop 1 es) ≡ drop 1 (tasks_in es)
tasks_in-drop [] = refl
tasks_in-drop (e ∷ es) = refl

pub first-tasks_in : (es : List (ℕ × ℕ)) → first_of es ≡ slice_get (tasks_in es) 0
first-tasks_in [] = refl
first-tasks_in (e ∷ es) = refl

once_in : (es : List (ℕ × ℕ)) → EachOnce es → IfSome (first_of es) (λ i. is_among i (tasks_in (drop 1 es)) ≡ false)
once_in [] h = tt
once_in (e ∷ es) h = among-tasks_in e.0 es ∙ has_node-apart e.0 es h.0

module _ {lists : List (List (ℕ × ℕ))} (sound : IsSound 1 32 lists) (i : ℕ) where
  only_list : has_node i (entries_of lists 0) ≡ false → place_of lists i ≡ None
  only_list out = place_of-None i lists (λ l below.
      let first : 0 ≡ l = let one = sound.as_many in omega (arith, below, one) in
      apart_from_test i (entries_of lists l) (subst (λ (k : ℕ). has_node i (entries_of lists k) ≡ false) first out))

  pub placed : is_some (place_of lists i) ≡ is_among i (tasks_in (entries_of lists 0))
  placed = elim (has_or_not i (entries_of lists 0)) [
    | inl has ↦ ap is_some (sound.one_place i 0 has) ∙ sym (among-tasks_in i (entries_of lists 0) ∙ has)
    | inr not ↦ ap is_some (only_list not) ∙ sym (among-tasks_in i (entries_of lists 0) ∙ not)
  ]

  pub in_no_list : is_among i (tasks_in (entries_of lists 0)) ≡ false → place_of lists i ≡ None
  in_no_list free = only_list (sym (among-tasks_in i (entries_of lists 0)) ∙ free)

  pub tasks_pushed : tasks_in (entries_of (set lists 0 (entries_of lists 0 ++ (i, 0) ∷ [])) 0)
      ≡ tasks_in (entries_of lists 0) ++ i ∷ []
  tasks_pushed =
      let below : 0 < length lists = let one = sound.as_many in omega (arith, one) in
      ap tasks_in (entries_of-set_same lists 0 (entries_of lists 0 ++ (i, 0) ∷ []) below)
      ∙ tasks_in-append (entries_of lists 0) ((i, 0) ∷ [])

  pub tasks_without : tasks_in (entries_of (map (without i) lists) 0) ≡ without_task i (tasks_in (entries_of lists 0))
  tasks_without = ap tasks_in (entries_of-without i 0 lists) ∙ tasks_in-without i (entries_of lists 0)

-- the first one leaves
module _ {lists : List (List (ℕ × ℕ))} (sound : IsSound 1 32 lists) where
  popped : entries_of (set lists 0 (drop 1 (entries_of lists 0))) 0 ≡ drop 1 (entries_of lists 0)
  popped =
      let below : 0 < length lists = let one = sound.as_many in omega (arith, one) in
      entries_of-set_same lists 0 (drop 1 (entries_of lists 0)) below

  pub rest : tasks_in (entries_of (set lists 0 (drop 1 (entries_of lists 0))) 0) ≡ drop 1 (tasks_in (entries_of lists 0))
  rest = ap tasks_in popped ∙ tasks_in-drop (entries_of lists 0)

  -- and isn't among the others
  pub once : IfSome (first_of (entries_of lists 0))
      (λ i. is_among i (tasks_in (entries_of (set lists 0 (drop 1 (entries_of lists 0))) 0)) ≡ false)
  once = rw popped (once_in (entries_of lists 0) (sound.distinct 0))
