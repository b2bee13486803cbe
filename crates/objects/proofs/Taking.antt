-- The first of a list are taken out, one after another.
use Rattle.std.proofs.Common.{◌≡◌, ℕ, zero, suc, ◌<◌, inl, inr, Some, None, List, [], ◌∷◌, ◌++◌, set, length, map, take, drop, sym}
use Rattle.std.proofs.Common.{◌∙◌, ap, subst, arith, refl}
use Rattle.std.proofs.lemmas.Bool.{cases_eq, cases_lt}
use Rattle.std.proofs.lemmas.List.{length-map, same_lists, length-set, get_or_default, get_or_past}
use Rattle.std.proofs.lemmas.Option.{same_Some}
use Rattle.lists.specs.Lists.{IsSound, entries_of, first_of, without}
use Rattle.lists.proofs.Entries.{first_split, none-some}
use Rattle.lists.proofs.Laws.{without-first, without-others, entries_of-set_same, entries_of-set_other}
use Rattle.model.specs.declared.call.WaitList.{WaitList}
use Rattle.model.specs.State.{State, for_each}
use Rattle.model.specs.Switching.{make_ready}
use Rattle.objects.specs.Places.{list_places}
use Rattle.objects.specs.WaitingLists.{number_of, waiting_in}
use Rattle.task_lists.specs.Tasks.{tasks_in}
use Rattle.objects.specs.WaitersStand.{WaitersStand}
use Rattle.objects.proofs.Standing.{each_more}

-- two lists of lists that have the same entries
same_entries : (ls ms : List (List (ℕ × ℕ))) → length ls ≡ length ms → ((l : ℕ) → entries_of ls l ≡ entries_of ms l) → ls ≡ ms
same_entries ls ms len h =
    same_lists ls ms len
    (λ l d below. sym (get_or_default ls l [] d below) ∙ h l ∙ get_or_default ms l [] d (omega (arith, len, below)))

pub set-self : (ls : List (List (ℕ × ℕ))) (l : ℕ) (xs : List (ℕ × ℕ)) → entries_of ls l ≡ xs → set ls l xs ≡ ls
set-self [] l xs e = refl
set-self (y ∷ ys) zero xs e = ap (λ (z : List (ℕ × ℕ)). z ∷ ys) (sym e)
set-self (y ∷ ys) (suc l) xs e = ap (λ (zs : List (List (ℕ × ℕ))). y ∷ zs) (set-self ys l xs e)

pub set-set : (ls : List (List (ℕ × ℕ))) (l : ℕ) (xs ys : List (ℕ × ℕ)) → set (set ls l xs) l ys ≡ set ls l ys
set-set [] l xs ys = refl
set-set (z ∷ zs) zero xs ys = refl
set-set (z ∷ zs) (suc l) xs ys = ap (λ (ws : List (List (ℕ × ℕ))). z ∷ ws) (set-set zs l xs ys)

-- a list that has a first one is among them
head_below : (ls : List (List (ℕ × ℕ))) (l n : ℕ) → Some n ≡ first_of (entries_of ls l) → l < length ls
head_below ls l n first = elim (cases_lt l (length ls)) [
  | inl below ↦ below
  | inr past ↦ absurd (none-some n (sym (first ∙ ap first_of (get_or_past ls l [] past))))
]

-- without its first task a list is the rest of it, and the others stay
pub first_out : (ls : List (List (ℕ × ℕ))) (l n : ℕ) → IsSound list_places 32 ls
    → Some n ≡ first_of (entries_of ls l) → map (without n) ls ≡ set ls l (drop 1 (entries_of ls l))
first_out ls l n sound first =
    let h = first_split n (entries_of ls l) first in
    let rest : List (ℕ × ℕ) = h.1 in
    let is : drop 1 (entries_of ls l) ≡ rest = ap (drop 1) h.2 in
    same_entries (map (without n) ls) (set ls l (drop 1 (entries_of ls l)))
    (length-map ls (without n) ∙ sym (length-set ls l (drop 1 (entries_of ls l)))) (λ k. elim (cases_eq k l) [
      | inl same ↦
          ap (entries_of (map (without n) ls)) same ∙ without-first sound n h.0 l rest h.2 ∙ sym is
          ∙ sym (entries_of-set_same ls l (drop 1 (entries_of ls l)) (head_below ls l n first))
          ∙ ap (entries_of (set ls l (drop 1 (entries_of ls l)))) (sym same)
      | inr other ↦
          without-others sound n h.0 l rest h.2 k other ∙ sym (entries_of-set_other ls l k (drop 1 (entries_of ls l)) other)
    ])

drop-none : (k : ℕ) → drop {A = ℕ × ℕ} k [] ≡ []
drop-none zero = refl
drop-none (suc k) = refl

-- this many fewer in a list
entries_of-dropped : (ls : List (List (ℕ × ℕ))) (l k : ℕ)
    → entries_of (set ls l (drop k (entries_of ls l))) l ≡ drop k (entries_of ls l)
entries_of-dropped ls l k = elim (cases_lt l (length ls)) [
  | inl below ↦ entries_of-set_same ls l (drop k (entries_of ls l)) below
  | inr past ↦
      let none : entries_of ls l ≡ [] = get_or_past ls l [] past in
      let len = length-set ls l (drop k (entries_of ls l)) in
      get_or_past (set ls l (drop k (entries_of ls l))) l [] (omega (arith, past, len)) ∙ sym (ap (drop k) none ∙ drop-none k)
]

pub none_out : (ls : List (List (ℕ × ℕ))) (l : ℕ) → None ≡ first_of (entries_of ls l) → ls ≡ set ls l (drop 1 (entries_of ls l))
none_out ls l first = sym (set-self ls l (drop 1 (entries_of ls l)) (none (entries_of ls l) first)) where
  none : (xs : List (ℕ × ℕ)) → None ≡ first_of xs → xs ≡ drop 1 xs
  none [] e = refl
  none (x ∷ xs) e = absurd (none-some x.0 e)

-- this many are taken out of a list, or all if there are fewer
pub record TakenOut (old new : List (List (ℕ × ℕ))) (list : WaitList) (count : ℕ) (taken : List ℕ) : Type 0 where
  pub tasks : taken ≡ take count (tasks_in (waiting_in old list))
  pub left : new ≡ set old (number_of list) (drop count (waiting_in old list))
  pub sound : IsSound list_places 32 new
  -- those taken became Ready, one after another
  pub woken : (s : State) → WaitersStand old None s → WaitersStand new None (for_each make_ready taken s)

take-zero : (xs : List ℕ) → [] ≡ take 0 xs
take-zero [] = refl
take-zero (x ∷ xs) = refl

drop-next : (k : ℕ) (xs : List (ℕ × ℕ)) → drop 1 (drop k xs) ≡ drop (suc k) xs
drop-next zero [] = refl
drop-next (suc k) [] = refl
drop-next zero (x ∷ xs) = refl
drop-next (suc k) (x ∷ xs) = drop-next k xs

take-next : (k n : ℕ) (xs : List (ℕ × ℕ)) → Some n ≡ first_of (drop k xs)
    → take k (tasks_in xs) ++ n ∷ [] ≡ take (suc k) (tasks_in xs)
take-next zero n [] e = absurd (none-some n (sym e))
take-next (suc k) n [] e = absurd (none-some n (sym e))
take-next zero n (x ∷ xs) e = ap (λ (m : ℕ). m ∷ []) (same_Some n x.0 e) ∙ ap (λ (ms : List ℕ). x.0 ∷ ms) (take-zero (tasks_in xs))
take-next (suc k) n (x ∷ xs) e = ap (λ (ms : List ℕ). x.0 ∷ ms) (take-next k n xs e)

take-last : (k : ℕ) (xs : List (ℕ × ℕ)) → None ≡ first_of (drop k xs) → take k (tasks_in xs) ≡ take (suc k) (tasks_in xs)
take-last zero [] e = refl
take-last (suc k) [] e = refl
take-last zero (x ∷ xs) e = absurd (none-some x.0 e)
take-last (suc k) (x ∷ xs) e = ap (λ (ms : List ℕ). x.0 ∷ ms) (take-last k xs e)

module _ (old new : List (List (ℕ × ℕ))) (list : WaitList) (count : ℕ) (taken : List ℕ)
    (sound : IsSound list_places 32 old) (h : TakenOut old new list count taken) where
  -- what is left of the list
  left_in : waiting_in new list ≡ drop count (waiting_in old list)
  left_in = ap (λ (ls : List (List (ℕ × ℕ))). waiting_in ls list) h.left ∙ entries_of-dropped old (number_of list) count

  left_next : set new (number_of list) (drop 1 (waiting_in new list))
      ≡ set old (number_of list) (drop (suc count) (waiting_in old list))
  left_next =
      ap (λ (xs : List (ℕ × ℕ)). set new (number_of list) (drop 1 xs)) left_in
      ∙ ap (λ (xs : List (ℕ × ℕ)). set new (number_of list) xs) (drop-next count (waiting_in old list))
      ∙ ap (λ (ls : List (List (ℕ × ℕ))). set ls (number_of list) (drop (suc count) (waiting_in old list))) h.left
      ∙ set-set old (number_of list) (drop count (waiting_in old list)) (drop (suc count) (waiting_in old list))

  pub takes_next : (n : ℕ) → Some n ≡ first_of (waiting_in new list) → (newer : List (List (ℕ × ℕ)))
      → newer ≡ set new (number_of list) (drop 1 (waiting_in new list)) → IsSound list_places 32 newer
      → ((s : State) → WaitersStand new None s → WaitersStand newer None (make_ready n s))
      → TakenOut old newer list (suc count) (taken ++ n ∷ [])
  takes_next n first newer is s more = record {
    tasks = ap (λ (ms : List ℕ). ms ++ n ∷ []) h.tasks ∙ take-next count n (waiting_in old list) (first ∙ ap first_of left_in);
    left = is ∙ left_next;
    sound = s;
    woken = λ s stand.
        subst (WaitersStand newer None) (sym (each_more s taken n)) (more (for_each make_ready taken s) (h.woken s stand));
  }

  pub takes_no_more : None ≡ first_of (waiting_in new list) → (newer : List (List (ℕ × ℕ)))
      → newer ≡ set new (number_of list) (drop 1 (waiting_in new list)) → IsSound list_places 32 newer
      → ((s : State) → WaitersStand new None s → WaitersStand newer None s) → TakenOut old newer list (suc count) taken
  takes_no_more first newer is s more = record {
    tasks = h.tasks ∙ take-last count (waiting_in old list) (first ∙ ap first_of left_in);
    left = is ∙ left_next;
    sound = s;
    woken = λ s stand. more (for_each make_ready taken s) (h.woken s stand);
  }
