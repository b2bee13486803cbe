-- The first task of a list moves after its equals.
use Rattle.std.proofs.Common.{◌≡◌, ◌≢◌, ℕ, ◌<◌, ◌+◌, inl, inr, Bool, true, false, not, Option, Some, None, List, [], ◌∷◌, ◌++◌}
use Rattle.std.proofs.Common.{get_or, set, length, map, sym, ◌∙◌, ap, ap₂, subst, arith, refl}
use Rattle.std.specs.Prelude.{◌==◌, ◌||◌, if◌then◌else◌}
use Rattle.std.specs.List.{list_any}
use Rattle.std.specs.Option.{is_some}
use Rattle.std.proofs.lemmas.Bool.{cases_eq, le-ltb, eq-eqb, ne_eqb}
use Rattle.std.proofs.lemmas.List.{get_or_default, get_or-set_other, get_or-set_same, length-map, length-set, same_lists}
use Rattle.std.proofs.lemmas.List.{set-get_or}
use Rattle.lists.specs.Lists.{Apart, Each, EachOnce, IsSound, entries_of, first_of, has_node, rotated, second_of, without}
use Rattle.lists.proofs.Entries.{first_split, no_first}
use Rattle.lists.proofs.Laws.{entries_of-set_other, entries_of-set_same, has_first, without-first, without-others}
use Rattle.sched.specs.Schedule.{Schedule, choose, is_outranked, is_sharing, priority_in, slice, to_back, yield_now}
use Rattle.task_lists.specs.Tasks.{insert_by_priority}
use Rattle.sched.specs.ReadyLists.{AreByPriority, AtHome, IsHighest, IsSched, ready_list_of, schedule_of}
use Rattle.sched.proofs.Deeds.{push, still_apart, with_ready}
use Rattle.sched.proofs.ReadyList.{AtHome-push, AtHome-without, any_above, any_beside, any_in_ready_list, first_of_highest, home_at}
use Rattle.sched.proofs.ReadyList.{ready_list_of-push, ready_list_of-without}

some_behind : (xs : List (ℕ × ℕ)) (e : ℕ × ℕ) → xs ++ e ∷ [] ≢ []
some_behind [] e same = cc
some_behind (x ∷ xs) e same = cc

first_still : (n : ℕ) (xs : List (ℕ × ℕ)) (e : ℕ × ℕ) → Some n ≡ first_of xs → Some n ≡ first_of (xs ++ e ∷ [])
first_still n [] e is = absurd cc
first_still n (x ∷ xs) e is = is

-- the slice, if a test says so
abbrev sliced_if : Schedule → Bool → Schedule
sliced_if s ended = if ended then yield_now s else s

-- the lists after the first task of one went last
abbrev pub turn : ℕ → List (List (ℕ × ℕ)) → List (List (ℕ × ℕ))
turn p lists = set lists p (rotated (entries_of lists p))

-- A task is the first of the list of its priority.
pub record IsFirst (lists : List (List (ℕ × ℕ))) (priorities : List ℕ) (task p : ℕ) : Type 0 where
  pub first : Some task ≡ first_of (entries_of lists p)
  pub home : p ≡ priority_in priorities task
  pub known : p < 32

pub first_by : {lists : List (List (ℕ × ℕ))} {priorities : List ℕ} {task p : ℕ} → first_of (entries_of lists p) ≡ Some task
    → p ≡ priority_in priorities task → p < 32 → IsFirst lists priorities task p
first_by first home known = record { first = sym first; home = home; known = known }

module _ {lists : List (List (ℕ × ℕ))} {priorities : List ℕ} (h : AreByPriority lists priorities)
    (task p : ℕ) (is : IsFirst lists priorities task p) where
  split : (v : ℕ) × (rest : List (ℕ × ℕ)) × (entries_of lists p ≡ (task, v) ∷ rest)
  split = first_split task (entries_of lists p) is.first

  value_is : split.0 ≡ p
  value_is =
      let each : Each (λ e. e.1 ≡ 0 + p) ((task, split.0) ∷ split.1) =
      subst (Each (λ e. e.1 ≡ 0 + p)) split.2 (home_at 0 p lists h.at_home) in
      let here = each.0 in
      omega (arith, here)

  below : p < length lists
  below = let many = h.sound.as_many in let known = is.known in omega (arith, many, known)

  below_gone : p < length (map (without task) lists)
  below_gone = let here = below in omega (arith, here, length-map lists (without task))

  -- it leaves, and comes back last
  turned : turn p lists ≡ push task p (map (without task) lists)
  turned =
      let left = map (without task) lists in
      let there = entries_of left p ++ (task, p) ∷ [] in
      let here : rotated (entries_of lists p) ≡ there =
      ap rotated split.2 ∙ ap (λ (v : ℕ). split.1 ++ (task, v) ∷ []) value_is
      ∙ ap (λ (xs : List (ℕ × ℕ)). xs ++ (task, p) ∷ []) (sym (without-first h.sound task split.0 p split.1 split.2)) in
      let len : length (turn p lists) ≡ length lists = length-set lists p (rotated (entries_of lists p)) in
      same_lists _ _ (len ∙ sym (length-set left p there ∙ length-map lists (without task))) (λ j d hj.
      let hj' : j < length lists = subst (λ (k : ℕ). j < k) len hj in
      let hj'' : j < length left = omega (arith, hj', length-map lists (without task)) in
      elim (cases_eq j p) [
        | inl same ↦
            ap (λ (i : ℕ). get_or (turn p lists) i d) same ∙ get_or-set_same lists p (rotated (entries_of lists p)) d below ∙ here
            ∙ sym (ap (λ (i : ℕ). get_or (push task p left) i d) same ∙ get_or-set_same left p there d below_gone)
        | inr other ↦
            get_or-set_other lists p j (rotated (entries_of lists p)) d other ∙ get_or_default lists j d [] hj'
            ∙ sym (without-others h.sound task split.0 p split.1 split.2 j other)
            ∙ get_or_default left j [] d hj'' ∙ sym (get_or-set_other left p j there d other)
      ])

  listed_turned : IsSound 32 32 (turn p lists) → AreByPriority (turn p lists) priorities
  listed_turned sound = record {
    sound = sound;
    at_home =
        subst (AtHome 0) (sym turned)
        (AtHome-push task p 0 p (map (without task) lists) (AtHome-without task 0 lists h.at_home) (omega arith));
    known = h.known;
  }

  ready_turned : ready_list_of (turn p lists)
      ≡ insert_by_priority (task, priority_in priorities task) (without task (ready_list_of lists))
  ready_turned =
      ap ready_list_of turned
      ∙ ready_list_of-push task p 0 p (map (without task) lists) (AtHome-without task 0 lists h.at_home) (omega arith) below_gone
      ∙ ap (insert_by_priority (task, p)) (ready_list_of-without task lists)
      ∙ ap (λ (k : ℕ). insert_by_priority (task, k) (without task (ready_list_of lists))) is.home

  is_in : has_node task (ready_list_of lists) ≡ true
  is_in =
      sym (any_in_ready_list h.sound task)
      ∙ ap is_some (h.sound.one_place task p (has_first h.sound task split.0 p split.1 split.2))

  pub sched_turned : {pending base : List ℕ} {depth : ℕ} → IsSched lists pending priorities base depth
      → IsSound 32 32 (turn p lists) → IsSched (turn p lists) pending priorities base depth
  sched_turned {pending} {base} {depth} all sound = record {
    lists_are = listed_turned sound;
    base_known = all.base_known;
    apart = λ i among. still_apart lists (turn p lists) task (priority_in priorities task) ready_turned is_in i (all.apart i among);
    calm = all.calm;
  }

  pub schedule_turned : (pending : List ℕ) (current : Option ℕ) (base : List ℕ) (depth suspensions : ℕ) (suspended : List Bool)
      → schedule_of (turn p lists) pending current priorities base depth suspensions suspended
      ≡ to_back task (schedule_of lists pending current priorities base depth suspensions suspended)
  schedule_turned pending current base depth suspensions suspended =
      rw is_in (ap (with_ready (schedule_of lists pending current priorities base depth suspensions suspended)) ready_turned)

  -- if it runs and no task is above it, its turn ends if it has an equal
  module _ (pending base : List ℕ) (depth suspensions : ℕ) (suspended : List Bool) (highest : IsHighest lists (Some p)) where
    not_outranked : is_outranked (schedule_of lists pending (Some task) priorities base depth suspensions suspended) ≡ false
    not_outranked =
        any_above priorities lists p task h.at_home highest
        ∙ le-ltb (priority_in priorities task) p (let home = is.home in omega (arith, home))

    others_there : (xs : List (ℕ × ℕ)) → Apart (Some task) xs → list_any (λ e. not (e.0 == task)) xs ≡ is_some (first_of xs)
    others_there [] a = refl
    others_there (x ∷ xs) a =
        let ne : (x.0 == task) ≡ false = ne_eqb x.0 task (λ e. a.0 (ap Some (sym e))) in
        rw ne refl

    sharing_if : is_sharing (schedule_of lists pending (Some task) priorities base depth suspensions suspended)
        ≡ is_some (second_of (entries_of lists p))
    sharing_if =
        let once : EachOnce ((task, split.0) ∷ split.1) = subst EachOnce split.2 (h.sound.distinct p) in
        let eq : (task == task) ≡ true = eq-eqb task task refl in
        any_beside priorities task 0 p lists h.at_home (let home = is.home in omega (arith, home))
        ∙ ap (list_any (λ e. not (e.0 == task))) split.2
        ∙ rw eq (others_there split.1 once.0)
        ∙ sym (ap (λ (xs : List (ℕ × ℕ)). is_some (second_of xs)) split.2)

    pub ended_if : (is_outranked (schedule_of lists pending (Some task) priorities base depth suspensions suspended)
        || is_sharing (schedule_of lists pending (Some task) priorities base depth suspensions suspended))
        ≡ is_some (second_of (entries_of lists p))
    ended_if = ap₂ (λ (a b : Bool). a || b) not_outranked sharing_if

    first_after : first_of (ready_list_of (turn p lists)) ≡ first_of (entries_of (turn p lists) p)
    first_after = first_of_highest (turn p lists) p (
      highest.0,
      λ e.
          some_behind split.1 (task, split.0)
          (sym (entries_of-set_same lists p (rotated (entries_of lists p)) below ∙ ap rotated split.2) ∙ e),
      λ q above. entries_of-set_other lists p q (rotated (entries_of lists p)) (omega (arith, above)) ∙ highest.2 q above,
    )

    pub schedule_sliced : (n : ℕ) → Some n ≡ second_of (entries_of lists p)
        → schedule_of (turn p lists) pending (Some n) priorities base depth suspensions suspended
        ≡ slice (schedule_of lists pending (Some task) priorities base depth suspensions suspended)
    schedule_sliced n second =
        let next : Some n ≡ first_of (entries_of (turn p lists) p) =
        first_still n split.1 (task, split.0) (second ∙ ap second_of split.2)
        ∙ sym (ap first_of (entries_of-set_same lists p (rotated (entries_of lists p)) below ∙ ap rotated split.2)) in
        ap (λ (o : Option ℕ). schedule_of (turn p lists) pending o priorities base depth suspensions suspended)
        (next ∙ sym first_after)
        ∙ ap choose (schedule_turned pending (Some task) base depth suspensions suspended)
        ∙ sym (ap (sliced_if (schedule_of lists pending (Some task) priorities base depth suspensions suspended))
        (ended_if ∙ ap is_some (sym second)))

    pub schedule_kept : None ≡ second_of (entries_of lists p)
        → schedule_of (turn p lists) pending (Some task) priorities base depth suspensions suspended
        ≡ slice (schedule_of lists pending (Some task) priorities base depth suspensions suspended)
    schedule_kept none =
        let one : entries_of lists p ≡ (task, split.0) ∷ [] =
        split.2 ∙ ap (λ (xs : List (ℕ × ℕ)). (task, split.0) ∷ xs) (no_first split.1 (none ∙ ap second_of split.2)) in
        ap (λ (ls : List (List (ℕ × ℕ))). schedule_of ls pending (Some task) priorities base depth suspensions suspended)
        (ap (λ (xs : List (ℕ × ℕ)). set lists p (rotated xs)) one ∙ ap (set lists p) (sym one) ∙ set-get_or lists p [])
        ∙ sym (ap (sliced_if (schedule_of lists pending (Some task) priorities base depth suspensions suspended))
        (ended_if ∙ ap is_some (sym none)))
