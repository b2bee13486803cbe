-- A pass along a list, which takes out the tasks whose conditions bits meet.
use Rattle.std.proofs.Common.{◌≡◌, ◌≢◌, ℕ, suc, ◌+◌, ◌<◌, ◌≤◌, inl, inr, true, false, not, Option, Some, None, List, [], ◌∷◌, ◌++◌}
use Rattle.std.proofs.Common.{set, length, map, refl, ap, sym, ◌∙◌, subst, arith, append_assoc, append-nil, length-append}
use Rattle.std.specs.Prelude.{◌==◌, if◌then◌else◌}
use Rattle.std.specs.List.{filter, fold}
use Rattle.std.proofs.lemmas.Bool.{cases_eq, eq-eqb, ne_eqb}
use Rattle.std.proofs.lemmas.List.{get_or_default, map-append, same_lists}
use Rattle.std.proofs.lemmas.List.Elements.{filter-append}
use Rattle.std.proofs.lemmas.List.Sums.{fold-append}
use Rattle.std.proofs.lemmas.Option.{same_Some}
use Rattle.std.proofs.Math.ListN.{length-set}
use Rattle.model.specs.declared.call.Condition.{Condition}
use Rattle.model.specs.State.{State}
use Rattle.model.specs.Groups.{bits_left, is_met, wake_with_bits, wake_all}
use Rattle.model.proofs.Sorting.{by_test}
use Rattle.lists.specs.Lists.{Apart, EachOnce, IsSound, entries_of, first_of, has_node, next_of, without}
use Rattle.lists.proofs.Entries.{apart_from_test, distinct-left, distinct-right, has_node-append, has_node-same, has_or_not}
use Rattle.lists.proofs.Entries.{no_first, none-some, without-apart, without-split}
use Rattle.lists.proofs.Laws.{entries_of-set_other, entries_of-set_same, entries_of-without}
use Rattle.groups.specs.EventGroups.{EventGroups, left_by, meets, met_of, unmet_of, wanted_by}
use Rattle.task_lists.specs.Tasks.{tasks_in}
use Rattle.groups.specs.StandsFor.{StandsFor}
use Rattle.groups.proofs.Meeting.{each_more, stands_woken}
use Rattle.groups.proofs.Standing.{waiter}

-- ---- the place of a pass

-- the entries from this node on
abbrev from_node : ℕ → List (ℕ × ℕ) → List (ℕ × ℕ)
from_node n [] = []
from_node n (e ∷ es) = if e.0 == n then e ∷ es else from_node n es

-- those from the place of the pass on
abbrev pub from : Option ℕ → List (ℕ × ℕ) → List (ℕ × ℕ)
from None es = []
from (Some n) es = from_node n es

from_node-here : (n v : ℕ) (before rest : List (ℕ × ℕ)) → Apart (Some n) before
    → from_node n (before ++ (n, v) ∷ rest) ≡ (n, v) ∷ rest
from_node-here n v [] rest a = let t : (n == n) ≡ true = eq-eqb n n refl in rw t refl
from_node-here n v (e ∷ es) rest a =
    let t : (e.0 == n) ≡ false = ne_eqb e.0 n (λ same. a.0 (ap Some (sym same))) in
    rw t (from_node-here n v es rest a.1)

from-here : (before rest : List (ℕ × ℕ)) → EachOnce (before ++ rest) → from (first_of rest) (before ++ rest) ≡ rest
from-here before [] once = refl
from-here before (x ∷ rest) once = from_node-here x.0 x.1 before rest (distinct-left before rest x once)

next_here : (n v : ℕ) (before rest : List (ℕ × ℕ)) → Apart (Some n) before → next_of n (before ++ (n, v) ∷ rest) ≡ first_of rest
next_here n v [] rest a = let t : (n == n) ≡ true = eq-eqb n n refl in rw t refl
next_here n v (e ∷ es) rest a =
    let t : (e.0 == n) ≡ false = ne_eqb e.0 n (λ same. a.0 (ap Some (sym same))) in
    rw t (next_here n v es rest a.1)

has_here : (n v : ℕ) (before rest : List (ℕ × ℕ)) → has_node n (before ++ (n, v) ∷ rest) ≡ true
has_here n v before rest = elim (has_or_not n before) [
  | inl has ↦ has_left before has
  | inr away ↦ has_node-append n before ((n, v) ∷ rest) away ∙ has_node-same n (n, v) rest refl
] where
  has_left : (es : List (ℕ × ℕ)) → has_node n es ≡ true → has_node n (es ++ (n, v) ∷ rest) ≡ true
  has_left [] t = has_node-same n (n, v) rest refl
  has_left (e ∷ es) t = by_test (e.0 == n) (λ u. rw u refl) (λ u. rw u (has_left es (rw u at t)))

-- ---- what is met, and what is left

met-none : (wants : List Condition) (bits : ℕ) (e : ℕ × ℕ) → meets wants bits e ≡ false
    → (met_of wants bits (e ∷ []) ≡ []) × (unmet_of wants bits (e ∷ []) ≡ e ∷ [])
met-none wants bits e t = (rw t refl, rw t refl)

met-one : (wants : List Condition) (bits : ℕ) (e : ℕ × ℕ) → meets wants bits e ≡ true
    → (met_of wants bits (e ∷ []) ≡ e.0 ∷ []) × (unmet_of wants bits (e ∷ []) ≡ [])
met-one wants bits e t = (rw t refl, rw t refl)

met-append : (wants : List Condition) (bits : ℕ) (es : List (ℕ × ℕ)) (e : ℕ × ℕ)
    → met_of wants bits (es ++ e ∷ []) ≡ met_of wants bits es ++ met_of wants bits (e ∷ [])
met-append wants bits es e =
    ap tasks_in (filter-append (meets wants bits) es (e ∷ []))
    ∙ map-append (λ (x : ℕ × ℕ). x.0) (filter (meets wants bits) es) (filter (meets wants bits) (e ∷ []))

unmet-append : (wants : List Condition) (bits : ℕ) (es : List (ℕ × ℕ)) (e : ℕ × ℕ)
    → unmet_of wants bits (es ++ e ∷ []) ≡ unmet_of wants bits es ++ unmet_of wants bits (e ∷ [])
unmet-append wants bits es e = filter-append (λ (x : ℕ × ℕ). not (meets wants bits x)) es (e ∷ [])

few_met : (wants : List Condition) (bits : ℕ) (es : List (ℕ × ℕ)) → length (met_of wants bits es) ≤ length es
few_met wants bits [] = omega arith
few_met wants bits (e ∷ es) =
    let le = few_met wants bits es in
    by_test (meets wants bits e) (λ t. rw t (omega (arith, le))) (λ t. rw t (omega (arith, le)))

left-append : (wants : List Condition) (bits : ℕ) (ts : List ℕ) (n : ℕ)
    → left_by wants bits (ts ++ n ∷ []) ≡ bits_left (left_by wants bits ts) (wanted_by wants n)
left-append wants bits ts n =
    ap (fold bits_left bits) (map-append (wanted_by wants) ts (n ∷ []))
    ∙ fold-append bits_left bits (map (wanted_by wants) ts) (wanted_by wants n ∷ [])

-- ---- the pass

-- Of the list as it was, some entries are passed: those whose conditions the bits meet are taken out, and the others are
-- still before the rest.
pub record Passed (old new : List (List (ℕ × ℕ))) (list : ℕ) (wants : List Condition)
    (bits : ℕ) (at : Option ℕ) (tasks : List ℕ) (left : ℕ) : Type 0 where
  pub before : List (ℕ × ℕ)
  pub rest : List (ℕ × ℕ)
  pub whole : entries_of old list ≡ before ++ rest
  pub here : at ≡ first_of rest
  pub still : entries_of new list ≡ unmet_of wants bits before ++ rest
  pub others : (k : ℕ) → k ≢ list → entries_of new k ≡ entries_of old k
  pub sound : IsSound 17 32 new
  pub met : tasks ≡ met_of wants bits before
  pub remains : left ≡ left_by wants bits tasks
  -- those met were woken, one after another
  pub woken : (v : EventGroups) (s : State) → v.waiting ≡ old → StandsFor v s
      → StandsFor (record v { waiting = new }) (wake_all tasks bits s)

-- the entry at the place of the pass, and those after it
pub record Head (n : ℕ) (rest : List (ℕ × ℕ)) : Type 0 where
  pub value : ℕ
  pub later : List (ℕ × ℕ)
  pub is : rest ≡ (n, value) ∷ later

pub head_of : (n : ℕ) (rest : List (ℕ × ℕ)) → Some n ≡ first_of rest → Head n rest
head_of n [] e = absurd (none-some n (sym e))
head_of n (x ∷ xs) e = record { value = x.1; later = xs; is = ap (λ (k : ℕ). (k, x.1) ∷ xs) (sym (same_Some n x.0 e)) }

module _ (old new : List (List (ℕ × ℕ))) (list : ℕ) (wants : List Condition) (bits n : ℕ) (tasks : List ℕ)
    (left : ℕ) (h : Passed old new list wants bits (Some n) tasks left) (first : Head n h.rest) where
  now : entries_of new list ≡ unmet_of wants bits h.before ++ (n, first.value) ∷ first.later
  now = h.still ∙ ap (λ (es : List (ℕ × ℕ)). unmet_of wants bits h.before ++ es) first.is

  once : EachOnce (unmet_of wants bits h.before ++ (n, first.value) ∷ first.later)
  once = subst EachOnce now (h.sound.distinct list)

  apart : Apart (Some n) (unmet_of wants bits h.before)
  apart = distinct-left (unmet_of wants bits h.before) first.later (n, first.value) once

  apart_later : Apart (Some n) first.later
  apart_later = (distinct-right (unmet_of wants bits h.before) ((n, first.value) ∷ first.later) once).0

  pub has : has_node n (entries_of new list) ≡ true
  has = ap (has_node n) now ∙ has_here n first.value (unmet_of wants bits h.before) first.later

  -- the next entry is the first after it
  pub next_is : next_of n (entries_of new list) ≡ first_of first.later
  next_is = ap (next_of n) now ∙ next_here n first.value (unmet_of wants bits h.before) first.later apart

  whole' : entries_of old list ≡ (h.before ++ (n, first.value) ∷ []) ++ first.later
  whole' =
      h.whole ∙ ap (λ (es : List (ℕ × ℕ)). h.before ++ es) first.is
      ∙ sym (append_assoc h.before ((n, first.value) ∷ []) first.later)

  pub room : IsSound 17 32 old → length tasks < 32
  room sound =
      let few : length (entries_of old list) ≤ 32 = sound.few list in
      let all : length (entries_of old list) ≡ length (h.before ++ (n, first.value) ∷ []) + length first.later =
      ap length whole' ∙ length-append (h.before ++ (n, first.value) ∷ []) first.later in
      let one : length (h.before ++ (n, first.value) ∷ []) ≡ length h.before + 1 = length-append h.before ((n, first.value) ∷ []) in
      let met : length tasks ≡ length (met_of wants bits h.before) = ap length h.met in
      let le : length (met_of wants bits h.before) ≤ length h.before = few_met wants bits h.before in
      omega (arith, few, all, one, met, le)

  -- one whose condition the bits don't meet stays
  pub passes_unmet : (at : Option ℕ) → at ≡ first_of first.later
      → meets wants bits (n, first.value) ≡ false → Passed old new list wants bits at tasks left
  passes_unmet at is unmet =
      let e : ℕ × ℕ = (n, first.value) in
      let m = met-none wants bits e unmet in
      record {
        before = h.before ++ e ∷ [];
        rest = first.later;
        whole = whole';
        here = is;
        still =
            now ∙ sym (append_assoc (unmet_of wants bits h.before) (e ∷ []) first.later)
            ∙ ap (λ (es : List (ℕ × ℕ)). es ++ first.later)
            (sym (unmet-append wants bits h.before e ∙ ap (λ (es : List (ℕ × ℕ)). unmet_of wants bits h.before ++ es) m.1));
        others = h.others;
        sound = h.sound;
        met =
            h.met ∙ sym (append-nil (met_of wants bits h.before))
            ∙ sym (met-append wants bits h.before e ∙ ap (λ (ts : List ℕ). met_of wants bits h.before ++ ts) m.0);
        remains = h.remains;
        woken = h.woken;
      }

  out : entries_of (map (without n) new) list ≡ unmet_of wants bits h.before ++ first.later
  out =
      entries_of-without n list new ∙ ap (without n) now
      ∙ without-split n first.value (unmet_of wants bits h.before) first.later apart apart_later

  others_out : (k : ℕ) → k ≢ list → entries_of (map (without n) new) k ≡ entries_of new k
  others_out k ne = elim (has_or_not n (entries_of new k)) [
    | inl there ↦ absurd (ne (same_Some k list (sym (h.sound.one_place n k there) ∙ h.sound.one_place n list has)))
    | inr away ↦ entries_of-without n k new ∙ without-apart n (entries_of new k) (apart_from_test n (entries_of new k) away)
  ]

  -- one whose condition they meet is taken out
  pub passes_met : (at : Option ℕ) → at ≡ first_of first.later → meets wants bits (n, first.value) ≡ true
      → IsSound 17 32 (map (without n) new)
      → Passed old (map (without n) new) list wants bits at (tasks ++ n ∷ []) (bits_left left (wanted_by wants n))
  passes_met at is met sound =
      let e : ℕ × ℕ = (n, first.value) in
      let m = met-one wants bits e met in
      record {
        before = h.before ++ e ∷ [];
        rest = first.later;
        whole = whole';
        here = is;
        still =
            out
            ∙ ap (λ (es : List (ℕ × ℕ)). es ++ first.later) (sym (unmet-append wants bits h.before e
            ∙ ap (λ (es : List (ℕ × ℕ)). unmet_of wants bits h.before ++ es) m.1 ∙ append-nil (unmet_of wants bits h.before)));
        others = λ k ne. others_out k ne ∙ h.others k ne;
        sound = sound;
        met =
            ap (λ (ts : List ℕ). ts ++ n ∷ []) h.met
            ∙ sym (met-append wants bits h.before e ∙ ap (λ (ts : List ℕ). met_of wants bits h.before ++ ts) m.0);
        remains = ap (λ (b : ℕ). bits_left b (wanted_by wants n)) h.remains ∙ sym (left-append wants bits tasks n);
        woken = λ v s same stand.
            let before : State = wake_all tasks bits s in
            let k : StandsFor (record v { waiting = new }) before = h.woken v s same stand in
            let within = (waiter (record v { waiting = new }) before k n list has).within in
            subst (StandsFor (record v { waiting = map (without n) new }))
            (sym (each_more (λ task. wake_with_bits task bits) s tasks n))
            (stands_woken (record v { waiting = new }) before n bits k within);
      }

  now_from : from (Some n) (entries_of new list) ≡ (n, first.value) ∷ first.later
  now_from = ap (from (Some n)) now ∙ from_node-here n first.value (unmet_of wants bits h.before) first.later apart

-- fewer entries are still to be passed

pub behind : (n : ℕ) (rest : List (ℕ × ℕ)) (f : Head n rest) → length f.later < length rest
behind n rest f = let is : length rest ≡ suc (length f.later) = ap length f.is in omega (arith, is)

pub shorter : (old new newer : List (List (ℕ × ℕ))) (list : ℕ) (wants : List Condition) (bits n : ℕ)
    (tasks : List ℕ) (left : ℕ) (h : Passed old new list wants bits (Some n) tasks left) (at : Option ℕ)
    (tasks' : List ℕ) (left' : ℕ) (k : Passed old newer list wants bits at tasks' left')
    → (m : length k.rest < length h.rest) → length (from at (entries_of newer list)) < length (from (Some n) (entries_of new list))
shorter old new newer list wants bits n tasks left h at tasks' left' k m =
    let f = head_of n h.rest h.here in
    let was : length (from (Some n) (entries_of new list)) ≡ length h.rest =
    ap length (now_from old new list wants bits n tasks left h f ∙ sym f.is) in
    let is : length (from at (entries_of newer list)) ≡ length k.rest =
    ap (λ (o : Option ℕ). length (from o (entries_of newer list))) k.here
    ∙ ap (λ (es : List (ℕ × ℕ)). length (from (first_of k.rest) es)) k.still
    ∙ ap length (from-here (unmet_of wants bits k.before) k.rest (subst EachOnce k.still (k.sound.distinct list))) in
    omega (arith, was, is, m)

-- ---- a turn

module _ (old new : List (List (ℕ × ℕ))) (list : ℕ) (wants : List Condition) (bits n : ℕ)
    (tasks : List ℕ) (left : ℕ) (at : Option ℕ) (h : Passed old new list wants bits (Some n) tasks left)
    (next : (l : ℕ) → has_node n (entries_of new l) ≡ true → at ≡ next_of n (entries_of new l)) where
  first : Head n h.rest
  first = head_of n h.rest h.here

  goes_on : at ≡ first_of first.later
  goes_on = next list (has old new list wants bits n tasks left h first) ∙ next_is old new list wants bits n tasks left h first

  pub has_room : IsSound 17 32 old → length tasks < 32
  has_room sound = room old new list wants bits n tasks left h first sound

  pub turn_unmet : is_met bits (wanted_by wants n) ≡ false → Passed old new list wants bits at tasks left
  turn_unmet unmet = passes_unmet old new list wants bits n tasks left h first at goes_on unmet

  pub turn_met : is_met bits (wanted_by wants n) ≡ true → IsSound 17 32 (map (without n) new)
      → Passed old (map (without n) new) list wants bits at (tasks ++ n ∷ []) (bits_left left (wanted_by wants n))
  turn_met met sound = passes_met old new list wants bits n tasks left h first at goes_on met sound

  pub shorter_unmet : is_met bits (wanted_by wants n) ≡ false
      → length (from at (entries_of new list)) < length (from (Some n) (entries_of new list))
  unfolding turn_unmet passes_unmet
  shorter_unmet unmet = shorter old new new list wants bits n tasks left h at tasks left (turn_unmet unmet) (behind n h.rest first)

  pub shorter_met : is_met bits (wanted_by wants n) ≡ true → IsSound 17 32 (map (without n) new)
      → length (from at (entries_of (map (without n) new) list)) < length (from (Some n) (entries_of new list))
  unfolding turn_met passes_met
  shorter_met met sound =
      shorter old new (map (without n) new) list wants bits n tasks left h at (tasks ++ n ∷ [])
      (bits_left left (wanted_by wants n)) (turn_met met sound) (behind n h.rest first)

-- at the end all are passed
pub passed_all : (old new : List (List (ℕ × ℕ))) (list : ℕ) (wants : List Condition) (bits : ℕ) (tasks : List ℕ) (left : ℕ)
    → list < 16 → IsSound 17 32 old → Passed old new list wants bits None tasks left
    → (tasks ≡ met_of wants bits (entries_of old list)) × (new ≡ set old list (unmet_of wants bits (entries_of old list)))
passed_all old new list wants bits tasks left known sound h =
    let none : h.rest ≡ [] = no_first h.rest h.here in
    let all : entries_of old list ≡ h.before = h.whole ∙ ap (λ (es : List (ℕ × ℕ)). h.before ++ es) none ∙ append-nil h.before in
    let there : entries_of new list ≡ unmet_of wants bits (entries_of old list) =
    h.still ∙ ap (λ (es : List (ℕ × ℕ)). unmet_of wants bits h.before ++ es) none
    ∙ append-nil (unmet_of wants bits h.before) ∙ ap (unmet_of wants bits) (sym all) in (
      h.met ∙ ap (met_of wants bits) (sym all),
      same_entries new (set old list (unmet_of wants bits (entries_of old list)))
          (h.sound.as_many ∙ sym (length-set old list (unmet_of wants bits (entries_of old list)) ∙ sound.as_many))
          (λ k. elim (cases_eq k list) [
            | inl same ↦
                ap (entries_of new) same ∙ there
                ∙ sym (entries_of-set_same old list (unmet_of wants bits (entries_of old list))
                (let many = sound.as_many in omega (arith, many, known)))
                ∙ ap (entries_of (set old list (unmet_of wants bits (entries_of old list)))) (sym same)
            | inr ne ↦ h.others k ne ∙ sym (entries_of-set_other old list k (unmet_of wants bits (entries_of old list)) ne)
          ]),
    ) where
      same_entries : (ls ms : List (List (ℕ × ℕ))) → length ls ≡ length ms → ((l : ℕ) → entries_of ls l ≡ entries_of ms l) → ls ≡ ms
      same_entries ls ms len eq =
          same_lists ls ms len
          (λ l d below. sym (get_or_default ls l [] d below) ∙ eq l ∙ get_or_default ms l [] d (omega (arith, len, below)))
