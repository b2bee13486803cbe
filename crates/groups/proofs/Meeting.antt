-- The tasks that bits meet, and what these leave of the bits.
use Rattle.std.proofs.Common.{length-set, ◌≡◌, ◌≢◌, ℕ, ◌<◌, inl, inr, Bool, true, false, Option, Some, List, [], ◌∷◌, ◌++◌, set}
use Rattle.std.proofs.Common.{length, map, refl, ap, sym, ◌∙◌, subst, get_or, bit_or}
use Rattle.std.specs.Prelude.{◌==◌, ◌||◌}
use Rattle.std.specs.List.{filter, filter_map, fold}
use Rattle.std.proofs.lemmas.Bool.{cases_eq}
use Rattle.std.proofs.lemmas.List.{get_or-set_same, get_or-set_other}
use Rattle.std.specs.Option.{option_map, unwrap_or}
use Rattle.model.specs.declared.call.Condition.{Condition}
use Rattle.model.specs.declared.call.CallProgress.{CallProgress}
use Rattle.model.specs.State.{State, bits_at, call_at, progress_at, with_bits, for_each}
use Rattle.model.specs.Groups.{bits_left, bits_set, is_met, is_met_for, keep_answer, left_by as left_in_state, met_by, wake_all}
use Rattle.model.specs.Groups.{set as set_bits, wake_with_bits}
use Rattle.model.specs.Order.{tasks_of}
use Rattle.model.proofs.Lists.{eqb-refl, eqb-apart}
use Rattle.model.proofs.Sorting.{by_test}
use Rattle.lists.specs.Lists.{Each, has_node, without}
use Rattle.lists.proofs.Entries.{has_node-same}
use Rattle.groups.specs.EventGroups.{EventGroups, bits_in, for_notifications, left_by, meets, met_of, waiting_in, wanted_by}
use Rattle.task_lists.specs.Tasks.{tasks_in}
use Rattle.groups.specs.StandsFor.{StandsFor}
use Rattle.groups.proofs.Keys.{waiters_are}
use Rattle.groups.proofs.Standing.{stands_readied, stands_same}
use Rattle.groups.proofs.Kept.{same_progress, table-progress}

or-true : (b : Bool) → (b || true) ≡ true
or-true true = refl
or-true false = refl

-- what is true of each task that is among entries
each_has : (P : ℕ → Type 0) (es : List (ℕ × ℕ)) → ((n : ℕ) → has_node n es ≡ true → P n) → Each (λ e. P e.0) es
each_has P [] h = tt
each_has P (e ∷ es) h =
    (h e.0 (has_node-same e.0 e es refl), each_has P es (λ n has. h n (ap (λ (b : Bool). e.0 == n || b) has ∙ or-true (e.0 == n))))

-- the call of each wants its condition
abbrev Wanting : State → List Condition → List (ℕ × ℕ) → Type 0
Wanting s wants es = Each (λ e. (call_at s e.0).wants ≡ Some (wanted_by wants e.0)) es

met_alike : (s : State) (wants : List Condition) (bits : ℕ) (es : List (ℕ × ℕ))
    → Wanting s wants es → met_of wants bits es ≡ filter (is_met_for bits s) (tasks_in es)
met_alike s wants bits [] h = refl
met_alike s wants bits (e ∷ es) h =
    let same : is_met_for bits s e.0 ≡ meets wants bits e =
    ap (λ (o : Option Condition). unwrap_or (option_map (is_met bits) o) false) h.0 in
    by_test (meets wants bits e)
    (λ t. let u = same ∙ t in rw (t, u) (ap (λ (ts : List ℕ). e.0 ∷ ts) (met_alike s wants bits es h.1)))
    (λ t. let u = same ∙ t in rw (t, u) (met_alike s wants bits es h.1))

wanted_alike : (s : State) (wants : List Condition) (bits : ℕ) (es : List (ℕ × ℕ)) → Wanting s wants es
    → filter_map (λ task. (call_at s task).wants) (met_of wants bits es) ≡ map (wanted_by wants) (met_of wants bits es)
wanted_alike s wants bits [] h = refl
wanted_alike s wants bits (e ∷ es) h = by_test (meets wants bits e)
    (λ t. let is = h.0 in rw (t, is) (ap (λ (cs : List Condition). wanted_by wants e.0 ∷ cs) (wanted_alike s wants bits es h.1)))
    (λ t. rw t (wanted_alike s wants bits es h.1))

module _ (v : EventGroups) (s : State) (h : StandsFor v s) (group : ℕ) (away : group ≢ for_notifications) where
  wanting : Wanting s v.wants (waiting_in v group)
  wanting =
      each_has (λ n. (call_at s n).wants ≡ Some (wanted_by v.wants n)) (waiting_in v group) (λ n has. h.conditions group n away has)

  pub met_is : (bits : ℕ) → met_of v.wants bits (waiting_in v group) ≡ met_by group bits s
  met_is bits = met_alike s v.wants bits (waiting_in v group) wanting
      ∙ ap (filter (is_met_for bits s)) (h.tasks group ∙ ap tasks_of (waiters_are s group away))

  pub left_is : (bits : ℕ)
      → left_by v.wants bits (met_of v.wants bits (waiting_in v group))
      ≡ left_in_state (met_by group bits s) bits s
  left_is bits =
      ap (fold bits_left bits) (sym (wanted_alike s v.wants bits (waiting_in v group) wanting))
      ∙ ap (λ (ts : List ℕ). left_in_state ts bits s) (met_is bits)

pub set_is : (v : EventGroups) (s : State) → StandsFor v s → (group mask : ℕ)
    → bit_or (bits_in v group) mask ≡ bits_set group mask s
set_is v s h group mask = ap (λ (n : ℕ). bit_or n mask) (h.bits group)

-- ---- one is woken

pub stands_woken : (v : EventGroups) (s : State) (i bits : ℕ) → StandsFor v s → i < length s.tasks
    → StandsFor (record v { waiting = map (without i) v.waiting }) (wake_with_bits i bits s)
stands_woken v s i bits h l =
    let call : CallProgress = record (call_at s i) { kept = Some bits } in
    let kept : State = keep_answer i bits s in
    let same = same_progress i (record (progress_at s i) { call = call }) s refl in
    let k : StandsFor v kept =
    stands_same v s kept h same (table-progress s i (record (progress_at s i) { call = call }) h.table) in
    stands_readied v kept i k (rw length-set l)

pub each_more : (deed : ℕ → State → State) (s : State) (is : List ℕ) (i : ℕ)
    → for_each deed (is ++ i ∷ []) s ≡ deed i (for_each deed is s)
each_more deed s [] i = refl
each_more deed s (j ∷ is) i = each_more deed (deed j s) is i

-- ---- and what is left is the group's

bits_own : (group bits : ℕ) (s : State) → bits_at (with_bits group bits s) group ≡ bits
bits_own group bits s = let t = eqb-refl group in rw t refl

bits_else : (group other bits : ℕ) (s : State) → other ≢ group → bits_at (with_bits group bits s) other ≡ bits_at s other
bits_else group other bits s ne = let t = eqb-apart other group ne in rw t refl

pub stands_with_bits : (v : EventGroups) (s : State) (group bits : ℕ) → group < length v.bits
    → StandsFor v s → StandsFor (record v { bits = set v.bits group bits }) (with_bits group bits s)
stands_with_bits v s group bits known h = record {
  bits = λ other. elim (cases_eq other group) [
    | inl same ↦
        let own : get_or (set v.bits group bits) group 0 ≡ bits_at (with_bits group bits s) group =
        get_or-set_same v.bits group bits 0 known ∙ sym (bits_own group bits s) in
        subst (λ (k : ℕ). get_or (set v.bits group bits) k 0 ≡ bits_at (with_bits group bits s) k) (sym same) own
    | inr apart ↦ get_or-set_other v.bits group other bits 0 apart ∙ h.bits other ∙ sym (bits_else group other bits s apart)
  ];
  tasks = h.tasks;
  conditions = h.conditions;
  apart = h.apart;
  table = record { tickets = h.table.tickets; few = h.table.few; current = h.table.current; holders = h.table.holders };
}

-- The mask's bits are set, the tasks whose conditions they meet are woken, and what is left is the group's.
pub stands_set : (v : EventGroups) (s : State) (group mask bits left : ℕ) (met : List ℕ) (waiting : List (List (ℕ × ℕ)))
    → group < length v.bits → bits ≡ bits_set group mask s → met ≡ met_by group (bits_set group mask s) s
    → left ≡ left_in_state (met_by group (bits_set group mask s) s) (bits_set group mask s) s
    → StandsFor (record v { waiting = waiting }) (wake_all met bits s)
    → StandsFor (record v { bits = set v.bits group left; waiting = waiting }) (set_bits group mask s)
unfolding set_bits
stands_set v s group mask bits left met waiting known bits_is met_is left_is woken =
    let P : ℕ → List ℕ → ℕ → Type 0 = λ b ms l.
    StandsFor (record v { bits = set v.bits group left; waiting = waiting })
    (with_bits group l (wake_all ms b s)) in
    let here : P bits met left =
    stands_with_bits (record v { waiting = waiting }) (wake_all met bits s) group left known woken in
    let all : List ℕ = met_by group (bits_set group mask s) s in
    let rest : ℕ = left_in_state all (bits_set group mask s) s in
    subst (λ (b : ℕ). P b all rest) bits_is
    (subst (λ (ms : List ℕ). P bits ms rest) met_is
    (subst (λ (l : ℕ). P bits met l) left_is here))
