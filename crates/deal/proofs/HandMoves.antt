-- The deques as they are dealt, and as the lanes get their ways to the others'.
use Rattle.std.proofs.Common.{◌≡◌, ◌≢◌, ◌≤◌, ◌<◌, ◌%◌, ℕ, zero, suc, ◌+◌, ◌-◌, List, [], ◌∷◌, ◌++◌, length, set, refl, sym, ap, ◌∙◌}
use Rattle.std.proofs.Common.{append_assoc, arith, subst, ⊎_elim, Bool, true, false, if◌then◌else◌, append-nil, ◌==◌}
use Rattle.std.proofs.lemmas.Bool.Decides.{nat_tests}
use mathlib.Core.Option.{some, some-ne-none}
use lib.ListN.{get_elem?}
use Rattle.atomic_table.specs.Seated.{TableId}
use Rattle.atomic_table.proofs.Lists.{at_set, at_snoc}
use Rattle.crossbeam_deque.specs.Handles.{SameWorker, worker_flavor, worker_view}
use Rattle.deal.specs.Totals.{total, range, falling, in_turn}
use Rattle.std.specs.List.{AllByRecursion}
use Rattle.deal.specs.Logs.{whose, log, first_log}
use Rattle.deal.specs.Logs.{HasTicketsOf}
use Rattle.deal.specs.Sharing.{dealt_to}
use Rattle.deal.specs.Reaches.{Reached}
use Rattle.deal.specs.Dealing.{AtEach, IsDealtHand, AreDealt, IsHand, AreHands}
use Rattle.std.specs.declared.alloc.Global.{Global}
use Rattle.crossbeam_deque.specs.declared.handles.Worker.{Worker}
use Rattle.deal.specs.declared.count.Ticket.{Ticket}
use Rattle.deal.specs.declared.dealt.Dealt.{Dealt}
use Rattle.deal.specs.declared.hand.Hand.{Hand}
use Rattle.deal.specs.declared.log.Log.{Log}
use Rattle.deal.proofs.Members.{each_last}
use Rattle.deal.proofs.Sums.{total_append}

abbrev OwnOf : Type 0
OwnOf = Worker Ticket Global Log Dealt

-- a fact of each value by its place, after a change of one
pub at_each_set : {V : Type 0} (P : ℕ → V → Type 0) (vs : List V) (i : ℕ) (w : V) → P i w → AtEach P vs → AtEach P (set vs i w)
at_each_set {V} P vs i w mine all k v e =
    ⊎_elim (λ (t : (k ≡ i) × (w ≡ v)). subst (λ j. P j v) (sym t.0) (subst (P i) t.1 mine))
    (λ (t : (k ≢ i) × (get_elem? vs k ≡ some v)). all k v t.1) (at_set vs i k w v e)

pub at_each_change : {V : Type 0} (P Q : ℕ → V → Type 0) (vs : List V) (i : ℕ) (w : V)
    → Q i w → ((k : ℕ) (v : V) → k ≢ i → P k v → Q k v) → AtEach P vs → AtEach Q (set vs i w)
at_each_change {V} P Q vs i w mine others all k v e =
    ⊎_elim (λ (t : (k ≡ i) × (w ≡ v)). subst (λ j. Q j v) (sym t.0) (subst (Q i) t.1 mine))
    (λ (t : (k ≢ i) × (get_elem? vs k ≡ some v)). others k v t.0 (all k v t.1)) (at_set vs i k w v e)

pub dealt_here : (workers n : ℕ) (ns : List ℕ) → dealt_to workers (n % workers) (n ∷ ns) ≡ n ∷ dealt_to workers (n % workers) ns
dealt_here workers n ns =
    let yes : (n % workers == n % workers) ≡ true = grind (arith, nat_tests) in
    ap (λ (b : Bool). (if b then n ∷ [] else []) ++ dealt_to workers (n % workers) ns) yes

pub dealt_elsewhere : (workers k n : ℕ) (ns : List ℕ) → k ≢ n % workers → dealt_to workers k (n ∷ ns) ≡ dealt_to workers k ns
dealt_elsewhere workers k n ns apart =
    let no : (n % workers == k) ≡ false = grind (arith, nat_tests, apart) in
    ap (λ (b : Bool). (if b then n ∷ [] else []) ++ dealt_to workers k ns) no

-- the blocks that are still to be dealt at this turn, of n
abbrev pub left_at : Bool → ℕ → ℕ → List ℕ
left_at true n turn = range turn (n - turn)
left_at false n turn = falling (n - turn)

pub left_first : (rising : Bool) (n : ℕ) → left_at rising n 0 ≡ in_turn rising n
left_first true n =
    let all : n - 0 ≡ n = omega arith in
    ap (range 0) all
left_first false n =
    let all : n - 0 ≡ n = omega arith in
    ap falling all

pub left_last : (rising : Bool) (n : ℕ) → left_at rising n n ≡ []
left_last true n =
    let none : n - n ≡ 0 = omega arith in
    ap (range n) none
left_last false n =
    let none : n - n ≡ 0 = omega arith in
    ap falling none

pub range_next : (i n : ℕ) → i < n → range i (n - i) ≡ i ∷ range (i + 1) (n - (i + 1))
range_next i n short = ap (range i) (count short)
  where
    count : i < n → n - i ≡ suc (n - (i + 1))
    count short = omega (arith, short)

-- one more block is dealt
pub deals_more : (z : TableId) (workers : ℕ) (all : List ℕ) (n : ℕ) (left : List ℕ) (hands : List Hand) (hand new : Hand)
    → get_elem? hands (n % workers) ≡ some hand → AreDealt z workers all (n ∷ left) hands
    → SameWorker hand.own new.own
    → worker_view new.own ≡ log 8192 ((worker_view hand.own).dealt ++ n ∷ []) (worker_view hand.own).got z
    → new.others.items ≡ hand.others.items
    → AreDealt z workers all left (set hands (n % workers) new)
deals_more z workers all n left hands hand new at h same is others =
    let lane = n % workers in
    let mine = h lane hand at in
    let dealt = (worker_view hand.own).dealt in
    at_each_change (IsDealtHand z workers all (n ∷ left)) (IsDealtHand z workers all left) hands lane new (
      same.1 ∙ mine.0,
      ap (λ (v : Log). v.parts) is,
      ap (λ (v : Log). v.dealt ++ dealt_to workers lane left) is
          ∙ append_assoc dealt (n ∷ []) (dealt_to workers lane left)
          ∙ ap (λ l. dealt ++ l) (sym (dealt_here workers n left)) ∙ mine.2,
      ap (λ (v : Log). v.got) is ∙ mine.3,
      (λ _. ap whose is),
      others ∙ mine.5,
    )
    (λ k v apart t. (
      t.0,
      t.1,
      ap (λ l. (worker_view v.own).dealt ++ l) (sym (dealt_elsewhere workers k n left apart)) ∙ t.2,
      t.3,
      t.4,
      t.5,
    ))
    h

-- when all are dealt, no pass is cut off yet
pub dealt_hands : (z : TableId) (workers : ℕ) (n : List ℕ) (hands : List Hand)
    → AreDealt z workers n [] hands → AreHands z workers n 0 hands
dealt_hands z workers n hands h k hand e =
    let t = h k hand e in (
      t.0,
      omega (arith, t.1),
      sym (append-nil _) ∙ t.2,
      t.3,
      t.4,
      subst (AllByRecursion (HasTicketsOf z)) (sym t.5) tt,
      (λ f. ap (total (λ (v : Log). total f v.got)) t.5),
      λ _. (t.1, t.5),
    )

pub hands_more : (z : TableId) (workers : ℕ) (n : List ℕ) (cut cut' : ℕ) (hands : List Hand)
    → cut ≤ cut' → AreHands z workers n cut hands → AreHands z workers n cut' hands
hands_more z workers n cut cut' hands more h k hand e =
    let t = h k hand e in
    (t.0, omega (arith, t.1, more), t.2, t.3, t.4, t.5, t.6, t.7)

-- a pass is cut off
pub cuts_more : (z : TableId) (workers : ℕ) (n : List ℕ) (cut j : ℕ) (hands : List Hand) (hand new : Hand) (way : Log)
    → get_elem? hands j ≡ some hand → 1 < workers → cut < 8192 → AreHands z workers n cut hands
    → SameWorker hand.own new.own → Reached (worker_view hand.own) (worker_view new.own) way → new.others.items ≡ hand.others.items
    → AreHands z workers n (cut + 1) (set hands j new) × HasTicketsOf z way × ((h : ℕ → ℕ) → total h way.got ≡ 0)
cuts_more z workers n cut j hands hand new way at several few h same is others =
    let mine = h j hand at in (
      at_each_set (IsHand z workers n (cut + 1)) hands j new (
        same.1 ∙ mine.0,
        omega (arith, ap (λ (v : Log). v.parts) is.0, mine.1, few),
        ap (λ (v : Log). v.dealt) is.0 ∙ mine.2,
        ap (λ (v : Log). v.got) is.0 ∙ mine.3,
        (λ some_dealt. ap whose is.0 ∙ mine.4 (omega (arith, some_dealt, ap (λ (v : Log). length v.dealt) is.0))),
        subst (AllByRecursion (HasTicketsOf z)) (sym others) mine.5,
        (λ f. ap (total (λ (v : Log). total f v.got)) others ∙ mine.6 f),
        λ lone. absurd (omega (arith, lone, several)),
      )
          (hands_more z workers n cut (cut + 1) hands (omega arith) h),
      (λ some_dealt. ap whose is.1 ∙ mine.4 (omega (arith, some_dealt, ap (λ (v : Log). length v.dealt) is.1))),
      λ f. ap (λ (v : Log). total f v.got) is.1,
    )

-- a lane keeps the way that was cut off for it
pub keeps_way : (z : TableId) (workers : ℕ) (n : List ℕ) (cut j : ℕ) (hands : List Hand) (hand new : Hand) (way : Log)
    → get_elem? hands j ≡ some hand → 1 < workers → AreHands z workers n cut hands
    → HasTicketsOf z way → ((h : ℕ → ℕ) → total h way.got ≡ 0)
    → new.own ≡ hand.own → new.others.items ≡ hand.others.items ++ way ∷ []
    → AreHands z workers n cut (set hands j new)
keeps_way z workers n cut j hands hand new way at several h tickets none own others =
    let mine = h j hand at in
    at_each_set (IsHand z workers n cut) hands j new (
      ap (λ (w : OwnOf). worker_flavor w) own ∙ mine.0,
      omega (arith, ap (λ (w : OwnOf). (worker_view w).parts) own, mine.1),
      ap (λ (w : OwnOf). (worker_view w).dealt) own ∙ mine.2,
      ap (λ (w : OwnOf). (worker_view w).got) own ∙ mine.3,
      subst (λ (w : OwnOf). HasTicketsOf z (worker_view w)) (sym own) mine.4,
      subst (AllByRecursion (HasTicketsOf z)) (sym others) (each_last (HasTicketsOf z) hand.others.items way mine.5 tickets),
      (λ f.
          omega (
            arith,
            ap (total (λ (v : Log). total f v.got)) others,
            total_append (λ (v : Log). total f v.got) hand.others.items (way ∷ []),
            mine.6 f,
            none f,
          )),
      λ lone. absurd (omega (arith, lone, several)),
    )
    h

-- a way to one lane's deque goes to another lane
pub gives_more : (z : TableId) (workers : ℕ) (n : List ℕ) (cut j lane : ℕ) (hands : List Hand) (hand new hand' new' : Hand)
    (way : Log)
    → get_elem? hands j ≡ some hand → get_elem? (set hands j new) lane ≡ some hand' → 1 < workers → cut < 8192
    → SameWorker hand.own new.own → Reached (worker_view hand.own) (worker_view new.own) way → new.others.items ≡ hand.others.items
    → new'.own ≡ hand'.own → new'.others.items ≡ hand'.others.items ++ way ∷ []
    → AreHands z workers n cut hands → AreHands z workers n (cut + 1) (set (set hands j new) lane new')
gives_more z workers n cut j lane hands hand new hand' new' way at at' several few same is others own more h =
    let first = cuts_more z workers n cut j hands hand new way at several few h same is others in
    keeps_way z workers n (cut + 1) lane (set hands j new) hand' new' way at' several first.0 first.1 first.2 own more

-- one more empty deque
pub empty_more : (z : TableId) (workers : ℕ) (n : List ℕ) (hands : List Hand) (new : Hand)
    → worker_flavor new.own ≡ 0 → worker_view new.own ≡ first_log → new.others.items ≡ []
    → AreDealt z workers n n hands → AreDealt z workers n n (hands ++ new ∷ [])
empty_more z workers n hands new fifo is none h k v e =
    ⊎_elim (λ (old : get_elem? hands k ≡ some v). h k v old)
    (λ (same : new ≡ v). subst (IsDealtHand z workers n n k) same (
      fifo,
      ap (λ (u : Log). u.parts) is,
      ap (λ (u : Log). u.dealt ++ dealt_to workers k n) is,
      ap (λ (u : Log). u.got) is,
      (λ some_dealt. absurd (omega (arith, some_dealt, ap (λ (u : Log). length u.dealt) is))),
      none,
    ))
    (at_snoc hands new v k e)

at_end : {V : Type 0} (xs : List V) (x : V) → get_elem? (xs ++ x ∷ []) (length xs) ≡ some x
at_end [] x = refl
at_end (y ∷ ys) x = at_end ys x

at_front : {V : Type 0} (xs ys : List V) (k : ℕ) (v : V) → get_elem? xs k ≡ some v → get_elem? (xs ++ ys) k ≡ some v
at_front [] ys k v e = absurd (some-ne-none v (sym e))
at_front (x ∷ xs) ys zero v e = e
at_front (x ∷ xs) ys (suc k) v e = at_front xs ys k v e

-- the last hand, and those before it
pub last_hand : (z : TableId) (workers : ℕ) (n : List ℕ) (cut k : ℕ) (hands : List Hand) (hand : Hand)
    → k ≡ length hands → AreHands z workers n cut (hands ++ hand ∷ []) → IsHand z workers n cut k hand
last_hand z workers n cut k hands hand is h =
    subst (λ j. IsHand z workers n cut j hand) (sym is) (h (length hands) hand (at_end hands hand))

pub hands_before : (z : TableId) (workers : ℕ) (n : List ℕ) (cut : ℕ) (hands : List Hand) (hand : Hand)
    → AreHands z workers n cut (hands ++ hand ∷ []) → AreHands z workers n cut hands
hands_before z workers n cut hands hand h k v e = h k v (at_front hands (hand ∷ []) k v e)
