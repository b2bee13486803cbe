-- What is known of the blocks when lanes come back.
use Rattle.std.proofs.Common.{◌≡◌, ◌≢◌, ◌≤◌, ◌<◌, ℕ, zero, suc, ◌+◌, Bool, true, false, nat_lt, List, [], ◌∷◌, ◌++◌, length}
use Rattle.std.proofs.Common.{length-append, take, set, map, replicate, reverse, get_or, get_or-set_same, get_or-set_other}
use Rattle.std.proofs.Common.{append_assoc, append-nil, refl, sym, ap, ◌∙◌, arith, subst, ⊎_elim, inl, inr, ◌⊎◌, Vec, if◌then◌else◌}
use Rattle.std.proofs.Common.{◌==◌, true≢false}
use Rattle.std.specs.Prelude.{slice_index, slice_index_or}
use Rattle.std.specs.List.{concat, AllByRecursion}
use Rattle.std.specs.declared.alloc.Global.{Global}
use Rattle.std.proofs.lemmas.Bool.Decides.{nat_tests}
use Rattle.std.proofs.lemmas.List.{reverse-append, take_more, length-set}
use Rattle.deal.specs.Totals.{total, range, one_at, times, HasEachOnce}
use Rattle.deal.specs.Marks.{IsAmong}
use Rattle.deal.specs.Lanes.{Collects}
use Rattle.deal.specs.Sharing.{Game, Sight, AreLanesOf, HasSeenAll, SomeHasSeenAll, fresh, fresh_lanes, lists_of}
use Rattle.deal.specs.Closing.{IsMarked, Marks, unmarked, items_of, HasBack}
use Rattle.deal.specs.declared.count.Mark.{Mark}
use Rattle.deal.proofs.Members.{all_of_each}
use Rattle.deal.proofs.Sums.{total_append, length_range}
use Rattle.deal.proofs.Once.{same_or, here, elsewhere, times_one, once_within, among_once, among_below}

pub reverse_twice : {V : Type 0} (xs : List V) → reverse (reverse xs) ≡ xs
reverse_twice [] = refl
reverse_twice (x ∷ xs) =
    ap reverse (reverse-append (x ∷ []) xs) ∙ reverse-append (reverse xs) (x ∷ []) ∙ ap (λ l. x ∷ l) (reverse_twice xs)

lists_more : (done : List Sight) (lane : Sight) → concat (lists_of (done ++ lane ∷ [])) ≡ concat (lists_of done) ++ lane.answered
lists_more [] lane = append-nil lane.answered
lists_more (x ∷ xs) lane =
    ap (λ l. x.answered ++ l) (lists_more xs lane) ∙ sym (append_assoc x.answered (concat (lists_of xs)) lane.answered)

pub lists_last : (done : List Sight) (lane : Sight) → lists_of (done ++ lane ∷ []) ≡ lists_of done ++ lane.answered ∷ []
lists_last [] lane = refl
lists_last (x ∷ xs) lane = ap (λ l. x.answered ∷ l) (lists_last xs lane)

pub items_last : (vs : List (Vec ℕ Global)) (v : Vec ℕ Global) → items_of (vs ++ v ∷ []) ≡ items_of vs ++ v.items ∷ []
items_last [] v = refl
items_last (x ∷ xs) v = ap (λ l. x.items ∷ l) (items_last xs v)

some_last : (done : List Sight) (lane : Sight) → SomeHasSeenAll (done ++ lane ∷ []) → SomeHasSeenAll done ⊎ HasSeenAll lane
some_last [] lane h = ⊎_elim (λ t. inr t) (λ none. absurd none) h
some_last (x ∷ xs) lane h = ⊎_elim (λ t. inl (inl t)) (λ t. ⊎_elim (λ u. inl (inr u)) (λ u. inr u) (some_last xs lane t)) h

pub none_back : (m : Mark) → m.parts ≡ 0 → m.counted ≡ 0 → m.blocks ≡ [] → HasBack m [] m
none_back m parts counted blocks = (
  refl,
  refl,
  parts,
  blocks,
  omega (arith, counted, ap length blocks),
  (λ f. omega (arith, ap (total f) blocks)),
  (λ some. absurd (omega arith)),
  λ none. absurd none,
)

length_last : {V : Type 0} (xs : List V) (x : V) → length (xs ++ x ∷ []) ≡ length xs + 1
length_last xs x = length-append xs (x ∷ [])

-- one more lane is back
pub back_more : (old : Mark) (done : List Sight) (lane : Sight) (m m' : Mark) → length lane.game.lengths ≡ old.all
    → HasBack old done m → Collects lane m m' → HasBack old (done ++ lane ∷ []) m'
back_more old done lane m m' same h c =
    let all : m'.all ≡ old.all = c.0 ∙ h.0 in
    let lanes : m'.lanes ≡ old.lanes = c.1 ∙ h.1 in
    let longer = length_last done lane in (
      all,
      lanes,
      omega (arith, c.2, h.2, longer),
      c.4 ∙ ap (λ l. l ++ lane.answered) h.3 ∙ sym (lists_more done lane),
      omega (arith, c.3, h.4, ap length c.4, length-append m.blocks lane.answered),
      subst (λ n. IsAmong n m'.blocks) all c.7,
      (λ _. (omega (arith, longer, c.8, c.2, h.2, lanes), c.9)),
      λ seen. ⊎_elim (λ before. omega (arith, h.7 before, c.5)) (λ now. omega (arith, c.6, now, same)) (some_last done lane seen),
    )

-- with all lanes back, of which one saw that every block was handed out, the lanes have every block
pub all_back : (old : Mark) (lanes : List Sight) (m : Mark) → HasBack old lanes m
    → length lanes ≡ old.lanes → SomeHasSeenAll lanes → old.all ≤ length (concat (lists_of lanes))
all_back old lanes m h full seen =
    let some_lane : 0 < length lanes = at_least lanes seen in
    omega (arith, h.7 seen, (h.6 some_lane).1 (omega (arith, h.2, full, h.1)), h.4, ap length h.3)
  where
    at_least : (ls : List Sight) → SomeHasSeenAll ls → 0 < length ls
    at_least [] none = absurd none
    at_least (l ∷ ls) _ = omega arith

-- a number is marked
pub marks_one : (xs : List ℕ) (marks : List Bool) (n : ℕ) → n < length marks
    → IsMarked xs marks → IsMarked (xs ++ n ∷ []) (set marks n true)
marks_one xs marks n short h x low = ⊎_elim at_n elsewhere_x (same_or x n)
  where
    low' : x < length marks
    low' = omega (arith, low, length-set marks n true)

    more : times x (xs ++ n ∷ []) ≡ times x xs + one_at x n
    more = omega (arith, total_append (one_at x) xs (n ∷ []))

    at_n : x ≡ n → slice_index_or (set marks n true) x false ≡ nat_lt 0 (times x (xs ++ n ∷ []))
    at_n e =
        let there : 0 < times x (xs ++ n ∷ []) = omega (arith, more, here x n (sym e)) in
        let yes : nat_lt 0 (times x (xs ++ n ∷ [])) ≡ true = grind (arith, nat_tests, there) in
        subst (λ k. slice_index_or (set marks n true) k false ≡ true) (sym e) (get_or-set_same marks n true false short) ∙ sym yes

    elsewhere_x : x ≢ n → slice_index_or (set marks n true) x false ≡ nat_lt 0 (times x (xs ++ n ∷ []))
    elsewhere_x apart =
        let same : times x (xs ++ n ∷ []) ≡ times x xs = omega (arith, more, elsewhere x n (λ e. apart (sym e))) in
        get_or-set_other marks n x true false apart ∙ h x low' ∙ ap (nat_lt 0) (sym same)

-- a list's number is in it
pub times_at : (xs : List ℕ) (i : ℕ) → i < length xs → 0 < times (slice_index xs i) xs
times_at [] i h = absurd (omega arith)
times_at (x ∷ xs) zero h = omega (arith, here x x refl)
times_at (x ∷ xs) (suc i) h = omega (arith, times_at xs i (omega (arith, h)))

-- one more of a list's numbers is marked
pub marks_more : (list : List ℕ) (old marks : List Bool) (i : ℕ) → i < length list → slice_index list i < length marks
    → Marks (take i list) old marks → Marks (take (i + 1) list) old (set marks (slice_index list i) true)
marks_more list old marks i short low h = (
  length-set marks (slice_index list i) true ∙ h.0,
  λ xs m.
      subst (λ l. IsMarked l (set marks (slice_index list i) true))
      (append_assoc xs (take i list) (slice_index list i ∷ []) ∙ ap (λ l. xs ++ l) (sym (take_more list i 0 short)))
      (marks_one (xs ++ take i list) marks (slice_index list i) low (h.1 xs m)),
)

pub length_unmarked : (n : ℕ) → length (replicate n false) ≡ n
length_unmarked zero = refl
length_unmarked (suc n) = ap suc (length_unmarked n)

-- the lists that were marked, and one more
pub concat_more : (vs : List (Vec ℕ Global)) (i : ℕ) (d : Vec ℕ Global) → i < length vs
    → concat (items_of (take (i + 1) vs)) ≡ concat (items_of (take i vs)) ++ (get_or vs i d).items
concat_more vs i d short = ap (λ l. concat (items_of l)) (take_more vs i d short) ∙ joined (take i vs) (get_or vs i d)
  where
    joined : (us : List (Vec ℕ Global)) (v : Vec ℕ Global) → concat (items_of (us ++ v ∷ [])) ≡ concat (items_of us) ++ v.items
    joined [] v = append-nil v.items
    joined (u ∷ us) v = ap (λ l. u.items ++ l) (joined us v) ∙ sym (append_assoc u.items (concat (items_of us)) v.items)

-- what is in one of the lists is in all of them
pub times_within : (vs : List (Vec ℕ Global)) (i : ℕ) (d : Vec ℕ Global) (x : ℕ)
    → i < length vs → times x (get_or vs i d).items ≤ times x (concat (items_of vs))
times_within [] i d x h = absurd (omega arith)
times_within (v ∷ vs) zero d x h = omega (arith, total_append (one_at x) v.items (concat (items_of vs)))
times_within (v ∷ vs) (suc i) d x h =
    omega (arith, total_append (one_at x) v.items (concat (items_of vs)), times_within vs i d x (omega (arith, h)))

unmarked_high : (x m : ℕ) (marks : List Bool) → m ≤ x → times x (unmarked m marks) ≡ 0
unmarked_high x zero marks high = refl
unmarked_high x (suc m) marks high =
    omega (
      arith,
      total_append (one_at x) (unmarked m marks) (if slice_index_or marks m false then [] else m ∷ []),
      unmarked_high x m marks (omega (arith, high)),
      last (slice_index_or marks m false),
    )
  where
    last : (b : Bool) → times x (if b then [] else m ∷ []) ≡ 0
    last true = refl
    last false = omega (arith, elsewhere x m (omega (arith, high)))

unmarked_at : (x m : ℕ) (marks : List Bool) → x < m → times x (unmarked m marks) ≡ (if slice_index_or marks x false then 0 else 1)
unmarked_at x zero marks low = absurd (omega (arith, low))
unmarked_at x (suc m) marks low =
    ⊎_elim
    (λ (e : x ≡ m).
    subst (λ k.
    times k (unmarked m marks ++ (if slice_index_or marks m false then [] else m ∷ []))
    ≡ (if slice_index_or marks k false then 0 else 1))
    (sym e) here_m)
    (λ (apart : x ≢ m).
    omega (
      arith,
      total_append (one_at x) (unmarked m marks) (if slice_index_or marks m false then [] else m ∷ []),
      unmarked_at x m marks (omega (arith, low, apart)),
      last apart (slice_index_or marks m false),
    ))
    (same_or x m)
  where
    last : x ≢ m → (b : Bool) → times x (if b then [] else m ∷ []) ≡ 0
    last apart true = refl
    last apart false = omega (arith, elsewhere x m (λ e. apart (sym e)))

    end : (b : Bool) → times m (if b then [] else m ∷ []) ≡ (if b then 0 else 1)
    end true = refl
    end false = times_one m

    here_m : times m (unmarked m marks ++ (if slice_index_or marks m false then [] else m ∷ []))
        ≡ (if slice_index_or marks m false then 0 else 1)
    here_m =
        omega (
          arith,
          total_append (one_at m) (unmarked m marks) (if slice_index_or marks m false then [] else m ∷ []),
          unmarked_high m m marks (omega arith),
          end (slice_index_or marks m false),
        )

abbrev zero_if : Bool → ℕ
zero_if b = if b then 0 else 1

abbrev one_if : Bool → ℕ
one_if b = if b then 1 else 0

no_mark_one : (b : Bool) → b ≡ false → zero_if b ≡ 1
no_mark_one true e = absurd (true≢false e)
no_mark_one false e = refl

mark_none : (b : Bool) → b ≡ true → zero_if b ≡ 0
mark_none true e = refl
mark_none false e = absurd (true≢false (sym e))

below_one : (b : Bool) → b ≡ true → one_if b ≡ 1
below_one true e = refl
below_one false e = absurd (true≢false (sym e))

above_none : (b : Bool) → b ≡ false → one_if b ≡ 0
above_none true e = absurd (true≢false e)
above_none false e = refl

-- the lists, and the numbers without a mark, are all
pub each_once : (n : ℕ) (xs : List ℕ) (marks : List Bool) → length marks ≡ n
    → IsAmong n xs → IsMarked xs marks → HasEachOnce n (xs ++ unmarked n marks)
each_once n xs marks full among h x = go (nat_lt x n) refl
  where
    both : times x (xs ++ unmarked n marks) ≡ times x xs + times x (unmarked n marks)
    both = total_append (one_at x) xs (unmarked n marks)

    low_case : (k : ℕ) → times x xs ≡ k → x < n → times x (xs ++ unmarked n marks) ≡ 1
    low_case zero e low =
        let mark : slice_index_or marks x false ≡ false = h x (omega (arith, low, full)) ∙ ap (nat_lt 0) e in
        omega (arith, both, e, unmarked_at x n marks low, no_mark_one (slice_index_or marks x false) mark)
    low_case (suc k) e low =
        let some : nat_lt 0 (suc k) ≡ true = grind (arith, nat_tests) in
        let mark : slice_index_or marks x false ≡ true = h x (omega (arith, low, full)) ∙ ap (nat_lt 0) e ∙ some in
        omega (arith, both, e, among_once n xs among x, unmarked_at x n marks low, mark_none (slice_index_or marks x false) mark)

    none_there : (k : ℕ) → times x xs ≡ k → n ≤ x → times x xs ≡ 0
    none_there zero e far = e
    none_there (suc k) e far = absurd (omega (arith, among_below n xs among x (omega (arith, e)), far))

    go : (b : Bool) → nat_lt x n ≡ b → times x (xs ++ unmarked n marks) ≡ (if nat_lt x n then 1 else 0)
    go true e = let low : x < n = grind (arith, nat_tests, e) in low_case (times x xs) refl low ∙ sym (below_one (nat_lt x n) e)
    go false e =
        let far : n ≤ x = grind (arith, nat_tests, e) in
        let none : times x (xs ++ unmarked n marks) ≡ 0 =
        omega (arith, both, none_there (times x xs) refl far, unmarked_high x n marks far) in
        none ∙ sym (above_none (nat_lt x n) e)

-- how often any other number is in a list
abbrev not_at : ℕ → ℕ → ℕ
not_at x y = if y == x then 0 else 1

not_here : (x y : ℕ) → one_at x y + not_at x y ≡ 1
not_here x y = go (y == x)
  where
    go : (b : Bool) → (if b then 1 else 0) + (if b then 0 else 1) ≡ 1
    go true = refl
    go false = refl

parted : (x : ℕ) (xs : List ℕ) → times x xs + total (not_at x) xs ≡ length xs
parted x [] = refl
parted x (y ∷ ys) = omega (arith, parted x ys, not_here x y)

-- as many numbers below n as n are all of them
pub all_there : (n : ℕ) (xs : List ℕ) → IsAmong n xs → n ≤ length xs → (x : ℕ) → x < n → 0 < times x xs
all_there n xs among many x low =
    omega (
      arith,
      parted x xs,
      parted x (range 0 n),
      among (not_at x),
      once_within x 0 n (omega arith) (omega (arith, low)),
      length_range 0 n,
      many,
    )

pub none_unmarked : (n : ℕ) (xs : List ℕ) (marks : List Bool) → length marks ≡ n
    → IsAmong n xs → IsMarked xs marks → n ≤ length xs → unmarked n marks ≡ []
none_unmarked n xs marks full among h many = go n (omega arith)
  where
    marked : (x : ℕ) → x < n → slice_index_or marks x false ≡ true
    marked x low =
        let there = all_there n xs among many x low in
        let yes : nat_lt 0 (times x xs) ≡ true = grind (arith, nat_tests, there) in
        h x (omega (arith, low, full)) ∙ yes

    go : (m : ℕ) → m ≤ n → unmarked m marks ≡ []
    go zero low = refl
    go (suc m) low =
        ap (λ (b : Bool). unmarked m marks ++ (if b then [] else m ∷ [])) (marked m (omega (arith, low)))
        ∙ append-nil (unmarked m marks) ∙ go m (omega (arith, low))

pub take_whole : {V : Type 0} (xs : List V) (i : ℕ) → length xs ≤ i → take i xs ≡ xs
take_whole [] zero h = refl
take_whole [] (suc i) h = refl
take_whole (x ∷ xs) zero h = absurd (omega (arith, h))
take_whole (x ∷ xs) (suc i) h = ap (λ l. x ∷ l) (take_whole xs i (omega (arith, h)))

-- all of a list's numbers are marked
pub marks_all : (list : List ℕ) (old marks : List Bool) (i : ℕ)
    → length list ≤ i → Marks (take i list) old marks → Marks list old marks
marks_all list old marks i all h = (h.0, λ xs m. subst (λ l. IsMarked (xs ++ l) marks) (take_whole list i all) (h.1 xs m))

-- no lane is left to come back
pub none_left : (lanes done rest : List Sight) → lanes ≡ done ++ reverse rest → length rest ≡ 0 → lanes ≡ done
none_left lanes done [] is none = is ∙ append-nil done
none_left lanes done (x ∷ xs) is none = absurd (omega (arith, none))

-- the lanes of a new deal are its own
pub fresh_are : (g : Game) → AreLanesOf g (fresh_lanes g)
fresh_are g = all_of_each (λ (lane : Sight). lane.game ≡ g) (fresh_lanes g) (each_fresh (range 0 g.lanes))
  where
    each_fresh : (ks : List ℕ) → AllByRecursion (λ (lane : Sight). lane.game ≡ g) (map (fresh g) ks)
    each_fresh [] = tt
    each_fresh (k ∷ ks) = (refl, each_fresh ks)

pub fresh_many : (g : Game) → length (fresh_lanes g) ≡ g.lanes
fresh_many g = length-map (range 0 g.lanes) ∙ length_range 0 g.lanes
  where
    length-map : (ks : List ℕ) → length (map (fresh g) ks) ≡ length ks
    length-map [] = refl
    length-map (k ∷ ks) = ap suc (length-map ks)
