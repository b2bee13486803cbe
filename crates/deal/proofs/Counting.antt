-- Each step keeps the rule of the count.
use Rattle.std.proofs.Common.{◌≡◌, ◌≢◌, ◌≤◌, ◌<◌, ◌%◌, ◌^◌, ℕ, zero, suc, ◌+◌, max, List, [], ◌∷◌, length, length-append, set}
use Rattle.std.proofs.Common.{slice_index, refl, sym, ◌∙◌, arith, subst, ⊎_elim}
use mathlib.Core.Option.{none, some}
use lib.ListN.{get_elem?}
use Rattle.atomic_table.specs.Table.{State, Allows, Splits, Joins, step, keeps}
use Rattle.atomic_table.proofs.Lists.{at_set}
use Rattle.deal.specs.declared.count.Mark.{Mark}
use Rattle.deal.specs.declared.count.Size.{Size}
use Rattle.deal.specs.Totals.{total, range}
use Rattle.deal.specs.Marks.{mark, no_mark, both_marks, first_of, others_of, without_first, ticket_mark, less_a_lane, lane_mark}
use Rattle.deal.specs.Marks.{FitsCount, IsCounted, IsAmong, Counting, Looking}
use Rattle.deal.proofs.Sums.{total_set, total_append, total_at, total_length, length_range, total_below, total_lone, each_set}
use Rattle.deal.proofs.Sums.{each_snoc, word_set, word_long}

-- the count is below the number of blocks where a seat has a block that it did not count
smaller : (k : Size) (s : State (Unit {0}) Mark) (id : ℕ) (v : Mark) → IsCounted k s
    → get_elem? s.views id ≡ some v → v.counted < length v.blocks → slice_index s.words 0 < k.blocks
smaller k s id v h at some_left =
    let f : Mark → ℕ = λ u. u.counted in
    let g : Mark → ℕ = λ u. total (λ _. 1) u.blocks in
    let lengths : total g s.views ≡ total (λ _. 1) (range 0 k.blocks) = h.3 (λ _. 1) in
    let w : Mark = mark v.all v.lanes v.parts (v.counted + 1) v.seen v.blocks in
    let more = total_set f s.views id v w at in
    let same = total_set g s.views id v w at in
    let all =
    total_below f g (set s.views id w) (each_set (λ u. f u ≤ g u) s.views id w
    (omega (arith, some_left, total_length v.blocks)) (λ j u _ e. omega (arith, (h.4 j u e).0, total_length u.blocks))) in
    omega (arith, h.1, all, more, same, lengths, total_length (range 0 k.blocks), length_range 0 k.blocks)

-- what one seat has of the blocks is among all, each once
within : (k : Size) (s : State (Unit {0}) Mark) (id : ℕ) (v : Mark) → IsCounted k s
    → get_elem? s.views id ≡ some v → 0 < v.parts → IsAmong v.all v.blocks
within k s id v h at a_part f =
    let all = ((h.4 id v at).5 a_part).0 in
    subst (λ a. total f v.blocks ≤ total f (range 0 a)) (sym all)
    (omega (arith, total_at (λ (u : Mark). total f u.blocks) s.views id v at, h.3 f))

pub counts : (k : Size) (slots id : ℕ) (v : Mark) → 0 < v.parts → v.counted < length v.blocks → k.blocks < 2 ^ 64
    → Allows (IsCounted k) slots id (v, []) 0 (λ n. (n + 1) % 2 ^ 64) (Counting (step slots 0 1 0 none) (v, []))
counts k slots id v a_part some_left fits s h homes at _ =
    let n : ℕ = slice_index s.words 0 in
    let w : Mark = mark v.all v.lanes v.parts (v.counted + 1) (n + 1) v.blocks in
    let mine = h.4 id v at in
    let left = smaller k s id v h at some_left in
    let next : (n + 1) % 2 ^ 64 ≡ n + 1 = omega (arith, left, fits) in
    let word = word_set s.words ((n + 1) % 2 ^ 64) h.0 ∙ next in
    let counted = total_set (λ (u : Mark). u.counted) s.views id v w at in
    let parts = total_set (λ (u : Mark). u.parts) s.views id v w at in (
      w,
      keeps,
      tt,
      (
        word_long s.words _ h.0,
        omega (arith, word, counted, h.1),
        omega (arith, parts, h.2),
        (λ f. omega (arith, total_set (λ (u : Mark). total f u.blocks) s.views id v w at, h.3 f)),
        subst (λ m. (j : ℕ) (u : Mark) → get_elem? (set s.views id w) j ≡ some u → FitsCount k m u) (sym word)
            (each_set (FitsCount k (n + 1)) s.views id w
            (omega (arith, some_left), omega arith, (λ none. absurd (omega (arith, none, a_part))), mine.3, mine.4, mine.5)
            (λ j u _ e. let t = h.4 j u e in (t.0, omega (arith, t.1), t.2, t.3, t.4, t.5))),
      ),
      (
        refl,
        refl,
        mine.1,
        omega (arith, (mine.5 a_part).0, left),
        omega (arith, h.1, total_at (λ (u : Mark). u.counted) s.views id v at),
        within k s id v h at a_part,
      ),
    )

pub looks : (k : Size) (slots id : ℕ) (v : Mark) → 0 < v.parts
    → Allows (IsCounted k) slots id (v, []) 0 (λ n. n) (Looking (step slots 0 0 0 none) (v, []))
looks k slots id v a_part s h homes at _ =
    let n : ℕ = slice_index s.words 0 in
    let w : Mark = mark v.all v.lanes v.parts v.counted n v.blocks in
    let word = word_set s.words n h.0 in
    let counted = total_set (λ (u : Mark). u.counted) s.views id v w at in
    let parts = total_set (λ (u : Mark). u.parts) s.views id v w at in
    let mine = h.4 id v at in
    let lanes = (mine.5 a_part).1 in (
      w,
      keeps,
      tt,
      (
        word_long s.words _ h.0,
        omega (arith, word, counted, h.1),
        omega (arith, parts, h.2),
        (λ f. omega (arith, total_set (λ (u : Mark). total f u.blocks) s.views id v w at, h.3 f)),
        subst (λ m. (j : ℕ) (u : Mark) → get_elem? (set s.views id w) j ≡ some u → FitsCount k m u) (sym word)
            (each_set (FitsCount k n) s.views id w (mine.0, omega arith, mine.2, mine.3, mine.4, mine.5) (λ j u _ e. h.4 j u e)),
      ),
      (
        refl,
        refl,
        mine.1,
        (λ whole.
            h.1
            ∙ total_lone (λ (u : Mark). u.parts) (λ (u : Mark). u.counted) s.views id
            v at (λ j u e none. (h.4 j u e).2 none) (h.2 ∙ sym (whole ∙ lanes))),
        within k s id v h at a_part,
        omega (arith, lanes, h.2, total_at (λ (u : Mark). u.parts) s.views id v at),
      ),
    )

-- the greater of two is the whole where one is
pub greater_all : (all a b m n : ℕ) → a ≤ all → b ≤ all → (0 < m → a ≡ all) → (0 < n → b ≡ all) → 0 < m + n → max a b ≡ all
greater_all all a b zero zero x y p q part = absurd (omega (arith, part))
greater_all all a b zero (suc n) x y p q part = omega (arith, x, q (omega arith))
greater_all all a b (suc m) n x y p q part = omega (arith, y, p (omega arith))

pub joins : (k : Size) (id : ℕ) (v : Mark) (other : ℕ) (w : Mark) → Joins (IsCounted k) id v other w (both_marks v w) no_mark
joins k id v other w s h at apart at' =
    let b : Mark = both_marks v w in
    let first = set s.views id b in
    let was : get_elem? s.views other ≡ some w =
    ⊎_elim (λ (t : (other ≡ id) × (b ≡ w)). absurd (apart t.0))
    (λ (t : (other ≢ id) × (get_elem? s.views other ≡ some w)). t.1) (at_set s.views id other b w at') in
    let mine = h.4 id v at in
    let theirs = h.4 other w was in (
      h.0,
      (let x = total_set (λ (u : Mark). u.counted) s.views id v b at in
          let y = total_set (λ (u : Mark). u.counted) first other w no_mark at' in
          omega (arith, x, y, h.1)),
      (let x = total_set (λ (u : Mark). u.parts) s.views id v b at in
          let y = total_set (λ (u : Mark). u.parts) first other w no_mark at' in
          omega (arith, x, y, h.2)),
      (λ f. let x = total_set (λ (u : Mark). total f u.blocks) s.views id v b at in
          let y = total_set (λ (u : Mark). total f u.blocks) first other w no_mark at' in
          omega (arith, x, y, h.3 f, total_append f v.blocks w.blocks)),
      each_set (FitsCount k (slice_index s.words 0)) first other no_mark
          (omega arith, omega arith, (λ _. refl), omega arith, omega arith, λ some. absurd (omega (arith, some)))
          (λ j u _ e. each_set (FitsCount k (slice_index s.words 0)) s.views id b (
            omega (arith, mine.0, theirs.0, length-append v.blocks w.blocks),
            omega (arith, mine.1, theirs.1),
            (λ none. omega (arith, mine.2 (omega (arith, none)), theirs.2 (omega (arith, none)))),
            omega (arith, mine.3, theirs.3),
            omega (arith, mine.4, theirs.4),
            λ some. (
              greater_all k.blocks v.all w.all v.parts w.parts mine.3 theirs.3 (λ p. (mine.5 p).0) (λ p. (theirs.5 p).0) some,
              greater_all k.lanes v.lanes w.lanes v.parts w.parts mine.4 theirs.4 (λ p. (mine.5 p).1) (λ p. (theirs.5 p).1) some,
            ),
          )
          (λ i y _ e'. h.4 i y e') j u e),
    )

-- the first block gets a ticket
pub deals : (k : Size) (id : ℕ) (v : Mark) → v.counted ≡ 0 → Splits (IsCounted k) id v (without_first v) (ticket_mark v)
deals k id v fresh s h at =
    let l = without_first v in
    let r = ticket_mark v in
    let first = set s.views id l in
    let mine = h.4 id v at in (
      h.0,
      (let x = total_set (λ (u : Mark). u.counted) s.views id v l at in
          omega (arith, x, total_append (λ (u : Mark). u.counted) first (r ∷ []), h.1)),
      (let x = total_set (λ (u : Mark). u.parts) s.views id v l at in
          omega (arith, x, total_append (λ (u : Mark). u.parts) first (r ∷ []), h.2)),
      (λ f. let x = total_set (λ (u : Mark). total f u.blocks) s.views id v l at in
          omega (arith, x, total_append (λ (u : Mark). total f u.blocks) first (r ∷ []), h.3 f, parted f v.blocks)),
      each_snoc (FitsCount k (slice_index s.words 0)) first r
          (omega arith, omega arith, (λ _. refl), omega arith, omega arith, λ some. absurd (omega (arith, some)))
          (each_set (FitsCount k (slice_index s.words 0)) s.views id l
          (omega (arith, fresh), mine.1, mine.2, mine.3, mine.4, mine.5) (λ j u _ e. h.4 j u e)),
    )
  where
    parted : (f : ℕ → ℕ) (xs : List ℕ) → total f (first_of xs) + total f (others_of xs) ≡ total f xs
    parted f [] = refl
    parted f (x ∷ xs) = omega arith

-- a lane's seat is cut off
pub cuts : (k : Size) (id : ℕ) (v : Mark) → 0 < v.parts → v.counted ≡ 0 → Splits (IsCounted k) id v (less_a_lane v) (lane_mark v)
cuts k id v a_part fresh s h at =
    let l = less_a_lane v in
    let r = lane_mark v in
    let first = set s.views id l in
    let mine = h.4 id v at in (
      h.0,
      (let x = total_set (λ (u : Mark). u.counted) s.views id v l at in
          omega (arith, x, total_append (λ (u : Mark). u.counted) first (r ∷ []), h.1)),
      (let x = total_set (λ (u : Mark). u.parts) s.views id v l at in
          omega (arith, x, total_append (λ (u : Mark). u.parts) first (r ∷ []), h.2, a_part)),
      (λ f. let x = total_set (λ (u : Mark). total f u.blocks) s.views id v l at in
          omega (arith, x, total_append (λ (u : Mark). total f u.blocks) first (r ∷ []), h.3 f)),
      each_snoc (FitsCount k (slice_index s.words 0)) first r
          (omega arith, omega arith, (λ none. absurd (omega (arith, none))), mine.3, mine.4, λ _. mine.5 a_part)
          (each_set (FitsCount k (slice_index s.words 0)) s.views id l
          (mine.0, mine.1, (λ _. fresh), mine.3, mine.4, λ _. mine.5 a_part) (λ j u _ e. h.4 j u e)),
    )
