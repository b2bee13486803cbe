-- Each step keeps the tally.
use Rattle.std.proofs.Common.{◌≡◌, ◌≢◌, ◌≤◌, ◌<◌, ◌%◌, ◌^◌, ◌*◌, ℕ, zero, suc, ◌+◌, List, [], ◌∷◌, length, set, slice_index}
use Rattle.std.proofs.Common.{replicate, refl, sym, ap, ◌∙◌, arith, subst, ⊎_elim}
use mathlib.Core.Option.{none, some}
use lib.ListN.{get_elem?}
use Rattle.std.proofs.lemmas.List.{length-set}
use Rattle.atomic_table.specs.Table.{Allows, Joins, Splits, step, keeps}
use Rattle.atomic_table.proofs.Lists.{at_set}
use Rattle.deal.specs.declared.part.Part.{Part}
use Rattle.deal.specs.Totals.{total}
use Rattle.std.specs.List.{AllByRecursion}
use Rattle.deal.specs.Tallies.{Sheet, Tallied, AreSeatsOf, fresh_seat}
use Rattle.deal.specs.Parts.{part, no_part, less_a_seat, seat_part, both_parts, zeros, FitsTally, IsSummed, Adding, Seeing}
use Rattle.deal.proofs.Members.{all_of_each}
use Rattle.deal.proofs.Sums.{total_set, total_append, total_at, total_lone, each_set, each_snoc}
use Rattle.deal.proofs.Once.{same_or}
use Rattle.deal.proofs.Counting.{greater_all}
use Rattle.deal.proofs.Places.{total_bound, set_same, set_other, sums_at, greater_at, length-sums, length-greater}

pub adds : (seats slots id : ℕ) (v : Part) (kind n : ℕ) → kind < 7 → 0 < v.parts → slice_index v.added kind + n ≤ v.parts * 2 ^ 40
    → Allows (IsSummed seats) slots id (v, []) kind (λ m. (m + n) % 2 ^ 64) (Adding (step slots kind n 0 none) (v, []))
adds seats slots id v kind n here a_part room s h homes at _ =
    let m = slice_index s.words kind in
    let w : Part = part v.seats v.parts (set v.added kind (slice_index v.added kind + n)) (set v.seen kind (m + n)) in
    let mine = h.4 id v at in
    let f : Part → ℕ = λ u. slice_index u.added kind in
    let mine_now : f w ≡ f v + n = set_same v.added kind (slice_index v.added kind + n) (omega (arith, here, mine.0)) in
    let parts = total_set (λ (u : Part). u.parts) s.views id v w at in
    let added = total_set f s.views id v w at in
    let bound =
    total_bound f (λ (u : Part). u.parts) (set s.views id w)
    (each_set (λ u. f u ≤ u.parts * 2 ^ 40) s.views id w (omega (arith, mine_now, room)) (λ j u _ e. ((h.4 j u e).2 kind).1)) in
    let small : m + n < 2 ^ 64 = omega (arith, h.2 kind, added, mine_now, bound, parts, h.3, h.1) in
    let next : (m + n) % 2 ^ 64 ≡ m + n = omega (arith, small) in
    let now = set s.words kind ((m + n) % 2 ^ 64) in
    let word : slice_index now kind ≡ m + n = set_same s.words kind ((m + n) % 2 ^ 64) (omega (arith, here, h.0)) ∙ next in
    let rises : (k : ℕ) → slice_index s.words k ≤ slice_index now k = λ k.
    ⊎_elim (λ (e : k ≡ kind). subst (λ i. slice_index s.words i ≤ slice_index now i) (sym e) (omega (arith, word)))
    (λ (d : k ≢ kind). omega (arith, set_other s.words kind k ((m + n) % 2 ^ 64) d)) (same_or k kind) in (
      w,
      keeps,
      tt,
      (
        length-set s.words kind _ ∙ h.0,
        h.1,
        (λ k.
            ⊎_elim (λ (e : k ≡ kind).
            subst (λ i. slice_index now i ≡ total (λ (u : Part). slice_index u.added i) (set s.views id w))
            (sym e) (omega (arith, word, added, mine_now, h.2 kind)))
            (λ (d : k ≢ kind).
            let t = total_set (λ (u : Part). slice_index u.added k) s.views id v w at in
            omega (
              arith,
              t,
              h.2 k,
              set_other s.words kind k ((m + n) % 2 ^ 64) d,
              set_other v.added kind k (slice_index v.added kind + n) d,
            ))
            (same_or k kind)),
        omega (arith, parts, h.3),
        each_set (FitsTally seats now) s.views id w (
          length-set v.added kind _ ∙ mine.0,
          length-set v.seen kind _ ∙ mine.1,
          (λ k. ⊎_elim
              (λ (e : k ≡ kind).
              subst (λ i.
              (slice_index (set v.seen kind (m + n)) i ≤ slice_index now i)
              × (slice_index (set v.added kind (slice_index v.added kind + n)) i ≤ v.parts * 2 ^ 40))
              (sym e)
              (omega (arith, word, set_same v.seen kind (m + n) (omega (arith, here, mine.1))), omega (arith, mine_now, room)))
              (λ (d : k ≢ kind). let b = mine.2 k in (
                omega (arith, b.0, rises k, set_other v.seen kind k (m + n) d),
                omega (arith, b.1, set_other v.added kind k (slice_index v.added kind + n) d),
              ))
              (same_or k kind)),
          mine.3,
          mine.4,
        )
            (λ j u _ e. let t = h.4 j u e in (t.0, t.1, (λ k. (omega (arith, (t.2 k).0, rises k), (t.2 k).1)), t.3, t.4)),
      ),
      (refl, refl, (mine.2 kind).0, mine.1),
    )

pub sees : (seats slots id : ℕ) (v : Part) (kind : ℕ) → kind < 7
    → Allows (IsSummed seats) slots id (v, []) kind (λ m. m) (Seeing (step slots kind 0 0 none) (v, []))
sees seats slots id v kind here s h homes at _ =
    let m = slice_index s.words kind in
    let w : Part = part v.seats v.parts v.added (set v.seen kind m) in
    let mine = h.4 id v at in
    let parts = total_set (λ (u : Part). u.parts) s.views id v w at in
    let now = set s.words kind m in
    let same : (k : ℕ) → slice_index now k ≡ slice_index s.words k = λ k.
    ⊎_elim (λ (e : k ≡ kind).
    subst (λ i. slice_index now i ≡ slice_index s.words i) (sym e) (set_same s.words kind m (omega (arith, here, h.0))))
    (λ (d : k ≢ kind). set_other s.words kind k m d) (same_or k kind) in (
      w,
      keeps,
      tt,
      (
        length-set s.words kind _ ∙ h.0,
        h.1,
        (λ k. omega (arith, same k, total_set (λ (u : Part). slice_index u.added k) s.views id v w at, h.2 k)),
        omega (arith, parts, h.3),
        each_set (FitsTally seats now) s.views id w (
          mine.0,
          length-set v.seen kind _ ∙ mine.1,
          (λ k. ⊎_elim
              (λ (e : k ≡ kind).
              subst (λ i. (slice_index (set v.seen kind m) i ≤ slice_index now i) × (slice_index v.added i ≤ v.parts * 2 ^ 40))
              (sym e)
              (omega (arith, same kind, set_same v.seen kind m (omega (arith, here, mine.1))), (mine.2 kind).1))
              (λ (d : k ≢ kind). let b = mine.2 k in (omega (arith, b.0, same k, set_other v.seen kind k m d), b.1))
              (same_or k kind)),
          mine.3,
          mine.4,
        )
            (λ j u _ e. let t = h.4 j u e in (t.0, t.1, (λ k. (omega (arith, (t.2 k).0, same k), (t.2 k).1)), t.3, t.4)),
      ),
      (
        refl,
        refl,
        (mine.2 kind).0,
        mine.1,
        (λ a_part. omega (arith, mine.4 a_part, h.3, total_at (λ (u : Part). u.parts) s.views id v at)),
        λ a_part whole.
            h.2 kind
            ∙ total_lone (λ (u : Part). u.parts) (λ (u : Part). slice_index u.added kind) s.views id
            v at (λ j u e none. omega (arith, ((h.4 j u e).2 kind).1, ap (λ p. p * 2 ^ 40) none))
            (h.3 ∙ sym (mine.4 a_part) ∙ sym whole),
      ),
    )

pub nothing : (k : ℕ) → slice_index zeros k ≡ 0
nothing zero = refl
nothing (suc zero) = refl
nothing (suc (suc zero)) = refl
nothing (suc (suc (suc zero))) = refl
nothing (suc (suc (suc (suc zero)))) = refl
nothing (suc (suc (suc (suc (suc zero))))) = refl
nothing (suc (suc (suc (suc (suc (suc zero)))))) = refl
nothing (suc (suc (suc (suc (suc (suc (suc k))))))) = refl

pub joins : (seats id : ℕ) (v : Part) (other : ℕ) (w : Part) → Joins (IsSummed seats) id v other w (both_parts v w) no_part
joins seats id v other w s h at apart at' =
    let b : Part = both_parts v w in
    let first = set s.views id b in
    let was : get_elem? s.views other ≡ some w =
    ⊎_elim (λ (t : (other ≡ id) × (b ≡ w)). absurd (apart t.0))
    (λ (t : (other ≢ id) × (get_elem? s.views other ≡ some w)). t.1) (at_set s.views id other b w at') in
    let mine = h.4 id v at in
    let theirs = h.4 other w was in (
      h.0,
      h.1,
      (λ k. let x = total_set (λ (u : Part). slice_index u.added k) s.views id v b at in
          let y = total_set (λ (u : Part). slice_index u.added k) first other w no_part at' in
          omega (arith, x, y, h.2 k, nothing k, sums_at v.added w.added k)),
      (let x = total_set (λ (u : Part). u.parts) s.views id v b at in
          let y = total_set (λ (u : Part). u.parts) first other w no_part at' in
          omega (arith, x, y, h.3)),
      each_set (FitsTally seats s.words) first other no_part
          (refl, refl, (λ k. (omega (arith, nothing k), omega (arith, nothing k))), omega arith, λ p. absurd (omega (arith, p)))
          (λ j u _ e. each_set (FitsTally seats s.words) s.views id b (
            length-sums v.added w.added (mine.0 ∙ sym theirs.0) ∙ mine.0,
            length-greater v.seen w.seen (mine.1 ∙ sym theirs.1) ∙ mine.1,
            (λ k. (
              omega (arith, greater_at v.seen w.seen k, (mine.2 k).0, (theirs.2 k).0),
              omega (arith, sums_at v.added w.added k, (mine.2 k).1, (theirs.2 k).1),
            )),
            omega (arith, mine.3, theirs.3),
            λ some. greater_all seats v.seats w.seats v.parts w.parts mine.3 theirs.3 mine.4 theirs.4 some,
          )
          (λ i y _ e'. h.4 i y e') j u e),
    )

-- a seat is cut off
pub splits : (seats id : ℕ) (v : Part) → 0 < v.parts → ((k : ℕ) → slice_index v.added k ≡ 0)
    → Splits (IsSummed seats) id v (less_a_seat v) (seat_part v)
splits seats id v a_part fresh s h at =
    let l = less_a_seat v in
    let r = seat_part v in
    let first = set s.views id l in
    let mine = h.4 id v at in (
      h.0,
      h.1,
      (λ k. let x = total_set (λ (u : Part). slice_index u.added k) s.views id v l at in
          omega (arith, x, total_append (λ (u : Part). slice_index u.added k) first (r ∷ []), h.2 k, nothing k)),
      (let x = total_set (λ (u : Part). u.parts) s.views id v l at in
          omega (arith, x, total_append (λ (u : Part). u.parts) first (r ∷ []), h.3, a_part)),
      each_snoc (FitsTally seats s.words) first r
          (refl, refl, (λ k. (omega (arith, nothing k), omega (arith, nothing k))), mine.3, λ _. mine.4 a_part)
          (each_set (FitsTally seats s.words) s.views id l
          (mine.0, mine.1, (λ k. ((mine.2 k).0, omega (arith, fresh k))), mine.3, λ _. mine.4 a_part) (λ j u _ e. h.4 j u e)),
    )

-- one more word was seen
pub sees_more : (was seen seen' kinds : List ℕ) (kind n : ℕ) → length kinds ≡ 7 → length seen ≡ 7 → kind < 7
    → seen' ≡ set seen kind n → slice_index seen kind ≤ n → slice_index seen kind ≡ slice_index was kind
    → ((k : ℕ) → k < kind → (slice_index was k ≤ slice_index kinds k) × (slice_index seen k ≡ slice_index kinds k))
    → (k : ℕ) → k < kind + 1
    → (slice_index was k ≤ slice_index (set kinds kind n) k) × (slice_index seen' k ≡ slice_index (set kinds kind n) k)
sees_more was seen seen' kinds kind n wide wide' here is more first before k low =
    ⊎_elim
    (λ (e : k ≡ kind).
    subst (λ i. (slice_index was i ≤ slice_index (set kinds kind n) i) × (slice_index seen' i ≡ slice_index (set kinds kind n) i))
    (sym e) (
      omega (arith, more, first, set_same kinds kind n (omega (arith, wide, here))),
      ap (λ l. slice_index l kind) is ∙ set_same seen kind n (omega (arith, wide', here))
          ∙ sym (set_same kinds kind n (omega (arith, wide, here))),
    ))
    (λ (d : k ≢ kind). let b = before k (omega (arith, low, d)) in (
      omega (arith, b.0, set_other kinds kind k n d),
      ap (λ l. slice_index l k) is ∙ set_other seen kind k n d ∙ b.1 ∙ sym (set_other kinds kind k n d),
    ))
    (same_or k kind)

-- and where it is what was added, so are all before it
pub sums_more : (added kinds : List ℕ) (kind n : ℕ) → length kinds ≡ 7 → kind < 7
    → n ≡ slice_index added kind → ((k : ℕ) → k < kind → slice_index kinds k ≡ slice_index added k)
    → (k : ℕ) → k < kind + 1 → slice_index (set kinds kind n) k ≡ slice_index added k
sums_more added kinds kind n wide here is before k low =
    ⊎_elim
    (λ (e : k ≡ kind).
    subst (λ i. slice_index (set kinds kind n) i ≡ slice_index added i)
    (sym e) (set_same kinds kind n (omega (arith, wide, here)) ∙ is))
    (λ (d : k ≢ kind). set_other kinds kind k n d ∙ before k (omega (arith, low, d)))
    (same_or k kind)

-- the seats of a new tally are its own
pub fresh_seats_are : (s : Sheet) (n : ℕ) → AreSeatsOf s (replicate n (fresh_seat s))
fresh_seats_are s n = all_of_each (λ (seat : Tallied). seat.sheet ≡ s) (replicate n (fresh_seat s)) (each_fresh n)
  where
    each_fresh : (m : ℕ) → AllByRecursion (λ (seat : Tallied). seat.sheet ≡ s) (replicate m (fresh_seat s))
    each_fresh zero = tt
    each_fresh (suc m) = (refl, each_fresh m)
