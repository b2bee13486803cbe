-- What a worker has made between two blocks.
use Rattle.std.specs.Prelude.{true, false, Result, Ok, Err, OnOk, is_err, is_ok, if◌then◌else◌}
use Rattle.std.proofs.Common.{◌≡◌, ◌≢◌, ◌≤◌, ◌<◌, ◌+◌, ⊎_elim, ℕ, zero, suc, List, [], ◌∷◌, ◌++◌, length, take, drop, sum}
use Rattle.std.proofs.Common.{slice_index, refl, sym, ap, ap₂, subst, ◌∙◌, arith}
use Rattle.std.specs.List.{AllByRecursion}
use Rattle.std.proofs.lemmas.List.{map-append, take-append-le, drop-append-le, length-drop, length-append, length-take}
use Rattle.std.proofs.lemmas.List.{length-take-le, length-map, drop_at, take_all}
use Rattle.std.proofs.lemmas.List.Sums.{sum_by_more_le}
use Rattle.model.specs.Campaign.{Row}
use Rattle.campaign.specs.Seen.{AreSeen}
use Rattle.deal.specs.Divisions.{IsBlock}
use Rattle.deal.specs.Tallies.{Tallied}
use Rattle.deal.specs.Totals.{total, range, times, one_at}
use Rattle.deal.proofs.Sums.{total_append}
use Rattle.deal.proofs.Once.{times_one, same_or, elsewhere, once_within}
use Rattle.rows.specs.declared.rows.KeptRow.{KeptRow}
use Rattle.rows.specs.declared.rows.KeptBlock.{KeptBlock}
use Rattle.campaign.specs.declared.worker.Job.{Job}
use Rattle.campaign.specs.declared.worker.Done.{Done}
use Rattle.deal.specs.Sharing.{HasSeenAll}
use Rattle.campaign.specs.Kinds.{kind_in}
use Rattle.rows.specs.Links.{Store, AreLegs, Grows}
use Rattle.rows.specs.Report.{row_of, rows_of, store_of, IsKept}
use Rattle.rows.specs.Placing.{numbers_of}
use Rattle.campaign.specs.Working.{Work, GainsRows, HasRoom, block_points, IsKeptBlock, AreKeptBlocks, CountsBlocks}
use Rattle.campaign.specs.Working.{IsDone}
use Rattle.campaign.proofs.Keeping.{all-append, same_rows, still_kept, gained_few}
use Rattle.campaign.proofs.Determined.{one_list}
use Rattle.rows.proofs.Linked.{without_legs}
use Rattle.campaign.proofs.Multiplicity.{total_within, total_places}

-- Rows of the blocks that were answered are kept, and the seat counted them.
pub record HasWorked (work : Work) (kept : List KeptRow) (store : Store)
    (blocks : List KeptBlock) (answered : List ℕ) (old seat : Tallied) : Type 0 where
  pub rows : AllByRecursion (IsKept work.base store) kept
  pub legs : AreLegs work.base.events store
  pub made : AreKeptBlocks work kept store blocks
  pub numbers : numbers_of blocks ≡ answered
  pub same : seat.sheet ≡ old.sheet
  pub counts : CountsBlocks work answered old seat
  pub once : (x : ℕ) → times x answered ≤ times x (range 0 (length work.lengths))
  pub few : (kind : ℕ) → kind < 7
      → slice_index seat.added kind ≤ slice_index old.added kind + total (λ b. slice_index work.lengths b) answered

pub none_worked : (work : Work) (kept : List KeptRow) (store : Store) (blocks : List KeptBlock) (answered : List ℕ) (seat : Tallied)
    → kept ≡ [] → store.legs ≡ [] → blocks ≡ [] → answered ≡ [] → HasWorked work kept store blocks answered seat seat
none_worked work kept store blocks answered seat no_rows no_legs no_blocks none = rw (no_rows, no_blocks, none) (record {
  rows = tt;
  legs = without_legs work.base.events store no_legs;
  made = tt;
  numbers = refl;
  same = refl;
  counts = λ rows are. record { same = refl; rises = λ kind l. omega arith };
  once = λ x. omega arith;
  few = λ kind l. omega arith;
})

-- ---- the next block

module _ (work : Work) (kept : List KeptRow) (store : Store) (blocks : List KeptBlock) (answered : List ℕ) (old seat : Tallied)
    (worked : HasWorked work kept store blocks answered old seat) (number first count : ℕ)
    (block : IsBlock work.lengths number first count) (new : times number answered ≡ 0)
    (whole : sum work.lengths ≡ length work.points) where
  pub points_within : first + count ≤ length work.points
  points_within =
      let most = sum_by_more_le (λ (x : ℕ). x) work.lengths number 0 block.0 in
      let start = block.1 in
      let len = block.2 in
      omega arith

  -- it has not been answered before
  still_once : (x : ℕ) → times x (answered ++ number ∷ []) ≤ times x (range 0 (length work.lengths))
  still_once x =
      let split = total_append (one_at x) answered (number ∷ []) in
      let old_once = worked.once x in
      ⊎_elim
      (λ (e : number ≡ x). subst (λ y. times y (answered ++ number ∷ []) ≤ times y (range 0 (length work.lengths))) e
      (omega (
        arith,
        new,
        total_append (one_at number) answered (number ∷ []),
        times_one number,
        once_within number 0 (length work.lengths) (omega arith) (omega (arith, block.0)),
      )))
      (λ (d : number ≢ x). omega (arith, old_once, split, elsewhere x number d))
      (same_or number x)

  pub room_left : (read : Tallied) → read.added ≡ seat.added → HasRoom (length work.points) old → HasRoom count read
  room_left read same room kind l =
      let few = worked.few kind l in
      let most =
      total_within (answered ++ number ∷ []) (range 0 (length work.lengths)) still_once (λ b. slice_index work.lengths b) in
      let split = total_append (λ b. slice_index work.lengths b) answered (number ∷ []) in
      let all = total_places work.lengths in
      let at = ap (λ (xs : List ℕ). slice_index xs kind) same in
      let most_room = room kind l in
      let len = block.2 in
      omega arith

-- ---- a block more

-- what was kept is kept
part_same : {X : Type 0} (kept more : List X) (first count : ℕ) → first + count ≤ length kept
    → take count (drop first (kept ++ more)) ≡ take count (drop first kept)
part_same kept more first count within =
    let start : first ≤ length kept = omega arith in
    let long : count ≤ length (drop first kept) = omega (arith, length-drop first kept) in
    rw (drop-append-le first kept more start) (take-append-le count (drop first kept) more long)

-- a part of what is kept
all-take : {X : Type 0} (P : X → Type 0) (n : ℕ) (xs : List X) → AllByRecursion P xs → AllByRecursion P (take n xs)
all-take P zero xs h = tt
all-take P (suc n) [] h = tt
all-take P (suc n) (x ∷ xs) h = (h.0, all-take P n xs h.1)

all-drop : {X : Type 0} (P : X → Type 0) (n : ℕ) (xs : List X) → AllByRecursion P xs → AllByRecursion P (drop n xs)
all-drop P zero xs h = h
all-drop P (suc n) [] h = tt
all-drop P (suc n) (x ∷ xs) h = all-drop P n xs h.1

module _ (work : Work) (kept more : List KeptRow) (store new : Store) (legs : AreLegs work.base.events store)
    (grown : Grows store new) (rows : AllByRecursion (IsKept work.base store) kept) where
  old_block : (block : KeptBlock) → IsKeptBlock work kept store block → IsKeptBlock work (kept ++ more) new block
  old_block block is =
      let part = take block.count (drop block.first kept) in
      let same : rows_of work.base new (take block.count (drop block.first (kept ++ more))) ≡ rows_of work.base store part =
      ap (rows_of work.base new) (part_same kept more block.first block.count is.within)
      ∙ same_rows work.base store new legs grown part (all-take _ block.count _ (all-drop _ block.first kept rows)) in
      record {
        is_block = is.is_block;
        within = (let within = is.within in omega (arith, length-append kept more));
        made = subst (λ r. AreSeen work.app work.limits work.view (block_points work block.number) r) (sym same) is.made;
      }

  old_blocks : (blocks : List KeptBlock) → AreKeptBlocks work kept store blocks → AreKeptBlocks work (kept ++ more) new blocks
  old_blocks [] all = tt
  old_blocks (block ∷ blocks) all = (old_block block all.0, old_blocks blocks all.1)

module _ (work : Work) (kept kept' : List KeptRow) (store store' : Store)
    (blocks blocks' : List KeptBlock) (answered : List ℕ) (old seat read seat' : Tallied)
    (worked : HasWorked work kept store blocks answered old seat) (number first count : ℕ)
    (block : IsBlock work.lengths number first count) (new : times number answered ≡ 0)
    (whole : sum work.lengths ≡ length work.points)
    (same : read.sheet ≡ seat.sheet) (same_counts : read.added ≡ seat.added)
    (gains : GainsRows work.app work.limits work.view work.base
    (take count (drop first work.points)) kept kept' store store' read seat')
    (pushed : blocks' ≡ blocks ++ record { number = number; first = length kept; count = count } ∷ []) where
  its_points : block_points work number ≡ take count (drop first work.points)
  its_points = ap₂ (λ (n : ℕ) (m : ℕ). take n (drop m work.points)) (sym block.2) (sym block.1)

  its_rows : AreSeen work.app work.limits work.view (block_points work number) (rows_of work.base store' gains.more)
  its_rows = rw its_points gains.made

  many : length gains.more ≡ count
  many =
      let within = points_within work kept store blocks answered old seat worked number first count block new whole in
      let long : count ≤ length (drop first work.points) = omega (arith, length-drop first work.points) in
      sym (length-map gains.more (row_of work.base store'))
      ∙ sym (length-map (rows_of work.base store' gains.more) (λ (row : Row). row.point)) ∙ ap length gains.made.one_each
      ∙ length-take-le count (drop first work.points) long

  last : take count (drop (length kept) kept') ≡ gains.more
  last = rw (gains.rows_are, drop_at kept gains.more (length kept) refl) (take_all count gains.more (let n = many in omega arith))

  new_block : IsKeptBlock work kept' store' (record { number = number; first = length kept; count = count })
  new_block = record {
    is_block = block.0;
    within = (let long = ap length gains.rows_are in let n = many in omega (arith, length-append kept gains.more));
    made = rw last its_rows;
  }

  old_ones : AreKeptBlocks work kept' store' blocks
  old_ones = rw gains.rows_are (old_blocks work kept gains.more store store' worked.legs gains.grows worked.rows blocks worked.made)

  still : AllByRecursion (IsKept work.base store') kept
  still = still_kept work.base store store' worked.legs gains.grows kept worked.rows

  counts_more : CountsBlocks work (answered ++ number ∷ []) old seat'
  counts_more rows are = record {
    same = gains.gained.same ∙ same ∙ worked.same;
    rises = λ kind l. (
        let f : ℕ → ℕ = λ b. kind_in (rows b) kind in
        let first = (worked.counts rows are).rises kind l in
        let its_gain = gains.gained.rises kind l in
        let at = ap (λ (xs : List ℕ). slice_index xs kind) same_counts in
        let its =
        ap (λ (r : List Row). kind_in r kind) (one_list work.app work.limits work.view (block_points work number)
        (rows_of work.base store' gains.more) (rows number) its_rows (are number block.0)) in
        let split = total_append f answered (number ∷ []) in
        omega arith);
  }

  pub worked_more : HasWorked work kept' store' blocks' (answered ++ number ∷ []) old seat'
  worked_more = record {
    rows = rw gains.rows_are (all-append _ kept gains.more still gains.sound);
    legs = gains.legs;
    made = rw pushed (all-append _ blocks _ old_ones (new_block, tt));
    numbers =
        ap numbers_of pushed ∙ map-append (λ (b : KeptBlock). b.number) blocks _
        ∙ ap (λ (xs : List ℕ). xs ++ number ∷ []) worked.numbers;
    same = gains.gained.same ∙ same ∙ worked.same;
    counts = counts_more;
    once = still_once work kept store blocks answered old seat worked number first count block new whole;
    few = λ kind l. (
        let before = worked.few kind l in
        let more = gained_few work.app work.limits work.view work.base _ _ _ _ _ _ _ gains kind l in
        let at = ap (λ (xs : List ℕ). slice_index xs kind) same_counts in
        let most = length-take count (drop first work.points) in
        let split = total_append (λ b. slice_index work.lengths b) answered (number ∷ []) in
        let len = block.2 in
        omega arith);
  }

-- ---- the end

pub done_refused : (work : Work) (job : Job) (done : Done) → done.refused ≡ true → IsDone work job done
done_refused work job done is e = absurd (cc)

pub done_whole : (work : Work) (job : Job) (done : Done) → done.lane.game ≡ job.lane.game → HasSeenAll done.lane
    → HasWorked work done.part.kept (store_of done.part) done.part.blocks.items done.lane.answered job.seat done.seat
    → IsDone work job done
done_whole work job done lane all worked e = record {
  lane = lane;
  seat = worked.same;
  all = all;
  part = record { rows = record { rows = worked.rows; legs = worked.legs }; blocks = worked.made };
  numbers = worked.numbers;
  counts = worked.counts;
}

-- what an answer says that is no error
pub on_ok_at : {T E P : Type 0} (r : Result T E) → is_err r ≡ false → OnOk r P → P
on_ok_at (Ok x) e p = p
on_ok_at (Err x) e p = absurd (cc)

pub pushed_at : {T E X : Type 0} (r : Result T E) (new a b : X) → is_err r ≡ false → new ≡ (if is_ok r then a else b) → new ≡ a
pushed_at (Ok x) new a b e is = is
pushed_at (Err x) new a b e is = absurd (cc)
