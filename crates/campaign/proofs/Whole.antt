-- What all workers made together.
use Rattle.std.specs.Prelude.{Bool, true, false, ◌||◌, slice_get, Some, nat_lt}
use Rattle.std.specs.List.{AllByRecursion, concat, flat_map, list_any}
use Rattle.std.proofs.Common.{Result, Ok, Err, IfOk, ◌≡◌, ◌≢◌, ◌<◌, ◌≤◌, ◌+◌, ℕ, zero, suc, List, [], ◌∷◌, ◌++◌, length, cond, map}
use Rattle.std.proofs.Common.{take, drop, sum, replicate, set, slice_index, slice_index_or, get_or-set_same, get_or-set_other, refl}
use Rattle.std.proofs.Common.{sym, ap, subst, ◌∙◌, append_assoc, append-nil, length-append, add-one, add-zero, inl, ⊎_elim, arith}
use Rattle.std.proofs.lemmas.List.{take_all, length-set, length-map, length-replicate}
use Rattle.std.proofs.lemmas.Bool.Decides.{nat_tests}
use Rattle.std.proofs.lemmas.List.Sums.{sum_by_more}
use Rattle.model.specs.Run.{Run}
use Rattle.model.specs.Campaign.{Row, totals_of}
use Rattle.campaign.specs.Seen.{AreSeen}
use Rattle.model.specs.Scripts.{most_points}
use Rattle.deal.specs.Sharing.{Game, Sight, SomeHasSeenAll, lists_of, fresh, fresh_lanes}
use Rattle.deal.specs.Tallies.{Sheet, Tallied, added_in}
use Rattle.deal.specs.Totals.{total, range, times, one_at, HasEachOnce}
use Rattle.deal.proofs.Sums.{total_append}
use Rattle.deal.proofs.Members.{all_of_each}
use Rattle.campaign.proofs.Multiplicity.{total_each}
use Rattle.deal.proofs.Once.{same_or, elsewhere}
use Rattle.campaign.specs.declared.worker_results.Apart.{Apart}
use Rattle.rows.specs.declared.rows.KeptBlock.{KeptBlock}
use Rattle.rows.specs.declared.rows.KeptRow.{KeptRow}
use Rattle.rows.specs.declared.rows.Part.{Part}
use Rattle.rows.specs.declared.rows.Place.{Place}
use Rattle.campaign.specs.declared.worker.Job.{Job}
use Rattle.campaign.specs.declared.worker.Done.{Done}
use Rattle.campaign.specs.declared.setup.Setup.{Setup}
use Rattle.campaign.specs.Setup.{work_of}
use Rattle.campaign.specs.Kinds.{kind_in}
use Rattle.rows.specs.Links.{Store}
use Rattle.rows.specs.Report.{rows_at, store_of, IsPlace, AreKept, IsSound, whole as whole_rows}
use Rattle.campaign.specs.Kinds.{RiseBy}
use Rattle.campaign.specs.Made.{IsWhole, BringsWhole, IsBrought, IsMade, rows_placed}
use Rattle.campaign.specs.declared.all_rows.Made.{Made}
use Rattle.rows.specs.Placing.{numbers_of, place_of, placed, all_placed, all_numbers, AreBelow}
use Rattle.campaign.specs.Working.{Work, block_points, AreRowsByBlock, IsKeptBlock, AreKeptBlocks, IsKeptPart, Brings}
use Rattle.campaign.specs.Working.{IsDone, AreDone, AreIdle, AreJobs, lanes_in, seats_in, parts_in, seats_of}
use Rattle.campaign.proofs.Ends.{kind_in-append, kind_in-few}
use Rattle.campaign.proofs.Keeping.{rows-append}
use Rattle.rows.proofs.Placed.{length-placed}
use Rattle.rows.proofs.Totalling.{rows_there}

-- ---- what was brought

-- the lanes of a new deal have been answered nothing
idle_of : (deal : Game) (xs : List ℕ) → AreIdle deal (map (fresh deal) xs)
idle_of deal [] = tt
idle_of deal (x ∷ xs) = ((refl, refl), idle_of deal xs)

pub idle_lanes : (deal : Game) (lanes : List Sight) → lanes ≡ fresh_lanes deal → AreIdle deal lanes
idle_lanes deal lanes is = rw is (idle_of deal (range 0 deal.lanes))

-- each job, and what it brought
abbrev pub AllBring : Work → List Job → List Done → Type 0
AllBring work [] [] = Unit {0}
AllBring work (job ∷ jobs) (done ∷ dones) = Brings work job done × AllBring work jobs dones
AllBring work jobs dones = ⊥

neither : (a b : Bool) → (a || b) ≡ false → (a ≡ false) × (b ≡ false)
neither true b e = absurd (cc)
neither false b e = (refl, e)

pub all_bring : (work : Work) (jobs : List Job) (dones : List Done) → AreDone work jobs dones
    → list_any (λ (done : Done). done.refused) dones ≡ false → AllBring work jobs dones
all_bring work [] [] all none = tt
all_bring work [] (done ∷ dones) all none = absurd all
all_bring work (job ∷ jobs) [] all none = absurd all
all_bring work (job ∷ jobs) (done ∷ dones) all none =
    let both = neither done.refused (list_any (λ (d : Done). d.refused) dones) none in
    (all.0 both.0, all_bring work jobs dones all.1 both.1)

pub dones_long : (work : Work) (jobs : List Job) (dones : List Done)
    → AllBring work jobs dones → length (lanes_in dones) ≡ length jobs
dones_long work [] [] all = refl
dones_long work [] (done ∷ dones) all = absurd all
dones_long work (job ∷ jobs) [] all = absurd all
dones_long work (job ∷ jobs) (done ∷ dones) all = let rest = dones_long work jobs dones all.1 in omega arith

pub seats_long : (work : Work) (jobs : List Job) (dones : List Done)
    → AllBring work jobs dones → length (seats_in dones) ≡ length jobs
seats_long work [] [] all = refl
seats_long work [] (done ∷ dones) all = absurd all
seats_long work (job ∷ jobs) [] all = absurd all
seats_long work (job ∷ jobs) (done ∷ dones) all = let rest = seats_long work jobs dones all.1 in omega arith

pub lanes_are : (work : Work) (deal : Game) (tally : Sheet) (count : ℕ) (jobs : List Job) (dones : List Done)
    → AllBring work jobs dones → AreJobs deal tally count jobs
    → AllByRecursion (λ (lane : Sight). lane.game ≡ deal) (lanes_in dones)
lanes_are work deal tally count [] [] all are = tt
lanes_are work deal tally count [] (done ∷ dones) all are = absurd all
lanes_are work deal tally count (job ∷ jobs) [] all are = absurd all
lanes_are work deal tally count (job ∷ jobs) (done ∷ dones) all are =
    (all.0.lane ∙ are.0.lane, lanes_are work deal tally count jobs dones all.1 are.1)

pub seats_are : (work : Work) (deal : Game) (tally : Sheet) (count : ℕ) (jobs : List Job) (dones : List Done)
    → AllBring work jobs dones → AreJobs deal tally count jobs
    → AllByRecursion (λ (seat : Tallied). seat.sheet ≡ tally) (seats_in dones)
seats_are work deal tally count [] [] all are = tt
seats_are work deal tally count [] (done ∷ dones) all are = absurd all
seats_are work deal tally count (job ∷ jobs) [] all are = absurd all
seats_are work deal tally count (job ∷ jobs) (done ∷ dones) all are =
    (all.0.seat ∙ are.0.seat, seats_are work deal tally count jobs dones all.1 are.1)

pub some_seen : (work : Work) (jobs : List Job) (dones : List Done)
    → AllBring work jobs dones → 0 < length jobs → SomeHasSeenAll (lanes_in dones)
some_seen work [] dones all some = absurd (omega arith)
some_seen work (job ∷ jobs) [] all some = absurd all
some_seen work (job ∷ jobs) (done ∷ dones) all some = inl all.0.all

pub parts_are : (work : Work) (jobs : List Job) (dones : List Done)
    → AllBring work jobs dones → AllByRecursion (IsKeptPart work) (parts_in dones)
parts_are work [] [] all = tt
parts_are work [] (done ∷ dones) all = absurd all
parts_are work (job ∷ jobs) [] all = absurd all
parts_are work (job ∷ jobs) (done ∷ dones) all = (all.0.part, parts_are work jobs dones all.1)

pub numbers_are : (work : Work) (jobs : List Job) (dones : List Done) → AllBring work jobs dones
    → all_numbers (parts_in dones) ≡ concat (lists_of (lanes_in dones))
numbers_are work [] [] all = refl
numbers_are work [] (done ∷ dones) all = absurd all
numbers_are work (job ∷ jobs) [] all = absurd all
numbers_are work (job ∷ jobs) (done ∷ dones) all = rw (all.0.numbers, numbers_are work jobs dones all.1) refl

-- the seats counted the rows of these blocks
pub counts_are : (work : Work) (rows : ℕ → List Row) → AreRowsByBlock work rows → (kind : ℕ)
    → kind < 7 → (jobs : List Job) (dones : List Done) → AllBring work jobs dones
    → added_in kind (seats_in dones)
    ≡ added_in kind (seats_of jobs) + total (λ b. kind_in (rows b) kind) (concat (lists_of (lanes_in dones)))
counts_are work rows are kind l [] [] all = omega arith
counts_are work rows are kind l [] (done ∷ dones) all = absurd all
counts_are work rows are kind l (job ∷ jobs) [] all = absurd all
counts_are work rows are kind l (job ∷ jobs) (done ∷ dones) all =
    let one = (all.0.counts rows are).rises kind l in
    let rest = counts_are work rows are kind l jobs dones all.1 in
    let split = total_append (λ b. kind_in (rows b) kind) done.lane.answered (concat (lists_of (lanes_in dones))) in
    omega arith

-- ---- places

below_of : (work : Work) (kept : List KeptRow) (store : Store) (blocks : List KeptBlock)
    → AreKeptBlocks work kept store blocks → AllByRecursion (λ (b : KeptBlock). b.number < length work.lengths) blocks
below_of work kept store [] all = tt
below_of work kept store (b ∷ blocks) all = (all.0.is_block, below_of work kept store blocks all.1)

pub parts_below : (work : Work) (parts : List Part) → AllByRecursion (IsKeptPart work) parts → AreBelow (length work.lengths) parts
parts_below work [] all = tt
parts_below work (part ∷ parts) all =
    (below_of work part.kept (store_of part) part.blocks.items all.0.blocks, parts_below work parts all.1)

pub parts_kept : (work : Work) (parts : List Part)
    → AllByRecursion (IsKeptPart work) parts → AllByRecursion (AreKept work.base) parts
parts_kept work [] all = tt
parts_kept work (part ∷ parts) all = (all.0.rows, parts_kept work parts all.1)

-- the rows of a block are in this place
pub record IsPlaceOf (work : Work) (parts : List Part) (block : ℕ) (place : Place) : Type 0 where
  pub is_place : IsPlace parts place
  pub made : AreSeen work.app work.limits work.view (block_points work block) (rows_at work.base parts place)

module _ (work : Work) (parts : List Part) where
  -- those of these blocks are in their places
  abbrev pub HavePlaces : List ℕ → List Place → Type 0
  HavePlaces blocks places = (b : ℕ) (d : Place) → 0 < times b blocks → IsPlaceOf work parts b (slice_index_or places b d)

  -- a block more
  put_one : (n : ℕ) (part : Part) → slice_get parts n ≡ Some part
      → (block : KeptBlock) → IsKeptBlock work part.kept (store_of part) block
      → (places : List Place) → length work.lengths ≤ length places → (blocks : List ℕ) → HavePlaces blocks places
      → HavePlaces (blocks ++ block.number ∷ []) (set places block.number (place_of n block))
  put_one n part at block is places long blocks have b d there =
      let place = place_of n block in
      let mine : IsPlaceOf work parts block.number place = record {
        is_place = record { part = part; at_part = at; within = is.within };
        made = rw (rows_there work.base parts place part at) is.made;
      } in
      ⊎_elim
      (λ (e : b ≡ block.number).
      let inside : block.number < length places = (let low = is.is_block in omega arith) in
      let same : slice_index_or (set places block.number place) b d ≡ place =
      ap (λ i. slice_index_or (set places block.number place) i d) e ∙ get_or-set_same places block.number place d inside in
      rw (same, e) mine)
      (λ (apart : b ≢ block.number).
      let same : slice_index_or (set places block.number place) b d ≡ slice_index_or places b d =
      get_or-set_other places block.number b place d apart in
      let other : block.number ≢ b = λ e. apart (sym e) in
      let before : 0 < times b blocks =
      omega (arith, there, total_append (one_at b) blocks (block.number ∷ []), elsewhere b block.number other) in
      rw same (have b d before))
      (same_or b block.number)

  put_all : (n : ℕ) (part : Part) → slice_get parts n ≡ Some part
      → (own : List KeptBlock) → AreKeptBlocks work part.kept (store_of part) own
      → (places : List Place) → length work.lengths ≤ length places → (blocks : List ℕ)
      → HavePlaces blocks places → HavePlaces (blocks ++ numbers_of own) (placed n own places)
  put_all n part at [] all places long blocks have = rw (append-nil blocks) have
  put_all n part at (block ∷ own) all places long blocks have =
      let next = set places block.number (place_of n block) in
      let still : length work.lengths ≤ length next = omega (arith, length-set places block.number (place_of n block)) in
      let rest =
      put_all n part at own all.1 next still (blocks ++ block.number ∷ [])
      (put_one n part at block all.0 places long blocks have) in
      subst (λ (bs : List ℕ). HavePlaces bs (placed n own next)) (append_assoc blocks (block.number ∷ []) (numbers_of own)) rest

got_middle : (front back : List Part) (part : Part) → slice_get (front ++ part ∷ back) (length front) ≡ Some part
got_middle [] back part = refl
got_middle (p ∷ front) back part = got_middle front back part

put_parts : (work : Work) (whole front parts : List Part) (n : ℕ)
    → whole ≡ front ++ parts → n ≡ length front → AllByRecursion (IsKeptPart work) parts
    → (places : List Place) → length work.lengths ≤ length places → (blocks : List ℕ) → HavePlaces work whole blocks places
    → HavePlaces work whole (blocks ++ all_numbers parts) (all_placed n parts places)
put_parts work whole front [] n is at all places long blocks have = rw (append-nil blocks) have
put_parts work whole front (part ∷ parts) n is at all places long blocks have =
    let there : slice_get whole n ≡ Some part = rw (is, at) (got_middle front parts part) in
    let first = put_all work whole n part there part.blocks.items all.0.blocks places long blocks have in
    let next = placed n part.blocks.items places in
    let still : length work.lengths ≤ length next = omega (arith, length-placed n part.blocks.items places) in
    let rest =
    put_parts work whole (front ++ part ∷ []) parts (n + 1) (is ∙ sym (append_assoc front (part ∷ []) parts))
    (omega (arith, at, length-append front (part ∷ []))) all.1 next still (blocks ++ numbers_of part.blocks.items) first in
    subst (λ (bs : List ℕ). HavePlaces work whole bs (all_placed (n + 1) parts next))
    (append_assoc blocks (numbers_of part.blocks.items) (all_numbers parts)) rest

pub all_put : (work : Work) (parts : List Part) → AllByRecursion (IsKeptPart work) parts → (places : List Place)
    → length work.lengths ≤ length places → HavePlaces work parts (all_numbers parts) (all_placed 0 parts places)
all_put work parts all places long =
    put_parts work parts [] parts 0 refl refl all places long [] (λ b d there. absurd (omega arith))

pub length-all_placed : (n : ℕ) (parts : List Part) (places : List Place) → length (all_placed n parts places) ≡ length places
length-all_placed n [] places = refl
length-all_placed n (part ∷ parts) places =
    length-all_placed (n + 1) parts (placed n part.blocks.items places) ∙ length-placed n part.blocks.items places

-- ---- all blocks in order

flat_shift : {A : Type 0} (f : ℕ → List A) (first n : ℕ)
    → flat_map f (range (first + 1) n) ≡ flat_map (λ i. f (suc i)) (range first n)
flat_shift f first zero = refl
flat_shift f first (suc n) =
    ap (λ xs. f (first + 1) ++ xs) (flat_shift f (first + 1) n)
    ∙ ap (λ i. f i ++ flat_map (λ j. f (suc j)) (range (first + 1) n)) (add-one first)

-- places by their numbers
pub flat_at : {X A : Type 0} (f : X → List A) (xs : List X) (d : X)
    → flat_map f xs ≡ flat_map (λ b. f (slice_index_or xs b d)) (range 0 (length xs))
flat_at f [] d = refl
flat_at f (x ∷ xs) d = ap (λ ys. f x ++ ys) (flat_at f xs d ∙ sym (flat_shift (λ b. f (slice_index_or (x ∷ xs) b d)) 0 (length xs)))

flat_last : {A : Type 0} (f : ℕ → List A) (first n : ℕ)
    → flat_map f (range first (suc n)) ≡ flat_map f (range first n) ++ f (first + n)
flat_last f first zero = append-nil (f first) ∙ ap f (sym (add-zero first))
flat_last f first (suc n) =
    let same : first + 1 + n ≡ first + suc n = omega arith in
    ap (λ xs. f first ++ xs) (flat_last f (first + 1) n ∙ ap (λ i. flat_map f (range (first + 1) n) ++ f i) same)
    ∙ sym (append_assoc (f first) (flat_map f (range (first + 1) n)) (f (first + suc n)))

take_both : {X : Type 0} (a b : ℕ) (xs : List X) → take (a + b) xs ≡ take a xs ++ take b (drop a xs)
take_both zero b xs = let e : 0 + b ≡ b = omega arith in rw e refl
take_both (suc a) b [] = let e : suc a + b ≡ suc (a + b) = omega arith in rw e (sym (take_none b))
  where
    take_none : {X : Type 0} (n : ℕ) → take {A = X} n [] ≡ []
    take_none zero = refl
    take_none (suc n) = refl
take_both (suc a) b (x ∷ xs) = let e : suc a + b ≡ suc (a + b) = omega arith in rw e (ap (λ r. x ∷ r) (take_both a b xs))

module _ (work : Work) (rows : ℕ → List Row) (are : AreRowsByBlock work rows) where
  front_rows : (n : ℕ) → n ≤ length work.lengths
      → AreSeen work.app work.limits work.view (take (sum (take n work.lengths)) work.points) (flat_map rows (range 0 n))
  front_rows zero l = record { one_each = refl; each = tt }
  front_rows (suc n) l =
      let more : sum (take (suc n) work.lengths) ≡ sum (take n work.lengths) + slice_index work.lengths n =
      ap (λ m. sum (take m work.lengths)) (sym (add-one n)) ∙ sum_by_more (λ (x : ℕ). x) work.lengths n 0 (omega arith) in
      let zero_plus : 0 + n ≡ n = omega arith in
      let last : flat_map rows (range 0 (suc n)) ≡ flat_map rows (range 0 n) ++ rows n =
      flat_last rows 0 n ∙ ap (λ i. flat_map rows (range 0 n) ++ rows i) zero_plus in
      rw (more, take_both (sum (take n work.lengths)) (slice_index work.lengths n) work.points, last)
      (rows-append work.app work.limits work.view _ _ _ _ (front_rows n (omega arith)) (are n (omega arith)))

  pub all_rows : sum work.lengths ≡ length work.points
      → AreSeen work.app work.limits work.view work.points (flat_map rows (range 0 (length work.lengths)))
  all_rows whole =
      let lens : take (length work.lengths) work.lengths ≡ work.lengths =
      take_all (length work.lengths) work.lengths (omega arith) in
      let all : take (sum (take (length work.lengths) work.lengths)) work.points ≡ work.points =
      ap (λ ls. take (sum ls) work.points) lens ∙ take_all (sum work.lengths) work.points (omega arith) in
      subst (λ ps. AreSeen work.app work.limits work.view ps (flat_map rows (range 0 (length work.lengths))))
      all (front_rows (length work.lengths) (omega arith))

pub kinds_flat : (rows : ℕ → List Row) (kind : ℕ) (blocks : List ℕ)
    → kind_in (flat_map rows blocks) kind ≡ total (λ b. kind_in (rows b) kind) blocks
kinds_flat rows kind [] = let few = kind_in-few [] kind in omega arith
kinds_flat rows kind (b ∷ blocks) =
    let rest = kinds_flat rows kind blocks in
    let split = kind_in-append (rows b) (flat_map rows blocks) kind in
    omega arith

-- ---- jobs by their places

pub done_each : (setup : Setup) (deal : Game) (tally : Sheet) (count : ℕ) (jobs : List Job) (dones : List Done)
    → length dones ≡ length jobs
    → ((i : ℕ) (j : Job) (d : Done) → i < length jobs
    → IsDone (work_of setup (slice_index_or jobs i j).lane.game.lengths) (slice_index_or jobs i j) (slice_index_or dones i d))
    → AreJobs deal tally count jobs → AreDone (work_of setup deal.lengths) jobs dones
done_each setup deal tally count [] [] same each are = tt
done_each setup deal tally count [] (done ∷ dones) same each are = absurd (cc)
done_each setup deal tally count (job ∷ jobs) [] same each are = absurd (cc)
done_each setup deal tally count (job ∷ jobs) (done ∷ dones) same each are = (
  subst (λ (g : Game). IsDone (work_of setup g.lengths) job done) are.0.lane (each 0 job done (omega arith)),
  done_each setup deal tally count jobs dones (omega (arith, same)) (λ i j d l. each (suc i) j d (omega arith)) are.1,
)

-- ---- what they brought together

pub all_brought : (work : Work) (deal : Game) (tally : Sheet) (count workers : ℕ)
    (old : List Tallied) (jobs : List Job) (dones : List Done)
    (lanes : List Sight) (new : List Tallied) (parts : List Part)
    → lanes ≡ lanes_in dones → new ≡ seats_in dones → parts ≡ parts_in dones
    → AreJobs deal tally count jobs → AreDone work jobs dones → list_any (λ (done : Done). done.refused) dones ≡ false
    → length jobs ≡ workers → deal.lanes ≡ workers → 0 < workers → length old ≡ workers
    → ((kind : ℕ) → added_in kind (seats_of jobs) ≡ added_in kind old)
    → IsBrought work deal tally old lanes new parts
all_brought work deal tally count workers old jobs dones lanes new parts is_lanes
    is_seats is_parts are done none many lane_many some seat_many added =
    let all = all_bring work jobs dones done none in
    let seats_all = seats_long work jobs dones all in
    let lanes_all = dones_long work jobs dones all in
    rw (is_lanes, is_seats, is_parts) (record {
      brings = record {
        its_lanes =
            all_of_each (λ (lane : Sight). lane.game ≡ deal) (lanes_in dones) (lanes_are work deal tally count jobs dones all are);
        all_lanes = omega (arith, lanes_all, many, lane_many);
        seen = some_seen work jobs dones all (omega (arith, some, many));
        made = parts_are work jobs dones all;
        numbers = numbers_are work jobs dones all;
      };
      back = record { all = omega (arith, seats_all, many, seat_many); same = seats_are work deal tally count jobs dones all are };
      counts = λ rows by_block kind l.
          counts_are work rows by_block kind l jobs dones all
          ∙ ap (λ n. n + total (λ b. kind_in (rows b) kind) (concat (lists_of (lanes_in dones)))) (added kind);
    })

below_one : (b n : ℕ) → b < n → cond {A = ℕ} (nat_lt b n) 1 0 ≡ 1
below_one b n l = grind (arith, nat_tests)

module _ (work : Work) (base : Run) (deal : Game) (lanes : List Sight) (parts : List Part)
    (whole : IsWhole work base deal) (brings : BringsWhole work deal lanes parts) where
  pub numbers_below : (n : ℕ) → n ≡ length deal.lengths → AreBelow n parts
  numbers_below n is =
      let same : n ≡ length work.lengths = is ∙ ap length (sym whole.same_lengths) in
      rw same (parts_below work parts brings.made)

  module _ (rest : List ℕ) (places : List Place) (n : ℕ) (none : Place)
      (once : HasEachOnce (length deal.lengths) (concat (lists_of lanes) ++ rest))
      (all : length lanes ≡ deal.lanes → SomeHasSeenAll lanes → rest ≡ [])
      (count : n ≡ length deal.lengths) (placed : places ≡ all_placed 0 parts (replicate n none)) where
    each_once : HasEachOnce (length work.lengths) (concat (lists_of lanes))
    each_once =
        let nothing = all brings.all_lanes brings.seen in
        let alone : concat (lists_of lanes) ++ rest ≡ concat (lists_of lanes) =
        ap (λ r. concat (lists_of lanes) ++ r) nothing ∙ append-nil (concat (lists_of lanes)) in
        subst (λ m. HasEachOnce m (concat (lists_of lanes))) (ap length (sym whole.same_lengths))
        (subst (HasEachOnce (length deal.lengths)) alone once)

    many_places : length places ≡ length work.lengths
    many_places =
        ap length placed ∙ length-all_placed 0 parts (replicate n none)
        ∙ length-replicate n none ∙ count ∙ ap length (sym whole.same_lengths)

    its_place : (b : ℕ) → b < length work.lengths → (d : Place) → IsPlaceOf work parts b (slice_index_or places b d)
    its_place b l d =
        let long : length work.lengths ≤ length (replicate n none) =
        omega (arith, length-replicate n none, count, ap length whole.same_lengths) in
        let there : times b (all_numbers parts) ≡ 1 =
        ap (times b) brings.numbers ∙ each_once b ∙ below_one b (length work.lengths) l in
        rw placed (all_put work parts brings.made (replicate n none) long b d (omega arith))

    abbrev rows_by : ℕ → List Row
    rows_by b = rows_at work.base parts (slice_index_or places b none)

    by_block : AreRowsByBlock work rows_by
    by_block b l = (its_place b l none).made

    in_order : rows_placed work.base parts places ≡ flat_map rows_by (range 0 (length work.lengths))
    in_order = flat_at (rows_at work.base parts) places none ∙ ap (λ m. flat_map rows_by (range 0 m)) many_places

    pub all_at : AllByRecursion (IsPlace parts) places
    all_at = each_of places (λ i d l. (its_place i (omega (arith, l, many_places)) d).is_place)
      where
        each_of : (xs : List Place) → ((i : ℕ) (d : Place) → i < length xs → IsPlace parts (slice_index_or xs i d))
            → AllByRecursion (IsPlace parts) xs
        each_of [] h = tt
        each_of (x ∷ xs) h = (h 0 x (omega arith), each_of xs (λ i d l. h (suc i) d (omega arith)))

    pub rows_all : AreSeen work.app work.limits work.view work.points (rows_placed work.base parts places)
    rows_all = rw in_order (all_rows work rows_by by_block whole.whole)

    pub rows_few : length (rows_placed work.base parts places) ≤ most_points
    rows_few =
        let same = sym (length-map (rows_placed work.base parts places) (λ (row : Row). row.point)) ∙ ap length rows_all.one_each in
        omega (arith, same, whole.few)

    pub seats_rise : (tally : Sheet) (old new : List Tallied) → IsBrought work deal tally old lanes new parts
        → RiseBy (totals_of (rows_placed work.base parts places)) old new
    seats_rise tally old new brought kind l =
        let sum = brought.counts rows_by by_block kind l in
        let each = total_each (length work.lengths) (concat (lists_of lanes)) each_once (λ b. kind_in (rows_by b) kind) in
        let flat = kinds_flat rows_by kind (range 0 (length work.lengths)) in
        let order = ap (λ (rows : List Row). kind_in rows kind) in_order in
        sum ∙ ap (λ m. added_in kind old + m) (each ∙ sym flat ∙ sym order)

-- ---- the report

module _ (work : Work) (tally : Sheet) (old : List Tallied) (made : Made) (is : IsMade work tally old made)
    (base : Run) (same : base ≡ work.base) (first : ℕ) (few : first + length work.points ≤ most_points) where
  pub sound_made : IsSound
      (record { view = work.view; first = first; base = base; parts = made.parts; places = made.places; totals = made.totals })
  sound_made =
      let count =
      sym (length-map (rows_placed work.base made.parts.items made.places.items) (λ (row : Row). row.point))
      ∙ ap length is.rows.one_each in
      subst (λ b.
      IsSound
      (record { view = work.view; first = first; base = b; parts = made.parts; places = made.places; totals = made.totals }))
      (sym same) (record {
        kept = is.kept;
        placed = is.placed;
        few = omega (arith, count, few);
        counted = is.counted;
      })

  rows_same : (report : List Row)
      → report
      ≡ whole_rows
      (record { view = work.view; first = first; base = base; parts = made.parts; places = made.places; totals = made.totals })
      → report ≡ rows_placed work.base made.parts.items made.places.items
  rows_same report e = e ∙ ap (λ (b : Run). rows_placed b made.parts.items made.places.items) same

  pub rows_made : (report : List Row)
      → report
      ≡ whole_rows
      (record { view = work.view; first = first; base = base; parts = made.parts; places = made.places; totals = made.totals })
      → AreSeen work.app work.limits work.view work.points report
  rows_made report e = rw (rows_same report e) is.rows

  pub rise_made : (report : List Row)
      → report
      ≡ whole_rows
      (record { view = work.view; first = first; base = base; parts = made.parts; places = made.places; totals = made.totals })
      → RiseBy (totals_of report) old made.seats.items
  rise_made report e = subst (λ rs. RiseBy (totals_of rs) old made.seats.items) (sym (rows_same report e)) is.rise

-- What holds of the kinds apart holds of what was taken apart, if it was.
pub all_apart : {E : Type 0} (r : Result Apart E) (P : Apart → Type 0) (dones : List Done)
    → IfOk r (λ (a : Apart). a.lanes.items ≡ lanes_in dones) → IfOk r (λ (a : Apart). a.seats.items ≡ seats_in dones)
    → IfOk r (λ (a : Apart). a.parts.items ≡ parts_in dones)
    → ((a : Apart) → a.lanes.items ≡ lanes_in dones → a.seats.items ≡ seats_in dones → a.parts.items ≡ parts_in dones → P a)
    → IfOk r P
all_apart (Ok a) P dones lanes seats parts so = so a lanes seats parts
all_apart (Err e) P dones lanes seats parts so = tt
