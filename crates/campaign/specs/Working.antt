-- What workers make: the rows of blocks.
use Rattle.std.specs.Prelude.{◌≡◌, ℕ, ◌+◌, ◌<◌, ◌≤◌, ◌^◌, false, List, [], ◌∷◌, ◌++◌, length, map, take, drop, sum, slice_get}
use Rattle.std.specs.Prelude.{slice_index, true, Some}
use Rattle.std.specs.List.{AllByRecursion}
use Rattle.machine.specs.Logged.{all_of}
use Rattle.machine.specs.declared.machine.Machine.{Machine}
use Rattle.kernel.specs.Rests.{IsRest}
use Rattle.model.specs.declared.event.End.{End}
use Rattle.model.specs.declared.event.Event.{Event}
use Rattle.model.specs.declared.plan.Injection.{Injection}
use Rattle.model.specs.Application.{Application, Limits}
use Rattle.model.specs.Run.{Run, IsRun, events_after}
use Rattle.model.specs.Campaign.{Row}
use Rattle.report.specs.Views.{shows_events}
use Rattle.report.specs.declared.view.View.{View}
use Rattle.deal.specs.Sharing.{Game, Sight, HasSeenAll}
use Rattle.deal.specs.Parts.{zeros}
use Rattle.deal.specs.Tallies.{Sheet, Tallied}
use Rattle.deal.specs.Totals.{total}
use Rattle.rows.specs.declared.rows.KeptRow.{KeptRow}
use Rattle.rows.specs.declared.rows.KeptBlock.{KeptBlock}
use Rattle.rows.specs.declared.rows.Part.{Part}
use Rattle.campaign.specs.declared.meeting.ahead.Ahead.{Ahead}
use Rattle.rows.specs.declared.link.Link.{Link}
use Rattle.campaign.specs.declared.meeting.visited_state.Passed.{Passed}
use Rattle.campaign.specs.declared.meeting.runner.Runner.{Runner}
use Rattle.campaign.specs.declared.worker.Job.{Job}
use Rattle.campaign.specs.declared.worker.Done.{Done}
use Rattle.campaign.specs.declared.worker.Outcome.{Outcome}
use Rattle.campaign.specs.Kinds.{kind_in}
use Rattle.rows.specs.Links.{Store, AreLegs, Grows, LinksTo}
use Rattle.rows.specs.Report.{row_of, rows_of, store_of, IsKept, AreKept}
use Rattle.rows.specs.Placing.{numbers_of}
use Rattle.campaign.specs.Seen.{AreSeen, IsSeen}

-- The work: rows of the application under these limits, for this view, with this base run, at these points, which are cut into
-- blocks of these lengths.
pub record Work : Type 0 where
  pub app : Application
  pub limits : Limits
  pub view : View
  pub base : Run
  pub points : List (List Injection)
  pub lengths : List ℕ

-- ---- one row

-- The row of this point is kept so, as far as the view shows it.
pub record IsKeptRow (app : Application) (limits : Limits) (view : View) (base : Run)
    (store : Store) (point : List Injection) (kept : KeptRow) : Type 0 where
  pub at_point : kept.point ≡ point
  pub is_kept : IsKept base store kept
  pub is_seen : IsSeen app limits view (row_of base store kept)

-- A store gains some events and legs, with which a row is kept.
pub record GainsRow (app : Application) (limits : Limits) (view : View) (base : Run)
    (point : List Injection) (old new : Store) (kept : KeptRow) : Type 0 where
  pub grows : Grows old new
  pub legs : AreLegs base.events new
  pub row : IsKeptRow app limits view base new point kept

-- Each row is that of its point.
abbrev pub AreKnown : Application → Limits → View → Run → List KeptRow → Store → Type 0
AreKnown app limits view base kept store = AllByRecursion (λ (k : KeptRow). IsKeptRow app limits view base store k.point k) kept

-- The row of this number is one of these, and of this point.
pub record IsAmong (rows : List KeptRow) (point : List Injection) (number : ℕ) : Type 0 where
  pub row : KeptRow
  pub is : slice_get rows number ≡ Some row
  pub at_point : row.point ≡ point

-- After these rows comes that of this point, with what the store gains, and has this outcome.
pub record KeepsRow (app : Application) (limits : Limits) (view : View)
    (base : Run) (point : List Injection) (kept kept' : List KeptRow)
    (old new : Store) (outcome : Outcome) : Type 0 where
  pub row : KeptRow
  pub rows_are : kept' ≡ kept ++ row ∷ []
  pub reached : row.reached ≡ outcome.reached
  pub ends : row.end ≡ outcome.end
  pub gains : GainsRow app limits view base point old new row

-- ---- how rows go on

-- what is kept of a runner's rows
abbrev pub store_in : Runner → Store
store_in runner = record { trail = all_of runner.simulation.trail; legs = runner.legs.items }

-- These events follow the link, if the view shows those of a row that ends in this way.
abbrev pub AreLinked : View → (base : List Event) → Store → Link → End → List Event → Type 0
AreLinked view base store link end events = shows_events view end ≡ true → LinksTo base store link events

-- Each row that reaches the kernel goes on in this way, and what it reports is there, if the view shows it.
pub record IsRestIn (app : Application) (limits : Limits) (view : View)
    (base : Run) (store : Store) (k : Machine) (rest : Ahead) : Type 0 where
  pub events : List Event
  pub linked : AreLinked view base.events store rest.link rest.end events
  pub is_rest : IsRest app limits k (record { events = events; steps = rest.steps; ticks = rest.ticks; end = rest.end })

-- The row of this point, which has reached the kernel, goes on by what the trail gained, and then in this way; and what it
-- reports then is there, if the view shows it.
pub record IsRestOf (app : Application) (limits : Limits) (view : View) (base : Run)
    (old new : Store) (point : List Injection) (k : Machine) (rest : Ahead) : Type 0 where
  pub own : List Event
  pub trail : new.trail ≡ old.trail ++ own
  pub events : List Event
  pub linked : AreLinked view base.events new rest.link rest.end events
  pub is_row : IsRun app point limits (record {
    events = events_after app limits point k.steps ++ (own ++ events);
    steps = rest.steps;
    ticks = rest.ticks;
    end = rest.end;
  })

-- Each row that reaches the kernel that was passed goes on by the trail from there on, and then in this way; and what it reports
-- then is there, if the view shows it.
pub record IsPassed (app : Application) (limits : Limits) (view : View)
    (base : Run) (store : Store) (rest : Ahead) (passed : Passed) : Type 0 where
  pub within : passed.from ≤ length store.trail
  pub events : List Event
  pub linked : AreLinked view base.events store rest.link rest.end events
  pub is_rest : IsRest app limits passed.kernel.value
      (record { events = drop passed.from store.trail ++ events; steps = rest.steps; ticks = rest.ticks; end = rest.end })

-- ---- seats

-- the seat added these, kind by kind
pub record Gained (counts : ℕ → ℕ) (old new : Tallied) : Type 0 where
  pub same : new.sheet ≡ old.sheet
  pub rises : (kind : ℕ) → kind < 7 → slice_index new.added kind ≡ slice_index old.added kind + counts kind

-- a seat of this tally that has added this many, kind by kind
abbrev pub counted : Sheet → List ℕ → Tallied
counted tally kinds = record { sheet = tally; added = kinds; seen = zeros }

-- the seat may still add this many to each kind
abbrev pub HasRoom : ℕ → Tallied → Type 0
HasRoom count seat = (kind : ℕ) → kind < 7 → slice_index seat.added kind + count ≤ 2 ^ 40

-- ---- the rows of several points

-- After these rows come those of these points, with what the store gains, and the seat counted them.
pub record GainsRows (app : Application) (limits : Limits) (view : View) (base : Run) (points : List (List Injection))
    (kept kept' : List KeptRow) (store store' : Store) (seat seat' : Tallied) : Type 0 where
  pub more : List KeptRow
  pub rows_are : kept' ≡ kept ++ more
  pub grows : Grows store store'
  pub legs : AreLegs base.events store'
  pub sound : AllByRecursion (IsKept base store') more
  pub made : AreSeen app limits view points (rows_of base store' more)
  pub gained : Gained (kind_in (rows_of base store' more)) seat seat'

-- ---- blocks

-- the points of a block
abbrev pub block_points : Work → ℕ → List (List Injection)
block_points work block = take (slice_index work.lengths block) (drop (sum (take block work.lengths)) work.points)

-- these are the rows of each block
abbrev pub AreRowsByBlock : Work → (ℕ → List Row) → Type 0
AreRowsByBlock work rows =
    (block : ℕ) → block < length work.lengths → AreSeen work.app work.limits work.view (block_points work block) (rows block)

-- The rows of a block are kept.
pub record IsKeptBlock (work : Work) (kept : List KeptRow) (store : Store) (block : KeptBlock) : Type 0 where
  pub is_block : block.number < length work.lengths
  pub within : block.first + block.count ≤ length kept
  pub made : AreSeen work.app work.limits work.view (block_points work block.number)
      (rows_of work.base store (take block.count (drop block.first kept)))

abbrev pub AreKeptBlocks : Work → List KeptRow → Store → List KeptBlock → Type 0
AreKeptBlocks work kept store blocks = AllByRecursion (IsKeptBlock work kept store) blocks

-- A worker's part: rows that are there, of blocks.
pub record IsKeptPart (work : Work) (part : Part) : Type 0 where
  pub rows : AreKept work.base part
  pub blocks : AreKeptBlocks work part.kept (store_of part) part.blocks.items

-- a seat counted the rows of these blocks, whichever rows each block has
abbrev pub CountsBlocks : Work → List ℕ → (old new : Tallied) → Type 0
CountsBlocks work blocks old new =
    (rows : ℕ → List Row) → AreRowsByBlock work rows → Gained (λ kind. total (λ block. kind_in (rows block) kind) blocks) old new

-- ---- workers

-- lanes of this deal, to which nothing has been returned yet
abbrev pub AreIdle : Game → List Sight → Type 0
AreIdle deal lanes = AllByRecursion (λ (lane : Sight). (lane.game ≡ deal) × (lane.answered ≡ [])) lanes

-- seats of this tally, each with room for this many points
abbrev pub AreReady : Sheet → ℕ → List Tallied → Type 0
AreReady tally count seats = AllByRecursion (λ (seat : Tallied). (seat.sheet ≡ tally) × HasRoom count seat) seats

-- the job of such a lane and such a seat, with no rows yet
pub record IsJob (deal : Game) (tally : Sheet) (count : ℕ) (job : Job) : Type 0 where
  pub lane : job.lane.game ≡ deal
  pub fresh : job.lane.answered ≡ []
  pub seat : job.seat.sheet ≡ tally
  pub room : HasRoom count job.seat
  pub none : job.kept ≡ []

abbrev pub AreJobs : Game → Sheet → ℕ → List Job → Type 0
AreJobs deal tally count jobs = AllByRecursion (IsJob deal tally count) jobs

-- what comes of a job if nothing was refused: all blocks are handed out, and the rows of those that were returned to the lane are
-- made and counted
pub record Brings (work : Work) (job : Job) (done : Done) : Type 0 where
  pub lane : done.lane.game ≡ job.lane.game
  pub seat : done.seat.sheet ≡ job.seat.sheet
  pub all : HasSeenAll done.lane
  pub part : IsKeptPart work done.part
  pub numbers : numbers_of done.part.blocks.items ≡ done.lane.answered
  pub counts : CountsBlocks work done.lane.answered job.seat done.seat

abbrev pub IsDone : Work → Job → Done → Type 0
IsDone work job done = done.refused ≡ false → Brings work job done

-- each job, and what came of it
abbrev pub AreDone : Work → List Job → List Done → Type 0
AreDone work [] [] = Unit {0}
AreDone work (job ∷ jobs) (done ∷ dones) = IsDone work job done × AreDone work jobs dones
AreDone work jobs dones = ⊥

-- ---- what workers bring

abbrev pub lanes_in : List Done → List Sight
lanes_in dones = map (λ (done : Done). done.lane) dones

abbrev pub seats_in : List Done → List Tallied
seats_in dones = map (λ (done : Done). done.seat) dones

abbrev pub parts_in : List Done → List Part
parts_in dones = map (λ (done : Done). done.part) dones

-- the seats of these jobs
abbrev pub seats_of : List Job → List Tallied
seats_of jobs = map (λ (job : Job). job.seat) jobs
