use Rattle.std.proofs.Common.{◌∙◌, refl, sym, subst, List, ℕ}
use Rattle.deal.specs.Divisions.{IsBlock}
use Rattle.deal.specs.Sharing.{Game}
use Rattle.campaign.specs.Setup.{work_of}
use Rattle.campaign.specs.Working.{store_in}
use Rattle.campaign.proofs.Blocks.{HasWorked, none_worked, points_within, room_left, worked_more, done_refused, done_whole}
use Rattle.campaign.proofs.Blocks.{on_ok_at}
use Rattle.rows.proofs.Linked.{without_legs}
use Rattle.campaign.proofs.worker.work_with.Goals as goal
use Rattle.campaign.proofs.worker.work_with.Goals.{in-None, in-Some+then-load-ne0, in-Some+else-load-ne0+in-Block+then-is_err}
use Rattle.campaign.proofs.worker.work_with.Goals.{in-Some+else-load-ne0+in-Empty}

pub loop-init : goal.loop-init
loop-init g c =
    let shelf = c.args.setup.now.shelf.now in
    let none = c.requires.job.none in
    record {
      able = tt;
      finite = tt;
      refused = refl;
      game = refl;
      walk = c.requires.walk;
      known =
          record {
            rows = rw none tt;
            legs = without_legs shelf.base.events (store_in c.args.made.runner.value) c.requires.legs;
            are_visited = rw c.requires.visited tt;
          };
      worked =
          none_worked (work_of c.args.setup.now c.args.job.lane.game.lengths)
          _ _ _ _ _ none c.requires.legs c.requires.blocks c.requires.job.fresh;
    }

pub add_block-requires-clause-points : goal.add_block-requires-clause-points
add_block-requires-clause-points g c =
    let game = c.next-in-loop.ensures.goes.0 ∙ c.loop.invariant.game in
    let next = c.in-Block.ensures.next in
    let block = subst (λ (d : Game). IsBlock d.lengths c.in-Block.block c.in-Block.first c.in-Block.length) game next.0 in
    points_within (work_of c.args.setup.now c.args.job.lane.game.lengths) _ _
    _ _ _ _ c.loop.invariant.worked _ _ _ block next.1 c.requires.points

pub add_block-requires-clause-room : goal.add_block-requires-clause-room
add_block-requires-clause-room g c =
    let game = c.next-in-loop.ensures.goes.0 ∙ c.loop.invariant.game in
    let next = c.in-Block.ensures.next in
    let block = subst (λ (d : Game). IsBlock d.lengths c.in-Block.block c.in-Block.first c.in-Block.length) game next.0 in
    room_left (work_of c.args.setup.now c.args.job.lane.game.lengths) _ _ _ _ _ _ c.loop.invariant.worked _
    _ _ block next.1 c.requires.points c.read-seen.new.seat c.read-seen.ensures.1 c.requires.job.room

pub loop-preserved-else-is_err : goal.loop-preserved-else-is_err
loop-preserved-else-is_err g c =
    let work = work_of c.args.setup.now c.args.job.lane.game.lengths in
    let game = c.next-in-loop.ensures.goes.0 ∙ c.loop.invariant.game in
    let next = c.in-Block.ensures.next in
    let block = subst (λ (d : Game). IsBlock d.lengths c.in-Block.block c.in-Block.first c.in-Block.length) game next.0 in
    let ok = sym c.is_err.ensures.value ∙ c.if-is_err.false in
    let gains = on_ok_at c.add_block.result ok c.add_block.ensures.rows in
    let pushed = on_ok_at c.add_block.result ok c.add_block.ensures.block in
    let more =
    worked_more work _ _ _ _ _ _ _ _ _ _ _ c.loop.invariant.worked _ _ _ block next.1
    c.requires.points c.read-seen.ensures.0 c.read-seen.ensures.1 gains pushed in
    record {
      able = tt;
      finite = tt;
      refused = c.loop.invariant.refused;
      game = game;
      walk = on_ok_at c.add_block.result ok c.add_block.ensures.walk;
      known = on_ok_at c.add_block.result ok c.add_block.ensures.known;
      worked =
          subst (λ (l : List ℕ).
          HasWorked work c.add_block.new.self.kept (store_in c.add_block.new.self.runner.value)
          c.add_block.new.self.blocks.items l c.args.job.seat c.add_block.new.seat)
          (sym next.2) more;
    }

pub returns : goal.returns
returns g c = elim c.match-next.branch [
  | in-None w ↦
      done_refused (work_of c.args.setup.now c.args.job.lane.game.lengths) c.args.job _ (w.refused-is ∙ c.loop.invariant.refused)
  | in-Some+then-load-ne0 w ↦
      done_refused (work_of c.args.setup.now c.args.job.lane.game.lengths) c.args.job _ (w.refused-is ∙ c.loop.invariant.refused)
  | in-Some+else-load-ne0+in-Block+then-is_err w ↦
      done_refused (work_of c.args.setup.now c.args.job.lane.game.lengths) c.args.job _ (w.refused-is ∙ c.loop.invariant.refused)
  | in-Some+else-load-ne0+in-Empty w ↦
      let work = work_of c.args.setup.now c.args.job.lane.game.lengths in
      let next = w.in-Empty.ensures.next in
      let worked =
      subst (λ (l : List ℕ).
      HasWorked work c.loop.worker.kept (store_in c.loop.worker.runner.value) c.loop.worker.blocks.items l
      c.args.job.seat c.loop.seat)
      (sym next.0) c.loop.invariant.worked in
      rw (c.take_trail_and_legs-trail.ensures, c.deref_mut.ensures.value, w.lane-is, w.seat-is, w.worker-is)
      (done_whole work c.args.job _ (w.next-in-loop.ensures.goes.0 ∙ c.loop.invariant.game) next.1 worked)
]
