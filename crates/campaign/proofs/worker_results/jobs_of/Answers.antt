use Rattle.std.proofs.Common.{◌≡◌, ◌+◌, ◌∙◌, vec_len, arith, sym}
use Rattle.campaign.proofs.Blocks.{pushed_at}
use Rattle.campaign.proofs.Jobs.{jobs_more, added_more}
use Rattle.campaign.proofs.worker_results.jobs_of.Goals as goal

pub loop-lane-preserved : goal.loop-lane-preserved
loop-lane-preserved c =
    let i = c.loop-lane.invariant in
    let lanes = c.in-Some-Some.ensures.items in
    let seats = c.in-Some-Some.ensures'.items in
    let ok = sym c.is_err.ensures.value ∙ c.if-is_err.false in
    let pushed = pushed_at c.push.result _ _ _ ok c.push.ensures.items in
    let longer : vec_len c.push.new.self ≡ vec_len c.loop-lane.jobs + 1 = pushed_at c.push.result _ _ _ ok c.push.ensures.len in
    record {
      pairs = omega (arith, c.in-Some-Some.ensures.cases, c.in-Some-Some.ensures'.cases, i.pairs);
      count = omega (arith, c.in-Some-Some.ensures.cases, longer, i.count);
      added = λ kind.
          added_more kind _ _ c.in-Some-Some.lane c.in-Some-Some.seat _ _
          c.len-number.result _ c.with_room-kept.result seats pushed (i.added kind);
      jobs = λ deal tally count idle ready.
          jobs_more deal tally count _ _ _ _ c.in-Some-Some.lane c.in-Some-Some.seat _ _ c.len-number.result
          c.with_room-kept.result c.with_room-kept.ensures lanes seats pushed (i.jobs deal tally count idle ready);
    }

pub returns-clause-jobs : goal.returns-clause-jobs
returns-clause-jobs c deal tally count idle ready = (c.loop-lane.invariant.jobs deal tally count idle ready).2
