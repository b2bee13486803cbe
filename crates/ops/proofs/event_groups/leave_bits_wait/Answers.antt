use Rattle.ops.proofs.event_groups.leave_bits_wait.Goals as goal

pub returns : goal.returns
returns g c = record {
  at = λ s h. c.choose.ensures.at _ (c.end_hold.ensures.does (g.L.Log.logged c.args.log.now).told s h);
  few = c.choose.ensures.few;
  before = c.choose.ensures.before;
}
