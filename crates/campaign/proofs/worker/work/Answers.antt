use Rattle.campaign.proofs.worker.work.Goals as goal

pub work_with-requires-clause-walk : goal.work_with-requires-clause-walk
work_with-requires-clause-walk g c = c.in-Ok.ensures.walk c.args.setup.now.shelf.now.limits
