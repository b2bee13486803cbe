use Rattle.campaign.proofs.meeting.runner.Runner.run_from_meeting_step.Goals as goal

pub run_on-requires-clause-passed : goal.run_on-requires-clause-passed
run_on-requires-clause-passed c =
    rw (c.note.ensures.kernel, c.note.ensures.trail)
    (c.note.ensures.passed c.args.setup.now.app.now c.args.setup.now.shelf.now.limits c.requires.passed)

pub run_out-requires-clause-passed : goal.run_out-requires-clause-passed
run_out-requires-clause-passed c =
    rw (c.note.ensures.kernel, c.note.ensures.trail)
    (c.note.ensures.passed c.args.setup.now.app.now c.args.setup.now.shelf.now.limits c.requires.passed)
