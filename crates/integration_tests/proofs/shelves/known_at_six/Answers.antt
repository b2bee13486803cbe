use Rattle.integration_tests.proofs.shelves.known_at_six.Goals as goal

pub walk_to-requires-clause-walk : goal.walk_to-requires-clause-walk
walk_to-requires-clause-walk g c = c.new-walk.ensures.walk _
