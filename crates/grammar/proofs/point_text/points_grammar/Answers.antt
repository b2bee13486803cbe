use Rattle.grammar.proofs.PointTexts.{sound, complete, never, with_some_names}
use Rattle.grammar.proofs.point_text.points_grammar.Goals as goal

pub returns-clause-sound : goal.returns-clause-sound
returns-clause-sound c = sound

pub returns-clause-complete : goal.returns-clause-complete
returns-clause-complete c = complete

pub returns-clause-never : goal.returns-clause-never
returns-clause-never c = never

pub returns-clause-with_some_names : goal.returns-clause-with_some_names
returns-clause-with_some_names c = with_some_names
