use Rattle.grammar.proofs.Reading.{sound, complete, isr_sound, isr_complete}
use Rattle.grammar.proofs.op_text.op_grammar.Goals as goal

pub returns-clause-sound : goal.returns-clause-sound
returns-clause-sound c = sound

pub returns-clause-complete : goal.returns-clause-complete
returns-clause-complete c = complete

pub returns-clause-isr_sound : goal.returns-clause-isr_sound
returns-clause-isr_sound c = isr_sound

pub returns-clause-isr_complete : goal.returns-clause-isr_complete
returns-clause-isr_complete c = isr_complete
