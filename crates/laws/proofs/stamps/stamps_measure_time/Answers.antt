use Rattle.laws.proofs.Measuring.{answers, noted_at_reset, notes}
use Rattle.laws.proofs.stamps.stamps_measure_time.Goals as goal

pub returns-clause-first : goal.returns-clause-first
returns-clause-first c = noted_at_reset

pub returns-clause-noted : goal.returns-clause-noted
returns-clause-noted c = notes

pub returns-clause-passed : goal.returns-clause-passed
returns-clause-passed c = answers
