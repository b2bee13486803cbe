use Rattle.laws.proofs.Measuring.{both_allowed, since_takes_no_time, stamp_is_quiet}
use Rattle.laws.proofs.stamps.stamps_take_no_time.Goals as goal

pub returns-clause-stamp : goal.returns-clause-stamp
returns-clause-stamp c = stamp_is_quiet

pub returns-clause-since : goal.returns-clause-since
returns-clause-since c = since_takes_no_time

pub returns-clause-allowed : goal.returns-clause-allowed
returns-clause-allowed c = both_allowed
