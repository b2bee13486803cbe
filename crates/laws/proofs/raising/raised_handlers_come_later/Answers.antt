use Rattle.laws.proofs.Raised.{raised_later}
use Rattle.laws.proofs.raising.raised_handlers_come_later.Goals as goal

pub returns : goal.returns
returns c = λ app formed limits plan n handler. raised_later app formed handler limits plan n
