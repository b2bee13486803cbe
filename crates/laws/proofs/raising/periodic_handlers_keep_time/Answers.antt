use Rattle.laws.proofs.Raised.{keeps_time}
use Rattle.laws.proofs.raising.periodic_handlers_keep_time.Goals as goal

pub returns : goal.returns
returns c = λ app limits plan handler first period m n p some no_base.
    keeps_time app handler first period p some no_base limits plan m n
