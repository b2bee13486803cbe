use Rattle.std.proofs.Common.{refl}
use Rattle.model.specs.State.{progress_at}
use Rattle.laws.proofs.Measuring.{stays_noted}
use Rattle.laws.proofs.stamps.stamps_stay.Goals as goal

pub returns : goal.returns
returns c = λ app limits handlers task s never. stays_noted task (progress_at s task).stamp app limits handlers s never refl
