use Rattle.std.proofs.Common.{get_or, ◌≡◌, ℕ, zero, suc, replicate, refl}
use Rattle.model.specs.State.{no_notification}
use Rattle.machine.proofs.notifications.Notifications.new.Goals as goal

none_kept : (many n : ℕ) → get_or (replicate many no_notification) n no_notification ≡ no_notification
none_kept zero n = refl
none_kept (suc many) zero = refl
none_kept (suc many) (suc n) = none_kept many n

pub returns-clause-none : goal.returns-clause-none
returns-clause-none c = λ task. none_kept 32 task
