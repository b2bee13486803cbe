use Rattle.std.proofs.Common.{◌≡◌}
use Rattle.lists.proofs.Compared.{same_number, same_option, same_told}
use Rattle.machine.proofs.Compared.{same_call}
use Rattle.machine.proofs.progress.Progress.is_same.Goals as goal

pub returns : goal.returns
returns c = λ same.
    let answer : c.self.inside.answer ≡ c.other.inside.answer =
    same_told _ (same_option _ same_number) c.self.inside.answer c.other.inside.answer c.if-ne.ensures in
    let call : c.self.inside.call ≡ c.other.inside.call =
    same_told _ same_call c.self.inside.call c.other.inside.call c.if-ne-2.ensures in
    let loops = c.is_same.ensures same in
    cc
